use Rattle.std.proofs.Common.{◌≡◌, ℕ, ◌++◌, ◌∷◌, [], length, subst, arith, rules}
use Rattle.std.specs.Prelude.{OnOk}
use Rattle.pf_chart.specs.Traffic.{KeepsOthers, waiting_signals, way_of}
use Rattle.pf_chart.proofs.Sending.{all_ok_then, sends_one}
use Rattle.pf_chart.proofs.traffic.Traffic.send.Goals as goal

pub returns-clause-last : goal.returns-clause-last
returns-clause-last c =
    let o = c.args.self.now.on_way in
    let p = c.put.new.self in
    let a = c.args.from in
    let b = c.args.to in
    let w = way_of a b c.args.kind in
    let index : c.len-index.result ≡ length c.args.self.now.arrows.items =
    omega (arith, c.len-index.ensures, c.args.self.now.arrows.ok.0) in
    subst (λ (i : ℕ). OnOk c.put.result (waiting_signals p w ≡ waiting_signals o w ++ i ∷ [])) index
    (subst (λ (n : ℕ). OnOk c.put.result (waiting_signals p (a, b, n) ≡ waiting_signals o (a, b, n)
    ++ c.len-index.result ∷ [])) c.number.ensures c.put.ensures.last)

pub returns-clause-others : goal.returns-clause-others
returns-clause-others c =
    let o = c.args.self.now.on_way in
    subst (λ (n : ℕ). OnOk c.put.result (KeepsOthers (c.args.from, c.args.to, n) o c.put.new.self)) c.number.ensures
    c.put.ensures.others

pub returns-clause-arrow : goal.returns-clause-arrow
returns-clause-arrow c = search rules

pub returns-clause-sends : goal.returns-clause-sends
returns-clause-sends c =
    all_ok_then c.put.result
    (λ arrow last others. sends_one c.args.row c.args.from c.args.to c.args.kind c.args.self.now _ arrow last others)
    (returns-clause-arrow c) (returns-clause-last c) (returns-clause-others c)
