use Rattle.std.proofs.Common.{rules, ◌≡◌, ◌++◌, List, ℕ, ap, append-nil, ◌∙◌, subst}
use Rattle.std.proofs.lemmas.Result.{on_err_weaker, on_ok_weaker}
use Rattle.std.specs.Io.KnownBytes.{Appends}
use Rattle.pf_streams.specs.Streams.{AppendsFront}
use Rattle.pf_streams.proofs.Writes.{appends_both}
use Rattle.pf_trace.proofs.Fronts.{front_of_both, front_of_more}
use Rattle.pf_command.proofs.Adding.{at_fault}
use Rattle.pf_command.proofs.waiting.add.Goals as goal

pub returns-in_err-put-clause-front : goal.returns-in_err-put-clause-front
returns-in_err-put-clause-front g c =
    let w = g.W.Write.contents c.args.writer.now.inner in
    let same : c.as_slice.result.now ≡ c.args.waiting.now.items = search rules in
    at_fault c.from_residual.result
    (front_of_more w _ c.args.waiting.now.items c.args.text.now
    (subst (AppendsFront w (g.W.Write.contents c.put.new.self.inner)) same c.in_err-put.ensures.front))

pub returns-clause-added : goal.returns-clause-added
returns-clause-added g c =
    let w = g.W.Write.contents c.args.writer.now.inner in
    let both = c.args.waiting.now.items ++ c.args.text.now in
    let same : c.as_slice.result.now ≡ c.args.waiting.now.items = search rules in
    let first = subst (Appends w (g.W.Write.contents c.put.new.self.inner)) same c.in_ok-put.ensures.written in
    on_ok_weaker c.put-2.result
    (λ k. (
      both,
      appends_both w _ _ c.args.waiting.now.items c.args.text.now first k,
      ap (λ (t : List ℕ). both ++ t) c.clear.ensures ∙ append-nil both,
    )) c.put-2.ensures.written

pub returns-clause-front : goal.returns-clause-front
returns-clause-front g c =
    let w = g.W.Write.contents c.args.writer.now.inner in
    let same : c.as_slice.result.now ≡ c.args.waiting.now.items = search rules in
    let first = subst (Appends w (g.W.Write.contents c.put.new.self.inner)) same c.in_ok-put.ensures.written in
    on_err_weaker c.put-2.result (λ k. front_of_both w _ _ c.args.waiting.now.items c.args.text.now first k)
    c.put-2.ensures.front
