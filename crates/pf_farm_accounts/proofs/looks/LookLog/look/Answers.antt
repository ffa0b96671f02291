use Rattle.std.proofs.Common.{rules, ◌≡◌, ℕ, List, [], ◌∷◌, ◌++◌, length, ap, ◌∙◌}
use Rattle.pf_farm_accounts.specs.Places.{standing_at}
use Rattle.pf_farm_accounts.proofs.Seen.{one_seen}
use Rattle.pf_farm_accounts.proofs.looks.LookLog.look.Goals as goal

pub returns-clause-looks : goal.returns-clause-looks
returns-clause-looks g c =
    let t = c.looks.inside.token in
    let log = c.self.inside.register.0 in
    let x = c.args.look.now in
    let token : c.enter.new.token ≡ (t.0 ++ length log ∷ [], log ++ x ∷ []) = search rules in
    ap (λ (k : List ℕ × List _). standing_at k.0 k.1) token
    ∙ one_seen t.0 t.1 log c.looks.invariant c.enter.ensures.seen x ∙ ap (λ l. l ++ x ∷ []) c.looks.view_is
