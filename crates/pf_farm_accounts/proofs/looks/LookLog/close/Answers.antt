use Rattle.std.proofs.Common.{ℕ, List, ap, ◌∙◌}
use Rattle.pf_farm_accounts.specs.Places.{standing_at}
use Rattle.pf_farm_accounts.proofs.Seen.{seen_among}
use Rattle.pf_farm_accounts.proofs.Standing.{is_still_there}
use Rattle.pf_farm_accounts.proofs.looks.LookLog.close.Goals as goal

pub returns-clause-looks : goal.returns-clause-looks
returns-clause-looks g c =
    let t = c.looks.inside.token in
    let log = c.self.inside.register.0 in
    ap (λ (k : List ℕ × List _). standing_at k.0 k.1) (c.token.view_is ∙ c.show.ensures.token)
    ∙ is_still_there t.0 t.1 log c.looks.invariant c.show.ensures.seen ∙ c.looks.view_is

pub returns-clause-among : goal.returns-clause-among
returns-clause-among g c =
    let t = c.looks.inside.token in
    let log = c.self.inside.register.0 in
    rw (← c.looks.view_is, ← c.self.view_is) (seen_among t.0 t.1 log c.looks.invariant c.show.ensures.seen)
