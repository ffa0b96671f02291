use Rattle.std.proofs.Common.{List, sym, ap, ◌∙◌, subst}
use Rattle.pf_desks.specs.Calls.{calls_in}
use Rattle.pf_desks.specs.History.{IsLegalDesk}
use Rattle.pf_desks.specs.Desks.{desk_at}
use Rattle.pf_book.specs.Profile.{ForRight}
use Rattle.pf_farm_accounts.specs.Places.{AreAmong}
use Rattle.pf_farm_state.specs.declared.look.TrialLook.{TrialLook}
use Rattle.pf_farm_state.proofs.Closed.{is_most}
use Rattle.pf_farm_state.proofs.closing.close_one.Goals as goal

pub returns-clause-full : goal.returns-clause-full
returns-clause-full g c = λ p right full.
    let s = c.client.inside.seat in
    let w = c.args.book.now in
    let legal : ForRight (λ p. IsLegalDesk p (desk_at s.project w)) =
    subst (λ q. ForRight (λ p. IsLegalDesk p (desk_at q w))) c.project.ensures c.note_count.ensures.legal in
    ap (λ q. calls_in (desk_at q w).history) c.add.ensures.project
    ∙ is_most c.args.gathering.now.log s.seen w s.project c.requires legal c.add.ensures.seen
    (c.client.invariant full) p right

pub returns-clause-among : goal.returns-clause-among
returns-clause-among g c = subst (λ (l : List TrialLook). AreAmong l c.args.looks.now) (sym c.close.ensures.looks)
    c.close.ensures.among
