use Rattle.std.proofs.Common.{ℕ, Option, None, refl, sym, subst}
use Rattle.std.specs.Prelude.{OnOk}
use Rattle.pf_process_status.specs.Noted.{IsNoted}
use Rattle.pf_process_status.proofs.failures.Notes.note_end.Goals as goal

pub returns-in-Some : goal.returns-in-Some
returns-in-Some c =
    subst (λ (o : Option ℕ). OnOk c.note_failure.result
    (IsNoted c.args.event None o c.args.point c.args.self.now c.note_failure.new.self))
    (sym c.in-Some.is) c.note_failure.ensures

pub returns-in-None : goal.returns-in-None
returns-in-None c =
    subst (λ (o : Option ℕ). IsNoted c.args.event None o c.args.point c.args.self.now c.args.self.now)
    (sym c.in-None.is) (refl, refl)
