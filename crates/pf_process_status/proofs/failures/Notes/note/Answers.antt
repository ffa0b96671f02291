use Rattle.std.proofs.Common.{ℕ, Option, sym, subst}
use Rattle.std.specs.Prelude.{OnOk}
use Rattle.pf_process_status.specs.Noted.{IsNoted}
use Rattle.pf_process_status.proofs.failures.Notes.note.Goals as goal

pub returns-in-Some : goal.returns-in-Some
returns-in-Some c =
    subst (λ (o : Option ℕ). OnOk c.note_raise.result
    (IsNoted c.args.event o c.args.failing c.args.point c.args.self.now c.note_raise.new.self))
    (sym c.in-Some.is) (c.note_raise.ensures c.args.failing)

pub returns-in-None : goal.returns-in-None
returns-in-None c =
    subst (λ (o : Option ℕ). OnOk c.note_end.result
    (IsNoted c.args.event o c.args.failing c.args.point c.args.self.now c.note_end.new.self))
    (sym c.in-None.is) c.note_end.ensures
