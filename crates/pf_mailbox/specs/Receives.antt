-- What a `receive` answers, and how many tests it counts.
use Rattle.std.specs.Prelude.{◌≡◌, ℕ, ◌-◌, ◌≤◌, List, drop, Option, MatchOption}
use Rattle.pf_terms.specs.declared.term.Term.{Term}
use Rattle.pf_syntax.specs.Module.{Checked}
use Rattle.pf_syntax.specs.Over.{clauses_over}
use Rattle.pf_syntax.specs.declared.node.Clause.{Clause}
use Rattle.pf_syntax.specs.declared.node.Operand.{Operand}
use Rattle.pf_model.specs.Module.{module_of}
use Rattle.pf_stepper.specs.Selected.{TakesMessage, TakesNothing}
use Rattle.pf_mailbox.specs.MailView.{MailView}
use Rattle.pf_mailbox.specs.Tests.{awaited_clauses, risen, tested}

-- the oldest message that a clause picks is taken, or there is none and all stays
abbrev pub Selects : (m : Checked) (own base : ℕ) (before after' : List Term) (l : List Clause) (b b' : MailView)
    (message : Term) → Option Operand → Type 0
Selects m own base before after' l b b' message o =
    MatchOption o (TakesNothing m own base before after' (clauses_over m.tables l) b.messages b'.messages)
    (λ body. TakesMessage m own base before after' (clauses_over m.tables l) b.messages b'.messages body message)

-- each message from the mark on was tested, up to and with the one that is picked
abbrev pub TestsFromMark : (m : Checked) (own base : ℕ) (env : List Term) (l : List Clause) (b b' : MailView) → Type 0
TestsFromMark m own base env l b b' = b'.tests ≡ risen b.tests
    (tested (module_of m) own (awaited_clauses m base env l) (drop b.mark b.messages))

-- each message was tested that the mark moved past
abbrev pub TestsPassed : MailView → MailView → Type 0
TestsPassed b b' = (b.mark ≤ b'.mark) × (b'.tests ≡ risen b.tests (b'.mark - b.mark))
