-- Which messages a `receive` tests, and how they are counted.
use Rattle.std.specs.Prelude.{ℕ, suc, ◌+◌, ◌-◌, ◌^◌, List, [], ◌∷◌, Option, Some, None, min, take}
use Rattle.pf_terms.specs.Value.{Value}
use Rattle.pf_terms.specs.declared.term.Term.{Term}
use Rattle.pf_syntax.specs.Tree.{Tree, Clauses}
use Rattle.pf_syntax.specs.Module.{Checked}
use Rattle.pf_syntax.specs.Over.{clauses_over}
use Rattle.pf_syntax.specs.declared.node.Clause.{Clause}
use Rattle.pf_patterns.specs.Slots.{activation}
use Rattle.pf_patterns.specs.Substitution.{sub_clauses}
use Rattle.pf_model.specs.Module.{Module}
use Rattle.pf_model.specs.Contraction.{picked}
use Rattle.pf_model.specs.Receive.{FitsNone}
use Rattle.pf_stepper.specs.MachineView.{MachineView}
use Rattle.pf_stepper.specs.Readiness.{Receive, IsReadyAhead}
use Rattle.pf_mailbox.specs.MailView.{MailView}

-- the clauses of a `receive`, in the activation that begins at `base`
abbrev pub awaited_clauses : Checked → ℕ → List Term → List Clause → Clauses
awaited_clauses m base env l = sub_clauses (activation env base) (clauses_over m.tables l)

-- no clause picks a message before the mark
abbrev pub FitsNoneBefore : Module → ℕ → Clauses → MailView → Type 0
FitsNoneBefore m own ks b = FitsNone m own ks (take b.mark b.messages)

-- the same of a `receive`: the messages that are passed over fit none of its clauses
abbrev pub IsReadyFor : Receive → MailView → Type 0
IsReadyFor r b = FitsNoneBefore r.code r.own r.clauses b

-- the same of the `receive` at which a machine is; where it is at none, of whatever comes
abbrev pub IsAheadOf : MachineView → MailView → Type 0
IsAheadOf s b = IsReadyAhead (λ r. IsReadyFor r b) s

-- none is tested after the one that is picked
abbrev pub more_tests : Option Tree → ℕ → ℕ
more_tests (Some body) n = 0
more_tests None n = n

-- how many messages are tested, from the oldest on: up to and with the first that a clause picks, or all
abbrev pub tested : Module → ℕ → Clauses → List Value → ℕ
tested m own ks [] = 0
tested m own ks (v ∷ vs) = suc (more_tests (picked m own ks v) (tested m own ks vs))

-- a count of tests that stays at its greatest value
abbrev pub risen : ℕ → ℕ → ℕ
risen tests n = min (2 ^ 64 - 1) (tests + n)
