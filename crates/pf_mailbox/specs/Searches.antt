-- What a search for a message finds.
use Rattle.std.specs.Prelude.{◌≡◌, ℕ, ◌+◌, ◌<◌, ◌≤◌, List, length, slice_get, Option, Some, None, Result, Ok, Err}
use Rattle.pf_terms.specs.Term.{value_of}
use Rattle.pf_terms.specs.declared.term.Term.{Term}
use Rattle.pf_syntax.specs.Tree.{Clauses}
use Rattle.pf_syntax.specs.Module.{Checked}
use Rattle.pf_syntax.specs.declared.node.Clause.{Clause}
use Rattle.pf_syntax.specs.declared.node.Operand.{Operand}
use Rattle.pf_model.specs.Module.{module_of}
use Rattle.pf_model.specs.Contraction.{picked}
use Rattle.pf_nodes.specs.Mail.{Mail}
use Rattle.pf_stepper.specs.MicroSteps.{Picked}
use Rattle.pf_mailbox.specs.Tests.{awaited_clauses}

-- no clause picks a message from the mark up to the index
pub record PassesOver (m : Checked) (own : ℕ) (ks : Clauses) (l : Mail Term) (to : ℕ) : Type 0 where
  pub on : l.mark ≤ to
  pub all : (k : ℕ) (x : Term) → l.mark ≤ k → k < to → slice_get l.items k ≡ Some x
      → picked (module_of m) own ks (value_of x) ≡ None

-- what the test of the message at the mark answers: the body of the first clause that picks it, or none
pub record TestsMarked (m : Checked) (own base : ℕ) (before : List Term) (l : List Clause) (after' : List Term)
    (list : Mail Term) (o : Option Operand) : Type 0 where
  pub message : Term
  pub there : slice_get list.items list.mark ≡ Some message
  pub picks : Picked m base before after' o (picked (module_of m) own (awaited_clauses m base before l)
      (value_of message))

-- where the mark is after a test: at the message that is picked, or past it
abbrev pub mark_after : Option Operand → ℕ → ℕ
mark_after (Some body) mark = mark
mark_after None mark = mark + 1

-- the mark is at the end, and no slot was changed
pub record SeesNone (before after' : List Term) (list : Mail Term) : Type 0 where
  pub end : list.mark ≡ length list.items
  pub slots : after' ≡ before

abbrev pub SearchedMail : Checked → ℕ → ℕ → List Term → List Clause → List Term → Mail Term → Option Operand → Type 0
SearchedMail m own base before l after' list (Some body) = TestsMarked m own base before l after' list (Some body)
SearchedMail m own base before l after' list None = SeesNone before after' list

-- one test for each message that the mark passed, and one for the message that is picked
abbrev pub test_count : {E : Type 0} → Result (Option Operand) E → (passed : ℕ) → ℕ
test_count (Ok (Some body)) passed = passed + 1
test_count (Ok None) passed = passed
test_count (Err e) passed = passed
