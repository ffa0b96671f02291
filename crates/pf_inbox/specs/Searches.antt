-- What a search for a message finds.
use Rattle.std.specs.Prelude.{◌≡◌, ℕ, ◌+◌, ◌<◌, ◌≤◌, List, Bool, true, false, length, slice_get, Some, None, Result}
use Rattle.std.specs.Prelude.{Ok, Err}
use Rattle.pf_terms.specs.Term.{value_of}
use Rattle.pf_terms.specs.declared.term.Term.{Term}
use Rattle.pf_syntax.specs.Tree.{Clauses}
use Rattle.pf_heap.specs.Heap.{Cell}
use Rattle.pf_model.specs.Module.{Module}
use Rattle.pf_model.specs.Contraction.{picked}
use Rattle.pf_model.specs.Context.{Frame}
use Rattle.pf_nodes.specs.Mail.{Mail}
use Rattle.pf_code.specs.Sound.{Code}
use Rattle.pf_code.specs.Machine.{State}
use Rattle.pf_code.specs.Simulation.{IsAtReceive}
use Rattle.pf_loop.specs.Judged.{Judged}
use Rattle.pf_loop.specs.Run.{IsIn}
use Rattle.pf_loop.specs.declared.machine.Machine.{Machine}

-- no clause picks a message from the mark up to the index
pub record PassesOver (m : Module) (own : ℕ) (ks : Clauses) (l : Mail Term) (to : ℕ) : Type 0 where
  pub on : l.mark ≤ to
  pub all : (k : ℕ) (x : Term) → l.mark ≤ k → k < to → slice_get l.items k ≡ Some x
      → picked m own ks (value_of x) ≡ None

-- the message at the mark was tested
pub record TestsMarked (m : Module) (own : ℕ) (code : Code) (d : ℕ) (fs : List Frame) (ks : Clauses) (l : Mail Term)
    (h : List Cell) (k : Machine) (taken : Bool) : Type 0 where
  pub message : Term
  pub there : slice_get l.items l.mark ≡ Some message
  pub judged : Judged m own code d fs ks (value_of message) h k taken

-- where the mark is after a test: at the message that is picked, or past it
abbrev pub mark_after : Bool → ℕ → ℕ
mark_after true mark = mark
mark_after false mark = mark + 1

-- a process waits at a `receive` as before
pub record WaitsAgain (m : Module) (own : ℕ) (code : Code) (d : ℕ) (fs : List Frame) (ks : Clauses) (h : List Cell)
    (k : Machine) : Type 0 where
  pub state : State
  pub is_in : IsIn h k state
  pub at : IsAtReceive m own code d state fs ks

-- where the mark is after a search: at the message that is picked, or at the end
abbrev pub IsMarkAfter : Bool → Mail Term → Type 0
IsMarkAfter true l = l.mark < length l.items
IsMarkAfter false l = l.mark ≡ length l.items

-- no message from the old mark to the new one is picked; the message there is, or the process waits
abbrev pub SearchedInbox : Module → ℕ → Code → ℕ → List Frame → Clauses → Mail Term → Mail Term → List Cell → Machine
    → Bool → Type 0
SearchedInbox m own code d fs ks l l' h k true =
    PassesOver m own ks l l'.mark × TestsMarked m own code d fs ks l' h k true
SearchedInbox m own code d fs ks l l' h k false =
    PassesOver m own ks l l'.mark × WaitsAgain m own code d fs ks h k

-- one test for each message that the mark passed, and one for the message that is picked
abbrev pub test_count : {E : Type 0} → Result Bool E → (passed : ℕ) → ℕ
test_count (Ok true) passed = passed + 1
test_count (Ok false) passed = passed
test_count (Err e) passed = passed
