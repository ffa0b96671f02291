-- Which messages a `receive` tests, and how they are counted.
use Rattle.std.specs.Prelude.{◌≡◌, ℕ, suc, ◌+◌, ◌-◌, ◌^◌, ◌≤◌, List, [], ◌∷◌, Option, Some, None, min, take, drop}
use Rattle.pf_terms.specs.Value.{Value}
use Rattle.pf_syntax.specs.Tree.{Tree, Clauses}
use Rattle.pf_model.specs.Module.{Module}
use Rattle.pf_model.specs.Contraction.{picked}
use Rattle.pf_model.specs.Receive.{FitsNone}
use Rattle.pf_inbox.specs.InboxView.{InboxView}

-- no clause picks a message before the mark
abbrev pub FitsNoneBefore : Module → ℕ → Clauses → InboxView → Type 0
FitsNoneBefore m own ks b = FitsNone m own ks (take b.mark b.messages)

-- none is tested after the one that is picked
abbrev pub more_tests : Option Tree → ℕ → ℕ
more_tests (Some body) n = 0
more_tests None n = n

-- how many messages are tested, from the oldest on: up to and with the first that a clause picks, or all
abbrev pub tested : Module → ℕ → Clauses → List Value → ℕ
tested m own ks [] = 0
tested m own ks (v ∷ vs) = suc (more_tests (picked m own ks v) (tested m own ks vs))

-- a count of tests that stays at its greatest value
abbrev pub risen : ℕ → ℕ → ℕ
risen tests n = min (2 ^ 64 - 1) (tests + n)

-- each message from the mark on was tested, up to and with the one that is picked
abbrev pub TestsFromMark : Module → ℕ → Clauses → InboxView → InboxView → Type 0
TestsFromMark m own ks b b' = b'.tests ≡ risen b.tests (tested m own ks (drop b.mark b.messages))

-- each message was tested that the mark moved past
abbrev pub TestsPassed : InboxView → InboxView → Type 0
TestsPassed b b' = (b.mark ≤ b'.mark) × (b'.tests ≡ risen b.tests (b'.mark - b.mark))
