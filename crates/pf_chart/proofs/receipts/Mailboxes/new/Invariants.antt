use Rattle.std.proofs.Common.{◌≡◌, ℕ, [], Some, slice_get}
use Rattle.std.specs.Global.{Vec}
use Rattle.pf_chart.proofs.receipts.Mailboxes.new.Given as goal

-- the mailboxes so far are empty
abbrev pub invariant-loop : goal.invariant-loop
invariant-loop l = (i : ℕ) (q : Vec ℕ) → slice_get l.waiting.items i ≡ Some q → q.items ≡ []

-- nothing was taken
abbrev pub invariant-loop-2 : goal.invariant-loop-2
invariant-loop-2 l = (d r : ℕ) → slice_get l.taken.items d ≡ Some (Some r) → ⊥
