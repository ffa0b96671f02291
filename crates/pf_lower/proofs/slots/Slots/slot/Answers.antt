use Rattle.std.proofs.Common.{◌≡◌, ◌-◌, ◌≤◌, false, Some, subst, rules}
use Rattle.std.specs.Prelude.{slice_get, slice_index, MatchOption, SomeIff}
use Rattle.pf_syntax.specs.Scope.{has}
use Rattle.pf_lower.proofs.Slots_of.{looked, unnoted}
use Rattle.pf_lower.proofs.slots.Slots.slot.Goals as goal

pub returns-in_err-after : goal.returns-in_err-after
returns-in_err-after c =
    let x = c.args.name.0 in
    let read : slice_index c.self.inside.slots.items x ≡ 0 = search rules in
    let new = unnoted c.self.inside.names.items c.self.inside.slots.items x c.self.invariant read in
    rw c.from_residual.ensures (subst (λ names. has names x ≡ false) c.self.view_is new)

pub returns : goal.returns
returns c =
    let x = c.args.name.0 in
    let r = c.checked_sub.result in
    let read : c.in_ok-after.after.now ≡ slice_index c.self.inside.slots.items x = search rules in
    let less = subst (λ n. SomeIff r (1 ≤ n) (n - 1)) read c.checked_sub.ensures in
    subst (λ names. MatchOption r (has names x ≡ false) (λ k. slice_get names k ≡ Some x)) c.self.view_is
    (looked c.self.inside.names.items c.self.inside.slots.items x r c.self.invariant less)
