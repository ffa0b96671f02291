use Rattle.std.proofs.Common.{◌≡◌, ◌+◌, ◌<◌, ◌^◌, false, true, length, ap, ◌∙◌, rules}
use Rattle.std.specs.Prelude.{is_some}
use Rattle.pf_syntax.specs.Scope.{has}
use Rattle.pf_lower.proofs.Slots_of.{kept_where_found, new_where_missing, lengthened, bound}
use Rattle.pf_lower.proofs.slots.Slots.bind.Goals as goal

pub returns-then-is_some : goal.returns-then-is_some
returns-then-is_some c =
    let yes : is_some c.slot.result ≡ true = search rules in
    kept_where_found c.args.self.now c.args.name.0 c.slot.result c.slot.ensures yes

pub invariant_of-self-2 : goal.invariant_of-self-2
invariant_of-self-2 c =
    let x = c.args.name.0 in
    let ks = c.self.inside.names.items in
    let no : is_some c.slot.result ≡ false = search rules in
    let new : has ks x ≡ false = ap (λ names. has names x) c.self.view_is ∙ new_where_missing c.args.self.now x
    c.slot.result c.slot.ensures no in
    let placed = lengthened ks c.self.inside.slots.items c.reach.new.slots.items c.self.invariant
    c.reach.ensures.same in
    let count : c.in-Ok.after ≡ length ks + 1 = search rules in
    let room : length ks + 1 < 2 ^ 32 = search rules in
    let more = bound ks c.reach.new.slots.items x placed new room c.in_ok-reach.ensures.past in
    rw c.in_ok-push.ensures.items (rw count more)
