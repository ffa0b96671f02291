use Rattle.std.proofs.Common.{◌≡◌, ◌+◌, ◌∷◌, ◌++◌, [], arith, rules, length, length-append, ap, ◌∙◌}
use Rattle.pf_terms.specs.Packed.{cut}
use Rattle.pf_terms.proofs.Cuts.{ascends_more, cut_more}
use Rattle.pf_terms.proofs.packed.PackedNames.push.Goals as goal

pub invariant_of-self-2 : goal.invariant_of-self-2
invariant_of-self-2 c =
    let bytes = c.self.inside.bytes.items in
    let ends = c.self.inside.ends.items in
    let name = c.args.name.now in
    let new_bytes : c.extend_from_slice.new.self.items ≡ bytes ++ name = search rules in
    let end : c.in_ok-end.end ≡ length c.extend_from_slice.new.self.items =
    omega (arith, ap length new_bytes, length-append bytes name) in
    let new_ends : c.push.new.self.items ≡ ends ++ length c.extend_from_slice.new.self.items ∷ [] = search rules in
    rw new_ends (ascends_more (length bytes) _ 0 ends (omega (arith, ap length new_bytes, length-append bytes name))
    c.self.invariant)

pub returns-clause-pushed : goal.returns-clause-pushed
returns-clause-pushed c =
    let bytes = c.self.inside.bytes.items in
    let ends = c.self.inside.ends.items in
    let name = c.args.name.now in
    let new_bytes : c.extend_from_slice.new.self.items ≡ bytes ++ name = search rules in
    let end : c.in_ok-end.end ≡ length bytes + length name = omega arith in
    let new_ends : c.push.new.self.items ≡ ends ++ (length bytes + length name) ∷ [] = search rules in
    ap (λ bs. cut bs 0 c.push.new.self.items) new_bytes
    ∙ ap (cut (bytes ++ name) 0) new_ends
    ∙ cut_more bytes name 0 ends c.self.invariant
    ∙ ap (λ ns. ns ++ name ∷ []) c.self.view_is
