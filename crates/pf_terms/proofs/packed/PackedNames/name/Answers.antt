use Rattle.std.proofs.Common.{◌≡◌, ◌∷◌, [], arith, length, get_or, sym, ap, ◌∙◌}
use Rattle.std.specs.Prelude.{slice_range}
use Rattle.std.proofs.lemmas.List.{get_or_past, get_or_default}
use Rattle.pf_terms.specs.Atoms.{name_of}
use Rattle.pf_terms.proofs.Cuts.{length-cut, is_there}
use Rattle.pf_terms.proofs.packed.PackedNames.name.Goals as goal

pub returns-then-index-len : goal.returns-then-index-len
returns-then-index-len c =
    let bytes = c.self.inside.bytes.items in
    let ends = c.self.inside.ends.items in
    sym (get_or_past _ c.args.index [] (omega (arith, length-cut bytes 0 ends)))
    ∙ ap (λ all. name_of all c.args.index) c.self.view_is

pub slice_bounds-result-count : goal.slice_bounds-result-count
slice_bounds-result-count c =
    let ends = c.self.inside.ends.items in
    let t = is_there c.self.inside.bytes.items 0 ends c.args.index c.self.invariant (omega arith) in
    let start : c.start_of-start.result ≡ get_or (0 ∷ ends) c.args.index 0 = cc in
    let end = get_or_default ends c.args.index c.index.result.now 0 (omega arith) in
    omega (arith, t.order)

pub slice_bounds-result-start : goal.slice_bounds-result-start
slice_bounds-result-start c =
    let ends = c.self.inside.ends.items in
    let t = is_there c.self.inside.bytes.items 0 ends c.args.index c.self.invariant (omega arith) in
    let start : c.start_of-start.result ≡ get_or (0 ∷ ends) c.args.index 0 = cc in
    let end = get_or_default ends c.args.index c.index.result.now 0 (omega arith) in
    omega (arith, t.order)

pub slice_bounds-result-end-2 : goal.slice_bounds-result-end-2
slice_bounds-result-end-2 c =
    let ends = c.self.inside.ends.items in
    let t = is_there c.self.inside.bytes.items 0 ends c.args.index c.self.invariant (omega arith) in
    let bytes : c.deref-2.result.now ≡ c.self.inside.bytes.items = cc in
    let n = ap length bytes in
    let end = get_or_default ends c.args.index c.index.result.now 0 (omega arith) in
    omega (arith, t.bound)

pub returns : goal.returns
returns c =
    let bytes = c.self.inside.bytes.items in
    let ends = c.self.inside.ends.items in
    let i = c.args.index in
    let t = is_there bytes 0 ends i c.self.invariant (omega arith) in
    let start : c.start_of-start.result ≡ get_or (0 ∷ ends) i 0 = cc in
    let end : c.index.result.now ≡ get_or ends i 0 =
    omega (arith, get_or_default ends i c.index.result.now 0 (omega arith)) in
    let held : c.deref-2.result.now ≡ bytes = cc in
    ap (λ n. slice_range c.deref-2.result.now c.start_of-start.result n) end
    ∙ ap (λ n. slice_range c.deref-2.result.now n (get_or ends i 0)) start
    ∙ ap (λ bs. slice_range bs (get_or (0 ∷ ends) i 0) (get_or ends i 0)) held
    ∙ sym t.name
    ∙ ap (λ all. name_of all i) c.self.view_is
