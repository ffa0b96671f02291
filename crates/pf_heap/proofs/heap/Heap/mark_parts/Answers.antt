use Rattle.std.proofs.Common.{◌≡◌, ℕ, ap, sym, ◌∙◌, subst, arith}
use Rattle.pf_heap.specs.Heap.{block, cell_at, ArePartsBelow}
use Rattle.pf_heap.proofs.Marks.{cell_marked}
use Rattle.pf_heap.proofs.heap.Heap.mark_parts.Goals as goal

pub returns-in-Tuple-clause-parts : goal.returns-in-Tuple-clause-parts
returns-in-Tuple-clause-parts c =
    let h = c.args.self.now in
    let ws = c.parts.result.now in
    let names = c.in-Tuple.ensures.names in
    let cell : cell_at h c.args.at ≡ block ws = ap (cell_at h) (sym names) ∙ c.parts.ensures.cell in
    let below : ArePartsBelow h c.args.at (block ws) =
    subst (λ (n : ℕ). ArePartsBelow h n (block ws)) names c.parts.ensures.parts in
    (cell_marked h c.args.marks.now c.mark_all.new.marks c.args.at (block ws) cell below (omega arith)
    c.mark_all.ensures).parts

pub returns-in-Tuple-clause-more : goal.returns-in-Tuple-clause-more
returns-in-Tuple-clause-more c =
    let h = c.args.self.now in
    let ws = c.parts.result.now in
    let names = c.in-Tuple.ensures.names in
    let cell : cell_at h c.args.at ≡ block ws = ap (cell_at h) (sym names) ∙ c.parts.ensures.cell in
    let below : ArePartsBelow h c.args.at (block ws) =
    subst (λ (n : ℕ). ArePartsBelow h n (block ws)) names c.parts.ensures.parts in
    (cell_marked h c.args.marks.now c.mark_all.new.marks c.args.at (block ws) cell below (omega arith)
    c.mark_all.ensures).more

pub returns-in-Tuple-clause-above : goal.returns-in-Tuple-clause-above
returns-in-Tuple-clause-above c =
    let h = c.args.self.now in
    let ws = c.parts.result.now in
    let names = c.in-Tuple.ensures.names in
    let cell : cell_at h c.args.at ≡ block ws = ap (cell_at h) (sym names) ∙ c.parts.ensures.cell in
    let below : ArePartsBelow h c.args.at (block ws) =
    subst (λ (n : ℕ). ArePartsBelow h n (block ws)) names c.parts.ensures.parts in
    (cell_marked h c.args.marks.now c.mark_all.new.marks c.args.at (block ws) cell below (omega arith)
    c.mark_all.ensures).above
