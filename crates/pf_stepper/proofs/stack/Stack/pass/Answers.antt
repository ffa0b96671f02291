use Rattle.std.proofs.Common.{[], ◌∷◌, ap, sym, ◌∙◌, arith, length-append}
use Rattle.pf_stepper.specs.Lookups.{trees_after}
use Rattle.pf_stepper.proofs.Parts.{trees_past, trees_below}
use Rattle.pf_stepper.proofs.Passed.{enters_after, passes_one, waits_for_one}
use Rattle.pf_stepper.proofs.stack.Stack.pass.Goals as goal

pub loop-count-init : goal.loop-count-init
loop-count-init c = record {
  passes = λ env ws base fs x h. h;
  stacked = c.requires.stacked;
  inside =
      c.requires.inside;
}

pub loop-count-preserved : goal.loop-count-preserved
loop-count-preserved c =
    let h = c.loop-count.invariant in
    rw c.in_ok-push-in-Some.ensures.items
    (record {
      passes = λ env ws base fs x i. passes_one _ c.args.own env ws base fs x _ _ _ _ c.args.callee c.args.id
          c.loop-count.count (h.passes env ws base fs x i) h.stacked _ _
          (ap (trees_after c.loop-count.count) (sym c.requires.node) ∙ trees_below c.args.code.now.tables
          c.args.arguments.now c.loop-count.count _ c.loop-count-test.true)
          c.in-Some.value (rw c.in-Some.is at c.in_ok-value.ensures);
      stacked = record {
        rises = h.stacked.rises;
        operands =
            omega (arith, h.stacked.operands, length-append c.loop-count.self.operands.items (c.in-Some.value ∷ []));
      };
      inside = h.inside;
    })

pub returns-in-None : goal.returns-in-None
returns-in-None c =
    let h = c.loop-count.invariant in
    let w = c.in_ok-wait-in-None.ensures in
    rw (w.ok, w.env, w.operands, w.base, c.in_ok-done-in-None.ensures)
    (λ env ws base fs x i. waits_for_one _ c.args.own env ws base fs x _ _ _ _ c.args.callee c.args.id
    c.loop-count.count (h.passes env ws base fs x i) h.stacked _ _
    (ap (trees_after c.loop-count.count) (sym c.requires.node) ∙ trees_below c.args.code.now.tables c.args.arguments.now
    c.loop-count.count _ c.loop-count-test.true) h.inside)

pub returns : goal.returns
returns c =
    let h = c.loop-count.invariant in
    λ env ws base fs x i. enters_after _ c.args.own env ws base fs x _ _ _ _ c.args.callee c.args.id c.loop-count.count
    (h.passes env ws base fs x i) h.stacked
    (ap (trees_after c.loop-count.count) (sym c.requires.node) ∙ trees_past c.args.code.now.tables c.args.arguments.now
    c.loop-count.count c.loop-count-test.false)
