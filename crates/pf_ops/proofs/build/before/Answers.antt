use Rattle.std.proofs.Common.{◌≡◌, Err, sym, ap, ◌∙◌}
use Rattle.pf_terms.specs.Value.{list as listed, more}
use Rattle.pf_terms.specs.Term.{elements_of, value_of, values_of}
use Rattle.pf_ops.specs.Operations.{limited, values_before}
use Rattle.pf_ops.proofs.Joined.{before_push, ends_past}
use Rattle.pf_ops.proofs.build.before.Goals as goal

-- the last of what is left goes before what was made
pub loop-item-preserved : goal.loop-item-preserved
loop-item-preserved c =
    let longer : elements_of c.in-Ok.longer ≡ more (value_of c.in-Some.item) (elements_of c.loop-item.list) =
    c.in-Ok.ensures.made in
    let w = c.in-Ok.ensures.within in
    record {
      whole = rw longer (sym (before_push c.pop.new.self.items c.in-Some.item (elements_of c.loop-item.list))
          ∙ rw (sym c.in-Some.ensures.items) c.loop-item.invariant.whole);
      within = rw longer w;
    }

-- a list that is refused for its size ends the whole, which would be too large
pub returns-in-Err-Fault : goal.returns-in-Err-Fault
returns-in-Err-Fault c =
    let made = more (value_of c.in-Some.item) (elements_of c.loop-item.list) in
    let whole : values_before (values_of c.pop.new.self.items) made ≡ values_before (values_of c.args.items.items)
    (elements_of c.args.list) =
    sym (before_push c.pop.new.self.items c.in-Some.item (elements_of c.loop-item.list))
    ∙ rw (sym c.in-Some.ensures.items) c.loop-item.invariant.whole in
    sym (ap (λ vs. limited (listed vs)) (sym whole) ∙ ends_past (values_of c.pop.new.self.items) made
    (c.in-Err-Fault.ensures.too_large.0 (ap (λ f. Err f) c.in-Err-Fault.field-0-is)))
