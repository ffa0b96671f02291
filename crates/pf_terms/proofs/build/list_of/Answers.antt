use Rattle.std.proofs.Common.{rules, ◌≡◌, sym, ◌∙◌, ap}
use Rattle.std.specs.Prelude.{Err}
use Rattle.pf_terms.specs.Value.{list, more, IsWithinLimits}
use Rattle.pf_terms.specs.Term.{value_of, values_of, elements_of}
use Rattle.pf_terms.specs.Faults.{past_limits}
use Rattle.std.proofs.lemmas.Result.{err_from_is_err_and}
use Rattle.pf_terms.proofs.Before.{before-none, before-push, front_within}
use Rattle.pf_terms.proofs.build.list_of.Goals as goal

pub loop-item-init : goal.loop-item-init
loop-item-init c = record { whole = before-none c.args.items.items; within = search rules }

pub loop-item-preserved : goal.loop-item-preserved
loop-item-preserved c =
    let longer : elements_of c.in_ok-list.list ≡ more (value_of c.in-Some.item) (elements_of c.loop-item.list) =
    search rules in
    let w = c.in_ok-list.ensures.within in
    record {
      whole = rw longer (sym (before-push c.pop.new.self.items c.in-Some.item (elements_of c.loop-item.list))
          ∙ rw (sym c.in-Some.ensures.items) c.loop-item.invariant.whole);
      within = rw longer w;
    }

-- a cell that is refused for its size would make the whole too large, which was looked at first
pub returns-in_err-list-clause-too_large : goal.returns-in_err-list-clause-too_large
returns-in_err-list-clause-too_large c =
    let w : IsWithinLimits (list (values_of c.args.items.items)) = search rules in
    let p = err_from_is_err_and c.from_residual.result c.from_residual.ensures.1 in (
      λ e _.
          let refused : Err c.in_err-list.field-0.0 ≡ Err past_limits = ap (λ f. Err f) (sym p.2) ∙ sym p.1 ∙ e in
          c.in_err-list.ensures.too_large.0 refused
          (front_within c.pop.new.self.items (value_of c.in-Some.item) (elements_of c.loop-item.list) c.args.items.items
          (sym (before-push c.pop.new.self.items c.in-Some.item (elements_of c.loop-item.list))
          ∙ rw (sym c.in-Some.ensures.items) c.loop-item.invariant.whole) w),
      λ n. absurd (n w),
    )
