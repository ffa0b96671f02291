use Rattle.std.proofs.Common.{sym, ap, ◌∙◌, arith}
use Rattle.pf_terms.specs.Term.{value_of, elements_of}
use Rattle.pf_syntax.specs.Module.{pattern_at}
use Rattle.pf_syntax.specs.Over.{pattern_over}
use Rattle.pf_patterns.specs.Bindings.{seen_value}
use Rattle.pf_patterns.specs.Walks.{all_of, tables_in}
use Rattle.pf_patterns.proofs.Bound.{tail_is_there, others_are_there, others_smaller, new_walked, too_many_walked}
use Rattle.pf_patterns.proofs.trying.+walk.Goals as goal

pub fits_part-returns-in-New : goal.fits_part-returns-in-New
fits_part-returns-in-New t c =
    let p = sym c.in-Some.ensures.found ∙ ap (pattern_over (tables_in c.args.walk.now)) c.in-New.is in
    new_walked c.args.walk.now c.args.bound (pattern_at (tables_in c.args.walk.now) c.args.part.0)
    (seen_value c.args.value) p c.requires

pub fits_all-returns-in-len1-up-values : goal.fits_all-returns-in-len1-up-values
fits_all-returns-in-len1-up-values t c =
    too_many_walked c.args.walk.now c.args.bound (tables_in c.args.walk.now) c.args.parts.now c.args.values.now
    (omega arith) (omega arith)

pub fits_cons-fits_part-requires-in-Some : goal.fits_cons-fits_part-requires-in-Some
fits_cons-fits_part-requires-in-Some t c =
    let table = tables_in c.args.walk.now in (
      omega arith,
      tail_is_there (all_of c.args.walk.now) (pattern_at table c.args.head.0) (pattern_at table c.args.tail.0)
          (elements_of c.args.list.now) (elements_of c.in-Some.others.now) (value_of c.in-Some.first.now)
          c.args.bound c.in_ok-bound-in-Some.bound c.in-Some.ensures c.in_ok-bound-in-Some.ensures.count c.requires,
    )

pub fits_all-fits_all-requires : goal.fits_all-fits_all-requires
fits_all-fits_all-requires t c =
    let table = tables_in c.args.walk.now in (
      omega (arith, others_smaller table c.args.parts.now c.in-len1-up.len_at_least),
      others_are_there (all_of c.args.walk.now) table c.args.parts.now c.args.values.now _ c.first-item.result
          c.args.bound
          c.in_ok-bound-in-len1-up-values-2.bound c.in-len1-up.len_at_least
          c.in-len1-up-values-2.len_at_least c.first-item.is c.in_ok-bound-in-len1-up-values-2.ensures.count c.requires,
    )
