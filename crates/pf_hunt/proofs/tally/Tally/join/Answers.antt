use Rattle.std.proofs.Common.{◌≡◌, ◌+◌, ◌∷◌, length, ap, ◌∙◌, sym, arith}
use Rattle.std.specs.Vec.Iter.{into_iter_items}
use Rattle.pf_hunt.specs.Rows.{seeds_counted, rows_joined}
use Rattle.pf_hunt.specs.Views.{row_of, rows_in, rows_of}
use Rattle.pf_hunt.proofs.Counting.{counts_more}
use Rattle.pf_hunt.proofs.Indices.{nothing_left}
use Rattle.pf_hunt.proofs.tally.Tally.join.Goals as goal

pub loop-row-init : goal.loop-row-init
loop-row-init c =
    let all : into_iter_items c.into_iter-row-iterator.result ≡ c.args.after.rows.items =
    c.into_iter-row-iterator.ensures.into_iter_gives.0 in
    record {
      rows = ap (λ xs. rows_joined (rows_of c.args.self.now) (rows_in xs)) all;
      count = ap (λ xs. seeds_counted (rows_of c.args.self.now) + seeds_counted (rows_in xs)) all;
    }

pub add-requires : goal.add-requires
add-requires c =
    let steps : into_iter_items c.loop-row.row-iterator ≡ c.in-Some.row ∷ into_iter_items c.next.new.self =
    c.in-Some.ensures.steps.0 in
    let all = ap (λ xs. seeds_counted (rows_in xs)) steps in
    omega (arith, all, c.loop-row.invariant.count, c.requires)

pub loop-row-preserved : goal.loop-row-preserved
loop-row-preserved c =
    let at = c.loop-row in
    let rest = into_iter_items c.next.new.self in
    let steps : into_iter_items at.row-iterator ≡ c.in-Some.row ∷ rest = c.in-Some.ensures.steps.0 in
    let all = ap (λ xs. seeds_counted (rows_in xs)) steps in
    let more = counts_more (rows_of at.self) (row_of c.in-Some.row) in
    let added = ap seeds_counted c.in_ok-add.ensures in
    record {
      rows = ap (λ xs. rows_joined xs (rows_in rest)) c.in_ok-add.ensures
          ∙ sym (ap (λ xs. rows_joined (rows_of at.self) (rows_in xs)) steps) ∙ at.invariant.rows;
      count = omega (arith, all, more, added, at.invariant.count);
    }

pub returns : goal.returns
returns c =
    let at = c.loop-row in
    let left : length (into_iter_items at.row-iterator) ≡ 0 = sym at.row-iterator.rest.ok.0
    ∙ c.in-None.ensures.steps.0 in
    sym (ap (λ xs. rows_joined (rows_of at.self) (rows_in xs)) (nothing_left (into_iter_items at.row-iterator) left))
    ∙ at.invariant.rows
