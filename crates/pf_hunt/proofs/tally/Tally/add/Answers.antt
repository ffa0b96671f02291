use Rattle.std.proofs.Common.{sym, ap, ◌∙◌, arith}
use Rattle.std.proofs.lemmas.Option.{get_or_from_slice_get}
use Rattle.std.proofs.lemmas.Result.{on_ok_weaker}
use Rattle.pf_hunt.specs.RowHashes.{row_hash}
use Rattle.pf_hunt.specs.Rows.{more_often}
use Rattle.pf_hunt.specs.Views.{row_of, rows_in}
use Rattle.pf_hunt.proofs.Indices.{counts_within, hashes_stay, is_added, is_later_there}
use Rattle.pf_hunt.proofs.tally.Tally.add.Goals as goal

pub overflow_add-index_mut : goal.overflow_add-index_mut
overflow_add-index_mut c =
    let rows = c.args.self.now.rows.items in
    let like = c.in-Some.ensures in
    let same = c.index_mut.ensures.value ∙ get_or_from_slice_get rows c.in-Some.index like.1.0 _ like.1.1 in
    let within = counts_within rows c.in-Some.index like.1.0 like.1.1 in
    let count = ap (λ x. x.count) same in
    omega (arith, within, count, c.requires)

pub invariant_of-self : goal.invariant_of-self
invariant_of-self c =
    let rows = c.args.self.now.rows.items in
    let like = c.in-Some.ensures in
    let same = c.index_mut.ensures.value ∙ get_or_from_slice_get rows c.in-Some.index like.1.0 _ like.1.1 in
    record {
      placed = c.args.self.now.placed ∙ sym (hashes_stay rows c.in-Some.index like.1.0 _ like.1.1 (ap row_hash same));
    }

pub returns-in-Some : goal.returns-in-Some
returns-in-Some c =
    let rows = c.args.self.now.rows.items in
    let like = c.in-Some.ensures in
    let same = c.index_mut.ensures.value ∙ get_or_from_slice_get rows c.in-Some.index like.1.0 _ like.1.1 in
    is_added c.args.row rows c.in-Some.index like.1.0 _ like.0 like.1.1 like.1.2
    (ap (λ x. more_often (row_of x) c.args.row.count) same)

pub returns-in-None : goal.returns-in-None
returns-in-None c =
    let rows = c.args.self.now.rows.items in
    on_ok_weaker c.push.result (λ e. ap rows_in e ∙ is_later_there c.args.row rows c.in-None.ensures) c.push.ensures
