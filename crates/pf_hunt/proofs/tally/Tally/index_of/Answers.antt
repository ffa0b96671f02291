use Rattle.std.proofs.Common.{◌≡◌, ◌<◌, suc, Some, sym, ap, ◌∙◌, subst, arith, length}
use Rattle.std.specs.Prelude.{slice_get}
use Rattle.std.proofs.lemmas.List.{length-map}
use Rattle.std.proofs.lemmas.Option.{slice_get-get_or, slice_get_within}
use Rattle.pf_hunt.specs.Places.{IsLastBefore}
use Rattle.pf_hunt.specs.RowHashes.{hashes_in, row_hash}
use Rattle.pf_hunt.proofs.Finding.{HasItsHash, IsFirstFrom, end_of, fewer, has_its_hash, last_of_all, none_yet}
use Rattle.pf_hunt.proofs.Finding.{one_looked_at}
use Rattle.pf_hunt.proofs.tally.Tally.index_of.Goals as goal

pub loop-at-init : goal.loop-at-init
loop-at-init c =
    let xs = c.args.self.now.rows.items in
    let y = c.args.row.now in
    let last = last_of_all xs y c.args.self.now.places c.hash.result c.last-at.result c.args.self.now.placed
    c.hash.ensures c.last-at.ensures in
    record {
      hash = has_its_hash xs y (length xs) c.last-at.result last;
      first = none_yet xs y c.last-at.result last;
    }

pub loop-at-smaller : goal.loop-at-smaller
loop-at-smaller c =
    let xs = c.args.self.now.rows.items in
    let y = c.args.row.now in
    let i = c.in-Some.index in
    let next = c.before-at.result in
    let placed = c.args.self.now.placed in
    let hash : slice_get (hashes_in xs) i ≡ Some (row_hash y) =
    subst (HasItsHash xs y) c.in-Some.is c.loop-at.invariant.hash in
    let before = subst (λ ns. IsLastBefore ns (row_hash y) i next) placed
    (c.before-at.ensures (row_hash y) (ap (λ ns. slice_get ns i) placed ∙ hash)) in
    let less : end_of next < suc i = omega (arith, fewer xs y i next before) in
    subst (λ o. end_of next < end_of o) (sym c.in-Some.is) less

pub loop-at-preserved : goal.loop-at-preserved
loop-at-preserved c =
    let xs = c.args.self.now.rows.items in
    let y = c.args.row.now in
    let i = c.in-Some.index in
    let next = c.before-at.result in
    let placed = c.args.self.now.placed in
    let hash : slice_get (hashes_in xs) i ≡ Some (row_hash y) =
    subst (HasItsHash xs y) c.in-Some.is c.loop-at.invariant.hash in
    let before = subst (λ ns. IsLastBefore ns (row_hash y) i next) placed
    (c.before-at.ensures (row_hash y) (ap (λ ns. slice_get ns i) placed ∙ hash)) in
    let within : i < length xs = omega (
      arith,
      slice_get_within (hashes_in xs) i (row_hash y) hash,
      length-map xs row_hash,
    ) in
    let x = c.index.result.now in
    let is_there : slice_get xs i ≡ Some x = slice_get-get_or xs i x within ∙ ap (λ v. Some v) (sym c.index.ensures) in
    let first = subst (λ o. IsFirstFrom xs y (end_of o) c.loop-at.first) c.in-Some.is c.loop-at.invariant.first in
    record {
      hash = has_its_hash xs y i next before;
      first =
          subst (IsFirstFrom xs y (end_of next)) (sym c.chosen-first.ensures)
          (one_looked_at xs y i x next c.loop-at.first c.is_like.result is_there c.is_like.ensures before first);
    }
