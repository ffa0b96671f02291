-- How many runs fail of those that rows count.
use Rattle.std.proofs.Common.{◌≡◌, ◌+◌, ◌<◌, ◌≤◌, ◌^◌, ℕ, Bool, true, false, List, [], ◌∷◌, length, get_or, ap, arith}
use Rattle.std.specs.Prelude.{drop, if◌then◌else◌}
use Rattle.std.proofs.lemmas.List.{drop_more}
use Rattle.pf_model.specs.Shrinking.{is_failure}
use Rattle.pf_hunt.specs.Rows as rows
use Rattle.pf_hunt.specs.Rows.{seeds_counted, failures_in, failures_of}
use Rattle.pf_hunt.specs.Views.{row_of, rows_in}
use Rattle.pf_hunt.specs.declared.row.OutcomeRow.{OutcomeRow}

at_most : (b : Bool) (n : ℕ) → (if b then n else 0) ≤ n
at_most true n = omega arith
at_most false n = omega arith

-- no more than are counted
some_of_all : (xs : List rows.OutcomeRow) → failures_in xs ≤ seeds_counted xs
some_of_all [] = omega arith
some_of_all (x ∷ xs) =
    let one = at_most (is_failure x.verdict) x.count in
    let others = some_of_all xs in
    omega (arith, one, others)

-- one row more
pub next_row : (xs : List OutcomeRow) (i : ℕ) (d : OutcomeRow) → i < length xs
    → failures_in (rows_in (drop i xs)) ≡ failures_of (row_of (get_or xs i d)) + failures_in (rows_in (drop (i + 1) xs))
next_row xs i d l = ap (λ ys. failures_in (rows_in ys)) (drop_more xs i d l)

-- and its failures are within bounds
pub next_fits : (xs : List OutcomeRow) (i n : ℕ) (x : OutcomeRow) → i < length xs → x ≡ get_or xs i x
    → n + failures_in (rows_in (drop i xs)) ≡ failures_in (rows_in xs)
    → seeds_counted (rows_in xs) < 2 ^ 64 → n + failures_of (row_of x) < 2 ^ 64
next_fits xs i n x l read so_far fits =
    let most = some_of_all (rows_in xs) in
    let step = next_row xs i x l in
    let same = ap (λ y. failures_of (row_of y)) read in
    omega (arith, so_far, fits, most, step, same)
