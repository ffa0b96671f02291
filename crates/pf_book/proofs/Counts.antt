-- Sums over all desks; the store counts the modules of all of them.
use Rattle.std.proofs.Common.{◌≡◌, ◌≤◌, ℕ, ◌+◌, nat_eq, Bool, true, false, [], ◌∷◌, refl, sym, ap, subst, arith}
use Rattle.std.specs.Prelude.{if◌then◌else◌, sum_by}
use Rattle.std.proofs.lemmas.List.Sums.{sum_by-cons}
use Rattle.pf_store.specs.Sources.{Kept, holders}
use Rattle.pf_desks.specs.Desk.{Desk, no_desk}
use Rattle.pf_desks.specs.Desks.{Desks, desk_at, put_desk}
use Rattle.pf_book.specs.Kept.{modules_of, Counts, CountsAll, FollowsDesk}

-- what a function says of the desk of an entry
abbrev its : (Desk → ℕ) → ℕ × Desk → ℕ
its f e = f e.1

module _ (f : Desk → ℕ) (none : f no_desk ≡ 0) where
  -- all desks but one, and that one
  pub put_sum : (q : ℕ) (d' : Desk) (w : Desks)
      → sum_by (its f) (put_desk q d' w) + f (desk_at q w) ≡ sum_by (its f) w + f d'
  put_sum q d' [] = omega (arith, none, sum_by-cons (its f) (q, d') [])
  put_sum q d' (e ∷ w) = by (nat_eq q e.0) (put_sum q d' w)
    where
      by : (b : Bool) → sum_by (its f) (put_desk q d' w) + f (desk_at q w) ≡ sum_by (its f) w + f d'
          → sum_by (its f) (if b then (e.0, d') ∷ w else e ∷ put_desk q d' w) + f (if b then e.1 else desk_at q w)
          ≡ sum_by (its f) (e ∷ w) + f d'
      by true h = omega (arith, sum_by-cons (its f) (e.0, d') w, sum_by-cons (its f) e w)
      by false h = omega (arith, h, sum_by-cons (its f) e (put_desk q d' w), sum_by-cons (its f) e w)

  pub at_most_all : (q : ℕ) (w : Desks) → f (desk_at q w) ≤ sum_by (its f) w
  at_most_all q w = omega (arith, none, put_sum q no_desk w)

-- the store counts those of each desk
pub counts_one : (k : Kept) (q : ℕ) (w : Desks) (d : Desk) → desk_at q w ≡ d → CountsAll k w → Counts k d
counts_one k q w d here all = subst (Counts k) here
    (λ source. omega (arith, all source, at_most_all (modules_of source) refl q w))

-- it counts all of them once more, where it followed one desk
pub counts_put : (k k' : Kept) (q : ℕ) (w : Desks) (d d' : Desk) → desk_at q w ≡ d → CountsAll k w
    → FollowsDesk k d k' d' → CountsAll k' (put_desk q d' w)
counts_put k k' q w d d' here all follows source =
    let same : modules_of source (desk_at q w) ≡ modules_of source d = ap (modules_of source) here in
    omega (arith, all source, follows source, put_sum (modules_of source) refl q d' w, same)

-- also where the desk has the modules that it had
pub counts_kept : (k : Kept) (q : ℕ) (w : Desks) (d d' : Desk) → desk_at q w ≡ d → CountsAll k w
    → d'.modules ≡ d.modules → CountsAll k (put_desk q d' w)
counts_kept k q w d d' here all same =
    counts_put k k q w d d' here all (λ source.
    ap (λ ms. holders k source + modules_of source (record d { modules = ms })) (sym same))
