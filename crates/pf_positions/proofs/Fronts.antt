-- The spots of a node, but for those of its last part.
use Rattle.std.proofs.Common.{◌≡◌, ℕ, List, ◌++◌, Option, Some, None, refl, sym, ap, ◌∙◌, append-nil}
use Rattle.pf_syntax.specs.Tree.{Tree}
use Rattle.pf_positions.specs.Spots.{Spot, tree_spots}
use Rattle.pf_positions.specs.Added.{last_part, spots_of_part}
use Rattle.pf_positions.proofs.Adding.{go_on}

-- what was added is before those of the last part of a tree, which the node stands for
pub front_added : (f : ℕ) (front : Tree → List Spot) (before after : List Spot) (x u at : Tree) → x ≡ u → u ≡ at
    → tree_spots f x ≡ front x ++ spots_of_part f (last_part x) → after ≡ before ++ front at
    → after ++ spots_of_part f (last_part u) ≡ before ++ tree_spots f u
front_added f front before after x u at xu ua parted added =
    let whole : tree_spots f u ≡ front at ++ spots_of_part f (last_part u) =
    ap (tree_spots f) (sym xu) ∙ parted
    ∙ ap (λ (y : Tree). front y ++ spots_of_part f (last_part x)) (xu ∙ ua)
    ∙ ap (λ (y : Tree). front at ++ spots_of_part f (last_part y)) xu in
    go_on before after (front at) (tree_spots f u) (spots_of_part f (last_part u)) (before ++ tree_spots f u)
    added whole refl

-- the walk goes on at the last part
pub gone_on : (f : ℕ) (before after whole : List Spot) (u v : Tree) → last_part u ≡ Some v
    → after ++ spots_of_part f (last_part u) ≡ before ++ tree_spots f u → before ++ tree_spots f u ≡ whole
    → after ++ tree_spots f v ≡ whole
gone_on f before after whole u v last added so_far =
    ap (λ (o : Option Tree). after ++ spots_of_part f o) (sym last) ∙ added ∙ so_far

-- the walk ends with a tree that has no last part
pub gone_through : (f : ℕ) (before after whole : List Spot) (u : Tree) → last_part u ≡ None
    → after ++ spots_of_part f (last_part u) ≡ before ++ tree_spots f u → before ++ tree_spots f u ≡ whole
    → after ≡ whole
gone_through f before after whole u none added so_far =
    sym (append-nil after) ∙ ap (λ (o : Option Tree). after ++ spots_of_part f o) (sym none) ∙ added ∙ so_far
