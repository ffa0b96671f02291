-- A closed tree in a frame: what is in its hole is closed, and may be taken out for anything else that is closed.
use Rattle.std.proofs.Common.{◌≡◌, ◌+◌, List, [], ◌∷◌, refl, ap}
use Rattle.pf_terms.specs.Value.{Values, none, more}
use Rattle.pf_syntax.specs.Tree.{Tree, Trees, tree, Program}
use Rattle.pf_model.specs.Context.{Frame, element_of, first_of, tail_of, left_of, right_of, negation, and_also_of}
use Rattle.pf_model.specs.Context.{or_else_of, argument_of, builtin_argument_of, match_of, bind_of, case_of}
use Rattle.pf_model.specs.Context.{receiver_of, message_of, after_values, around, fill}
use Rattle.pf_model.specs.Closed.{tree_count, IsClosed, AllAreClosed}

same_count : (vs : Values) (x y : Tree) (ts : Trees)
    → tree_count (after_values vs (tree y ts)) ≡ tree_count (after_values vs (tree x ts))
same_count none x y ts = refl
same_count (more v vs) x y ts = ap (λ n. 1 + n) (same_count vs x y ts)

module _ (fs : Program) where
  hole_of_values : (vs : Values) (x : Tree) (ts : Trees) → AllAreClosed fs 0 (after_values vs (tree x ts))
      → IsClosed fs 0 x
  hole_of_values none x ts h = h.0
  hole_of_values (more v vs) x ts h = hole_of_values vs x ts h.1

  values_around : (vs : Values) (x y : Tree) (ts : Trees) → AllAreClosed fs 0 (after_values vs (tree x ts))
      → IsClosed fs 0 y
      → AllAreClosed fs 0 (after_values vs (tree y ts))
  values_around none x y ts h k = (k, h.1)
  values_around (more v vs) x y ts h k = (tt, values_around vs x y ts h.1 k)

  hole_of : (f : Frame) (x : Tree) → IsClosed fs 0 (around f x) → IsClosed fs 0 x
  hole_of (element_of vs ts) x h = hole_of_values vs x ts h
  hole_of (first_of a) x h = h.0
  hole_of (tail_of v) x h = h.1
  hole_of (left_of o a) x h = h.0
  hole_of (right_of o v) x h = h.1
  hole_of negation x h = h
  hole_of (and_also_of a) x h = h.0
  hole_of (or_else_of a) x h = h.0
  hole_of (argument_of f vs ts) x h = hole_of_values vs x ts h.1
  hole_of (builtin_argument_of f vs ts) x h = hole_of_values vs x ts h.1
  hole_of (match_of ps) x h = h.1
  hole_of (bind_of ps rest) x h = h.1
  hole_of (case_of ks) x h = h.0
  hole_of (receiver_of a) x h = h.0
  hole_of (message_of v) x h = h.1

  around_closed : (f : Frame) (x y : Tree) → IsClosed fs 0 (around f x) → IsClosed fs 0 y → IsClosed fs 0 (around f y)
  around_closed (element_of vs ts) x y h k = values_around vs x y ts h k
  around_closed (first_of a) x y h k = (k, h.1)
  around_closed (tail_of v) x y h k = (tt, k)
  around_closed (left_of o a) x y h k = (k, h.1)
  around_closed (right_of o v) x y h k = (tt, k)
  around_closed negation x y h k = k
  around_closed (and_also_of a) x y h k = (k, h.1)
  around_closed (or_else_of a) x y h k = (k, h.1)
  around_closed (argument_of f vs ts) x y h k = (rw (same_count vs x y ts) h.0, values_around vs x y ts h.1 k)
  around_closed (builtin_argument_of f vs ts) x y h k = (rw (same_count vs x y ts) h.0, values_around vs x y ts h.1 k)
  around_closed (match_of ps) x y h k = (h.0, k)
  around_closed (bind_of ps rest) x y h k = (h.0, k, h.2)
  around_closed (case_of ks) x y h k = (k, h.1)
  around_closed (receiver_of a) x y h k = (k, h.1)
  around_closed (message_of v) x y h k = (tt, k)

  pub hole_closed : (gs : List Frame) (x : Tree) → IsClosed fs 0 (fill gs x) → IsClosed fs 0 x
  hole_closed [] x h = h
  hole_closed (g ∷ gs) x h = hole_closed gs x (hole_of g (fill gs x) h)

  pub fill_closed : (gs : List Frame) (x y : Tree) → IsClosed fs 0 (fill gs x) → IsClosed fs 0 y
      → IsClosed fs 0 (fill gs y)
  fill_closed [] x y h k = k
  fill_closed (g ∷ gs) x y h k = around_closed g (fill gs x) (fill gs y) h
      (fill_closed gs x y (hole_of g (fill gs x) h) k)
