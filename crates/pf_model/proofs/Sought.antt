-- What is sought in a tree is its value or its context, so each tree has one move.
use Rattle.std.proofs.Common.{◌≡◌, ℕ, true, false, List, [], Some, refl, sym, ap, ◌∙◌, subst, option_map}
use Rattle.std.specs.Prelude.{slice_get}
use Rattle.pf_terms.specs.Value.{Value, Values, none, more, list}
use Rattle.pf_terms.specs.Value as value
use Rattle.pf_syntax.specs.Tree.{Tree, Trees, lit, var, tuple, cons, op, neg, and_also, or_else, call, builtin, match}
use Rattle.pf_syntax.specs.Tree.{bind, case, if_expression, receive, send, no_trees, tree}
use Rattle.pf_terms.specs.Fixed.{if_clause, undef}
use Rattle.pf_ops.specs.Arithmetic.{negated}
use Rattle.pf_ops.specs.Operations.{limited, operated, consed}
use Rattle.pf_ops.specs.Guards.{truth_of}
use Rattle.pf_ops.specs.Reasons.{no_case}
use Rattle.pf_model.specs.Module.{Module, name_in}
use Rattle.pf_model.specs.Contraction as c
use Rattle.pf_model.specs.Contraction.{Change, Raises, Asks, Awaits, contract, as_values, as_value, add_value}
use Rattle.pf_model.specs.Contraction.{worked_out, decided, entered, called, matched, bound, picked, body_or_raise}
use Rattle.pf_model.specs.Context.{Frame, element_of, first_of, tail_of, left_of, right_of, negation, and_also_of}
use Rattle.pf_model.specs.Context.{or_else_of, argument_of, builtin_argument_of, match_of, bind_of, case_of}
use Rattle.pf_model.specs.Context.{receiver_of, message_of, after_values, literals, around, IsRedexIn, Move, returns}
use Rattle.pf_model.specs.Context.{moved, Moves, at_value, at_index}
use Rattle.pf_model.specs.Evaluation.{SoughtRedex, valued, placed, part, and_last, sought, sought_in, move_of}
use Rattle.pf_model.proofs.Contexts.{one_context, fill_no_value}

module _ (m : Module) (own : ℕ) where
  -- a value that the tree is, or a context in it
  abbrev pub IsIn : Tree → SoughtRedex → Type 0
  IsIn t (valued v) = t ≡ lit v
  IsIn t (placed fs r d) = IsRedexIn m own t fs r d

  -- what is in a part is in the whole, where that is so once the part is a value
  part_is_in : (f : Frame) (a t : Tree) (s : SoughtRedex) (go : Value → SoughtRedex) → around f a ≡ t → IsIn a s
      → ((v : Value) → a ≡ lit v → IsIn t (go v)) → IsIn t (part f s go)
  part_is_in f a t (valued v) go e h next = next v h
  part_is_in f a t (placed fs r d) go e h next = record { filled = ap (around f) h.filled ∙ e; redex = h.redex }

  -- a tree whose parts are values is itself the redex
  is_redex : (t r : Tree) (d : Change) → r ≡ t → contract m own r ≡ Some d → IsIn t (placed [] r d)
  is_redex t r d e h = record { filled = e; redex = h }

  literals_are : (vs : Values) → as_values (literals vs) ≡ Some vs
  literals_are none = refl
  literals_are (more v vs) = ap (add_value (Some v)) (literals_are vs)

  push_value : (vs : Values) (v : Value) (ts : Trees)
      → after_values (and_last vs v) ts ≡ after_values vs (tree (lit v) ts)
  push_value none v ts = refl
  push_value (more w vs) v ts = ap (tree (lit w)) (push_value vs v ts)

  -- two parts of a tree, the right one once the left one is a value
  two_parts : (left : Frame) (right : Value → Frame) (whole : Tree → Tree → Tree) (last : Value → Value
      → Change) (a b : Tree)
      → around left a ≡ whole a b → ((v : Value) (x : Tree) → around (right v) x ≡ whole (lit v) x)
      → ((v w : Value) → contract m own (whole (lit v) (lit w)) ≡ Some (last v w))
      → IsIn a (sought m own a) → IsIn b (sought m own b)
      → IsIn (whole a b) (part left (sought m own a)
      (λ v. part (right v) (sought m own b) (λ w. placed [] (whole (lit v) (lit w)) (last v w))))
  two_parts left right whole last a b hl hr redex ia ib =
      let both : Value → Value → SoughtRedex = λ v w. placed [] (whole (lit v) (lit w)) (last v w) in
      part_is_in left a (whole a b) (sought m own a) (λ v. part (right v) (sought m own b) (both v)) hl ia
      (λ v e. part_is_in (right v) b (whole a b) (sought m own b) (both v) (hr v b ∙ ap (λ x. whole x b) (sym e)) ib
      (λ w d. is_redex (whole a b) (whole (lit v) (lit w)) (last v w)
      (ap (λ x. whole x (lit w)) (sym e) ∙ ap (whole a) (sym d)) (redex v w)))

  -- the one part of a tree
  only_part : (f : Frame) (whole : Tree → Tree) (last : Value → Change) (a : Tree)
      → around f a ≡ whole a → ((v : Value) → contract m own (whole (lit v)) ≡ Some (last v))
      → IsIn a (sought m own a) → IsIn (whole a) (part f (sought m own a) (λ v. placed [] (whole (lit v)) (last v)))
  only_part f whole last a hf redex ia =
      part_is_in f a (whole a) (sought m own a) (λ v. placed [] (whole (lit v)) (last v)) hf ia
      (λ v e. is_redex (whole a) (whole (lit v)) (last v) (ap whole (sym e)) (redex v))

  mutual
    pub sought_is_in : (t : Tree) → IsIn t (sought m own t)
    sought_is_in (lit v) = refl
    sought_is_in (var x) = is_redex (var x) (var x) (Raises undef) refl refl
    sought_is_in (tuple ts) =
        in_parts element_of tuple (λ vs. worked_out (limited (value.tuple vs))) (λ vs us x. refl)
        (λ vs. ap (option_map (λ ws. worked_out (limited (value.tuple ws)))) (literals_are vs)) none ts
    sought_is_in (cons a t) =
        two_parts (first_of t) tail_of cons (λ v w. worked_out (consed v w)) a t refl (λ v x. refl) (λ v w. refl)
        (sought_is_in a) (sought_is_in t)
    sought_is_in (op o a t) =
        two_parts (left_of o t) (right_of o) (op o) (λ v w. worked_out (operated (name_in m) o v w)) a t refl
        (λ v x. refl) (λ v w. refl)
        (sought_is_in a) (sought_is_in t)
    sought_is_in (neg a) = only_part negation neg (λ v. worked_out (negated v)) a refl (λ v. refl) (sought_is_in a)
    sought_is_in (and_also a t) =
        only_part (and_also_of t) (λ x. and_also x t) (λ v. decided false v t (truth_of v)) a refl (λ v. refl)
        (sought_is_in a)
    sought_is_in (or_else a t) =
        only_part (or_else_of t) (λ x. or_else x t) (λ v. decided true v t (truth_of v)) a refl (λ v. refl)
        (sought_is_in a)
    sought_is_in (call f ts) =
        in_parts (argument_of f) (call f) (entered m own (slice_get m.functions f)) (λ vs us x. refl)
        (λ vs. ap (option_map (entered m own (slice_get m.functions f))) (literals_are vs)) none ts
    sought_is_in (builtin f ts) =
        in_parts (builtin_argument_of f) (builtin f) (called own f) (λ vs us x. refl)
        (λ vs. ap (option_map (called own f)) (literals_are vs)) none ts
    sought_is_in (match ps a) = only_part (match_of ps) (match ps) (matched ps) a refl (λ v. refl) (sought_is_in a)
    sought_is_in (bind ps a rest) = only_part (bind_of ps rest) (λ x. bind ps x rest) (λ v. bound ps v rest) a refl
        (λ v. refl) (sought_is_in a)
    sought_is_in (case a ks) =
        only_part (case_of ks) (λ x. case x ks) (λ v. body_or_raise (picked m own ks v) (no_case v)) a refl (λ v. refl)
        (sought_is_in a)
    sought_is_in (if_expression ks) =
        is_redex (if_expression ks) (if_expression ks) (body_or_raise (picked m own ks (list none)) if_clause) refl refl
    sought_is_in (receive ks) = is_redex (receive ks) (receive ks) (Awaits ks) refl refl
    sought_is_in (send a t) =
        two_parts (receiver_of t) message_of send (λ v w. Asks (c.send v w)) a t refl (λ v x. refl) (λ v w. refl)
        (sought_is_in a) (sought_is_in t)

    -- parts from left to right, after those that are done
    in_parts : (frame : Values → Trees → Frame) (whole : Trees → Tree) (last : Values → Change)
        → ((vs : Values) (us : Trees) (x : Tree) → around (frame vs us) x ≡ whole (after_values vs (tree x us)))
        → ((vs : Values) → contract m own (whole (literals vs)) ≡ Some (last vs))
        → (vs : Values) (ts : Trees) → IsIn (whole (after_values vs ts))
        (sought_in m own frame (λ ws. placed [] (whole (literals ws)) (last ws)) vs ts)
    in_parts frame whole last hf redex vs no_trees = is_redex (whole (literals vs)) (whole (literals vs))
        (last vs) refl (redex vs)
    in_parts frame whole last hf redex vs (tree t ts) =
        let next : Values → SoughtRedex = λ ws.
        sought_in m own frame (λ us. placed [] (whole (literals us)) (last us)) ws ts in
        part_is_in (frame vs ts) t (whole (after_values vs (tree t ts))) (sought m own t) (λ v. next (and_last vs v))
        (hf vs ts t) (sought_is_in t)
        (λ v e. subst (λ x. IsIn (whole x) (next (and_last vs v)))
        (push_value vs v ts ∙ ap (λ x. after_values vs (tree x ts)) (sym e))
        (in_parts frame whole last hf redex (and_last vs v) ts))

  moves_as : (t : Tree) (s : SoughtRedex) → IsIn t s → Moves m own t (move_of s)
  moves_as t (valued v) h = at_value v h refl
  moves_as t (placed fs r d) h = at_index fs r d h refl

  pub moves_as_sought : (t : Tree) → Moves m own t (move_of (sought m own t))
  moves_as_sought t = moves_as t (sought m own t) (sought_is_in t)

  -- ---- and no other

  no_index_of_value : (t : Tree) (v : Value) (fs : List Frame) (r : Tree) (d : Change) → t ≡ lit v
      → IsRedexIn m own t fs r d → ⊥
  no_index_of_value t v fs r d e p =
      let a = fill_no_value m own fs r d p.redex in let b = ap as_value (p.filled ∙ e) in cc

  pub one_move : (t : Tree) (x y : Move) → Moves m own t x → Moves m own t y → x ≡ y
  one_move t x y (at_value v e p) (at_value w d q) = let a : v ≡ w = cc in p ∙ ap returns a ∙ sym q
  one_move t x y (at_value v e p) (at_index fs r d h q) = absurd (no_index_of_value t v fs r d e h)
  one_move t x y (at_index fs r d h p) (at_value v e q) = absurd (no_index_of_value t v fs r d e h)
  one_move t x y (at_index fs r d h p) (at_index gs s e k q) =
      let o = one_context m own t r s fs gs d e h k in p ∙ ap (λ z. moved z d) o.0 ∙ ap (moved gs) o.2 ∙ sym q
