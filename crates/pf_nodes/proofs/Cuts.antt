-- Nodes that are found by their references, in a list that is cut at one of them.
use Rattle.std.proofs.Common.{◌≡◌, Bool, true, false, cond, List, [], ◌∷◌, ◌++◌, refl, sym, ap, ◌∙◌, Some, None}
use Rattle.std.specs.Map.{lookup, remove_entry, set_value}
use denote.RawPtr.{Ptr}
use Rattle.pf_nodes.specs.NodeRefs.{same_ptr}
use Rattle.pf_nodes.specs.Nodes.{PlacedNode, IsApart}
use Rattle.pf_nodes.specs.Links.{change}
use Rattle.pf_nodes.proofs.Pointers.{same_ptr_refl, same_ptr_comm}

pub some_none : {A : Type 0} {X : Type 0} (x : X) → Some x ≡ None → A
some_none x e = absurd cc

module _ {X : Type 0} (test : Ptr → Bool) where
  -- nothing passes
  abbrev pub Absent : List (Ptr × X) → Type 0
  Absent xs = lookup test xs ≡ None

  pub absent_head : (e : Ptr × X) (xs : List (Ptr × X)) → Absent (e ∷ xs) → test e.0 ≡ false
  absent_head e xs = (elim (test e.0) as (λ b. cond b (Some e.1) (lookup test xs) ≡ None → b ≡ false)
      [ true ↦ λ h. some_none e.1 h | false ↦ λ h. refl ])

  pub absent_tail : (e : Ptr × X) (xs : List (Ptr × X)) → Absent (e ∷ xs) → Absent xs
  absent_tail e xs = (elim (test e.0) as (λ b. cond b (Some e.1) (lookup test xs) ≡ None → lookup test xs ≡ None)
      [ true ↦ λ h. some_none e.1 h | false ↦ λ h. h ])

  pub absent_cons : (e : Ptr × X) (xs : List (Ptr × X)) → test e.0 ≡ false → Absent xs → Absent (e ∷ xs)
  absent_cons e xs f h = ap (λ b. cond b (Some e.1) (lookup test xs)) f ∙ h

  pub absent_left : (xs ys : List (Ptr × X)) → Absent (xs ++ ys) → Absent xs
  absent_left [] ys h = refl
  absent_left (x ∷ xs) ys h = absent_cons x xs (absent_head x (xs ++ ys) h)
      (absent_left xs ys (absent_tail x (xs ++ ys) h))

  pub absent_right : (xs ys : List (Ptr × X)) → Absent (xs ++ ys) → Absent ys
  absent_right [] ys h = h
  absent_right (x ∷ xs) ys h = absent_right xs ys (absent_tail x (xs ++ ys) h)

  pub absent_both : (xs ys : List (Ptr × X)) → Absent xs → Absent ys → Absent (xs ++ ys)
  absent_both [] ys g h = h
  absent_both (x ∷ xs) ys g h = absent_cons x (xs ++ ys) (absent_head x xs g) (absent_both xs ys (absent_tail x xs g) h)

  module _ (e : Ptr × X) (ys : List (Ptr × X)) (here : test e.0 ≡ true) where
    pub lookup_cut : (xs : List (Ptr × X)) → Absent xs → lookup test (xs ++ e ∷ ys) ≡ Some e.1
    lookup_cut [] h = ap (λ b. cond b (Some e.1) (lookup test ys)) here
    lookup_cut (x ∷ xs) h = ap (λ b. cond b (Some x.1) (lookup test (xs ++ e ∷ ys))) (absent_head x xs h)
        ∙ lookup_cut xs (absent_tail x xs h)

    pub remove_cut : (xs : List (Ptr × X)) → Absent xs → remove_entry test (xs ++ e ∷ ys) ≡ xs ++ ys
    remove_cut [] h = ap (λ b. cond b ys (e ∷ remove_entry test ys)) here
    remove_cut (x ∷ xs) h = ap (λ b. cond b (xs ++ e ∷ ys) (x ∷ remove_entry test (xs ++ e ∷ ys))) (absent_head x xs h)
        ∙ ap (λ l. x ∷ l) (remove_cut xs (absent_tail x xs h))

    pub change_cut : (f : X → X) (xs : List (Ptr × X)) → Absent xs
        → change test f (xs ++ e ∷ ys) ≡ xs ++ (e.0, f e.1) ∷ ys
    change_cut f [] h = ap (λ b. cond b ((e.0, f e.1) ∷ ys) (e ∷ change test f ys)) here
    change_cut f (x ∷ xs) h = ap (λ b. cond b ((x.0, f x.1) ∷ xs ++ e ∷ ys) (x ∷ change test f (xs ++ e ∷ ys)))
        (absent_head x xs h) ∙ ap (λ l. x ∷ l) (change_cut f xs (absent_tail x xs h))

  -- to change the node that is found is to set what it becomes
  pub set_value-change : (f : X → X) (xs : List (Ptr × X)) (x : X) → lookup test xs ≡ Some x
      → set_value test xs (f x) ≡ change test f xs
  set_value-change f [] x h = refl
  set_value-change f (e ∷ xs) x found =
      (elim (test e.0) as (λ b. cond b (Some e.1) (lookup test xs) ≡ Some x
      → cond b ((e.0, f x) ∷ xs) (e ∷ set_value test xs (f x)) ≡ cond b ((e.0, f e.1) ∷ xs) (e ∷ change test f xs)) [
        | true ↦ λ h. let same : e.1 ≡ x = cc in ap (λ y. (e.0, f y) ∷ xs) (sym same)
        | false ↦ λ h. ap (λ l. e ∷ l) (set_value-change f xs x h)
      ]) found

-- a node that is there is there after a change
pub found_changed : {X : Type 0} (test other : Ptr → Bool) (f : X → X) (xs : List (Ptr × X)) (x : X)
    → lookup test xs ≡ Some x → (y : X) × (lookup test (change other f xs) ≡ Some y)
found_changed test other f [] x h = (x, h)
found_changed {X} test other f (e ∷ xs) x h =
    let Goal' : Bool → Bool → Type 0 = λ b c. cond b (Some e.1) (lookup test xs) ≡ Some x
    → (y : X) × (lookup test (cond c ((e.0, f e.1) ∷ xs) (e ∷ change other f xs)) ≡ Some y) in
    let there : (b c : Bool) → test e.0 ≡ b → Goal' b c = λ b c. elim b as (λ b. test e.0 ≡ b → Goal' b c) [
      | true ↦ λ s g. elim c as (λ c. (y : X)
          × (lookup test (cond c ((e.0, f e.1) ∷ xs) (e ∷ change other f xs)) ≡ Some y)) [
            | true ↦ (f e.1, ap (λ b. cond b (Some (f e.1)) (lookup test xs)) s)
            | false ↦ (e.1, ap (λ b. cond b (Some e.1) (lookup test (change other f xs))) s)
          ]
      | false ↦ λ s g. elim c as (λ c. (y : X)
          × (lookup test (cond c ((e.0, f e.1) ∷ xs) (e ∷ change other f xs)) ≡ Some y)) [
            | true ↦ (x, ap (λ b. cond b (Some (f e.1)) (lookup test xs)) s ∙ g)
            | false ↦ let on = found_changed test other f xs x g in
                (on.0, ap (λ b. cond b (Some e.1) (lookup test (change other f xs))) s ∙ on.1)
          ]
    ] in there (test e.0) (other e.0) refl h

module _ {T : Type 0} where
  -- of nodes that lie apart, none before a node lies at its reference
  pub apart_before : (xs : List (PlacedNode T)) (e : PlacedNode T) (ys : List (PlacedNode T)) → IsApart (xs ++ e ∷ ys)
      → Absent (same_ptr e.0) xs
  apart_before [] e ys h = refl
  apart_before (x ∷ xs) e ys h =
      absent_cons (same_ptr e.0) x xs (same_ptr_comm e.0 x.0 ∙ absent_head (same_ptr x.0) e ys
      (absent_right (same_ptr x.0) xs (e ∷ ys) h.0)) (apart_before xs e ys h.1)

  pub apart_without : (xs : List (PlacedNode T)) (e : PlacedNode T) (ys : List (PlacedNode T)) → IsApart (xs ++ e ∷ ys)
      → IsApart (xs ++ ys)
  apart_without [] e ys h = h.1
  apart_without (x ∷ xs) e ys h = let test = same_ptr x.0 in (
    absent_both test xs ys (absent_left test xs (e ∷ ys) h.0)
        (absent_tail test e ys (absent_right test xs (e ∷ ys) h.0)),
    apart_without xs e ys h.1,
  )

  pub apart_push : (xs : List (PlacedNode T)) (e : PlacedNode T) → IsApart xs → Absent (same_ptr e.0) xs
      → IsApart (xs ++ e ∷ [])
  apart_push [] e g h = (refl, tt)
  apart_push (x ∷ xs) e g h = (
    absent_both (same_ptr x.0) xs (e ∷ []) g.0
        (absent_cons (same_ptr x.0) e [] (same_ptr_comm x.0 e.0 ∙ absent_head (same_ptr e.0) x xs h) refl),
    apart_push xs e g.1 (absent_tail (same_ptr e.0) x xs h),
  )

  module _ (xs : List (PlacedNode T)) (e : PlacedNode T) (ys : List (PlacedNode T))
      (apart : IsApart (xs ++ e ∷ ys)) where
    pub lookup_at : lookup (same_ptr e.0) (xs ++ e ∷ ys) ≡ Some e.1
    lookup_at = lookup_cut (same_ptr e.0) e ys (same_ptr_refl e.0) xs (apart_before xs e ys apart)

    pub remove_at : remove_entry (same_ptr e.0) (xs ++ e ∷ ys) ≡ xs ++ ys
    remove_at = remove_cut (same_ptr e.0) e ys (same_ptr_refl e.0) xs (apart_before xs e ys apart)
