-- Nodes that lead to one another.
use Rattle.std.proofs.Common.{◌≡◌, ℕ, zero, suc, Bool, true, false, cond, List, [], ◌∷◌, ◌++◌, length, drop, refl, sym}
use Rattle.std.proofs.Common.{ap, ◌∙◌, subst, Option, Some, None, IsSome, ◌⊎◌, inl, inr, append_assoc}
use Rattle.std.specs.List.{cons_option}
use denote.RawPtr.{Ptr}
use Rattle.std.specs.Prelude.{MatchOption, ⊤}
use Rattle.pf_nodes.specs.NodeRefs.{same_ptr, same_node_ref, IsNodeRef}
use Rattle.pf_nodes.specs.Nodes.{PlacedNode, node_ref_of, IsApart, first_or, last_or, IsLinked, IsFull, values}
use Rattle.pf_nodes.specs.Links.{change, with_next, with_prev, joined}
use Rattle.pf_nodes.specs.declared.raw.NodeRef.{NodeRef}
use Rattle.pf_nodes.specs.declared.raw.ListNode.{ListNode}
use Rattle.pf_nodes.proofs.Pointers.{same_ptr_refl}
use Rattle.pf_nodes.proofs.Cuts.{Absent, absent_head, absent_tail, absent_cons, apart_before, change_cut, found_changed}

module _ {T : Type 0} where
  pub first_or-append : (xs ys : List (PlacedNode T)) (a : Option NodeRef)
      → first_or (xs ++ ys) a ≡ first_or xs (first_or ys a)
  first_or-append [] ys a = refl
  first_or-append (x ∷ xs) ys a = refl

  pub last_or-append : (b : Option NodeRef) (xs ys : List (PlacedNode T))
      → last_or b (xs ++ ys) ≡ last_or (last_or b xs) ys
  last_or-append b [] ys = refl
  last_or-append b (x ∷ xs) ys = last_or-append (Some (node_ref_of x)) xs ys

  pub linked_out : (b : Option NodeRef) (xs ys : List (PlacedNode T)) (a : Option NodeRef) → IsLinked b (xs ++ ys) a
      → IsLinked b xs (first_or ys a) × IsLinked (last_or b xs) ys a
  linked_out b [] ys a h = (tt, h)
  linked_out b (x ∷ xs) ys a h = let on = linked_out (Some (node_ref_of x)) xs ys a h.2 in
      ((h.0, h.1 ∙ first_or-append xs ys a, on.0), on.1)

  pub linked_in : (b : Option NodeRef) (xs ys : List (PlacedNode T)) (a : Option NodeRef)
      → IsLinked b xs (first_or ys a) → IsLinked (last_or b xs) ys a → IsLinked b (xs ++ ys) a
  linked_in b [] ys a g h = h
  linked_in b (x ∷ xs) ys a g h = (
    g.0,
    g.1 ∙ sym (first_or-append xs ys a),
    linked_in (Some (node_ref_of x)) xs ys a g.2 h,
  )

  -- ---- the same nodes, which may lead elsewhere
  abbrev pub Alike : List (PlacedNode T) → List (PlacedNode T) → Type 0
  Alike [] [] = Unit {0}
  Alike [] (y ∷ ys) = ⊥
  Alike (x ∷ xs) [] = ⊥
  Alike (x ∷ xs) (y ∷ ys) = (x.0 ≡ y.0) × (x.1.value ≡ y.1.value) × Alike xs ys

  pub alike_refl : (xs : List (PlacedNode T)) → Alike xs xs
  alike_refl [] = tt
  alike_refl (x ∷ xs) = (refl, refl, alike_refl xs)

  pub alike_trans : (xs ys zs : List (PlacedNode T)) → Alike xs ys → Alike ys zs → Alike xs zs
  alike_trans [] [] [] g h = tt
  alike_trans [] [] (z ∷ zs) g h = h
  alike_trans [] (y ∷ ys) zs g h = absurd g
  alike_trans (x ∷ xs) [] zs g h = absurd g
  alike_trans (x ∷ xs) (y ∷ ys) [] g h = h
  alike_trans (x ∷ xs) (y ∷ ys) (z ∷ zs) g h = (g.0 ∙ h.0, g.1 ∙ h.1, alike_trans xs ys zs g.2 h.2)

  pub alike_change : (test : Ptr → Bool) (f : ListNode T → ListNode T) → ((n : ListNode T) → n.value ≡ (f n).value)
      → (xs : List (PlacedNode T)) → Alike xs (change test f xs)
  alike_change test f keeps [] = tt
  alike_change test f keeps (x ∷ xs) = elim (test x.0) as
      (λ b. Alike (x ∷ xs) (cond b ((x.0, f x.1) ∷ xs) (x ∷ change test f xs))) [
        | true ↦ (refl, keeps x.1, alike_refl xs)
        | false ↦ (refl, refl, alike_change test f keeps xs)
      ]

  alike_next : (p q : Option NodeRef) (xs : List (PlacedNode T)) → Alike xs (with_next p q xs)
  alike_next None q xs = alike_refl xs
  alike_next (Some p) q xs = alike_change (same_node_ref p) (λ n. record n { next = q }) (λ n. refl) xs

  alike_prev : (p q : Option NodeRef) (xs : List (PlacedNode T)) → Alike xs (with_prev p q xs)
  alike_prev None q xs = alike_refl xs
  alike_prev (Some p) q xs = alike_change (same_node_ref p) (λ n. record n { prev = q }) (λ n. refl) xs

  pub alike_joined : (b a : Option NodeRef) (xs : List (PlacedNode T)) → Alike xs (joined b a xs)
  alike_joined b a xs = alike_trans xs (with_next b a xs) (joined b a xs) (alike_next b a xs)
      (alike_prev a b (with_next b a xs))

  pub alike_length : (xs ys : List (PlacedNode T)) → Alike xs ys → length xs ≡ length ys
  alike_length [] [] h = refl
  alike_length [] (y ∷ ys) h = absurd h
  alike_length (x ∷ xs) [] h = absurd h
  alike_length (x ∷ xs) (y ∷ ys) h = ap suc (alike_length xs ys h.2)

  pub alike_values : (xs ys : List (PlacedNode T)) → Alike xs ys → values xs ≡ values ys
  alike_values [] [] h = refl
  alike_values [] (y ∷ ys) h = absurd h
  alike_values (x ∷ xs) [] h = absurd h
  alike_values (x ∷ xs) (y ∷ ys) h = λ i. cons_option (h.1 i) (alike_values xs ys h.2 i)

  pub alike_full : (xs ys : List (PlacedNode T)) → Alike xs ys → IsFull xs → IsFull ys
  alike_full [] [] h f = tt
  alike_full [] (y ∷ ys) h f = absurd h
  alike_full (x ∷ xs) [] h f = absurd h
  alike_full (x ∷ xs) (y ∷ ys) h f = (subst IsSome h.1 f.0, alike_full xs ys h.2 f.1)

  pub alike_first : (xs ys : List (PlacedNode T)) (a : Option NodeRef) → Alike xs ys → first_or xs a ≡ first_or ys a
  alike_first [] [] a h = refl
  alike_first [] (y ∷ ys) a h = absurd h
  alike_first (x ∷ xs) [] a h = absurd h
  alike_first (x ∷ xs) (y ∷ ys) a h = λ i. Some (record { ptr = h.0 i })

  pub alike_last : (b : Option NodeRef) (xs ys : List (PlacedNode T)) → Alike xs ys → last_or b xs ≡ last_or b ys
  alike_last b [] [] h = refl
  alike_last b [] (y ∷ ys) h = absurd h
  alike_last b (x ∷ xs) [] h = absurd h
  alike_last b (x ∷ xs) (y ∷ ys) h = (λ i. last_or (Some (record { ptr = h.0 i })) xs)
      ∙ alike_last (Some (node_ref_of y)) xs ys h.2

  pub alike_drop : (n : ℕ) (xs ys : List (PlacedNode T)) → Alike xs ys → Alike (drop n xs) (drop n ys)
  alike_drop zero xs ys h = h
  alike_drop (suc n) [] [] h = tt
  alike_drop (suc n) [] (y ∷ ys) h = absurd h
  alike_drop (suc n) (x ∷ xs) [] h = absurd h
  alike_drop (suc n) (x ∷ xs) (y ∷ ys) h = alike_drop n xs ys h.2

  alike_absent : (test : Ptr → Bool) (xs ys : List (PlacedNode T)) → Alike xs ys → Absent test xs → Absent test ys
  alike_absent test [] [] h f = refl
  alike_absent test [] (y ∷ ys) h f = absurd h
  alike_absent test (x ∷ xs) [] h f = absurd h
  alike_absent test (x ∷ xs) (y ∷ ys) h f =
      absent_cons test y ys (ap test (sym h.0) ∙ absent_head test x xs f)
      (alike_absent test xs ys h.2 (absent_tail test x xs f))

  pub alike_apart : (xs ys : List (PlacedNode T)) → Alike xs ys → IsApart xs → IsApart ys
  alike_apart [] [] h f = tt
  alike_apart [] (y ∷ ys) h f = absurd h
  alike_apart (x ∷ xs) [] h f = absurd h
  alike_apart (x ∷ xs) (y ∷ ys) h f = (
    subst (λ p. Absent (same_ptr p) ys) h.0
        (alike_absent (same_ptr x.0) xs ys h.2 f.0),
    alike_apart xs ys h.2 f.1,
  )

  -- ---- two chains become one
  pub ends : (xs : List (PlacedNode T)) → (xs ≡ [])
      ⊎ ((us : List (PlacedNode T)) × (l : PlacedNode T) × (xs ≡ us ++ l ∷ []))
  ends [] = inl refl
  ends (x ∷ xs) = elim (ends xs) [
    | inl e ↦ inr ([], x, ap (λ l. x ∷ l) e)
    | inr h ↦ inr
        (x ∷ h.0, h.1, ap (λ l. x ∷ l) h.2)
  ]

  -- the nodes xs before a gap, of which the last now leads on to q
  record Aimed (b q : Option NodeRef) (xs ys : List (PlacedNode T)) : Type 0 where
    aimed : List (PlacedNode T)
    next_is : with_next (last_or None xs) q (xs ++ ys) ≡ aimed ++ ys
    links : IsLinked b aimed q
    same_last : last_or None aimed ≡ last_or None xs

  aim_last : (b a q : Option NodeRef) (us : List (PlacedNode T)) (l : PlacedNode T) (ys : List (PlacedNode T))
      → IsApart ((us ++ l ∷ []) ++ ys) → IsLinked b (us ++ l ∷ []) a → Aimed b q (us ++ l ∷ []) ys
  aim_last b a q us l ys apart h =
      let m : PlacedNode T = (l.0, record l.1 { next = q }) in let o = linked_out b us (l ∷ []) a h in
      let flat = append_assoc us (l ∷ []) ys in
      let at = last_or-append None us (l ∷ []) in
      record {
        aimed = us ++ m ∷ [];
        next_is = (λ i. with_next (at i) q (flat i)) ∙ change_cut (same_ptr l.0) l ys (same_ptr_refl l.0)
            (λ n. record n { next = q }) us (apart_before us l ys (subst IsApart flat apart))
            ∙ sym (append_assoc us (m ∷ []) ys);
        links = linked_in b us (m ∷ []) q o.0 (o.1.0, refl, tt);
        same_last = last_or-append None us (m ∷ []) ∙ sym at;
      }

  aim_next : (b a q : Option NodeRef) (xs ys : List (PlacedNode T)) → IsApart (xs ++ ys) → IsLinked b xs a
      → Aimed b q xs ys
  aim_next b a q xs ys apart h = elim (ends xs) [
    | inl e ↦ subst (λ l. Aimed b q l ys) (sym e) (record { aimed = []; next_is = refl; links = tt; same_last = refl })
    | inr f ↦ subst (λ l. Aimed b q l ys) (sym f.2)
        (aim_last b a q f.0 f.1 ys (subst (λ l. IsApart (l ++ ys)) f.2 apart) (subst (λ l. IsLinked b l a) f.2 h))
  ]

  -- the nodes ys after a gap, of which the first now leads back to p
  aim_prev : (b a p : Option NodeRef) (xs ys : List (PlacedNode T)) → IsApart (xs ++ ys) → IsLinked b ys a
      → (zs : List (PlacedNode T)) × (with_prev (first_or ys None) p (xs ++ ys) ≡ xs ++ zs) × IsLinked p zs a
      × (first_or zs None ≡ first_or ys None)
  aim_prev b a p xs [] apart h = ([], refl, tt, refl)
  aim_prev b a p xs (r ∷ rs) apart h = (
    (r.0, record r.1 { prev = p }) ∷ rs,
    change_cut (same_ptr r.0) r rs (same_ptr_refl r.0)
        (λ n. record n { prev = p }) xs (apart_before xs r rs apart),
    (refl, h.1, h.2),
    refl,
  )

  pub joined_linked : (b a : Option NodeRef) (xs ys : List (PlacedNode T)) → IsApart (xs ++ ys) → IsLinked None xs a
      → IsLinked b ys None → IsLinked None (joined (last_or None xs) (first_or ys None) (xs ++ ys)) None
  joined_linked b a xs ys apart g h =
      let p = last_or None xs in let q = first_or ys None in let f = aim_next None a q xs ys apart g in
      let still = subst IsApart f.next_is (alike_apart (xs ++ ys) (with_next p q (xs ++ ys))
      (alike_next p q (xs ++ ys)) apart) in
      let s = aim_prev b None p f.aimed ys still h in
      subst (λ l. IsLinked None l None) (sym (ap (with_prev q p) f.next_is ∙ s.1))
      (linked_in None f.aimed s.0 None (subst (λ o. IsLinked None f.aimed o) (sym s.3) f.links)
      (subst (λ o. IsLinked o s.0 None) (sym f.same_last) s.2))

  -- a reference stays one where a node lies
  pub still_placed : (o p q : Option NodeRef) (xs : List (PlacedNode T)) → MatchOption o ⊤ (IsNodeRef xs)
      → MatchOption o ⊤ (IsNodeRef (with_next p q xs))
  still_placed None p q xs h = h
  still_placed (Some o) None q xs h = h
  still_placed (Some o) (Some p) q xs h = found_changed (same_node_ref o) (same_node_ref p)
      (λ n. record n { next = q }) xs h.0 h.1
