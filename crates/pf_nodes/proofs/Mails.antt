-- A list gains a node at its end, and loses the one at its mark.
use Rattle.std.proofs.Common.{◌≡◌, ℕ, suc, ◌+◌, ◌-◌, ◌<◌, List, [], ◌∷◌, ◌++◌, length, take, drop, refl, sym, ap, ◌∙◌}
use Rattle.std.proofs.Common.{subst, Option, Some, None, IsSome, inl, inr, append_assoc, append-nil, arith}
use Rattle.std.proofs.lemmas.List.{length-append, length-take, length-drop, take-append-drop, drop-append-le}
use Rattle.std.proofs.lemmas.List.Elements.{filter_map-append}
use Rattle.std.proofs.Math.Seq.{take-append_seam, drop-append_seam, drop-append-add}
use Rattle.std.specs.Prelude.{MatchOption, ⊤, remove, slice_get}
use Rattle.std.specs.List.{cons_option}
use Rattle.std.specs.Option.{option_or, option_and}
use Rattle.std.specs.Map.{lookup, remove_entry}
use Rattle.pf_nodes.specs.NodeRefs.{same_ptr, same_node_ref, IsNodeRef}
use Rattle.pf_nodes.specs.Nodes.{PlacedNode, node_ref_of, IsApart, first_or, last_or, IsLinked, IsFull, values, IsMail}
use Rattle.pf_nodes.specs.Links.{joined}
use Rattle.pf_nodes.specs.declared.raw.NodeRef.{NodeRef}
use Rattle.pf_nodes.specs.declared.raw.ListNode.{ListNode}
use Rattle.pf_nodes.proofs.Cuts.{Absent, some_none, apart_push, apart_without, lookup_at, remove_at}
use Rattle.pf_nodes.proofs.Chains.{ends, first_or-append, last_or-append, linked_out, alike_joined, alike_length}
use Rattle.pf_nodes.proofs.Chains.{alike_values, alike_full, alike_first, alike_last, alike_drop, alike_apart}
use Rattle.pf_nodes.proofs.Chains.{joined_linked}

module _ {X : Type 0} where
  slice_get_seam : (xs : List X) (v : X) (ys : List X) → slice_get (xs ++ v ∷ ys) (length xs) ≡ Some v
  slice_get_seam [] v ys = refl
  slice_get_seam (x ∷ xs) v ys = slice_get_seam xs v ys

  remove_seam : (xs : List X) (v : X) (ys : List X) → remove (xs ++ v ∷ ys) (length xs) ≡ xs ++ ys
  remove_seam xs v ys =
      let after : drop (suc (length xs)) (xs ++ v ∷ ys) ≡ ys = (λ i. drop (one i) (xs ++ v ∷ ys))
      ∙ drop-append-add xs (v ∷ ys) 1 in
      λ i. take-append_seam xs (v ∷ ys) i ++ after i where
        one : suc (length xs) ≡ length xs + 1
        one = omega arith

module _ {T : Type 0} where
  full_out : (xs ys : List (PlacedNode T)) → IsFull (xs ++ ys) → IsFull xs × IsFull ys
  full_out [] ys h = (tt, h)
  full_out (x ∷ xs) ys h = let on = full_out xs ys h.1 in ((h.0, on.0), on.1)

  full_in : (xs ys : List (PlacedNode T)) → IsFull xs → IsFull ys → IsFull (xs ++ ys)
  full_in [] ys g h = h
  full_in (x ∷ xs) ys g h = (g.0, full_in xs ys g.1 h)

  one_more : (o : Option T) (vs : List T) → IsSome o → length (cons_option o vs) ≡ suc (length vs)
  one_more None vs h = absurd cc
  one_more (Some v) vs h = refl

  pub length-values : (xs : List (PlacedNode T)) → IsFull xs → length (values xs) ≡ length xs
  length-values [] h = refl
  length-values (x ∷ xs) h = one_more x.1.value (values xs) h.0 ∙ ap suc (length-values xs h.1)

  value_of : (o : Option T) → IsSome o → (v : T) × (o ≡ Some v)
  value_of None h = absurd cc
  value_of (Some v) h = (v, refl)

  -- somewhere there is a last node
  last_some : (p : NodeRef) (xs : List (PlacedNode T)) → (q : NodeRef) × (last_or (Some p) xs ≡ Some q)
  last_some p [] = (p, refl)
  last_some p (x ∷ xs) = last_some (node_ref_of x) xs

  -- ---- the node at the mark
  pub record Cut (ns : List (PlacedNode T)) (node_ref : NodeRef) (position : ℕ) : Type 0 where
    pub before : List (PlacedNode T)
    pub node : ListNode T
    pub after : List (PlacedNode T)
    pub cut : ns ≡ before ++ (node_ref.ptr, node) ∷ after
    pub index : length before ≡ position

  first_is : (ds : List (PlacedNode T)) (node_ref : NodeRef) → Some node_ref ≡ first_or ds None
      → (n : ListNode T) × (ys : List (PlacedNode T)) × (ds ≡ (node_ref.ptr, n) ∷ ys)
  first_is [] node_ref e = some_none node_ref e
  first_is (d ∷ ds) node_ref e = let same : node_ref ≡ node_ref_of d = cc in
      (d.1, ds, λ i. ((sym same i).ptr, d.1) ∷ ds)

  module _ {ns : List (PlacedNode T)} {front back at : Option NodeRef} {position count : ℕ}
      (h : IsMail ns front back at position count) where
    pub no_more : at ≡ None → position ≡ length ns
    no_more none =
        let ds = drop position ns in let e = sym (take-append-drop position ns) in let within = h.within in
        let empty : (l : List (PlacedNode T)) → None ≡ first_or l None
        → l ≡ [] = λ l. elim l as (λ l. None ≡ first_or l None → l ≡ []) [
          | [] ↦ λ g. refl
          | d ∷ ds ↦ λ g.
              some_none (node_ref_of d) (sym g)
        ] in
        let gone = ap length (empty ds (sym none ∙ h.at_is)) in
        omega (arith, length-drop position ns, gone)

    module _ (node_ref : NodeRef) (is : at ≡ Some node_ref) where
      pub at_cut : Cut ns node_ref position
      at_cut =
          let f = first_is (drop position ns) node_ref (sym is ∙ h.at_is) in let within = h.within in
          record {
            before = take position ns;
            node = f.0;
            after = f.1;
            cut = sym (take-append-drop position ns) ∙ ap (λ l. take position ns ++ l) f.2;
            index = omega (arith, length-take position ns);
          }

      found : lookup (same_node_ref node_ref) ns ≡ Some at_cut.node
      found = let t = at_cut in ap (lookup (same_node_ref node_ref)) t.cut ∙ lookup_at t.before (node_ref.ptr, t.node)
          t.after (subst IsApart t.cut h.apart)

      pub mail_found : IsNodeRef ns node_ref
      mail_found = (at_cut.node, found)

      -- what is left when the node is gone, and its neighbors are joined
      pub record Left (n : ListNode T) (rest : List (PlacedNode T)) : Type 0 where
        pub prev_there : MatchOption n.prev ⊤ (IsNodeRef rest)
        pub next_there : MatchOption n.next ⊤ (IsNodeRef rest)
        pub left : IsMail (joined n.prev n.next rest) (option_or (option_and n.prev front) n.next)
            (option_or (option_and n.next back) n.prev) n.next position (count - 1)
        pub item : slice_get (values ns) position ≡ n.value
        pub others : values (joined n.prev n.next rest) ≡ remove (values ns) position

  -- ---- the nodes xs and ys, without the node between them
  module _ (xs : List (PlacedNode T)) (e : PlacedNode T) (ys : List (PlacedNode T)) where
    new_front : option_or (option_and (last_or None xs) (first_or (xs ++ e ∷ ys) None)) (first_or ys None)
        ≡ first_or (xs ++ ys) None
    new_front = elim xs as (λ l. option_or (option_and (last_or None l) (first_or (l ++ e ∷ ys) None))
        (first_or ys None) ≡ first_or (l ++ ys) None) [
          | [] ↦ refl
          | x ∷ l ↦ ap (λ o. option_or (option_and o (Some (node_ref_of x))) (first_or ys None))
              (last_some (node_ref_of x) l).1
        ]

    new_back : option_or (option_and (first_or ys None) (last_or None (xs ++ e ∷ ys))) (last_or None xs)
        ≡ last_or None (xs ++ ys)
    new_back = elim ys as (λ l. option_or (option_and (first_or l None) (last_or None (xs ++ e ∷ l))) (last_or None xs)
        ≡ last_or None (xs ++ l)) [
          | [] ↦ ap (last_or None) (sym (append-nil xs))
          | r ∷ l ↦
              let q = last_some (node_ref_of r) l in
              ap (λ o. option_or o (last_or None xs)) (last_or-append None xs (e ∷ r ∷ l) ∙ q.1)
              ∙ sym (last_or-append None xs (r ∷ l) ∙ q.1)
        ]

    prev_placed : IsApart (xs ++ ys) → MatchOption (last_or None xs) ⊤ (IsNodeRef (xs ++ ys))
    prev_placed apart = elim (ends xs) [
      | inl f ↦ subst (λ l. MatchOption (last_or None l) ⊤ (IsNodeRef (xs ++ ys))) (sym f) tt
      | inr f ↦
          let u = f.0 in let l = f.1 in let flat = ap (λ z. z ++ ys) f.2 ∙ append_assoc u (l ∷ []) ys in
          subst (λ o. MatchOption o ⊤ (IsNodeRef (xs ++ ys)))
          (sym (ap (last_or None) f.2 ∙ last_or-append None u (l ∷ [])))
          (l.1, ap (lookup (same_ptr l.0)) flat ∙ lookup_at u l ys (subst IsApart flat apart))
    ]

    next_placed : IsApart (xs ++ ys) → MatchOption (first_or ys None) ⊤ (IsNodeRef (xs ++ ys))
    next_placed = elim ys as (λ l. IsApart (xs ++ l) → MatchOption (first_or l None) ⊤ (IsNodeRef (xs ++ l)))
        [ [] ↦ λ apart. tt | r ∷ l ↦ λ apart. (r.1, lookup_at xs r l apart) ]

    values_cut : IsFull (xs ++ e ∷ ys) → (v : T) × (e.1.value ≡ Some v)
        × (values (xs ++ e ∷ ys) ≡ values xs ++ v ∷ values ys)
    values_cut full =
        let v = value_of e.1.value (full_out xs (e ∷ ys) full).1.0 in (
          v.0,
          v.1,
          filter_map-append (λ (d : PlacedNode T). d.1.value) xs (e ∷ ys)
              ∙ ap (λ o. values xs ++ cons_option o (values ys)) v.1,
        )

  module _ {ns : List (PlacedNode T)} {front back at : Option NodeRef} {position count : ℕ}
      (h : IsMail ns front back at position count) (node_ref : NodeRef) (is : at ≡ Some node_ref) where
    abbrev t : Cut ns node_ref position
    t = at_cut h node_ref is

    abbrev e : PlacedNode T
    e = (node_ref.ptr, t.node)

    abbrev rest' : List (PlacedNode T)
    rest' = t.before ++ t.after

    apart : IsApart (t.before ++ e ∷ t.after)
    apart = subst IsApart t.cut h.apart

    still_apart : IsApart rest'
    still_apart = apart_without t.before e t.after apart

    full : IsFull (t.before ++ e ∷ t.after)
    full = subst IsFull t.cut h.full

    links : IsLinked None t.before (Some node_ref)
        × ((t.node.prev ≡ last_or None t.before) × (t.node.next ≡ first_or t.after None)
        × IsLinked (Some node_ref) t.after None)
    links = linked_out None t.before (e ∷ t.after) None (subst (λ l. IsLinked None l None) t.cut h.linked)

    abbrev Kept : Option NodeRef → Option NodeRef → Type 0
    Kept b a = IsMail (joined b a rest') (option_or (option_and b front) a) (option_or (option_and a back) b) a
        position (count - 1)

    kept : Kept (last_or None t.before) (first_or t.after None)
    kept =
        let b = last_or None t.before in let a = first_or t.after None in let new = joined b a rest' in
        let k = alike_joined b a rest' in
        let f = full_out t.before (e ∷ t.after) full in let long = alike_length rest' new k in let index = t.index in
        let len = h.count_is in let cut = ap length t.cut in
        record {
          apart = alike_apart rest' new k still_apart;
          linked = joined_linked (Some node_ref) (Some node_ref) t.before t.after still_apart links.0 links.1.2;
          full = alike_full rest' new k (full_in t.before t.after f.0 f.1.1);
          front_is = ap (λ o. option_or (option_and b o) a) (h.front_is ∙ ap (λ l. first_or l None) t.cut)
              ∙ new_front t.before e t.after ∙ alike_first rest' new None k;
          back_is = ap (λ o. option_or (option_and a o) b) (h.back_is ∙ ap (last_or None) t.cut)
              ∙ new_back t.before e t.after ∙ alike_last None rest' new k;
          at_is = ap (λ l. first_or l None) (sym (drop-append_seam t.before t.after) ∙ ap (λ i. drop i rest') index)
              ∙ alike_first (drop position rest') (drop position new) None (alike_drop position rest' new k);
          within = omega (arith, length-append t.before t.after);
          count_is = omega (arith, length-append t.before t.after, length-append t.before (e ∷ t.after));
        }

    left' : Left h node_ref is t.node rest'
    left' =
        let l = links.1 in let f = full_out t.before (e ∷ t.after) full in let v = values_cut t.before e t.after full in
        let seen = ap values t.cut ∙ v.2 in let index = sym (length-values t.before f.0 ∙ t.index) in
        record {
          prev_there = subst (λ o. MatchOption o ⊤ (IsNodeRef rest')) (sym l.0)
              (prev_placed t.before e t.after still_apart);
          next_there = subst (λ o. MatchOption o ⊤ (IsNodeRef rest')) (sym l.1)
              (next_placed t.before e t.after still_apart);
          left = subst (λ (x : Option NodeRef × Option NodeRef). Kept x.0 x.1) (λ i. (sym l.0 i, sym l.1 i)) kept;
          item = (λ i. slice_get (seen i) (index i)) ∙ slice_get_seam (values t.before) v.0 (values t.after) ∙ sym v.1;
          others = sym (alike_values rest' (joined t.node.prev t.node.next rest')
              (alike_joined t.node.prev t.node.next rest')) ∙ filter_map-append (λ (d : PlacedNode T). d.1.value)
              t.before t.after
              ∙ sym ((λ i. remove (seen i) (index i)) ∙ remove_seam (values t.before) v.0 (values t.after));
        }

    pub mail_cut : (n : ListNode T) (rest : List (PlacedNode T)) → lookup (same_node_ref node_ref) ns ≡ Some n
        → rest ≡ remove_entry (same_node_ref node_ref) ns → Left h node_ref is n rest
    mail_cut n rest there gone =
        let same : t.node ≡ n = some_is (sym (found h node_ref is) ∙ there) in
        let shut : rest' ≡ rest = sym (gone ∙ ap (remove_entry (same_node_ref node_ref)) t.cut
        ∙ remove_at t.before e t.after apart) in
        subst (λ (x : ListNode T × List (PlacedNode T)). Left h node_ref is x.0 x.1) (λ i. (same i, shut i)) left' where
          some_is : {x y : ListNode T} → Some x ≡ Some y → x ≡ y
          some_is p = cc

  -- ---- a node at the end
  or_first : (ds : List (PlacedNode T)) (o : Option NodeRef) → option_or (first_or ds None) o ≡ first_or ds o
  or_first [] o = refl
  or_first (d ∷ ds) o = refl

  module _ {ns : List (PlacedNode T)} {front back at : Option NodeRef} {position count : ℕ}
      (h : IsMail ns front back at position count) (node_ref : NodeRef) (n : ListNode T)
      (fresh : Absent (same_node_ref node_ref) ns) where
    abbrev added : PlacedNode T
    added = (node_ref.ptr, n)

    abbrev more : List (PlacedNode T)
    more = ns ++ added ∷ []

    together : IsApart more
    together = apart_push ns added h.apart fresh

    pub last_placed : MatchOption back ⊤ (IsNodeRef more)
    last_placed = subst (λ o. MatchOption o ⊤ (IsNodeRef more)) (sym h.back_is)
        (prev_placed ns added (added ∷ []) together)

    pub new_placed : IsNodeRef more node_ref
    new_placed = (n, lookup_at ns added [] together)

    pub mail_pushed : (v : T) → n.next ≡ None → n.value ≡ Some v
        → IsMail (joined back (Some node_ref) more) (option_or front (Some node_ref)) (Some node_ref)
        (option_or at (Some node_ref)) position (count + 1)
        × (values (joined back (Some node_ref) more) ≡ values ns ++ v ∷ [])
    mail_pushed v none some =
        let new = joined back (Some node_ref) more in let k = alike_joined back (Some node_ref) more in
        let long = alike_length more new k in let within = h.within in let len = h.count_is in
        let have = subst IsSome (sym some) refl in (
          record {
            apart = alike_apart more new k together;
            linked = subst (λ o. IsLinked None (joined o (Some node_ref) more) None) (sym h.back_is)
                (joined_linked n.prev None ns (added ∷ []) together h.linked (refl, none, tt));
            full = alike_full more new k (full_in ns (added ∷ []) h.full (have, tt));
            front_is = ap (λ o. option_or o (Some node_ref)) h.front_is ∙ or_first ns (Some node_ref)
                ∙ sym (first_or-append ns (added ∷ []) None) ∙ alike_first more new None k;
            back_is = sym (last_or-append None ns (added ∷ [])) ∙ alike_last None more new k;
            at_is = ap (λ o. option_or o (Some node_ref)) h.at_is ∙ or_first (drop position ns) (Some node_ref)
                ∙ sym (first_or-append (drop position ns) (added ∷ []) None)
                ∙ ap (λ l. first_or l None) (sym (drop-append-le position ns (added ∷ []) within))
                ∙ alike_first (drop position more) (drop position new) None (alike_drop position more new k);
            within = omega (arith, length-append ns (added ∷ []));
            count_is = omega (arith, length-append ns (added ∷ []));
          },
          sym (alike_values more new k) ∙ filter_map-append (λ (d : PlacedNode T). d.1.value) ns (added ∷ [])
              ∙ ap (λ o. values ns ++ cons_option o []) some,
        )

  -- what is left, where the code names its parts
  pub mail_left : {ns : List (PlacedNode T)} {front back at : Option NodeRef} {position count : ℕ}
      (h : IsMail ns front back at position count) (node_ref : NodeRef) (is : at ≡ Some node_ref) (n : ListNode T)
      (rest : List (PlacedNode T))
      → Left h node_ref is n rest → (items : List (PlacedNode T)) (front' back' prev next : Option NodeRef)
      → prev ≡ n.prev → next ≡ n.next → items ≡ joined prev next rest
      → front' ≡ option_or (option_and prev front) next → back' ≡ option_or (option_and next back) prev
      → IsMail items front' back' next position (count - 1) × (values items ≡ remove (values ns) position)
  mail_left {ns = ns} {front = front} {back = back} {position = position} {count = count} h node_ref is n rest l items
      front' back' prev next prev_is next_is items_is front_is back_is =
      let same = items_is ∙ (λ i. joined (prev_is i) (next_is i) rest) in
      let first = front_is ∙ (λ i. option_or (option_and (prev_is i) front) (next_is i)) in
      let last = back_is ∙ (λ i. option_or (option_and (next_is i) back) (prev_is i)) in (
        subst (λ (x : List (PlacedNode T) × Option NodeRef × Option NodeRef × Option NodeRef).
            IsMail x.0 x.1 x.2 x.3 position (count - 1))
            (λ i. (sym same i, sym first i, sym last i, sym next_is i)) l.left,
        ap values same ∙ l.others,
      )

  -- what a list becomes, where the code names its parts
  pub mail_added : {ns : List (PlacedNode T)} {front back at : Option NodeRef} {position count : ℕ}
      (h : IsMail ns front back at position count) (node_ref : NodeRef) (n : ListNode T)
      → Absent (same_node_ref node_ref) ns
      → (v : T) → n.next ≡ None → n.value ≡ Some v → (rest items : List (PlacedNode T)) (front' at' : Option NodeRef)
      → rest ≡ ns ++ (node_ref.ptr, n) ∷ [] → items ≡ joined back (Some node_ref) rest
      → front' ≡ option_or front (Some node_ref) → at' ≡ option_or at (Some node_ref)
      → IsMail items front' (Some node_ref) at' position (count + 1) × (values items ≡ values ns ++ v ∷ [])
  mail_added {ns = ns} {front = front} {back = back} {at = at} {position = position} {count = count} h node_ref n fresh
      v none some rest items front' at' rest_is items_is front_is at_is =
      let l = mail_pushed h node_ref n fresh v none some in
      let same = items_is ∙ ap (joined back (Some node_ref)) rest_is in (
        subst (λ (x : List (PlacedNode T) × Option NodeRef × Option NodeRef).
            IsMail x.0 x.1 (Some node_ref) x.2 position (count + 1))
            (λ i. (sym same i, sym front_is i, sym at_is i)) l.0,
        ap values same ∙ l.1,
      )

  -- the mark may move past the node that is there
  pub mail_stepped : {ns : List (PlacedNode T)} {front back at : Option NodeRef} {position count : ℕ}
      (h : IsMail ns front back at position count) (node_ref : NodeRef) (is : at ≡ Some node_ref) (n : ListNode T)
      → lookup (same_node_ref node_ref) ns ≡ Some n
      → IsMail ns front back n.next (position + 1) count × (position < length ns)
      × ((v : T) × (n.value ≡ Some v) × (slice_get (values ns) position ≡ Some v))
  mail_stepped {ns = ns} {position = position} h node_ref is n there =
      let t = at_cut h node_ref is in let e : PlacedNode T = (node_ref.ptr, t.node) in
      let same : t.node ≡ n = some_is (sym (found h node_ref is) ∙ there) in
      let links = linked_out None t.before (e ∷ t.after) None (subst (λ l. IsLinked None l None) t.cut h.linked) in
      let full = subst IsFull t.cut h.full in let v = values_cut t.before e t.after full in
      let index = sym (length-values t.before (full_out t.before (e ∷ t.after) full).0 ∙ t.index) in
      let cut = ap length t.cut in let at = t.index in let more = length-append t.before (e ∷ t.after) in
      let past : drop (position + 1) ns ≡ t.after = (λ i. drop (sym at i + 1) (t.cut i)) ∙ drop-append-add t.before
      (e ∷ t.after) 1 in (
        record {
          apart = h.apart;
          linked = h.linked;
          full = h.full;
          front_is = h.front_is;
          back_is = h.back_is;
          at_is = sym (ap (λ m. m.next) same) ∙ links.1.1 ∙ ap (λ l. first_or l None) (sym past);
          within = omega (arith, cut, at, more);
          count_is = h.count_is;
        },
        omega (arith, cut, at, more),
        (
          v.0,
          sym (ap (λ m. m.value) same) ∙ v.1,
          (λ i. slice_get ((ap values t.cut ∙ v.2) i) (index i))
              ∙ slice_get_seam (values t.before) v.0 (values t.after),
        ),
      ) where
        some_is : {x y : ListNode T} → Some x ≡ Some y → x ≡ y
        some_is p = cc

  pub no_nodes : (ns : List (PlacedNode T)) → IsFull ns → length (values ns) ≡ 0 → ns ≡ []
  no_nodes [] full e = refl
  no_nodes (n ∷ ns) full e = let some = length-values (n ∷ ns) full in absurd (omega (arith, e, some))
