-- Each step keeps the order.
use Rattle.std.proofs.Common.{◌≡◌, ◌≢◌, ◌⊎◌, ℕ, zero, suc, ◌+◌, List, [], ◌∷◌, ◌++◌, length, set, drop, Bool, true}
use Rattle.std.proofs.Common.{false, true≢false, Option, Some, None, is_some, unwrap_or, inl, inr, refl, sym, ap, ◌∙◌}
use Rattle.std.proofs.Common.{subst, ⊎_elim, append_assoc, append-nil, arith}
use mathlib.Core.Option.{some, some-ne-none, some-injective}
use lib.ListN.{get_elem?}
use Rattle.crossbeam_deque.specs.Tasks.{Pushes, Takes, Forks, Merges, Finds, Learns}
use Rattle.crossbeam_deque.proofs.Lists.{at_set, at_snoc}
use Rattle.pf_farm_accounts.specs.declared.deque_part.HolderPart.{HolderPart}
use Rattle.pf_farm_accounts.specs.DequeParts.{IsDealt, marks, entries, first_part, no_part, thief_part, owner_part}
use Rattle.pf_farm_accounts.specs.DequeParts.{both_parts, HasPushed, HasPopped, FindsNothing, HasStolen, IsSpent, Knows}
use Rattle.pf_farm_accounts.specs.DequeParts.{IsInOrder}

abbrev is_cons : {X : Type 0} → List X → Bool
is_cons [] = false
is_cons (x ∷ xs) = true

module _ {T : Type 0} where
  -- ---- what is dealt

  dealt_left : (x : T) (items left right : List T) → IsDealt items left right
      → IsDealt (items ++ x ∷ []) (left ++ x ∷ []) right
  dealt_left x [] left right h = inl ([], ap (λ l. l ++ x ∷ []) h.0, (refl, h.1))
  dealt_left x (y ∷ items) left right h = ⊎_elim
      (λ (a : (rest : List T) × (left ≡ y ∷ rest) × IsDealt items rest right).
      inl (a.0 ++ x ∷ [], ap (λ l. l ++ x ∷ []) a.1, dealt_left x items a.0 right a.2))
      (λ (b : (rest : List T) × (right ≡ y ∷ rest) × IsDealt items left rest).
      inr (b.0, b.1, dealt_left x items left b.0 b.2)) h

  dealt_right : (x : T) (items left right : List T) → IsDealt items left right
      → IsDealt (items ++ x ∷ []) left (right ++ x ∷ [])
  dealt_right x [] left right h = inr ([], ap (λ l. l ++ x ∷ []) h.1, (h.0, refl))
  dealt_right x (y ∷ items) left right h = ⊎_elim
      (λ (a : (rest : List T) × (left ≡ y ∷ rest) × IsDealt items rest right).
      inl (a.0, a.1, dealt_right x items a.0 right a.2))
      (λ (b : (rest : List T) × (right ≡ y ∷ rest) × IsDealt items left rest).
      inr (b.0 ++ x ∷ [], ap (λ l. l ++ x ∷ []) b.1, dealt_right x items left b.0 b.2)) h

  pub dealt_length : (items left right : List T) → IsDealt items left right → length left + length right ≡ length items
  dealt_length [] left right h = omega (arith, ap length h.0, ap length h.1)
  dealt_length (y ∷ items) left right h = ⊎_elim
      (λ (a : (rest : List T) × (left ≡ y ∷ rest) × IsDealt items rest right).
      omega (arith, ap length a.1, dealt_length items a.0 right a.2))
      (λ (b : (rest : List T) × (right ≡ y ∷ rest) × IsDealt items left rest).
      omega (arith, ap length b.1, dealt_length items left b.0 b.2)) h

  -- ---- entries

  abbrev first : List (Option T) → Option T
  first [] = None
  first (e ∷ es) = e

  push_item : (x : T) (held : List T) → entries held 0 ++ Some x ∷ [] ≡ entries (held ++ x ∷ []) 0
  push_item x [] = refl
  push_item x (y ∷ held) = ap (λ l. Some y ∷ l) (push_item x held)

  push_mark : (held : List T) (n : ℕ) → entries held n ++ None ∷ [] ≡ entries held (suc n)
  push_mark [] zero = refl
  push_mark [] (suc n) = ap (λ l. None ∷ l) (push_mark [] n)
  push_mark (y ∷ held) n = ap (λ l. Some y ∷ l) (push_mark held n)

  front_mark : (items : List (Option T)) (held : List T) (count : ℕ) → None ∷ items ≡ entries held count
      → (n : ℕ) × (held ≡ []) × (count ≡ suc n) × (items ≡ marks n)
  front_mark items [] zero e = absurd (true≢false (ap is_cons e))
  front_mark items [] (suc n) e = (n, refl, refl, ap (λ l. drop 1 l) e)
  front_mark items (x ∷ held) count e = absurd (true≢false (sym (ap (λ l. is_some (first l)) e)))

  front_item : (x : T) (items : List (Option T)) (held : List T) (count : ℕ) → Some x ∷ items ≡ entries held count
      → (rest : List T) × (held ≡ x ∷ rest) × (items ≡ entries rest count)
  front_item x items [] zero e = absurd (true≢false (ap is_cons e))
  front_item x items [] (suc n) e = absurd (true≢false (ap (λ l. is_some (first l)) e))
  front_item x items (y ∷ held) count e = (held, ap (λ l. unwrap_or (first l) y ∷ held) (sym e), ap (λ l. drop 1 l) e)

  -- ---- holders

  at_end : (l : List (HolderPart T)) (a b : HolderPart T) (j : ℕ) → get_elem? l j ≢ some b
      → get_elem? (l ++ a ∷ []) j ≡ some b → j ≡ length l
  at_end [] a b zero n e = refl
  at_end [] a b (suc j) n e = absurd (some-ne-none b (sym e))
  at_end (x ∷ xs) a b zero n e = absurd (n e)
  at_end (x ∷ xs) a b (suc j) n e = ap suc (at_end xs a b j n e)

  abbrev Each : (ℕ → HolderPart T → Type 0) → List (HolderPart T) → Type 0
  Each F holders = (holder : ℕ) (v : HolderPart T) → get_elem? holders holder ≡ some v → F holder v

  each_set : (F : ℕ → HolderPart T → Type 0) (holders : List (HolderPart T)) (holder : ℕ) (w : HolderPart T)
      → F holder w → ((j : ℕ) (u : HolderPart T) → j ≢ holder → get_elem? holders j ≡ some u → F j u)
      → Each F (set holders holder w)
  each_set F holders holder w mine others j u e =
      ⊎_elim (λ (x : (j ≡ holder) × (w ≡ u)). subst (λ (y : ℕ × HolderPart T). F y.0 y.1)
      (λ i. (sym x.0 i, x.1 i)) mine)
      (λ (x : (j ≢ holder) × (get_elem? holders j ≡ some u)). others j u x.0 x.1) (at_set holders holder j w u e)

  pub begins : IsInOrder {T = T} [] (first_part ∷ [])
  begins = (0, 0, [], [], [], [], [], 0, refl, refl, (refl, refl), λ holder v e. at_start holder v e)
    where
      at_start : (holder : ℕ) (v : HolderPart T) → get_elem? (first_part ∷ []) holder ≡ some v
          → Knows 0 0 [] [] [] [] 0 holder v
      at_start zero v e = let is = sym (some-injective _ v e) in (
        (λ _. (
          refl,
          ap (λ (u : HolderPart T). u.pushed) is,
          ap (λ (u : HolderPart T). u.popped) is,
          (λ _. refl),
          λ _. refl,
        )),
        λ _. (refl, ap (λ (u : HolderPart T). u.stolen) is),
      )
      at_start (suc holder) v e = absurd (some-ne-none v (sym e))

  -- ---- pushes

  -- the owner pushes an item
  pub pushes : (holder : ℕ) (v : HolderPart T) (x : T) → v.owns ≡ true → v.sealed ≡ false
      → Pushes IsInOrder holder v (Some x ∷ []) (HasPushed v (Some x ∷ []))
  pushes holder v x owns unsealed items holders h at =
      let w : HolderPart T = record v { drained = false; pushed = v.pushed ++ x ∷ [] } in
      let mine = h.11 holder v at in
      let m = mine.0 owns in
      let pushed = h.2 ++ x ∷ [] in
      let held = h.6 ++ x ∷ [] in (
        w,
        (
          h.0,
          h.1,
          pushed,
          h.3,
          h.4,
          h.5,
          held,
          0,
          ap (λ l. l ++ Some x ∷ []) (h.8 ∙ ap (entries h.6) (m.3 unsealed)) ∙ push_item x h.6,
          ap (λ l. l ++ x ∷ []) h.9 ∙ append_assoc h.5 h.6 (x ∷ []),
          h.10,
          each_set (Knows h.0 h.1 pushed h.3 h.4 held 0) holders holder w
              ((λ _. (m.0, ap (λ l. l ++ x ∷ []) m.1, m.2, (λ _. refl), λ k. absurd (true≢false (sym k)))), mine.1)
              (λ j u other e. ((λ k. absurd (other (((h.11 j u e).0 k).0 ∙ sym m.0))), (h.11 j u e).1)),
        ),
        refl,
      )

  -- the owner pushes a mark
  pub seals : (holder : ℕ) (v : HolderPart T) → v.owns ≡ true
      → Pushes IsInOrder holder v (None ∷ []) (HasPushed v (None ∷ []))
  seals holder v owns items holders h at =
      let w : HolderPart T = record v { sealed = true } in
      let mine = h.11 holder v at in
      let m = mine.0 owns in (
        w,
        (
          h.0,
          h.1,
          h.2,
          h.3,
          h.4,
          h.5,
          h.6,
          suc h.7,
          ap (λ l. l ++ None ∷ []) h.8 ∙ push_mark h.6 h.7,
          h.9,
          h.10,
          each_set (Knows h.0 h.1 h.2 h.3 h.4 h.6 (suc h.7)) holders holder w
              ((λ _. (m.0, m.1, m.2, (λ k. absurd (true≢false k)), m.4)), mine.1)
              (λ j u other e. ((λ k. absurd (other (((h.11 j u e).0 k).0 ∙ sym m.0))), (h.11 j u e).1)),
        ),
        refl,
      )

  -- ---- pops

  found_empty : (holder : ℕ) (v : HolderPart T) → v.owns ≡ true
      → (items : List (Option T)) (holders : List (HolderPart T)) (h : IsInOrder items holders)
      → get_elem? holders holder ≡ some v → h.6 ≡ []
      → FindsNothing v
  found_empty holder v owns items holders h at none =
      let mine = h.11 holder v at in
      let m = mine.0 owns in
      let P : List T × List T → Type 0 = λ y. IsDealt y.0 y.1 h.4 in
      let pushed : v.pushed ≡ h.5 = m.1 ∙ h.9 ∙ ap (λ l. h.5 ++ l) none ∙ append-nil h.5 in
      (h.4, subst P (λ i. (sym pushed i, sym m.2 i)) h.10, λ k. sym (mine.1 k).1)

  pub finds : (holder : ℕ) (v : HolderPart T) → v.owns ≡ true → Finds IsInOrder holder v (FindsNothing v)
  finds holder v owns holders h at = found_empty holder v owns [] holders h at (nothing h.6 h.7 h.8)
    where
      nothing : (held : List T) (count : ℕ) → [] ≡ entries held count → held ≡ []
      nothing [] count e = refl
      nothing (x ∷ held) count e = absurd (true≢false (sym (ap is_cons e)))

  -- the owner pops
  pub pops : (holder : ℕ) (v : HolderPart T) → v.owns ≡ true → Takes IsInOrder holder v 1 (HasPopped v)
  pops holder v owns [] items holders most less h at = absurd (omega (arith, most))
  pops holder v owns (a ∷ b ∷ xs) items holders most less h at = absurd (omega (arith, less))
  pops holder v owns (None ∷ []) items holders most less h at =
      let w : HolderPart T = record v { drained = true } in
      let mine = h.11 holder v at in
      let m = mine.0 owns in
      let f = front_mark items h.6 h.7 h.8 in (
        w,
        (
          h.0,
          h.1,
          h.2,
          h.3,
          h.4,
          h.5,
          [],
          f.0,
          f.3,
          h.9 ∙ ap (λ l. h.5 ++ l) f.1,
          h.10,
          each_set (Knows h.0 h.1 h.2 h.3 h.4 [] f.0) holders holder w
              ((λ _. (m.0, m.1, m.2, (λ k. absurd (omega (arith, m.3 k, f.2))), λ _. refl)), mine.1)
              (λ j u other e. ((λ k. absurd (other (((h.11 j u e).0 k).0 ∙ sym m.0))), (h.11 j u e).1)),
        ),
        (refl, found_empty holder v owns (None ∷ items) holders h at f.1),
      )
  pops holder v owns (Some x ∷ []) items holders most less h at =
      let w : HolderPart T = record v { popped = v.popped ++ x ∷ [] } in
      let mine = h.11 holder v at in
      let m = mine.0 owns in
      let f = front_item x items h.6 h.7 h.8 in
      let popped = h.3 ++ x ∷ [] in (
        w,
        (
          h.0,
          h.1,
          h.2,
          popped,
          h.4,
          h.5 ++ x ∷ [],
          f.0,
          h.7,
          f.2,
          h.9 ∙ ap (λ l. h.5 ++ l) f.1 ∙ sym (append_assoc h.5 (x ∷ []) f.0),
          dealt_left x h.5 h.3 h.4 h.10,
          each_set (Knows h.0 h.1 h.2 popped h.4 f.0 h.7) holders holder w (
            (λ _. (
              m.0,
              m.1,
              ap (λ l. l ++ x ∷ []) m.2,
              m.3,
              λ k. absurd (true≢false (ap is_cons (sym f.1 ∙ m.4 k))),
            )),
            mine.1,
          )
              (λ j u other e. ((λ k. absurd (other (((h.11 j u e).0 k).0 ∙ sym m.0))), (h.11 j u e).1)),
        ),
        (
          refl,
          (
            h.5,
            f.0,
            h.4,
            m.1 ∙ h.9 ∙ ap (λ l. h.5 ++ l) f.1,
            subst (λ l. IsDealt h.5 l h.4) (sym m.2) h.10,
            λ k. sym (mine.1 k).1,
          ),
        ),
      )

  -- ---- steals

  -- the thief steals
  pub steals : (holder : ℕ) (v : HolderPart T) → v.steals ≡ true → Takes IsInOrder holder v 1 (HasStolen v)
  steals holder v may [] items holders most less h at = absurd (omega (arith, most))
  steals holder v may (a ∷ b ∷ xs) items holders most less h at = absurd (omega (arith, less))
  steals holder v may (None ∷ []) items holders most less h at =
      let f = front_mark items h.6 h.7 h.8 in
      let Now : ℕ → HolderPart T → Type 0 = Knows h.0 h.1 h.2 h.3 h.4 [] f.0 in
      let now : (j : ℕ) (u : HolderPart T) → get_elem? holders j ≡ some u → Now j u = λ j u e.
      let old = h.11 j u e in (
        (λ k. let m = old.0 k in
            (m.0, m.1, m.2, (λ o. absurd (omega (arith, m.3 o, f.2))), λ _. refl)),
        old.1,
      ) in (
        v,
        (
          h.0,
          h.1,
          h.2,
          h.3,
          h.4,
          h.5,
          [],
          f.0,
          f.3,
          h.9 ∙ ap (λ l. h.5 ++ l) f.1,
          h.10,
          each_set Now holders holder v (now holder v at) (λ j u other e. now j u e),
        ),
        refl,
      )
  steals holder v may (Some x ∷ []) items holders most less h at =
      let w : HolderPart T = record v { stolen = v.stolen ++ x ∷ [] } in
      let f = front_item x items h.6 h.7 h.8 in
      let mine = h.11 holder v at in
      let t = mine.1 may in
      let stolen = h.4 ++ x ∷ [] in
      let Owns : ℕ → HolderPart T → Type 0 = λ j u. u.owns ≡ true
      → (j ≡ h.0) × (u.pushed ≡ h.2) × (u.popped ≡ h.3) × (u.sealed ≡ false → h.7 ≡ 0)
      × (u.drained ≡ true → f.0 ≡ []) in
      let owns : (j : ℕ) (u : HolderPart T) → get_elem? holders j ≡ some u → Owns j u = λ j u e k.
      let m = (h.11 j u e).0 k in (m.0, m.1, m.2, m.3, λ d. absurd (true≢false (ap is_cons (sym f.1 ∙ m.4 d)))) in (
        w,
        (
          h.0,
          h.1,
          h.2,
          h.3,
          stolen,
          h.5 ++ x ∷ [],
          f.0,
          h.7,
          f.2,
          h.9 ∙ ap (λ l. h.5 ++ l) f.1 ∙ sym (append_assoc h.5 (x ∷ []) f.0),
          dealt_right x h.5 h.3 h.4 h.10,
          each_set (Knows h.0 h.1 h.2 h.3 stolen f.0 h.7) holders holder w (
            owns holder v at,
            (λ _. (t.0, ap (λ l. l ++ x ∷ []) t.1)),
          )
              (λ j u other e. (owns j u e, (λ k. absurd (other (((h.11 j u e).1 k).0 ∙ sym t.0))))),
        ),
        refl,
      )

  -- ---- ends

  pub forks : (holder : ℕ) (v : HolderPart T) → v.owns ≡ true → v.steals ≡ true
      → Forks IsInOrder holder v (owner_part v) (thief_part v.stolen)
  forks holder v owns may items holders h at =
      let l : HolderPart T = owner_part v in
      let r : HolderPart T = thief_part v.stolen in
      let mine = h.11 holder v at in
      let vs : List (HolderPart T) = set holders holder l in
      let Old : ℕ → HolderPart T → Type 0 =
      λ j u. (u.owns ≡ true → (j ≡ h.0) × (u.pushed ≡ h.2) × (u.popped ≡ h.3) × (u.sealed ≡ false → h.7 ≡ 0)
      × (u.drained ≡ true → h.6 ≡ [])) × (u.steals ≢ true) in
      let old : Each Old vs = each_set Old holders holder l (mine.0, λ k. true≢false (sym k))
      (λ j u other e. ((h.11 j u e).0, λ k. other (((h.11 j u e).1 k).0 ∙ sym (mine.1 may).0))) in (
        h.0,
        length vs,
        h.2,
        h.3,
        h.4,
        h.5,
        h.6,
        h.7,
        h.8,
        h.9,
        h.10,
        λ j u e. ⊎_elim (λ (x : get_elem? vs j ≡ some u). ((old j u x).0, λ k. absurd ((old j u x).1 k)))
            (λ (is : r ≡ u). (
              (λ k. absurd (true≢false (sym (ap (λ (y : HolderPart T). y.owns) is ∙ k)))),
              λ k. (
                at_end vs r u j (λ x. (old j u x).1 k) e,
                ap (λ (y : HolderPart T). y.stolen) (sym is)
                    ∙ (mine.1 may).1,
              ),
            )) (at_snoc vs r u j e),
      )

  pub merges : (holder : ℕ) (v : HolderPart T) (other : ℕ) (u : HolderPart T) → v.owns ≡ true → u.steals ≡ true
      → Merges IsInOrder holder v other u (both_parts v u) no_part
  merges holder v other u owns may items holders h at two there =
      let both : HolderPart T = both_parts v u in
      let mine = h.11 holder v at in
      let vs : List (HolderPart T) = set holders holder both in
      let was : get_elem? holders other ≡ some u = ⊎_elim (λ (x : (other ≡ holder) × (both ≡ u)). absurd (two x.0))
      (λ (x : (other ≢ holder) × (get_elem? holders other ≡ some u)). x.1)
      (at_set holders holder other both u there) in
      let theirs = (h.11 other u was).1 may in
      let Now : ℕ → HolderPart T → Type 0 = λ j y. j ≢ other → Knows h.0 holder h.2 h.3 h.4 h.6 h.7 j y in
      let now : Each Now vs = each_set Now holders holder both (λ _. (mine.0, λ _. (refl, theirs.1)))
      (λ j y _ e apart. ((h.11 j y e).0, λ k. absurd (apart (((h.11 j y e).1 k).0 ∙ sym theirs.0)))) in (
        h.0,
        holder,
        h.2,
        h.3,
        h.4,
        h.5,
        h.6,
        h.7,
        h.8,
        h.9,
        h.10,
        each_set (Knows h.0 holder h.2 h.3 h.4 h.6 h.7) vs other no_part (
          (λ k. absurd (true≢false (sym k))),
          λ k. absurd (true≢false (sym k)),
        ) (λ j y apart e. now j y e apart),
      )

  -- whoever has both ends knows all
  pub knows : (holder : ℕ) (v : HolderPart T) → v.owns ≡ true → v.steals ≡ true → Learns IsInOrder holder v (IsSpent v)
  knows holder v owns may items holders h at drained =
      let mine = h.11 holder v at in
      let m = mine.0 owns in
      let found = found_empty holder v owns items holders h at (m.4 drained) in
      subst (λ l. IsDealt v.pushed v.popped l) (found.2 may) found.1
