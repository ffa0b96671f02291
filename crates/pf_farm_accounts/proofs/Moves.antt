-- Each step keeps the rule of a register.
use Rattle.std.proofs.Common.{◌≡◌, ◌≢◌, ℕ, zero, suc, ◌+◌, ◌≤◌, List, [], ◌∷◌, ◌++◌, length, set, Some, true, false}
use Rattle.std.proofs.Common.{true≢false, refl, sym, ap, append_assoc, length-append, ◌∙◌, subst, ⊎_elim, arith}
use mathlib.Core.Option.{some, some-ne-none, some-injective}
use lib.ListN.{get_elem?}
use Rattle.crossbeam_deque.specs.Tasks.{Forks, Merges, Learns}
use Rattle.crossbeam_deque.proofs.Lists.{at_set, at_snoc}
use Rattle.pf_farm_accounts.specs.declared.knowledge.Knowledge.{Knowledge}
use Rattle.pf_farm_accounts.specs.Places.{weigh, weigh_below, AreBelow, StartsWith}
use Rattle.pf_farm_accounts.specs.Knowing.{knowledge, first_knowledge, no_knowledge, with_entry, weight, total, Knows}
use Rattle.pf_farm_accounts.specs.Knowing.{IsBorneOnce}

pub weigh-append : (h : ℕ → ℕ) (xs ys : List ℕ) → weigh h (xs ++ ys) ≡ weigh h xs + weigh h ys
weigh-append h [] ys = omega arith
weigh-append h (x ∷ xs) ys = omega (arith, weigh-append h xs ys)

module _ {T : Type 0} where
  weigh_one_more : (h : ℕ → ℕ) (entries : List T) (x : T)
      → weigh_below h (length (entries ++ x ∷ [])) ≡ weigh_below h (length entries) + h (length entries)
  weigh_one_more h entries x = let one : length (entries ++ x ∷ []) ≡ suc (length entries) = omega
      (arith, length-append entries (x ∷ [])) in ap (weigh_below h) one

  total_set : (f : Knowledge T → ℕ) (holders : List (Knowledge T)) (holder : ℕ) (v w : Knowledge T)
      → get_elem? holders holder ≡ some v → total f (set holders holder w) + f v ≡ total f holders + f w
  total_set f [] holder v w e = absurd (some-ne-none v (sym e))
  total_set f (x ∷ xs) zero v w e = let same : f x ≡ f v = ap f (some-injective x v e) in omega arith
  total_set f (x ∷ xs) (suc holder) v w e = omega (arith, total_set f xs holder v w e)

  total_snoc : (f : Knowledge T → ℕ) (holders : List (Knowledge T)) (w : Knowledge T)
      → total f (holders ++ w ∷ []) ≡ total f holders + f w
  total_snoc f [] w = omega arith
  total_snoc f (x ∷ xs) w = omega (arith, total_snoc f xs w)

  total_at : (f : Knowledge T → ℕ) (holders : List (Knowledge T)) (holder : ℕ) (v : Knowledge T)
      → get_elem? holders holder ≡ some v → f v ≤ total f holders
  total_at f [] holder v e = absurd (some-ne-none v (sym e))
  total_at f (x ∷ xs) zero v e = let same : f x ≡ f v = ap f (some-injective x v e) in omega arith
  total_at f (x ∷ xs) (suc holder) v e = omega (arith, total_at f xs holder v e)

  abbrev Each : (ℕ → Knowledge T → Type 0) → List (Knowledge T) → Type 0
  Each F holders = (holder : ℕ) (v : Knowledge T) → get_elem? holders holder ≡ some v → F holder v

  each_set : (F : ℕ → Knowledge T → Type 0) (holders : List (Knowledge T)) (holder : ℕ) (w : Knowledge T) → F holder w
      → ((j : ℕ) (u : Knowledge T) → j ≢ holder → get_elem? holders j ≡ some u → F j u) → Each F (set holders holder w)
  each_set F holders holder w mine others j u e =
      ⊎_elim (λ (x : (j ≡ holder) × (w ≡ u)). subst (λ (y : ℕ × Knowledge T). F y.0 y.1) (λ i. (sym x.0 i, x.1 i)) mine)
      (λ (x : (j ≢ holder) × (get_elem? holders j ≡ some u)). others j u x.0 x.1) (at_set holders holder j w u e)

  -- who is not the register knows its part at any number
  token_knows : (register : ℕ) (entries : List T) (holder : ℕ) (v : Knowledge T) → v.is_register ≡ false
      → StartsWith entries v.seen → Knows register entries holder v
  token_knows register entries holder v token starts = ((λ keeps. absurd (true≢false (sym keeps ∙ token))), starts)

  blank : (entries : List T) → StartsWith entries []
  blank entries = (entries, refl)

  later : (entries seen xs : List T) → StartsWith entries seen → StartsWith (entries ++ xs) seen
  later entries seen xs s = (s.0 ++ xs, ap (λ l. l ++ xs) s.1 ∙ append_assoc seen s.0 xs)

  whole : (entries : List T) → StartsWith entries entries
  whole [] = ([], refl)
  whole (x ∷ xs) = ((whole xs).0, ap (λ l. x ∷ l) (whole xs).1)

  pub begins : IsBorneOnce {T = T} [] (first_knowledge ∷ [])
  begins = (0, [], (λ h. refl), λ holder v e. at_start holder v e)
    where
      at_start : (holder : ℕ) (v : Knowledge T) → get_elem? (first_knowledge ∷ []) holder ≡ some v → Knows 0 [] holder v
      at_start zero v e = let is : first_knowledge ≡ v = some-injective _ v e in (
        (λ keeps. (refl, ap (λ (u : Knowledge T). u.entries) (sym is))),
        subst (λ (u : Knowledge T). StartsWith [] u.seen) is (blank []),
      )
      at_start (suc holder) v e = absurd (some-ne-none v (sym e))

  -- an entry is entered, and a token that knows nothing comes with it
  pub enters : (holder : ℕ) (v : Knowledge T) (x : T) → v.is_register ≡ true
      → Forks IsBorneOnce holder v (with_entry v (Some x)) no_knowledge
  enters holder v x keeps items holders h at =
      let w : Knowledge T = with_entry v (Some x) in
      let r : Knowledge T = no_knowledge in
      let mine = (h.3 holder v at).0 keeps in
      let entries = h.1 ++ x ∷ [] in
      let vs : List (Knowledge T) = set holders holder w in
      let left : Each (Knows h.0 entries) vs = each_set (Knows h.0 entries) holders holder w
      ((λ _. (mine.0, ap (λ l. l ++ x ∷ []) mine.1)), later h.1 v.seen (x ∷ []) (h.3 holder v at).1)
      (λ j u other e. (
        (λ k. absurd (other (((h.3 j u e).0 k).0 ∙ sym mine.0))),
        later h.1 u.seen (x ∷ []) (h.3 j u e).1,
      )) in (
        h.0,
        entries,
        (λ f. let place : f (length v.entries) ≡ f (length h.1) = ap (λ (l : List T). f (length l)) mine.1 in
            omega (
              arith,
              h.2 f,
              total_set (weight f) holders holder v w at,
              total_snoc (weight f) vs r,
              weigh-append f v.borne (length v.entries ∷ []),
              weigh_one_more f h.1 x,
              place,
            )),
        λ j u e. ⊎_elim (λ (y : get_elem? vs j ≡ some u). left j u y)
            (λ (is : r ≡ u). token_knows h.0 entries j u (ap (λ (y : Knowledge T). y.is_register) (sym is))
            (subst (λ (y : Knowledge T). StartsWith entries y.seen) is (blank entries))) (at_snoc vs r u j e),
      )

  -- the other pass was there before
  theirs : (holder : ℕ) (v : Knowledge T) (other : ℕ) (u : Knowledge T) (entries : List T)
      (holders : List (Knowledge T)) (both : Knowledge T)
      → ((j : ℕ) (y : Knowledge T) → get_elem? holders j ≡ some y → StartsWith entries y.seen) → ¬ (other ≡ holder)
      → get_elem? (set holders holder both) other ≡ some u → StartsWith entries u.seen
  theirs holder v other u entries holders both all two there =
      ⊎_elim (λ (x : (other ≡ holder) × (both ≡ u)). absurd (two x.0))
      (λ (x : (other ≢ holder) × (get_elem? holders other ≡ some u)). all other u x.1)
      (at_set holders holder other both u there)

  pub returns_back : (holder : ℕ) (v : Knowledge T) (other : ℕ) (u : Knowledge T) → v.is_register ≡ true
      → u.returned ≡ [] → Merges IsBorneOnce holder v other u
      (knowledge v.is_register v.entries (v.returned ++ u.borne) v.borne u.seen) (knowledge false [] [] [] [])
  returns_back holder v other u keeps none items holders h at two there =
      let both : Knowledge T = knowledge v.is_register v.entries (v.returned ++ u.borne) v.borne u.seen in
      let spent : Knowledge T = knowledge false [] [] [] [] in
      let vs : List (Knowledge T) = set holders holder both in
      let now : Each (Knows h.0 h.1) vs = each_set (Knows h.0 h.1) holders holder both (
        (λ k. (h.3 holder v at).0 k),
        theirs holder v other u h.1 holders both (λ j y e. (h.3 j y e).1) two there,
      ) (λ j y _ e. h.3 j y e) in (
        h.0,
        h.1,
        (λ f. let nothing : weigh f u.returned ≡ 0 = ap (weigh f) none in
            omega (
              arith,
              h.2 f,
              total_set (weight f) holders holder v both at,
              total_set (weight f) vs other u spent there,
              weigh-append f v.returned u.borne,
            )),
        each_set (Knows h.0 h.1) vs other spent (token_knows h.0 h.1 other spent refl (blank h.1))
            (λ j y _ e. now j y e),
      )

  pub back_below : (holder : ℕ) (v : Knowledge T) → v.is_register ≡ true
      → Learns IsBorneOnce holder v (λ items. AreBelow v.returned (length v.entries))
  back_below holder v keeps items holders h at = λ f. let same : weigh_below f (length v.entries) ≡ weigh_below f
      (length h.1) = ap (λ (l : List T). weigh_below f (length l)) ((h.3 holder v at).0 keeps).1 in
      omega (arith, h.2 f, total_at (weight f) holders holder v at)

  pub blanks : (holder : ℕ) (v : Knowledge T) → Forks IsBorneOnce holder v v (knowledge false [] [] [] [])
  blanks holder v items holders h at =
      let r : Knowledge T = knowledge false [] [] [] [] in
      let vs : List (Knowledge T) = set holders holder v in
      let left : Each (Knows h.0 h.1) vs = each_set (Knows h.0 h.1) holders holder v (h.3 holder v at)
      (λ j u _ e. h.3 j u e) in (
        h.0,
        h.1,
        (λ f. omega (arith, h.2 f, total_set (weight f) holders holder v v at, total_snoc (weight f) vs r)),
        λ j u e. ⊎_elim (λ (x : get_elem? vs j ≡ some u). left j u x)
            (λ (is : r ≡ u). token_knows h.0 h.1 j u (ap (λ (y : Knowledge T). y.is_register) (sym is))
            (subst (λ (y : Knowledge T). StartsWith h.1 y.seen) is (blank h.1))) (at_snoc vs r u j e),
      )

  pub borrows : (holder : ℕ) (v : Knowledge T) (other : ℕ) (u : Knowledge T) → v.is_register ≡ true → u.returned ≡ []
      → Merges IsBorneOnce holder v other u (knowledge v.is_register v.entries v.returned (u.borne ++ v.borne) u.seen)
      (knowledge false [] [] [] [])
  borrows holder v other u keeps none items holders h at two there =
      let both : Knowledge T = knowledge v.is_register v.entries v.returned (u.borne ++ v.borne) u.seen in
      let spent : Knowledge T = knowledge false [] [] [] [] in
      let vs : List (Knowledge T) = set holders holder both in
      let now : Each (Knows h.0 h.1) vs = each_set (Knows h.0 h.1) holders holder both (
        (λ k. (h.3 holder v at).0 k),
        theirs holder v other u h.1 holders both (λ j y e. (h.3 j y e).1) two there,
      ) (λ j y _ e. h.3 j y e) in (
        h.0,
        h.1,
        (λ f. let nothing : weigh f u.returned ≡ 0 = ap (weigh f) none in
            omega (
              arith,
              h.2 f,
              total_set (weight f) holders holder v both at,
              total_set (weight f) vs other u spent there,
              weigh-append f u.borne v.borne,
            )),
        each_set (Knows h.0 h.1) vs other spent (token_knows h.0 h.1 other spent refl (blank h.1))
            (λ j y _ e. now j y e),
      )

  pub has_below : (holder : ℕ) (v : Knowledge T) → v.is_register ≡ true
      → Learns IsBorneOnce holder v (λ items. AreBelow v.borne (length v.entries))
  has_below holder v keeps items holders h at = λ f. let same : weigh_below f (length v.entries) ≡ weigh_below f
      (length h.1) = ap (λ (l : List T). weigh_below f (length l)) ((h.3 holder v at).0 keeps).1 in
      omega (arith, h.2 f, total_at (weight f) holders holder v at)

  pub hands_seen : (holder : ℕ) (v : Knowledge T) → v.is_register ≡ true
      → Forks IsBorneOnce holder v (knowledge v.is_register v.entries v.returned [] [])
      (knowledge false [] [] v.borne v.entries)
  hands_seen holder v keeps items holders h at =
      let l : Knowledge T = knowledge v.is_register v.entries v.returned [] [] in
      let r : Knowledge T = knowledge false [] [] v.borne v.entries in
      let vs : List (Knowledge T) = set holders holder l in
      let mine = (h.3 holder v at).0 keeps in
      let left : Each (Knows h.0 h.1) vs = each_set (Knows h.0 h.1) holders holder l (
        (λ k. (h.3 holder v at).0 k),
        blank h.1,
      ) (λ j u _ e. h.3 j u e) in (
        h.0,
        h.1,
        (λ f. omega (arith, h.2 f, total_set (weight f) holders holder v l at, total_snoc (weight f) vs r)),
        λ j u e. ⊎_elim (λ (x : get_elem? vs j ≡ some u). left j u x)
            (λ (is : r ≡ u). token_knows h.0 h.1 j u (ap (λ (y : Knowledge T). y.is_register) (sym is))
            (subst (λ (y : Knowledge T). StartsWith h.1 y.seen) is
            (subst (λ l. StartsWith h.1 l) (sym mine.1) (whole h.1)))) (at_snoc vs r u j e),
      )

  pub starts : (holder : ℕ) (v : Knowledge T) → v.is_register ≡ true
      → Learns IsBorneOnce holder v (λ items. StartsWith v.entries v.seen)
  starts holder v keeps items holders h at = subst (λ l. StartsWith l v.seen) (sym ((h.3 holder v at).0 keeps).1)
      (h.3 holder v at).1
