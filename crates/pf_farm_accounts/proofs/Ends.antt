-- A claim that ends was open.
use Rattle.std.proofs.Common.{◌≡◌, ◌≢◌, ℕ, zero, suc, ◌+◌, ◌<◌, ◌≤◌, ◌==◌, Bool, true, false, List, [], ◌∷◌, ◌++◌}
use Rattle.std.proofs.Common.{length, map, Option, Some, None, refl, sym, ap, ◌∙◌, subst, arith}
use Rattle.std.specs.Prelude.{slice_get, slice_set, if◌then◌else◌}
use Rattle.std.proofs.lemmas.Bool.Decides.{nat_tests}
use Rattle.std.proofs.lemmas.List.Elements.{All-nil, All-cons}
use Rattle.pf_farm_accounts.specs.Places.{weigh, weigh_below, AreBelow, StartsWith}
use Rattle.pf_farm_accounts.proofs.Moves.{weigh-append}
use Rattle.pf_farm_accounts.specs.declared.row.ClaimRow.{ClaimRow}
use Rattle.pf_farm_accounts.specs.declared.row.Claim.{Claim}
use Rattle.pf_farm_accounts.specs.declared.row.ClaimEnd.{ClaimEnd}
use Rattle.pf_farm_accounts.specs.Rows.{row_of, one_ended, count_ended, HaveEnded, ended_at, one_at, IsRegistered}

abbrev bit : Bool → ℕ
bit b = if b then 1 else 0

-- a number occurs once among those below n
not_yet : (k n : ℕ) → n ≤ k → weigh_below (one_at k) n ≡ 0
not_yet k zero le = refl
not_yet k (suc n) le = let this : one_at k n ≡ 0 = grind (arith, nat_tests) in
    omega (arith, this, not_yet k n (omega arith))

once : (k n : ℕ) → weigh_below (one_at k) n ≤ 1
once k zero = omega arith
once k (suc n) = by (n == k) refl (once k n)
  where
    by : (b : Bool) → (n == k) ≡ b → weigh_below (one_at k) n ≤ 1 → weigh_below (one_at k) n + bit b ≤ 1
    by true h rest = let here : n ≡ k = grind (arith, nat_tests) in omega (arith, not_yet k n (omega arith))
    by false h rest = omega (arith, rest)

module _ {T : Type 0} where
  prefix_get : (seen rest : List T) (k : ℕ) (x : T) → slice_get seen k ≡ Some x → slice_get (seen ++ rest) k ≡ Some x
  prefix_get [] rest k x h = absurd (cc)
  prefix_get (y ∷ ys) rest zero x h = h
  prefix_get (y ∷ ys) rest (suc k) x h = prefix_get ys rest k x h

  seen_get : (entries seen : List T) (k : ℕ) (x : T) → StartsWith entries seen → slice_get seen k ≡ Some x
      → slice_get entries k ≡ Some x
  seen_get entries seen k x starts h = subst (λ l. slice_get l k ≡ Some x) (sym starts.1)
      (prefix_get seen starts.0 k x h)

  pub last_get : (xs : List T) (x : T) → slice_get (xs ++ x ∷ []) (length xs) ≡ Some x
  last_get [] x = refl
  last_get (y ∷ ys) x = last_get ys x

  length_set : (xs : List T) (k : ℕ) (x : T) → length (slice_set xs k x) ≡ length xs
  length_set [] k x = refl
  length_set (y ∷ ys) zero x = refl
  length_set (y ∷ ys) (suc k) x = ap suc (length_set ys k x)

  length_push : (xs : List T) (x : T) → length (xs ++ x ∷ []) ≡ length xs + 1
  length_push [] x = refl
  length_push (y ∷ ys) x = omega (arith, length_push ys x)

  pub within : (xs : List T) (k : ℕ) (x : T) → slice_get xs k ≡ Some x → k < length xs
  within [] k x h = absurd (cc)
  within (y ∷ ys) zero x h = omega arith
  within (y ∷ ys) (suc k) x h = omega (arith, within ys k x h)

apart_right : (n j : ℕ) → n ≡ n + (if 0 == suc j then 1 else 0)
apart_right n j = grind (arith, nat_tests)

apart_left : (n k : ℕ) → n ≡ n + (if suc k == 0 then 1 else 0)
apart_left n k = grind (arith, nat_tests)

up : (n k j : ℕ) → n + (if k == j then 1 else 0) ≡ n + (if suc k == suc j then 1 else 0)
up n k j = grind (arith, nat_tests)

not_ended : (e : Option ClaimEnd) → one_ended e ≡ 0 → e ≡ None
not_ended None h = refl
not_ended (Some e) h = absurd (omega arith)

one_at_most : (e : Option ClaimEnd) → one_ended e ≤ 1
one_at_most None = omega arith
one_at_most (Some e) = omega arith

module _ {J : Type 0} where
  claim_at : (rows : List (ClaimRow J)) (k : ℕ) (c : Claim J) → slice_get (map (λ r. r.claim) rows) k ≡ Some c
      → (e : Option ClaimEnd) × (slice_get rows k ≡ Some (row_of c e))
  claim_at [] k c h = absurd (cc)
  claim_at (r ∷ rs) zero c h = let is : r.claim ≡ c = cc (h) in (r.end, ap (λ x. Some (row_of x r.end)) is)
  claim_at (r ∷ rs) (suc k) c h = claim_at rs k c h

  ended_there : (rows : List (ClaimRow J)) (k : ℕ) (r : ClaimRow J) → slice_get rows k ≡ Some r
      → ended_at rows k ≡ one_ended r.end
  ended_there [] k r h = absurd (cc)
  ended_there (x ∷ rs) zero r h = let is : x ≡ r = cc (h) in ap (λ (y : ClaimRow J). one_ended y.end) is
  ended_there (x ∷ rs) (suc k) r h = ended_there rs k r h

  pub was_open : (rows : List (ClaimRow J)) (entries seen : List (Claim J)) (places : List ℕ) (n : ℕ) (c : Claim J)
      → IsRegistered rows entries places → AreBelow (places ++ n ∷ []) (length entries) → StartsWith entries seen
      → slice_get seen n ≡ Some c → slice_get rows n ≡ Some (row_of c None)
  was_open rows entries seen places n c kept below starts here =
      let at : slice_get (map (λ r. r.claim) rows) n ≡ Some c =
      subst (λ l. slice_get l n ≡ Some c) kept.0 (seen_get entries seen n c starts here) in
      let found = claim_at rows n c at in
      let one : one_at n n ≡ 1 = grind (arith, nat_tests) in
      let none : weigh (one_at n) places ≡ 0 = omega (
        arith,
        below (one_at n),
        weigh-append (one_at n) places (n ∷ []),
        once n (length entries),
        one,
      ) in
      let still : one_ended found.0 ≡ 0 = sym (ended_there rows n (row_of c found.0) found.1) ∙ sym (kept.1 n) ∙ none in
      found.1 ∙ ap (λ e. Some (row_of c e)) (not_ended found.0 still)

  claims_set : (rows : List (ClaimRow J)) (k : ℕ) (r w : ClaimRow J) → slice_get rows k ≡ Some r → w.claim ≡ r.claim
      → map (λ x. x.claim) (slice_set rows k w) ≡ map (λ x. x.claim) rows
  claims_set [] k r w h same = refl
  claims_set (x ∷ rs) zero r w h same = let is : x ≡ r = cc (h) in
      ap (λ c. c ∷ map (λ y. y.claim) rs) (same ∙ ap (λ (y : ClaimRow J). y.claim) (sym is))
  claims_set (x ∷ rs) (suc k) r w h same = ap (λ l. x.claim ∷ l) (claims_set rs k r w h same)

  ended_set : (rows : List (ClaimRow J)) (k j : ℕ) (r w : ClaimRow J) → slice_get rows k ≡ Some r → one_ended r.end ≡ 0
      → one_ended w.end ≡ 1 → ended_at (slice_set rows k w) j ≡ ended_at rows j + (if k == j then 1 else 0)
  ended_set [] k j r w h o e = absurd (cc)
  ended_set (x ∷ rs) zero zero r w h o e = let is : x ≡ r = cc (h) in
      let was : one_ended x.end ≡ 0 = ap (λ (y : ClaimRow J). one_ended y.end) is ∙ o in omega (arith, was, e)
  ended_set (x ∷ rs) zero (suc j) r w h o e = apart_right (ended_at rs j) j
  ended_set (x ∷ rs) (suc k) zero r w h o e = apart_left (one_ended x.end) k
  ended_set (x ∷ rs) (suc k) (suc j) r w h o e = ended_set rs k j r w h o e ∙ up (ended_at rs j) k j

  count_set : (rows : List (ClaimRow J)) (k : ℕ) (r w : ClaimRow J) → slice_get rows k ≡ Some r → one_ended r.end ≡ 0
      → one_ended w.end ≡ 1 → count_ended (slice_set rows k w) ≡ count_ended rows + 1
  count_set [] k r w h o e = absurd (cc)
  count_set (x ∷ rs) zero r w h o e = let is : x ≡ r = cc (h) in
      let was : one_ended x.end ≡ 0 = ap (λ (y : ClaimRow J). one_ended y.end) is ∙ o in omega (arith, was, e)
  count_set (x ∷ rs) (suc k) r w h o e = omega (arith, count_set rs k r w h o e)

  -- the totals of both ledgers are the numbers of claims that were opened and that have ended
  abbrev pub IsCounted : List (ClaimRow J) → ℕ → ℕ → Type 0
  IsCounted rows opened ended = (opened ≡ length rows) × (ended ≡ count_ended rows)

  pub registered_end : (rows : List (ClaimRow J)) (entries : List (Claim J)) (places : List ℕ) (n : ℕ) (c : Claim J)
      (e : ClaimEnd) → IsRegistered rows entries places → slice_get rows n ≡ Some (row_of c None)
      → IsRegistered (slice_set rows n (row_of c (Some e))) entries (places ++ n ∷ [])
  registered_end rows entries places n c e kept at =
      let old : ClaimRow J = row_of c None in
      let now : ClaimRow J = row_of c (Some e) in (
        kept.0 ∙ sym (claims_set rows n old now at refl),
        λ k. omega (arith, kept.1 k, weigh-append (one_at k) places (n ∷ []), ended_set rows n k old now at refl refl),
      )

  pub counted_end : (rows : List (ClaimRow J)) (n : ℕ) (c : Claim J) (e : ClaimEnd) (opened ended : ℕ)
      → IsCounted rows opened ended → slice_get rows n ≡ Some (row_of c None)
      → IsCounted (slice_set rows n (row_of c (Some e))) opened (ended + 1)
  counted_end rows n c e opened ended counted at = (
    omega (arith, counted.0, length_set rows n (row_of c (Some e))),
    omega (arith, counted.1, count_set rows n (row_of c None) (row_of c (Some e)) at refl refl),
  )

  claims_push : (rows : List (ClaimRow J)) (r : ClaimRow J)
      → map (λ x. x.claim) (rows ++ r ∷ []) ≡ map (λ x. x.claim) rows ++ r.claim ∷ []
  claims_push [] r = refl
  claims_push (x ∷ rs) r = ap (λ l. x.claim ∷ l) (claims_push rs r)

  ended_push : (rows : List (ClaimRow J)) (r : ClaimRow J) (k : ℕ) → one_ended r.end ≡ 0
      → ended_at (rows ++ r ∷ []) k ≡ ended_at rows k
  ended_push [] r zero o = o
  ended_push [] r (suc k) o = refl
  ended_push (x ∷ rs) r zero o = refl
  ended_push (x ∷ rs) r (suc k) o = ended_push rs r k o

  count_push : (rows : List (ClaimRow J)) (r : ClaimRow J)
      → count_ended (rows ++ r ∷ []) ≡ count_ended rows + one_ended r.end
  count_push [] r = omega arith
  count_push (x ∷ rs) r = omega (arith, count_push rs r)

  length_claims : (rows : List (ClaimRow J)) → length (map (λ x. x.claim) rows) ≡ length rows
  length_claims [] = refl
  length_claims (r ∷ rs) = ap suc (length_claims rs)

  pub entries_length : (rows : List (ClaimRow J)) (entries : List (Claim J)) (places : List ℕ)
      → IsRegistered rows entries places → length entries ≡ length rows
  entries_length rows entries places kept = ap (λ l. length l) kept.0 ∙ length_claims rows

  pub registered_open : (rows : List (ClaimRow J)) (entries : List (Claim J)) (places : List ℕ) (c : Claim J)
      → IsRegistered rows entries places → IsRegistered (rows ++ row_of c None ∷ []) (entries ++ c ∷ []) places
  registered_open rows entries places c kept = (
    ap (λ l. l ++ c ∷ []) kept.0 ∙ sym (claims_push rows (row_of c None)),
    λ k. kept.1 k ∙ sym (ended_push rows (row_of c None) k refl),
  )

  pub counted_open : (rows : List (ClaimRow J)) (c : Claim J) (opened ended : ℕ) → IsCounted rows opened ended
      → IsCounted (rows ++ row_of c None ∷ []) (opened + 1) ended
  counted_open rows c opened ended counted = (
    omega (arith, counted.0, length_push rows (row_of c None)),
    omega (arith, counted.1, count_push rows (row_of c None)),
  )

  most_ended : (rows : List (ClaimRow J)) → count_ended rows ≤ length rows
  most_ended [] = omega arith
  most_ended (r ∷ rs) = omega (arith, one_at_most r.end, most_ended rs)

  pub all_ended : (rows : List (ClaimRow J)) → count_ended rows ≡ length rows → HaveEnded rows
  all_ended [] h = All-nil (λ r. r.end ≢ None)
  all_ended (r ∷ rs) h = All-cons (λ r. r.end ≢ None) r rs
      (λ is. let none : one_ended r.end ≡ 0 = ap one_ended is in absurd (omega (arith, most_ended rs)))
      (all_ended rs (omega (arith, most_ended rs, one_at_most r.end)))
