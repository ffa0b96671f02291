-- What clients saw.
use Rattle.std.proofs.Common.{◌≡◌, ℕ, List, [], ◌∷◌, ◌++◌, length, Option, Some, None, refl, ap, ◌∙◌, subst}
use Rattle.std.proofs.Common.{append_assoc}
use Rattle.std.specs.Prelude.{slice_get}
use Rattle.std.proofs.lemmas.List.Elements.{All-nil, All-cons}
use Rattle.pf_farm_accounts.specs.Places.{put_some, standing_at, AreAmong, AreBelow, StartsWith}
use Rattle.pf_farm_accounts.proofs.Standing.{standing_append, is_still_there, last_is_there}

module _ {T : Type 0} where
  some_among : (k : ℕ) (ys : List T) (o : Option T) (xs : List T) → slice_get ys k ≡ o → AreAmong xs ys
      → AreAmong (put_some o xs) ys
  some_among k ys None xs e all = all
  some_among k ys (Some x) xs e all = All-cons (λ (z : T). (j : ℕ) × (slice_get ys j ≡ Some z)) x xs (k, e) all

  standing_among : (ks : List ℕ) (ys : List T) → AreAmong (standing_at ks ys) ys
  standing_among [] ys = All-nil (λ (z : T). (j : ℕ) × (slice_get ys j ≡ Some z))
  standing_among (k ∷ ks) ys = some_among k ys (slice_get ys k) (standing_at ks ys) refl (standing_among ks ys)

  module _ (ks : List ℕ) (seen log : List T) (below : AreBelow ks (length seen)) (starts : StartsWith log seen) where
    -- what was seen of a log is in it
    pub seen_among : AreAmong (standing_at ks seen) log
    seen_among = subst (λ (l : List T). AreAmong l log) (is_still_there ks seen log below starts)
        (standing_among ks log)

    -- one more is seen
    pub one_seen : (x : T) → standing_at (ks ++ length log ∷ []) (log ++ x ∷ []) ≡ standing_at ks seen ++ x ∷ []
    one_seen x =
        let more : log ++ x ∷ [] ≡ seen ++ (starts.0 ++ x ∷ []) = ap (λ l. l ++ x ∷ []) starts.1
        ∙ append_assoc seen starts.0 (x ∷ []) in
        let old = is_still_there ks seen (log ++ x ∷ []) below (starts.0 ++ x ∷ [], more) in
        standing_append ks (length log ∷ []) (log ++ x ∷ []) ∙ (λ i. old i ++ last_is_there log x i)
