-- The first of several faults, whatever their order.
use Rattle.std.proofs.Common.{◌≡◌, List, [], ◌∷◌, ◌++◌, Bool, true, false, refl, sym, ap, ◌∙◌, subst, arith, inl, inr}
use Rattle.std.proofs.Common.{append_assoc}
use Rattle.std.specs.Prelude.{if◌then◌else◌, Option, Some, None, IfNone, IfSome, Contains}
use Rattle.std.proofs.lemmas.Bool.Decides.{nat_tests}
use Rattle.std.proofs.lemmas.List.{append-nil}
use Rattle.std.proofs.lemmas.List.Sums.{fold-append}
use Rattle.std.proofs.lemmas.List.Elements.{Contains-append_left, Contains-append_right, Contains-push}
use Rattle.std.proofs.lemmas.List.Elements.{Contains-push_cases, Contains-append_cases}
use Rattle.pf_errors.specs.declared.refusal.SourceRefusal.{SourceRefusal}
use Rattle.pf_rules.specs.Static.{NotAfter, IsFirst}
use Rattle.pf_static_check.specs.Earliest.{is_earlier, earlier, earliest, IsLeastFault}

-- ---- the order of faults

not_after_itself : (f : SourceRefusal) → NotAfter f f
not_after_itself f = inr (refl, omega arith)

not_after_on : (a b c : SourceRefusal) → NotAfter a b → NotAfter b c → NotAfter a c
not_after_on a b c (inl p) (inl q) = inl (omega arith)
not_after_on a b c (inl p) (inr q) = inl (omega (arith, q.0))
not_after_on a b c (inr p) (inl q) = inl (omega (arith, p.0))
not_after_on a b c (inr p) (inr q) = inr (p.0 ∙ q.0, omega (arith, p.1, q.1))

comes_before : (f k : SourceRefusal) → is_earlier f k ≡ true → NotAfter f k
comes_before f k e = grind (arith, nat_tests)

stays_first : (f k : SourceRefusal) → is_earlier f k ≡ false → NotAfter k f
stays_first f k e = grind (arith, nat_tests)

-- ---- one more

first_alone : (pre : List SourceRefusal) (f : SourceRefusal) → pre ≡ [] → IsFirst (pre ++ f ∷ []) f
first_alone pre f e = (
  Contains-push pre f,
  λ other h. elim (Contains-push_cases pre f other h) [
    | inl c ↦ absurd (nothing_in other (subst (λ (fs : List SourceRefusal). Contains fs other) e c))
    | inr s ↦ subst
        (NotAfter f) s (not_after_itself f)
  ],
)
  where
    nothing_in : (x : SourceRefusal) → Contains [] x → ⊥
    nothing_in x c = omega (arith, c.1)

first_more : (pre : List SourceRefusal) (k f : SourceRefusal) (b : Bool) → is_earlier f k ≡ b → IsFirst pre k
    → IsFirst (pre ++ f ∷ []) (if b then f else k)
first_more pre k f true e h = (
  Contains-push pre f,
  λ other c. elim (Contains-push_cases pre f other c) [
    | inl d ↦ not_after_on f k other (comes_before f k e) (h.1 other d)
    | inr s ↦ subst (NotAfter f) s
        (not_after_itself f)
  ],
)
first_more pre k f false e h = (
  Contains-append_left pre (f ∷ []) k h.0,
  λ other c. elim (Contains-push_cases pre f other c)
      [ inl d ↦ h.1 other d | inr s ↦ subst (NotAfter k) s (stays_first f k e) ],
)

least_one : (pre : List SourceRefusal) (k : Option SourceRefusal) (f : SourceRefusal) → IsLeastFault pre k
    → IsLeastFault (pre ++ f ∷ []) (earlier k f)
least_one pre None f h = first_alone pre f h
least_one pre (Some k) f h = first_more pre k f (is_earlier f k) refl h

least_all : (pre fs : List SourceRefusal) (k : Option SourceRefusal) → IsLeastFault pre k
    → IsLeastFault (pre ++ fs) (earliest k fs)
least_all pre [] k h = subst (λ (gs : List SourceRefusal). IsLeastFault gs k) (sym (append-nil pre)) h
least_all pre (f ∷ fs) k h =
    subst (λ (gs : List SourceRefusal). IsLeastFault gs (earliest (earlier k f) fs)) (append_assoc pre (f ∷ []) fs)
    (least_all (pre ++ f ∷ []) fs (earlier k f) (least_one pre k f h))

-- what is kept of these faults, in the order in which they are found
pub least : (fs : List SourceRefusal) → IsLeastFault fs (earliest None fs)
least fs = least_all [] fs None refl

-- ---- in another order

empty_of : (fs : List SourceRefusal) → ((f : SourceRefusal) → Contains fs f → ⊥) → fs ≡ []
empty_of [] h = refl
empty_of (f ∷ fs) h = absurd (h f (Contains-append_left (f ∷ []) fs f (Contains-push [] f)))

-- the same faults in another order have the same first one
pub same_least : (fs gs : List SourceRefusal) (k : Option SourceRefusal)
    → ((f : SourceRefusal) → Contains fs f → Contains gs f) → ((f : SourceRefusal) → Contains gs f → Contains fs f)
    → IsLeastFault fs k → IsLeastFault gs k
same_least fs gs None to from h = empty_of gs
    (λ f c. nothing_in f (subst (λ (hs : List SourceRefusal). Contains hs f) h (from f c)))
  where
    nothing_in : (x : SourceRefusal) → Contains [] x → ⊥
    nothing_in x c = omega (arith, c.1)
same_least fs gs (Some k) to from h = (to k h.0, λ other c. h.1 other (from other c))

-- two parts in the other order, before a third
pub swapped : (a b c : List SourceRefusal) (f : SourceRefusal) → Contains (a ++ b ++ c) f → Contains (b ++ a ++ c) f
swapped a b c f h =
    elim (Contains-append_cases (a ++ b) c f h) [
      | inl d ↦ Contains-append_left (b ++ a) c f
          (elim (Contains-append_cases a b f d)
          [ inl x ↦ Contains-append_right b a f x | inr y ↦ Contains-append_left b a f y ])
      | inr z ↦ Contains-append_right (b ++ a) c f z
    ]

-- ---- the faults of a module

-- the same before a fourth
swapped_before : (a b c d : List SourceRefusal) (f : SourceRefusal) → Contains (a ++ b ++ c ++ d) f
    → Contains (b ++ a ++ c ++ d) f
swapped_before a b c d f h =
    elim (Contains-append_cases (a ++ b ++ c) d f h) [
      | inl x ↦ Contains-append_left (b ++ a ++ c) d f (swapped a b c f x)
      | inr y ↦ Contains-append_right (b ++ a ++ c) d f y
    ]

-- four parts that are found in turn, of which the first two are swapped
pub first_of_all : (d e u h : List SourceRefusal) (k l m n o : Option SourceRefusal) → k ≡ None → l ≡ earliest k d
    → m ≡ earliest l e → n ≡ earliest m u → o ≡ earliest n h → IsLeastFault (e ++ d ++ u ++ h) o
first_of_all d e u h k l m n o a b c f g =
    let first : m ≡ earliest None (d ++ e) = c ∙ ap (λ p. earliest p e) (b ∙ ap (λ p. earliest p d) a)
    ∙ sym (fold-append earlier None d e) in
    let next : n ≡ earliest None (d ++ e ++ u) = f ∙ ap (λ p. earliest p u) first
    ∙ sym (fold-append earlier None (d ++ e) u) in
    let all : o ≡ earliest None (d ++ e ++ u ++ h) = g ∙ ap (λ p. earliest p h) next
    ∙ sym (fold-append earlier None (d ++ e ++ u) h) in
    same_least (d ++ e ++ u ++ h) (e ++ d ++ u ++ h) o (swapped_before d e u h) (swapped_before e d u h)
    (subst (IsLeastFault (d ++ e ++ u ++ h)) (sym all) (least (d ++ e ++ u ++ h)))

pub reported_none : (r : Option SourceRefusal) (fs : List SourceRefusal) → IsLeastFault fs r → IfNone r (fs ≡ [])
reported_none None fs h = h
reported_none (Some f) fs h = tt

pub reported_some : (r : Option SourceRefusal) (fs : List SourceRefusal) → IsLeastFault fs r
    → IfSome r (λ f. IsFirst fs f)
reported_some None fs h = tt
reported_some (Some f) fs h = h
