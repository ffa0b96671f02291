-- Schedules in the order in which they are run: at their first difference the smaller choice comes first.
use Rattle.std.proofs.Common.{◌≡◌, ◌∙◌, ◌⊎◌, inl, inr, sym, ap, subst, ℕ, ◌%◌, ◌<◌, List, [], ◌∷◌}
use Rattle.std.proofs.Common.{map, arith}
use Rattle.std.proofs.Math.Nat.{mod-eq_of_lt}
use Rattle.pf_strategy.specs.declared.noted.ChoicePoint.{ChoicePoint}
use Rattle.pf_explore_laws.specs.Parting.{Part, AreBy}

abbrev pub choices : List ChoicePoint → List ℕ
choices es = map (λ e. e.choice) es

-- choices come in that order with a schedule or after it
abbrev pub IsFrom : (earliest ms : List ℕ) → Type 0
IsFrom [] ms = Unit {0}
IsFrom (n ∷ ns) [] = ⊥
IsFrom (n ∷ ns) (m ∷ ms) = (n < m) ⊎ ((n ≡ m) × IsFrom ns ms)

-- a schedule leaves events at one of them, by a later choice that may be made there
abbrev pub Branches : List ℕ → List ChoicePoint → Type 0
Branches [] es = ⊥
Branches (n ∷ ns) [] = ⊥
Branches (n ∷ ns) (e ∷ es) =
    ((e.choice < n) × (n < e.count) × (ns ≡ [])) ⊎ ((e.choice ≡ n) × Branches ns es)

-- events have the choices of a schedule, and the first after them
abbrev pub Follow : List ℕ → List ChoicePoint → Type 0
Follow [] es = AreBy [] es
Follow (n ∷ ns) [] = ⊥
Follow (n ∷ ns) (e ∷ es) = (e.choice ≡ n) × Follow ns es

-- a number that may go is its own choice
own_choice : (n : ℕ) (e f : ChoicePoint) → e.count ≡ f.count → n < e.count → f.choice ≡ n % f.count → f.choice ≡ n
own_choice n e f same less by = by ∙ mod-eq_of_lt (subst (λ k. n < k) same less)

-- the events of a run by a schedule that leaves those of another run
pub follow : (ns : List ℕ) (es fs : List ChoicePoint) → Branches ns es → Part es fs → AreBy ns fs → Follow ns fs
follow [] es fs b p a = absurd b
follow (n ∷ ns) [] fs b p a = absurd b
follow (n ∷ ns) (e ∷ es) [] b p a = absurd p
follow (n ∷ ns) (e ∷ es) (f ∷ fs) (inl h) (inl q) a =
    let own = own_choice n e f (ap (λ x. x.count) q.0) h.1 a.0 in
    let same : e.choice ≡ f.choice = ap (λ x. x.choice) q.0 in
    let less = h.0 in
    absurd (omega arith)
follow (n ∷ ns) (e ∷ es) (f ∷ fs) (inl h) (inr q) a = (
  own_choice n e f q.count h.1 a.0,
  subst (λ ms. Follow ms fs) (sym h.2) (subst (λ ms. AreBy ms fs) h.2 a.1),
)
follow (n ∷ ns) (e ∷ es) (f ∷ fs) (inr h) (inl q) a =
    (sym (ap (λ x. x.choice) q.0) ∙ h.0, follow ns es fs h.1 q.1 a.1)
follow (n ∷ ns) (e ∷ es) (f ∷ fs) (inr h) (inr q) a =
    absurd (q.apart (h.0 ∙ sym (own_choice n e f q.count (subst (λ k. k < e.count) h.0 q.one_might) a.0)))
