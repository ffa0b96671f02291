-- Signals are sent one after another, and all that wait are arrows of their ways.
use Rattle.std.proofs.Common.{◌≡◌, ◌≢◌, ◌<◌, ◌⊎◌, inl, inr, ℕ, zero, suc, Bool, true, false, List, [], ◌∷◌, ◌++◌, Some}
use Rattle.std.proofs.Common.{None, Result, Ok, Err, eqb, length, get_or, refl, sym, ap, ◌∙◌, subst, append_assoc}
use Rattle.std.proofs.Common.{append-nil, arith}
use Rattle.std.specs.Prelude.{OnOk, if◌then◌else◌, slice_get}
use Rattle.std.specs.declared.cmp.Ordering.{Ordering}
use Rattle.std.specs.declared.cmp.Ordering.TheVariants.{Less, Equal, Greater}
use Rattle.std.specs.Ordering.{is_eq, nat_cmp, ordering_then}
use Rattle.std.specs.Cmp.{nat_cmp_is}
use Rattle.std.proofs.lemmas.Bool.Decides.{eqb_tells}
use Rattle.std.proofs.lemmas.Map.Lookups.{exact_unsigned}
use Rattle.std.proofs.lemmas.Option.{same_Some, slice_get-get_or, slice_get_within}
use Rattle.pf_chart.specs.Traffic.{AllAbove, AreOnWay, AreSentIn, AreWaiting, IsDelivered, IsEnded, IsOnWay}
use Rattle.pf_chart.specs.Traffic.{KeepsOthers, Sends, Way, is_way, open_arrow, waiting_signals, way_of}
use Rattle.pf_chart.specs.declared.arrows.Arrow.{Arrow}
use Rattle.pf_chart.specs.declared.arrows.ArrowEnd.{ArrowEnd}
use Rattle.pf_chart.specs.declared.arrows.ArrowEnd.TheVariants as reach
use Rattle.pf_chart.specs.declared.arrows.SignalKind.{SignalKind}
use Rattle.pf_chart.specs.declared.traffic.Traffic.{Traffic}

-- ---- numbers

-- two numbers are the same or not
abbrev pub Reports : (i n : ℕ) → Type 0
Reports i n = ((eqb i n ≡ true) × (i ≡ n)) ⊎ ((eqb i n ≡ false) × (i ≢ n))

-- ---- ways

both_equal : (a b : Ordering) → is_eq (ordering_then a b) ≡ true → (a ≡ Equal) × (b ≡ Equal)
both_equal Less b h = absurd (cc)
both_equal Greater b h = absurd (cc)
both_equal Equal Less h = absurd (cc)
both_equal Equal Greater h = absurd (cc)
both_equal Equal Equal h = (refl, refl)

order_equal : (a b : Ordering) → ordering_then a b ≡ Equal → (a ≡ Equal) × (b ≡ Equal)
order_equal a b h = both_equal a b (ap is_eq h)

abbrev way : (a b k : ℕ) → Way
way a b k = (a, b, k)

pub same_way : (w v : Way) → is_way w v ≡ true → w ≡ v
same_way w v h =
    let all = both_equal (ordering_then (nat_cmp w.0 v.0) (nat_cmp w.1 v.1)) (nat_cmp w.2 v.2) h in
    let ends = order_equal (nat_cmp w.0 v.0) (nat_cmp w.1 v.1) all.0 in
    let a = exact_unsigned w.0 v.0 ends.0 in
    let b = exact_unsigned w.1 v.1 ends.1 in
    let k = exact_unsigned w.2 v.2 all.1 in
    ap (λ (n : ℕ). way n w.1 w.2) a ∙ ap (λ (n : ℕ). way v.0 n w.2) b ∙ ap (λ (n : ℕ). way v.0 v.1 n) k

itself : (n : ℕ) → nat_cmp n n ≡ Equal
itself n = sym (nat_cmp_is n n Equal refl)

pub own_way : (w : Way) → is_way w w ≡ true
own_way w = rw (itself w.0, itself w.1, itself w.2) refl

-- ---- lists of arrows

pub stays_in : {X : Type 0} (xs more : List X) (i : ℕ) (x : X) → slice_get xs i ≡ Some x
    → slice_get (xs ++ more) i ≡ Some x
stays_in [] more i x h = absurd (cc)
stays_in (y ∷ xs) more zero x h = h
stays_in (y ∷ xs) more (suc i) x h = stays_in xs more i x h

pub at_seam : {X : Type 0} (xs : List X) (x : X) (more : List X) → slice_get (xs ++ x ∷ more) (length xs) ≡ Some x
at_seam [] x more = refl
at_seam (y ∷ xs) x more = at_seam xs x more

-- all but the arrow that ends stay
pub other_stays : (j : ℕ) (r : ArrowEnd) (xs ys : List Arrow) → IsEnded j r xs ys → (i : ℕ) (x : Arrow)
    → slice_get xs i ≡ Some x → (i ≡ j → ⊥) → slice_get ys i ≡ Some x
other_stays j r xs ys h i x at other =
    let within : i < length ys = omega (arith, h.0, slice_get_within xs i x at) in
    let is = slice_get-get_or ys i x within in
    let from = h.1 i (get_or ys i x) is in
    let same : from.0 ≡ x = same_Some from.0 x (sym from.1 ∙ at) in
    elim (eqb_tells i j) [
      | inl e ↦ absurd (other e.1)
      | inr n ↦ is ∙ ap Some (from.2 ∙ ap (λ (b : Bool). if b then record from.0 { reach = r } else from.0) n.0 ∙ same)
    ]

pub one_ends : (j : ℕ) (r : ArrowEnd) (xs ys : List Arrow) → IsEnded j r xs ys → (x : Arrow) → slice_get xs j ≡ Some x
    → slice_get ys j ≡ Some (record x { reach = r })
one_ends j r xs ys h x at =
    let within : j < length ys = omega (arith, h.0, slice_get_within xs j x at) in
    let is = slice_get-get_or ys j x within in
    let from = h.1 j (get_or ys j x) is in
    let same : from.0 ≡ x = same_Some from.0 x (sym from.1 ∙ at) in
    elim (eqb_tells j j) [
      | inl e ↦ is ∙ ap Some (from.2 ∙ ap (λ (b : Bool). if b then record from.0 { reach = r } else from.0) e.0
          ∙ ap (λ (z : Arrow). record z { reach = r }) same)
      | inr n ↦ absurd (n.1 refl)
    ]

-- ---- arrows that wait

on_way_more : (xs more : List Arrow) (w : Way) (is : List ℕ) → AreOnWay xs w is → AreOnWay (xs ++ more) w is
on_way_more xs more w [] h = tt
on_way_more xs more w (i ∷ is) (one, above, rest) =
    ((one.0, stays_in xs more i one.0 one.1, one.2, one.3), above, on_way_more xs more w is rest)

above_push : (i n : ℕ) (is : List ℕ) → i < n → AllAbove i is → AllAbove i (is ++ n ∷ [])
above_push i n [] low h = (low, tt)
above_push i n (j ∷ is) low (one, rest) = (one, above_push i n is low rest)

on_way_push : (xs : List Arrow) (x : Arrow) (w : Way) (is : List ℕ) → way_of x.from x.to x.kind ≡ w
    → x.reach ≡ reach.Nowhere → AreOnWay xs w is
    → AreOnWay (xs ++ x ∷ []) w (is ++ length xs ∷ [])
on_way_push xs x w [] way ends h = ((x, at_seam xs x [], way, ends), tt, tt)
on_way_push xs x w (i ∷ is) way ends (one, above, rest) = (
  (one.0, stays_in xs (x ∷ []) i one.0 one.1, one.2, one.3),
  above_push i (length xs) is (slice_get_within xs i one.0 one.1) above,
  on_way_push xs x w is way ends rest,
)

-- none of them ends
on_way_besides : (j : ℕ) (r : ArrowEnd) (xs ys : List Arrow) → IsEnded j r xs ys → (w : Way) (is : List ℕ)
    → AreOnWay xs w is
    → ((i : ℕ) → IsOnWay xs w i → i ≡ j → ⊥) → AreOnWay ys w is
on_way_besides j r xs ys h w [] are others = tt
on_way_besides j r xs ys h w (i ∷ is) (one, above, rest) others = (
  (one.0, other_stays j r xs ys h i one.0 one.1 (others i one), one.2, one.3),
  above,
  on_way_besides j r xs ys h w is rest others,
)

on_way_after : (j : ℕ) (r : ArrowEnd) (xs ys : List Arrow) → IsEnded j r xs ys → (w : Way) (is : List ℕ)
    → AreOnWay xs w is → AllAbove j is → AreOnWay ys w is
on_way_after j r xs ys h w [] are low = tt
on_way_after j r xs ys h w (i ∷ is) (one, above, rest) (first, low) = (
  (one.0, other_stays j r xs ys h i one.0 one.1 (λ e. omega (arith, first, e)), one.2, one.3),
  above,
  on_way_after j r xs ys h w is rest low,
)

-- ---- the signals that an event sends

sent_both : (n a : ℕ) (xs ys : List Arrow) → AreSentIn n a xs → AreSentIn n a ys → AreSentIn n a (xs ++ ys)
sent_both n a [] ys h k = k
sent_both n a (x ∷ xs) ys (one, rest) k = (one, sent_both n a xs ys rest k)

-- no signal is sent
pub sends_none : (n a : ℕ) (s t : Traffic) → t.arrows.items ≡ s.arrows.items → t.on_way ≡ s.on_way → Sends n a s t
sends_none n a s t arrows ways = record {
  more = [];
  after = arrows ∙ sym (append-nil s.arrows.items);
  are_sent = tt;
  wait = λ h w. subst (λ (xs : List Arrow). AreOnWay xs w (waiting_signals t.on_way w)) (sym arrows)
      (subst (λ o. AreOnWay s.arrows.items w (waiting_signals o w)) (sym ways) (h w));
}

pub sends_both : (n a : ℕ) (s t u : Traffic) → Sends n a s t → Sends n a t u → Sends n a s u
sends_both n a s t u h k = record {
  more = h.more ++ k.more;
  after = k.after ∙ ap (λ (xs : List Arrow). xs ++ k.more) h.after ∙ append_assoc s.arrows.items h.more k.more;
  are_sent = sent_both n a h.more k.more h.are_sent k.are_sent;
  wait = λ all. k.wait (h.wait all);
}

-- one is sent
pub sends_one : (n a b : ℕ) (k : SignalKind) (s t : Traffic)
    → t.arrows.items ≡ s.arrows.items ++ open_arrow n a b k ∷ []
    → waiting_signals t.on_way (way_of a b k) ≡ waiting_signals s.on_way (way_of a b k) ++ length s.arrows.items ∷ []
    → KeepsOthers (way_of a b k) s.on_way t.on_way → Sends n a s t
sends_one n a b k s t arrow last others = record {
  more = open_arrow n a b k ∷ [];
  after = arrow;
  are_sent = ((b, k, refl), tt);
  wait = λ h v. subst (λ (xs : List Arrow). AreOnWay xs v (waiting_signals t.on_way v)) (sym arrow)
      (goes h v (is_way w v) refl);
}
  where
    w : Way
    w = way_of a b k

    xs : List Arrow
    xs = s.arrows.items

    goes : AreWaiting s → (v : Way) (own : Bool) → is_way w v ≡ own
        → AreOnWay (xs ++ open_arrow n a b k ∷ []) v (waiting_signals t.on_way v)
    goes h v true is =
        subst (λ (u : Way). AreOnWay (xs ++ open_arrow n a b k ∷ []) u (waiting_signals t.on_way u)) (same_way w v is)
        (subst (AreOnWay (xs ++ open_arrow n a b k ∷ []) w) (sym last)
        (on_way_push xs (open_arrow n a b k) w (waiting_signals s.on_way w) refl refl (h w)))
    goes h v false is =
        subst (AreOnWay (xs ++ open_arrow n a b k ∷ []) v) (sym (others v is))
        (on_way_more xs (open_arrow n a b k ∷ []) v (waiting_signals s.on_way v) (h v))

-- ---- what is delivered

-- the rest of those that wait are still arrows of their ways
pub arrived_wait : (w : Way) (alone : Arrow) (s t : Traffic) → IsDelivered w alone s t → AreWaiting s → AreWaiting t
arrived_wait w alone s t (None, first, others, arrows) h v =
    subst (λ (xs : List Arrow). AreOnWay xs v (waiting_signals t.on_way v)) (sym arrows)
    (on_way_more s.arrows.items (alone ∷ []) v (waiting_signals t.on_way v) (old v (is_way w v) refl))
  where
    old : (v : Way) (own : Bool) → is_way w v ≡ own → AreOnWay s.arrows.items v (waiting_signals t.on_way v)
    old v true is = subst (λ (u : Way). AreOnWay s.arrows.items u (waiting_signals t.on_way u)) (same_way w v is)
        (subst (AreOnWay s.arrows.items w) first (h w))
    old v false is = subst (AreOnWay s.arrows.items v) (sym (others v is)) (h v)
arrived_wait w alone s t (Some j, first, others, ended) h v = rest v (is_way w v) refl
  where
    xs : List Arrow
    xs = s.arrows.items

    all : AreOnWay xs w (j ∷ waiting_signals t.on_way w)
    all = subst (AreOnWay xs w) first (h w)

    rest : (v : Way) (own : Bool) → is_way w v ≡ own → AreOnWay t.arrows.items v (waiting_signals t.on_way v)
    rest v true is =
        subst (λ (u : Way). AreOnWay t.arrows.items u (waiting_signals t.on_way u)) (same_way w v is)
        (on_way_after j alone.reach xs t.arrows.items ended w (waiting_signals t.on_way w) all.2 all.1)
    rest v false is =
        subst (AreOnWay t.arrows.items v) (sym (others v is))
        (on_way_besides j alone.reach xs t.arrows.items ended v (waiting_signals s.on_way v) (h v)
        (λ i on e. absurd (apart v is i on e)))
      where
        apart : (v : Way) → is_way w v ≡ false → (i : ℕ) → IsOnWay xs v i → i ≡ j → ⊥
        apart v is i on e =
            let there : slice_get xs j ≡ Some on.0 = subst (λ (k : ℕ). slice_get xs k ≡ Some on.0) e on.1 in
            let same : on.0 ≡ all.0.0 = same_Some on.0 all.0.0 (sym there ∙ all.0.1) in
            let ways : w ≡ v = sym all.0.2 ∙ ap (λ (x : Arrow). way_of x.from x.to x.kind) (sym same) ∙ on.2 in
            let never : true ≡ false = sym (own_way w) ∙ ap (is_way w) ways ∙ is in
            absurd (cc)

-- ---- results

-- what follows from two facts of a result that is well
pub both_ok_then : {X E : Type 0} {P Q R : Type 0} (r : Result X E) → (P → Q → R) → OnOk r P → OnOk r Q → OnOk r R
both_ok_then (Ok x) f p q = f p q
both_ok_then (Err e) f p q = tt

pub all_ok_then : {X E : Type 0} {P Q R S : Type 0} (r : Result X E) → (P → Q → R → S) → OnOk r P → OnOk r Q
    → OnOk r R → OnOk r S
all_ok_then (Ok x) f p q h = f p q h
all_ok_then (Err e) f p q h = tt
