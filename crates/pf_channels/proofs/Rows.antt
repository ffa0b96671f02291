-- One row: what sending and taking at an index make of it.
use Rattle.std.proofs.Common.{◌≡◌, ℕ, zero, suc, ◌+◌, ◌<◌, ◌≤◌, ◌^◌, ◌==◌, Bool, true, false, nat_lt, if◌then◌else◌, []}
use Rattle.std.proofs.Common.{◌∷◌, Option, Some, None}
use Rattle.std.proofs.Common.{Result, Ok, Err, OnOk, OnErr, refl, sym, ap, ◌∙◌, arith, length, map, slice_get}
use Rattle.std.proofs.Common.{slice_index_or}
use Rattle.pf_model.specs.Channels.{Signal, Queue, SenderRow, with_last, row_with_left}
use Rattle.pf_sorted.specs.Maps.{got, put, without}
use Rattle.pf_sorted.specs.Sorted.{IsThere, IsGap}
use Rattle.pf_sorted.specs.Values.{IsValueAt, with_value}
use Rattle.pf_sorted.proofs.Maps.{Rises, got_gap, got_value, put_value, without_value}
use Rattle.pf_channels.specs.Rows.{taken_in, AreReceivers}

-- ---- receivers

pub receivers_put : (b : ℕ) (q : Queue) (r : SenderRow) → b < 2 ^ 32 → AreReceivers r → AreReceivers (put b q r)
receivers_put b q [] l h = (l, tt)
receivers_put b q (p ∷ ps) l h = by (b == p.0) (nat_lt b p.0) (receivers_put b q ps l h.1)
  where
    by : (e t : Bool) → AreReceivers (put b q ps)
        → AreReceivers (if e then (b, q) ∷ ps else (if t then (b, q) ∷ p ∷ ps else p ∷ put b q ps))
    by true t rest = (l, h.1)
    by false true rest = (l, h)
    by false false rest = (h.0, rest)

pub receivers_without : (b : ℕ) (r : SenderRow) → AreReceivers r → AreReceivers (without b r)
receivers_without b [] h = tt
receivers_without b (p ∷ ps) h = by (b == p.0) (receivers_without b ps h.1)
  where
    by : (e : Bool) → AreReceivers (without b ps) → AreReceivers (if e then without b ps else p ∷ without b ps)
    by true rest = rest
    by false rest = (h.0, rest)

pub receivers_value : (r : SenderRow) (i : ℕ) (q : Queue) → AreReceivers r → AreReceivers (with_value r i q)
receivers_value [] i q h = tt
receivers_value (p ∷ ps) zero q h = h
receivers_value (p ∷ ps) (suc i) q h = (h.0, receivers_value ps i q h.1)

pub receiver_at : (r : SenderRow) (i : ℕ) (d : ℕ × Queue) → AreReceivers r → i < length r
    → (slice_index_or r i d).0 < 2 ^ 32
receiver_at [] i d h l = absurd (omega arith)
receiver_at (p ∷ ps) zero d h l = h.0
receiver_at (p ∷ ps) (suc i) d h l = receiver_at ps i d h.1 (omega arith)

pub receiver_key : (r : SenderRow) (i : ℕ) (d : ℕ × Queue) → i < length r
    → slice_get (map (λ p. p.0) r) i ≡ Some (slice_index_or r i d).0
receiver_key [] i d l = absurd (omega arith)
receiver_key (p ∷ ps) zero d l = refl
receiver_key (p ∷ ps) (suc i) d l = receiver_key ps i d (omega arith)

-- ---- how many queues

pub length_put : (b : ℕ) (q : Queue) (r : SenderRow)
    → (length r ≤ length (put b q r)) × (length (put b q r) ≤ length r + 1)
length_put b q [] = (omega arith, omega arith)
length_put b q (p ∷ ps) = by (b == p.0) (nat_lt b p.0) (length_put b q ps)
  where
    by : (e t : Bool) → (length ps ≤ length (put b q ps)) × (length (put b q ps) ≤ length ps + 1)
        → (suc (length ps) ≤ length (if e then (b, q) ∷ ps else (if t then (b, q) ∷ p ∷ ps else p ∷ put b q ps)))
        × (length (if e then (b, q) ∷ ps else (if t then (b, q) ∷ p ∷ ps else p ∷ put b q ps)) ≤ suc (length ps) + 1)
    by true t h = (omega arith, omega arith)
    by false true h = (omega arith, omega arith)
    by false false h = let low = h.0 in let high = h.1 in (omega arith, omega arith)

pub length_without : (b : ℕ) (r : SenderRow) → length (without b r) ≤ length r
length_without b [] = omega arith
length_without b (p ∷ ps) = by (b == p.0) (length_without b ps)
  where
    by : (e : Bool) → length (without b ps) ≤ length ps
        → length (if e then without b ps else p ∷ without b ps) ≤ suc (length ps)
    by true h = omega arith
    by false h = omega arith

pub length_value : (r : SenderRow) (i : ℕ) (q : Queue) → length (with_value r i q) ≡ length r
length_value [] i q = refl
length_value (p ∷ ps) zero q = refl
length_value (p ∷ ps) (suc i) q = ap suc (length_value ps i q)

-- ---- sending

value_same : (r : SenderRow) (i : ℕ) (q : Queue) → IsValueAt r i q → with_value r i q ≡ r
value_same [] i q v = absurd v
value_same (p ∷ ps) zero q v = ap (λ x. (p.0, x) ∷ ps) (sym v)
value_same (p ∷ ps) (suc i) q v = ap (λ x. p ∷ x) (value_same ps i q v)

module _ {U E : Type 0} (b : ℕ) (r : SenderRow) (i : ℕ) where
  -- one signal more at the end of the queue that was found

  pub sent_found : (old q : Queue) (s : Signal) (o : Result U E) → IsThere (λ e. e.0) b r i → IsValueAt r i old
      → OnOk o (q ≡ with_last (Some old) s) → OnOk o (with_value r i q ≡ put b (with_last (got b r) s) r)
  sent_found old q s (Err e) h v pushed = tt
  sent_found old q s (Ok u) h v pushed =
      put_value b q r i h ∙ ap (λ x. put b x r) (pushed ∙ ap (λ x. with_last x s) (sym (got_value b r i old h v)))

  pub refused_found : (old q : Queue) (o : Result U E) → IsValueAt r i old → OnErr o (q ≡ old)
      → OnErr o (with_value r i q ≡ r)
  refused_found old q (Ok u) v same = tt
  refused_found old q (Err e) v same = ap (with_value r i) same ∙ value_same r i old v

  pub count_found : (q : Queue) (o : Result U E) → OnOk o (length r ≤ length (with_value r i q))
  count_found q (Err e) = tt
  count_found q (Ok u) = omega (arith, length_value r i q)

  pub one_found : (q : Queue) (o : Result U E) → OnOk o (length (with_value r i q) ≤ length r + 1)
  one_found q (Err e) = tt
  one_found q (Ok u) = omega (arith, length_value r i q)

module _ {U E : Type 0} (b : ℕ) (q : Queue) (r new' : SenderRow) where
  -- a queue of one signal in the gap

  pub sent_gap : (i : ℕ) (s : Signal) (o : Result U E) → Rises 0 r → IsGap (λ e. e.0) b r i → q ≡ with_last None s
      → OnOk o (new' ≡ put b q r) → OnOk o (new' ≡ put b (with_last (got b r) s) r)
  sent_gap i s (Err e) h g first put_in = tt
  sent_gap i s (Ok u) h g first put_in =
      put_in ∙ ap (λ x. put b x r) (first ∙ ap (λ x. with_last x s) (sym (got_gap b 0 r i h g)))

  pub receivers_gap : (o : Result U E) → b < 2 ^ 32 → AreReceivers r → OnOk o (new' ≡ put b q r) → OnErr o (new' ≡ r)
      → AreReceivers new'
  receivers_gap (Err e) l h put_in same = rw same h
  receivers_gap (Ok u) l h put_in same = rw put_in (receivers_put b q r l h)

  pub count_gap : (o : Result U E) → OnOk o (new' ≡ put b q r) → OnOk o (length r ≤ length new')
  count_gap (Err e) put_in = tt
  count_gap (Ok u) put_in = rw put_in ((length_put b q r).0)

  pub one_gap : (o : Result U E) → OnOk o (new' ≡ put b q r) → OnOk o (length new' ≤ length r + 1)
  one_gap (Err e) put_in = tt
  one_gap (Ok u) put_in = rw put_in ((length_put b q r).1)

-- ---- taking

abbrev given : Signal → SenderRow → Option (Signal × SenderRow)
given s r = Some (s, r)

-- the oldest of several
pub taken_found : (b : ℕ) (r : SenderRow) (i : ℕ) (old q : Queue) (s : Signal) → IsThere (λ e. e.0) b r i
    → IsValueAt r i old
    → old.first ≡ s → old.rest ≡ q.first ∷ q.rest → taken_in b r (got b r) ≡ Some (s, with_value r i q)
taken_found b r i old q s h v oldest left =
    ap (taken_in b r) (got_value b r i old h v) ∙ ap (λ x. given x (row_with_left b old.rest r)) oldest
    ∙ ap (λ ss. given s (row_with_left b ss r)) left ∙ ap (given s) (sym (put_value b q r i h))

-- the only one
pub taken_only : (b : ℕ) (r : SenderRow) (i : ℕ) (old q : Queue) (s : Signal) → Rises 0 r → IsThere (λ e. e.0) b r i
    → IsValueAt r i old
    → old.first ≡ s → old.rest ≡ [] → taken_in b r (got b r) ≡ Some (s, without b (with_value r i q))
taken_only b r i old q s rises h v oldest left =
    ap (taken_in b r) (got_value b r i old h v) ∙ ap (λ y. given y (row_with_left b old.rest r)) oldest
    ∙ ap (λ ss. given s (row_with_left b ss r)) left ∙ ap (given s) (sym (without_value b 0 q r i rises h))

-- what is at the index of a key, with another value
pub entry_at : (b : ℕ) (r : SenderRow) (i : ℕ) (q : Queue) (e : ℕ × Queue) → IsThere (λ x. x.0) b r i
    → slice_get (with_value r i q) i ≡ Some e
    → e ≡ (b, q)
entry_at b [] i q e h g = absurd h
entry_at b (p ∷ ps) zero q e h g = let same : ◌≡◌ {A = ℕ × Queue} (p.0, q) e = cc in sym same ∙ ap (λ k. (k, q)) h
entry_at b (p ∷ ps) (suc i) q e h g = entry_at b ps i q e h.1 g

pub taken_none : (b : ℕ) (r : SenderRow) (i : ℕ) → Rises 0 r → IsGap (λ e. e.0) b r i → taken_in b r (got b r) ≡ None
taken_none b r i h g = ap (taken_in b r) (got_gap b 0 r i h g)
