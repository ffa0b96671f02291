-- Names and the processes that have them, after a change.
use Rattle.std.proofs.Common.{◌≡◌, ℕ, suc, Bool, true, false, not, [], ◌∷◌, Option, Some, None, ◌==◌, if◌then◌else◌}
use Rattle.std.proofs.Common.{refl, sym, ap, ◌∙◌, arith}
use Rattle.std.specs.Prelude.{is_some}
use Rattle.std.proofs.lemmas.Bool.{false≢true}
use Rattle.std.proofs.lemmas.Bool.Decides.{nat_tests}
use Rattle.pf_sorted.specs.Maps.{got, put, without}
use Rattle.pf_model.specs.Actions.{has_name}
use Rattle.pf_model.specs.Ends.{without_name}
use Rattle.pf_model.proofs.Maps.{got_put, got_other, got_without, got_without_other}
use Rattle.pf_ties.specs.Names.{AreInverse}
use Rattle.pf_sorted.proofs.Indices.{eq_of}
use Rattle.pf_sorted.proofs.Maps.{Rises, got_above, put_rises, without_rises}
use Rattle.pf_ties.proofs.LookUps.{Entries, eq_self, same_from, some_is, none_some, without_none}

eq_flip : (a b : ℕ) → (a == b) ≡ (b == a)
eq_flip a b = grind (arith, nat_tests)

-- what is in the one map is in the other, the other way round
abbrev Leads : Entries → Entries → Type 0
Leads a b = (n p : ℕ) → got n a ≡ Some p → got p b ≡ Some n

-- ---- a name more

leads_put : (a b : Entries) (n p : ℕ) → Leads a b → got p b ≡ None → Leads (put n p a) (put p n b)
leads_put a b n p h free m q e = by (m == n) refl
  where
    other : (t : Bool) → (q == p) ≡ t → (m == n) ≡ false → got q (put p n b) ≡ Some m
    other true z k =
        none_some (got p b) m free (ap (λ y. got y b) (sym (same_from q p z)) ∙ h m q (sym (got_other m n p a k) ∙ e))
    other false z k = got_other q p n b z ∙ h m q (sym (got_other m n p a k) ∙ e)

    by : (t : Bool) → (m == n) ≡ t → got q (put p n b) ≡ Some m
    by true k =
        let i = same_from m n k in
        let o : p ≡ q = some_is p q (sym (got_put n p a) ∙ ap (λ y. got y (put n p a)) (sym i) ∙ e) in
        ap (λ y. got y (put p n b)) (sym o) ∙ got_put p n b ∙ ap (λ y. Some y) (sym i)
    by false k = other (q == p) refl k

pub inverse_put : (a b : Entries) (n p : ℕ) → AreInverse a b → got n a ≡ None → got p b ≡ None
    → AreInverse (put n p a) (put p n b)
inverse_put a b n p h new' free = record {
  rising = put_rises 0 n p a (omega arith) h.rising;
  there = λ m q e. leads_put a b n p h.there free m q e;
  back = λ m q e. leads_put b a p n (λ x y z. h.back y x z) new' q m e;
}

-- ---- a name less

leads_without : (a b : Entries) (n p : ℕ) → Leads a b → got n a ≡ Some p → Leads (without n a) (without p b)
leads_without a b n p h has m q e = by (m == n) refl
  where
    other : (t : Bool) → (q == p) ≡ t → (m == n) ≡ false → got q (without p b) ≡ Some m
    other true z k =
        let i : m ≡ n = some_is m n (sym (h m q (sym (got_without_other m n a k) ∙ e)) ∙ ap (λ y. got y b)
        (same_from q p z) ∙ h n p has) in
        absurd (false≢true (sym k ∙ eq_of n m (sym i)))
    other false z k = got_without_other q p b z ∙ h m q (sym (got_without_other m n a k) ∙ e)

    by : (t : Bool) → (m == n) ≡ t → got q (without p b) ≡ Some m
    by true k =
        none_some (got m (without n a)) q (ap (λ y. got y (without n a)) (same_from m n k) ∙ got_without n a) e
    by false k = other (q == p) refl k

pub inverse_without : (a b : Entries) (n p : ℕ) → AreInverse a b → got n a ≡ Some p
    → AreInverse (without n a) (without p b)
inverse_without a b n p h e = record {
  rising = without_rises 0 n a h.rising;
  there = λ m q g. leads_without a b n p h.there e m q g;
  back = λ m q g. leads_without b a p n (λ x y z. h.back y x z) (h.there n p e) q m g;
}

-- a name is taken out where it isn't
pub inverse_same : (a b : Entries) (n p : ℕ) → AreInverse a b → got n a ≡ None → AreInverse (without n a) b
inverse_same a b n p h e = rw (without_none n a e) h

-- ---- whether a process has a name

named_from : (p n : ℕ) (a : Entries) → got n a ≡ Some p → has_name p a ≡ true
named_from p n [] e = none_some None p refl e
named_from p n (x ∷ xs) e = by (n == x.0) (p == x.1) refl e (named_from p n xs)
  where
    by : (t u : Bool) → (p == x.1) ≡ u → (if t then Some x.1 else got n xs) ≡ Some p
        → (got n xs ≡ Some p → has_name p xs ≡ true)
        → (if u then true else has_name p xs) ≡ true
    by t true k e r = refl
    by true false k e r = absurd (false≢true (sym k ∙ eq_of x.1 p (some_is x.1 p e)))
    by false false k e r = r e

-- an entry of the rest is in the whole
got_more : (n p : ℕ) (x : ℕ × ℕ) (xs : Entries) → Rises (suc x.0) xs → got n xs ≡ Some p → got n (x ∷ xs) ≡ Some p
got_more n p x xs h e = by (n == x.0) refl
  where
    by : (t : Bool) → (n == x.0) ≡ t → (if t then Some x.1 else got n xs) ≡ Some p
    by true k = none_some (got n xs) p (ap (λ y. got y xs) (same_from n x.0 k) ∙ got_above x.0 (suc x.0) xs
        (omega arith) h) e
    by false k = e

got_head : (x : ℕ × ℕ) (xs : Entries) → got x.0 (x ∷ xs) ≡ Some x.1
got_head x xs = rw (eq_self x.0) refl

unnamed_from : (p low : ℕ) (a : Entries) → Rises low a → ((n : ℕ) → got n a ≡ Some p → ⊥) → has_name p a ≡ false
unnamed_from p low [] h never = refl
unnamed_from p low (x ∷ xs) h never =
    by (p == x.1) refl (unnamed_from p (suc x.0) xs h.1 (λ n e. never n (got_more n p x xs h.1 e)))
  where
    by : (t : Bool) → (p == x.1) ≡ t → has_name p xs ≡ false → (if t then true else has_name p xs) ≡ false
    by true k r = absurd (never x.0 (got_head x xs ∙ ap (λ y. Some y) (sym (same_from p x.1 k))))
    by false k r = r

pub named_same : (a b : Entries) (p : ℕ) → AreInverse a b → is_some (got p b) ≡ has_name p a
named_same a b p h = by (got p b) refl
  where
    by : (o : Option ℕ) → got p b ≡ o → is_some o ≡ has_name p a
    by None e = sym (unnamed_from p 0 a h.rising (λ n g. none_some (got p b) n e (h.there n p g)))
    by (Some n) e = sym (named_from p n a (h.back n p e))

pub unnamed_none : (a b : Entries) (p : ℕ) → AreInverse a b → has_name p a ≡ false → got p b ≡ None
unnamed_none a b p h f = by (got p b) (named_same a b p h ∙ f)
  where
    by : (o : Option ℕ) → is_some o ≡ false → o ≡ None
    by None e = refl
    by (Some n) e = absurd (false≢true (sym e))

-- ---- a process without its name

kept : (p : ℕ) (a : Entries) → has_name p a ≡ false → without_name p a ≡ a
kept p [] f = refl
kept p (x ∷ xs) f = by (p == x.1) (x.1 == p) (eq_flip p x.1) f (kept p xs)
  where
    by : (t u : Bool) → t ≡ u → (if t then true else has_name p xs) ≡ false
        → (has_name p xs ≡ false → without_name p xs ≡ xs)
        → (if not u then x ∷ without_name p xs else without_name p xs) ≡ x ∷ xs
    by true u e f r = absurd (false≢true (sym f))
    by false true e f r = absurd (false≢true e)
    by false false e f r = ap (λ z. x ∷ z) (r f)

pub name_kept : (a b : Entries) (p : ℕ) → AreInverse a b → got p b ≡ None → a ≡ without_name p a
name_kept a b p h e = sym (kept p a (sym (named_same a b p h) ∙ ap is_some e))

lost : (p n low : ℕ) (a : Entries) → Rises low a → got n a ≡ Some p → ((m : ℕ) → got m a ≡ Some p → m ≡ n)
    → without n a ≡ without_name p a
lost p n low [] h e one = refl
lost p n low (x ∷ xs) h e one = by (n == x.0) (x.1 == p) refl refl e (lost p n (suc x.0) xs h.1)
  where
    none_more : n ≡ x.0 → (m : ℕ) → got m xs ≡ Some p → ⊥
    none_more i m g =
        let k : m ≡ x.0 = one m (got_more m p x xs h.1 g) ∙ i in
        none_some (got m xs) p (ap (λ y. got y xs) k ∙ got_above x.0 (suc x.0) xs (omega arith) h.1) g

    by : (t u : Bool) → (n == x.0) ≡ t → (x.1 == p) ≡ u → (if t then Some x.1 else got n xs) ≡ Some p
        → (got n xs ≡ Some p → ((m : ℕ) → got m xs ≡ Some p → m ≡ n) → without n xs ≡ without_name p xs)
        → (if t then without n xs else x ∷ without n xs) ≡ (if not u then x ∷ without_name p xs else without_name p xs)
    by true true k o e r =
        let i = same_from n x.0 k in
        let f = unnamed_from p (suc x.0) xs h.1 (none_more i) in
        ap (λ y. without y xs) i ∙ without_none x.0 xs (got_above x.0 (suc x.0) xs (omega arith) h.1)
        ∙ sym (kept p xs f)
    by true false k o e r = absurd (false≢true (sym o ∙ eq_of p x.1 (sym (some_is x.1 p e))))
    by false true k o e r =
        let i : x.0 ≡ n = one x.0 (got_head x xs ∙ ap (λ y. Some y) (same_from x.1 p o)) in
        absurd (false≢true (sym k ∙ eq_of x.0 n i))
    by false false k o e r = ap (λ z. x ∷ z) (r e (λ m g. one m (got_more m p x xs h.1 g)))

pub name_lost : (a b : Entries) (p n : ℕ) → AreInverse a b → got p b ≡ Some n → without n a ≡ without_name p a
name_lost a b p n h e =
    lost p n 0 a h.rising (h.back n p e) (λ m g. some_is m n (sym (h.there m p g) ∙ e))
