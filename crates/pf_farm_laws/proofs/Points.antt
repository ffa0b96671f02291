-- Each reply of a receipt was given at one point of the history of its project.
use Rattle.std.proofs.Common.{◌≡◌, ◌⊎◌, inl, inr, ℕ, zero, suc, ◌+◌, ◌<◌, ◌≤◌, ◌==◌, Bool, true, false, ◌&&◌, List, []}
use Rattle.std.proofs.Common.{◌∷◌, ◌++◌, map, Some, refl, sym, ap, ◌∙◌, subst, arith}
use Rattle.std.specs.Prelude.{All, slice_get}
use Rattle.std.proofs.lemmas.List.Elements.{All-nil, All-cons}
use base.Stored.{Gv, gnil, gnum, gcons}
use Rattle.pf_request.specs.Calls.{Call}
use Rattle.pf_desks.specs.Calls.{calls_in}
use Rattle.pf_desks.specs.Desk.{Profile, Desk, no_desk, Reply, Entry, called, claimed, filed, handed_back}
use Rattle.pf_desks.specs.Encoding.{coded_entry}
use Rattle.pf_desks.specs.History.{IsLegal, IsLegalDesk, calls_noted}
use Rattle.pf_desks.specs.Desks.{Desks, desk_at}
use Rattle.pf_desks.proofs.Histories.{split}
use Rattle.pf_farm_accounts.specs.declared.receipt.Receipt.{Receipt}
use Rattle.pf_farm_accounts.specs.Receipts.{put_if, of_project, AreCounted, weigh}
use Rattle.pf_farm_laws.specs.Tally.{one_if}
use Rattle.pf_farm_laws.specs.Points.{WasGiven, noted_by, AreTheCalls, HasItsPoint, RepliesHaveTheirPoints}
use Rattle.pf_farm_laws.specs.Points.{ReceiptsAreOfOwnCalls}
use Rattle.pf_farm_laws.proofs.Lists.{same_by, self_is}

-- ---- whether two entries are one, and which of two numbers is less

compare : (a b : ℕ) → (a < b) ⊎ ((a ≡ b) ⊎ (b < a))
compare zero zero = inr (inl refl)
compare zero (suc b) = inl (omega arith)
compare (suc a) zero = inr (inr (omega arith))
compare (suc a) (suc b) = further (compare a b)
  where
    further : (a < b) ⊎ ((a ≡ b) ⊎ (b < a)) → (suc a < suc b) ⊎ ((suc a ≡ suc b) ⊎ (suc b < suc a))
    further (inl low) = inl (omega (arith, low))
    further (inr (inl is)) = inr (inl (ap suc is))
    further (inr (inr high)) = inr (inr (omega (arith, high)))

both_true : (a b : Bool) → (a && b) ≡ true → (a ≡ true) × (b ≡ true)
both_true true b h = (refl, h)
both_true false b h = absurd (cc)

abbrev same : Gv → Gv → Bool
same gnil gnil = true
same gnil (gnum n) = false
same gnil (gcons a b) = false
same (gnum n) gnil = false
same (gnum n) (gnum m) = n == m
same (gnum n) (gcons a b) = false
same (gcons a b) gnil = false
same (gcons a b) (gnum n) = false
same (gcons a b) (gcons x y) = same a x && same b y

same_self : (g : Gv) → same g g ≡ true
same_self gnil = refl
same_self (gnum n) = self_is n
same_self (gcons a b) = ap (λ (x : Bool). x && same b b) (same_self a) ∙ same_self b

same_is : (g h : Gv) → same g h ≡ true → g ≡ h
same_is gnil gnil h = refl
same_is gnil (gnum n) h = absurd (cc)
same_is gnil (gcons a b) h = absurd (cc)
same_is (gnum n) gnil h = absurd (cc)
same_is (gnum n) (gnum m) h = ap gnum (same_by n m h)
same_is (gnum n) (gcons a b) h = absurd (cc)
same_is (gcons a b) gnil h = absurd (cc)
same_is (gcons a b) (gnum n) h = absurd (cc)
same_is (gcons a b) (gcons x y) h =
    let two = both_true (same a x) (same b y) h in
    let left = same_is a x two.0 in
    let right = same_is b y two.1 in
    λ i. gcons (left i) (right i)

abbrev same_entry : Entry → Entry → Bool
same_entry e f = same (coded_entry.code e) (coded_entry.code f)

same_entry_is : (e f : Entry) → same_entry e f ≡ true → e ≡ f
same_entry_is e f h = coded_entry.inj e f (same_is (coded_entry.code e) (coded_entry.code f) h)

-- ---- one point

abbrev calls_of_one : Entry → ℕ
calls_of_one (called c r) = 1
calls_of_one (claimed t) = 0
calls_of_one (filed t m) = 0
calls_of_one (handed_back t) = 0

calls_first : (e : Entry) (es : List Entry) → calls_in (e ∷ es) ≡ calls_of_one e + calls_in es
calls_first (called c r) es = refl
calls_first (claimed t) es = omega arith
calls_first (filed t m) es = omega arith
calls_first (handed_back t) es = omega arith

-- two places of a history with as many calls before them are one
one_place : (before other after rest : List Entry) (c c' : Call) (r r' : Reply)
    → before ++ called c r ∷ after ≡ other ++ called c' r' ∷ rest
    → calls_in other ≡ calls_in before → (other ≡ before) × (called c' r' ≡ called c r)
one_place [] [] after rest c c' r r' is same = (refl, cc)
one_place [] (called x y ∷ other) after rest c c' r r' is same = absurd (omega (arith, same))
one_place [] (claimed t ∷ other) after rest c c' r r' is same = absurd (cc)
one_place [] (filed t m ∷ other) after rest c c' r r' is same = absurd (cc)
one_place [] (handed_back t ∷ other) after rest c c' r r' is same = absurd (cc)
one_place (called x y ∷ before) [] after rest c c' r r' is same = absurd (omega (arith, same))
one_place (claimed t ∷ before) [] after rest c c' r r' is same = absurd (cc)
one_place (filed t m ∷ before) [] after rest c c' r r' is same = absurd (cc)
one_place (handed_back t ∷ before) [] after rest c c' r r' is same = absurd (cc)
one_place (e ∷ before) (f ∷ other) after rest c c' r r' is same =
    let head : f ≡ e = cc in
    let tail : before ++ called c r ∷ after ≡ other ++ called c' r' ∷ rest = cc in
    let more : calls_in other ≡ calls_in before = omega (
      arith,
      same,
      calls_first e before,
      calls_first f other,
      ap calls_of_one head,
    ) in
    let rest' = one_place before other after rest c c' r r' tail more in
    (λ i. head i ∷ rest'.0 i, rest'.1)

-- the place of a call is the one point at which it was answered, where the history is legal
answered_at : (p : Profile) (d : Desk) (before after : List Entry) (n : ℕ) (c : Call) (r : Reply) → IsLegalDesk p d
    → d.history ≡ before ++ called c r ∷ after
    → calls_in before + 1 ≡ n → WasGiven p d.history n c r
answered_at p d before after n c r legal is count =
    let at : _ = split p no_desk d before after (called c r)
    (subst (λ (es : List Entry). IsLegal p no_desk es d) is legal) in
    record {
      before = before;
      point = record {
        after = after;
        desk = at.0;
        noted = is;
        number = count;
        led = at.2;
        room = at.3.0;
        reply = at.3.1;
      };
      only = λ c' r' other x. one_place before other after x.after c c' r r' (sym is ∙ x.noted) (let m = x.number in
          omega (arith, m, count));
    }

-- ---- receipts

module _ {C A : Type 0} (call : C → Call) (reply : A → Reply) where
  -- what receipts of a project weigh that are so
  weigh_of : (q : ℕ) (f : Receipt C A → Bool) (rs : List (Receipt C A))
      → weigh (λ x. one_if ((x.project == q) && f x)) rs ≡ weigh (λ x. one_if (f x)) (of_project q rs)
  weigh_of q f [] = refl
  weigh_of q f (x ∷ rs) = by (x.project == q) (weigh_of q f rs)
    where
      by : (b : Bool) → weigh (λ y. one_if ((y.project == q) && f y)) rs ≡ weigh (λ y. one_if (f y)) (of_project q rs)
          → one_if (b && f x) + weigh (λ y. one_if ((y.project == q) && f y)) rs ≡ weigh (λ y. one_if (f y))
          (put_if b x (of_project q rs))
      by true rest = ap (λ (k : ℕ). one_if (f x) + k) rest
      by false rest = omega (arith, rest)

  -- a receipt is of this number, and this is noted of it
  abbrev is_noted : ℕ → Entry → Receipt C A → Bool
  is_noted n e x = (x.number == n) && same_entry (noted_by call reply x) e

  abbrev worth : ℕ → Entry → Receipt C A → ℕ
  worth n e x = one_if (is_noted n e x)

  abbrev worth_of : ℕ → ℕ → Entry → Receipt C A → ℕ
  worth_of q n e x = one_if ((x.project == q) && is_noted n e x)

  -- the place at which the history notes the call of that number
  abbrev IsPlace : ℕ → Entry → ℕ → List Entry → Type 0
  IsPlace n e k es = (before : List Entry) × (after : List Entry) × (es ≡ before ++ e ∷ after)
      × (calls_in before + k ≡ n)

  one_more : (n k j : ℕ) (e x : Entry) (es : List Entry) → calls_of_one x + k ≡ j → IsPlace n e j es
      → IsPlace n e k (x ∷ es)
  one_more n k j e x es step h = (
    x ∷ h.0,
    h.1,
    ap (λ (l : List Entry). x ∷ l) h.2,
    (let m = h.3 in omega (arith, m, step, calls_first x h.0)),
  )

  place : (n : ℕ) (e : Entry) (k : ℕ) (rs : List (Receipt C A)) (es : List Entry) → AreCounted k rs
      → map (noted_by call reply) rs ≡ calls_noted es
      → 0 < weigh (worth n e) rs → IsPlace n e k es
  place n e k [] es counted is some = absurd (omega (arith, some))
  place n e k (x ∷ rs) [] counted is some = absurd (cc)
  place n e k (x ∷ rs) (claimed t ∷ es) counted is some = one_more n k k e (claimed t) es (omega arith)
      (place n e k (x ∷ rs) es counted is some)
  place n e k (x ∷ rs) (filed t m ∷ es) counted is some = one_more n k k e (filed t m) es (omega arith)
      (place n e k (x ∷ rs) es counted is some)
  place n e k (x ∷ rs) (handed_back t ∷ es) counted is some = one_more n k k e (handed_back t) es (omega arith)
      (place n e k (x ∷ rs) es counted is some)
  place n e k (x ∷ rs) (called c r ∷ es) counted is some =
      by (is_noted n e x) refl (λ more. place n e (suc k) rs es counted.1 tail more) some
    where
      head : noted_by call reply x ≡ called c r
      head = cc (is)

      tail : map (noted_by call reply) rs ≡ calls_noted es
      tail = cc (is)

      by : (b : Bool) → is_noted n e x ≡ b → (0 < weigh (worth n e) rs → IsPlace n e (suc k) es)
          → 0 < one_if b + weigh (worth n e) rs → IsPlace n e k (called c r ∷ es)
      by true h further some =
          let two = both_true (x.number == n) (same_entry (noted_by call reply x) e) h in
          let this : called c r ≡ e = sym head ∙ same_entry_is (noted_by call reply x) e two.1 in (
            [],
            es,
            ap (λ (y : Entry). y ∷ es) this,
            (let number : x.number ≡ n = same_by x.number n two.0 in let start = counted.0 in
                omega (arith, number, start)),
          )
      by false h further some = one_more n k (suc k) e (called c r) es (omega arith) (further (omega (arith, some)))

  -- a receipt weighs 1 by its own project, number and note
  own_worth : (x : Receipt C A) → worth_of x.project x.number (noted_by call reply x) x ≡ 1
  own_worth x =
      ap one_if (
      (λ i. self_is x.project i && ((x.number == x.number) && same_entry (noted_by call reply x)
      (noted_by call reply x)))
      ∙ (λ i. self_is x.number i && same_entry (noted_by call reply x) (noted_by call reply x))
      ∙ same_self (coded_entry.code (noted_by call reply x))
      )

  module _ (p : Profile) (w : Desks) (legal : (q : ℕ) → IsLegalDesk p (desk_at q w)) (log : List (Receipt C A))
      (counted : (q : ℕ) → AreCounted 1 (of_project q log))
      (noted : (q : ℕ) → map (noted_by call reply) (of_project q log) ≡ calls_noted (desk_at q w).history) where
    point_of : (x : Receipt C A) → 0 < weigh (worth_of x.project x.number (noted_by call reply x)) log
        → HasItsPoint call reply p w x
    point_of x some =
        let q = x.project in
        let e = noted_by call reply x in
        let at : IsPlace x.number e 1 (desk_at q w).history =
        place x.number e 1 (of_project q log) (desk_at q w).history (counted q) (noted q)
        (omega (arith, some, weigh_of q (is_noted x.number e) log)) in
        answered_at p (desk_at q w) at.0 at.1 x.number (call x.call.value) (reply x.reply.value) (legal q) at.2 at.3

    each_point : (rs : List (Receipt C A)) → ((h : Receipt C A → ℕ) → weigh h rs ≤ weigh h log)
        → All (HasItsPoint call reply p w) rs
    each_point [] less = All-nil _
    each_point (x ∷ rs) less =
        All-cons (HasItsPoint call reply p w) x rs
        (point_of x (let m = less (worth_of x.project x.number (noted_by call reply x)) in
        omega (arith, m, own_worth x)))
        (each_point rs (λ h. let m = less h in omega (arith, m)))

  pub replies_have_their_points : RepliesHaveTheirPoints call reply
  replies_have_their_points p rs w legal calls =
      each_point p w legal calls.0 calls.2.0 calls.2.1 rs (λ h. let m = calls.1 h in omega (arith, m))

  -- ---- no two receipts of one call

  -- at most one of receipts that are counted from k has a number, and none has one below k
  counted_once : (n k : ℕ) (rs : List (Receipt C A)) → AreCounted k rs
      → (weigh (λ x. one_if (x.number == n)) rs ≤ 1) × (n < k → weigh (λ x. one_if (x.number == n)) rs ≡ 0)
  counted_once n k [] counted = (omega arith, λ low. refl)
  counted_once n k (x ∷ rs) counted = by (x.number == n) refl (counted_once n (suc k) rs counted.1)
    where
      by : (b : Bool) → (x.number == n) ≡ b → (weigh (λ y. one_if (y.number == n)) rs ≤ 1) × (n < suc k
          → weigh (λ y. one_if (y.number == n)) rs ≡ 0)
          → (one_if b + weigh (λ y. one_if (y.number == n)) rs ≤ 1) × (n < k
          → one_if b + weigh (λ y. one_if (y.number == n)) rs ≡ 0)
      by true is rest =
          let number : x.number ≡ n = same_by x.number n is in
          let first : x.number ≡ k = counted.0 in
          let none : weigh (λ y. one_if (y.number == n)) rs ≡ 0 = rest.1 (omega (arith, number, first)) in
          (omega (arith, none), λ low. absurd (omega (arith, number, first, low)))
      by false is rest = let at_most = rest.0 in
          (omega (arith, at_most), λ low. let none = rest.1 (omega (arith, low)) in omega (arith, none))

  module _ (h : Receipt C A → ℕ) where
    one_weighs : (xs : List (Receipt C A)) (k : ℕ) (s : Receipt C A) → slice_get xs k ≡ Some s → h s ≤ weigh h xs
    one_weighs [] k s at = absurd (cc)
    one_weighs (x ∷ xs) zero s at = let is : x ≡ s = cc (at) in omega (arith, ap h is)
    one_weighs (x ∷ xs) (suc k) s at = omega (arith, one_weighs xs k s at)

    two_weigh : (xs : List (Receipt C A)) (i k : ℕ) (r s : Receipt C A) → slice_get xs i ≡ Some r
        → slice_get xs k ≡ Some s → i < k → h r + h s ≤ weigh h xs
    two_weigh [] i k r s first last low = absurd (cc)
    two_weigh (x ∷ xs) zero zero r s first last low = absurd (omega (arith, low))
    two_weigh (x ∷ xs) zero (suc k) r s first last low = let is : x ≡ r = cc (first) in
        omega (arith, ap h is, one_weighs xs k s last)
    two_weigh (x ∷ xs) (suc i) zero r s first last low = absurd (omega (arith, low))
    two_weigh (x ∷ xs) (suc i) (suc k) r s first last low =
        omega (arith, two_weigh xs i k r s first last (omega (arith, low)))

  not_before : (rs : List (Receipt C A)) (w : Desks) → AreTheCalls call reply rs w → (i k : ℕ) (r s : Receipt C A)
      → slice_get rs i ≡ Some r → slice_get rs k ≡ Some s
      → r.project ≡ s.project → r.number ≡ s.number → i < k → ⊥
  not_before rs w calls i k r s first last project number low =
      let is_one : Receipt C A → Bool = λ x. x.number == r.number in
      let h : Receipt C A → ℕ = λ x. one_if ((x.project == r.project) && is_one x) in
      let own : h r ≡ 1 = ap one_if ((λ j. self_is r.project j && (r.number == r.number)) ∙ self_is r.number) in
      let other : h s ≡ 1 = ap (λ (x : ℕ × ℕ). one_if ((x.0 == r.project) && (x.1 == r.number)))
      (λ j. (sym project j, sym number j)) ∙ own in
      let once = (counted_once r.number 1 (of_project r.project calls.0) (calls.2.0 r.project)).0 in
      let same = calls.1 h in
      omega (arith, own, other, once, same, two_weigh h rs i k r s first last low, weigh_of r.project is_one calls.0)

  pub receipts_are_of_own_calls : ReceiptsAreOfOwnCalls call reply
  receipts_are_of_own_calls rs w calls i k r s first last project number = by (compare i k)
    where
      by : (i < k) ⊎ ((i ≡ k) ⊎ (k < i)) → i ≡ k
      by (inl low) = absurd (not_before rs w calls i k r s first last project number low)
      by (inr (inl is)) = is
      by (inr (inr high)) = absurd (not_before rs w calls k i s r last first (sym project) (sym number) high)
