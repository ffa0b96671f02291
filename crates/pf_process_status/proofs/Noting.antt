-- Notes of failures, event by event, and the points that are taken from them.
use Rattle.std.proofs.Common.{◌≡◌, ◌⊎◌, inl, inr, ◌<◌, ◌≤◌, ◌==◌, ℕ, zero, suc, Bool, true, false, if◌then◌else◌, List}
use Rattle.std.proofs.Common.{[], ◌∷◌, ◌++◌, Option, Some, None, length, take, get_or, ◌+◌, refl, sym, ap, ◌∙◌, subst}
use Rattle.std.proofs.Common.{arith}
use Rattle.std.specs.Prelude.{slice_get}
use Rattle.std.proofs.lemmas.Bool.{cases_lt, eqb-true}
use Rattle.std.proofs.lemmas.List.{take_more}
use Rattle.std.proofs.lemmas.Bool.Decides.{nat_tests}
use Rattle.std.proofs.lemmas.Option.{same_Some}
use Rattle.pf_terms.specs.Value.{Value}
use Rattle.pf_terms.specs.Fixed.{normal}
use Rattle.pf_model.specs.Labels.{Label, ends}
use Rattle.pf_model.specs.Meaning.{Event}
use Rattle.pf_model.specs.declared.report.Actor.{Actor}
use Rattle.pf_model.specs.declared.report.Actor.TheVariants.{Process, Channel}
use Rattle.pf_stepper.specs.declared.point.Point.{Point}
use Rattle.pf_process_status.specs.Fates.{EndsSo, who_ends}
use Rattle.pf_process_status.specs.Noted.{AreMade, AreNoted, none_made, one_more, Fails, HasNote, HasPoint, IsNoted}
use Rattle.pf_process_status.specs.Noted.{PutsPoint, TakePoints, failed_from, failure, last_or, last_point, raises_in}
use Rattle.pf_process_status.specs.Put.{ArePlaced, IsAlike, IsStatusOf, IsPut, failed_at, failed_in}
use Rattle.pf_process_status.specs.declared.ends.ProcessEnd.{ProcessEnd}
use Rattle.pf_process_status.specs.declared.ends.ProcessEnd.TheVariants as end
use Rattle.pf_process_status.specs.declared.failures.FailedProcess.{FailedProcess}
use Rattle.pf_process_status.specs.declared.failures.Notes.{Notes}
use Rattle.pf_process_status.specs.declared.standing.ProcessFate.{ProcessFate}
use Rattle.pf_process_status.specs.declared.standing.ProcessFate.TheVariants as fate
use Rattle.pf_process_status.specs.declared.standing.ProcessStatus.{ProcessStatus}

-- ---- lists

stays_at : (fs : List FailedProcess) (f g : FailedProcess) (i : ℕ) → slice_get fs i ≡ Some g
    → slice_get (fs ++ f ∷ []) i ≡ Some g
stays_at [] f g i e = absurd (cc)
stays_at (h ∷ fs) f g zero e = e
stays_at (h ∷ fs) f g (suc i) e = stays_at fs f g i e

last_at : (fs : List FailedProcess) (f : FailedProcess) → slice_get (fs ++ f ∷ []) (length fs) ≡ Some f
last_at [] f = refl
last_at (h ∷ fs) f = last_at fs f

note_stays : (fs : List FailedProcess) (f : FailedProcess) (q n : ℕ) → HasNote fs q n → HasNote (fs ++ f ∷ []) q n
note_stays fs f q n (i, g, at, pid, event) = (i, g, stays_at fs f g i at, pid, event)

point_stays : (fs : List FailedProcess) (f : FailedProcess) (q n : ℕ) (o : Option Point) → HasPoint fs q n o
    → HasPoint (fs ++ f ∷ []) q n o
point_stays fs f q n o (i, g, at, pid, event, point) = (i, g, stays_at fs f g i at, pid, event, point)

-- a note is the last or one before it
shifted : (h : FailedProcess) (fs : List FailedProcess) (f : FailedProcess) (q n : ℕ)
    → HasNote fs q n ⊎ ((f.pid ≡ q) × (f.event ≡ n))
    → HasNote (h ∷ fs) q n ⊎ ((f.pid ≡ q) × (f.event ≡ n))
shifted h fs f q n (inl (i, g, at, pid, event)) = inl (suc i, g, at, pid, event)
shifted h fs f q n (inr x) = inr x

where_at : (fs : List FailedProcess) (f g : FailedProcess) (q n i : ℕ) → slice_get (fs ++ f ∷ []) i ≡ Some g
    → g.pid ≡ q → g.event ≡ n
    → HasNote fs q n ⊎ ((f.pid ≡ q) × (f.event ≡ n))
where_at [] f g q n zero at pid event =
    let same : f ≡ g = same_Some f g at in inr (
      ap (λ (z : FailedProcess). z.pid) same ∙ pid,
      ap (λ (z : FailedProcess). z.event) same ∙ event,
    )
where_at [] f g q n (suc i) at pid event = absurd (cc)
where_at (h ∷ fs) f g q n zero at pid event = inl (zero, g, at, pid, event)
where_at (h ∷ fs) f g q n (suc i) at pid event = shifted h fs f q n (where_at fs f g q n i at pid event)

note_where : (fs : List FailedProcess) (f : FailedProcess) (q n : ℕ) → HasNote (fs ++ f ∷ []) q n
    → HasNote fs q n ⊎ ((f.pid ≡ q) × (f.event ≡ n))
note_where fs f q n (i, g, at, pid, event) = where_at fs f g q n i at pid event

-- ---- who fails

killed_itself : (a p q : ℕ) (r : Value) (e : Event) → EndsSo p (end.Killed a) e → e.actor ≡ Process q → ⊥
killed_itself a p q r e h itself = let never : Channel a p ≡ Process q = sym h.0 ∙ itself in absurd (cc)

fails_as : (e : Event) (p q : ℕ) (x : ProcessEnd) → EndsSo p x e → who_ends e.actor e.label ≡ Some p
    → EndsSo q end.Failed e → x ≡ end.Failed
fails_as e p q end.Failed h who f = refl
fails_as e p q end.Normal h who f =
    let same : ends normal ≡ ends f.0 = sym h.1 ∙ f.1.1 in
    let reason : f.0 ≡ normal = cc in
    absurd (f.2 reason)
fails_as e p q (end.Killed a) h who f = absurd (killed_itself a p q f.0 e h f.1.0)

-- who ended so failed, or nobody did
pub failed_so : (e : Event) (p : ℕ) (x : ProcessEnd) → EndsSo p x e → who_ends e.actor e.label ≡ Some p
    → (x ≡ end.Failed → ⊥) → Fails e None
failed_so e p x h who not = λ q f. not (fails_as e p q x h who f)

-- nobody failed where nobody ended
pub none_failed : (e : Event) → who_ends e.actor e.label ≡ None → Fails e None
none_failed e none = λ q f.
    let who : who_ends e.actor e.label ≡ Some q = ap (λ x. who_ends x e.label) f.1.0
    ∙ ap (who_ends (Process q)) f.1.1 in
    let never : None ≡ Some q = sym none ∙ who in
    absurd (cc)

same_who : (e : Event) (p q : ℕ) → EndsSo p end.Failed e → EndsSo q end.Failed e → p ≡ q
same_who e p q h f = let same : Process p ≡ Process q = sym h.1.0 ∙ f.1.0 in cc

no_raise : (x : Actor) (l : Label) (r : Value) (q : ℕ) → l ≡ ends r → raises_in x l ≡ Some q → ⊥
no_raise x l r q e h = by x (sym (ap (raises_in x) e) ∙ h)
  where
    by : (x : Actor) → raises_in x (ends r) ≡ Some q → ⊥
    by (Process a) h = absurd (cc)
    by (Channel a b) h = absurd (cc)

-- ---- one event more

module _ (es : List Event) (n : ℕ) (e : Event) (at : slice_get es n ≡ Some e) (a b : Notes)
    (h : AreNoted es n a.failed.items) where
  -- the failure of this event has its note
  abbrev Here : Type 0
  Here = (q : ℕ) → EndsSo q end.Failed e → HasNote b.failed.items q n

  -- each earlier note stays
  abbrev Stay : Type 0
  Stay = (q i : ℕ) → HasNote a.failed.items q i → HasNote b.failed.items q i

  next : Here → Stay → AreNoted es (suc n) b.failed.items
  next here stay q i l f = by (cases_lt i n)
    where
      by : (i < n) ⊎ (n ≤ i) → HasNote b.failed.items q i
      by (inl below) = stay q i (h q i below f)
      by (inr above) =
          let same : i ≡ n = omega arith in
          let event : f.0 ≡ e = same_Some f.0 e (sym f.1 ∙ ap (slice_get es) same ∙ at) in
          subst (HasNote b.failed.items q) (sym same) (here q (subst (EndsSo q end.Failed) event f.2))

  pub noted : (raising failing : Option ℕ) (point : Option Point) → raising ≡ raises_in e.actor e.label
      → Fails e failing → IsNoted n raising failing point a b
      → AreNoted es (suc n) b.failed.items
  noted (Some p) o point is fails (same, raised) =
      next (λ q f. absurd (no_raise e.actor e.label f.0 p f.1.1 (sym is)))
      (λ q i. subst (λ fs. HasNote fs q i) (sym same))
  noted None (Some p) point is fails (more, raised) =
      let note = failure p n (failed_from a.raised.items p point) in
      next
      (λ q f. subst (λ fs. HasNote fs q n) (sym more) (
        length a.failed.items,
        note,
        last_at a.failed.items note,
        same_who e p q fails f,
        refl,
      ))
      (λ q i k. subst (λ fs. HasNote fs q i) (sym more) (note_stays a.failed.items note q i k))
  noted None None point is fails (same, raised) =
      next (λ q f. absurd (fails q f)) (λ q i. subst (λ fs. HasNote fs q i) (sym same))

-- each failure has its note
pub made_noted : (es : List Event) (n : ℕ) (s : Notes) → AreMade es n s → AreNoted es n s.failed.items
made_noted es _ _ (none_made s failed raised) = λ q i l f. absurd (omega (arith, l))
made_noted es _ _ (one_more n e a b at made (o, point, fails, is)) =
    noted es n e at a b (made_noted es n a made) (raises_in e.actor e.label) o point refl fails is

-- ---- the last raise

last_more : (o : Option Point) (q : ℕ) (fs : List FailedProcess) (f : FailedProcess)
    → last_or o q (fs ++ f ∷ []) ≡ (if f.pid == q then f.point else last_or o q fs)
last_more o q [] f = refl
last_more o q (g ∷ fs) f = last_more (if g.pid == q then g.point else o) q fs f

pub last_next : (q : ℕ) (fs : List FailedProcess) (i : ℕ) (d : FailedProcess) (last next : Option Point) → i < length fs
    → next ≡ (if (get_or fs i d).pid == q then (get_or fs i d).point else last) → last ≡ last_point q (take i fs)
    → next ≡ last_point q (take (i + 1) fs)
last_next q fs i d last next below is so =
    let f = get_or fs i d in
    is ∙ ap (λ (o : Option Point). if f.pid == q then f.point else o) so
    ∙ sym (last_more None q (take i fs) f) ∙ ap (last_point q) (sym (take_more fs i d below))

-- ---- points

other_pid : (p q : ℕ) → (p == q) ≡ false → q ≡ p → ⊥
other_pid p q h e = grind (arith, nat_tests)

same_failure : (n m : ℕ) (x y : Option Point) → fate.Failed n x ≡ fate.Failed m y → (n ≡ m) × (x ≡ y)
same_failure n m x y e =
    let event : n ≡ m = cc in
    let point : x ≡ y = cc in
    (event, point)

module _ (fs : List FailedProcess) (f : FailedProcess) (xs : List ProcessStatus) (h : TakePoints fs xs) where
  -- the note of a process that failed elsewhere
  passed_over : (failed_at (slice_get xs f.pid) ≡ Some f.event → ⊥) → TakePoints (fs ++ f ∷ []) xs
  passed_over not q x n o at is note = by (note_where fs f q n note)
    where
      by : HasNote fs q n ⊎ ((f.pid ≡ q) × (f.event ≡ n)) → HasPoint (fs ++ f ∷ []) q n o
      by (inl k) = point_stays fs f q n o (h q x n o at is k)
      by (inr k) =
          absurd (not (ap (λ p. failed_at (slice_get xs p)) k.0 ∙ ap failed_at at ∙ ap failed_in is
          ∙ ap (λ m. Some m) (sym k.1)))

  -- the point of a note is put
  put_in : (ys : List ProcessStatus) → IsPut f.pid (fate.Failed f.event f.point) xs ys → TakePoints (fs ++ f ∷ []) ys
  put_in ys put q y n o at is note = let was = put.each q y at in by (q == f.pid) refl was.4
    where
      x : ProcessStatus
      x = (put.each q y at).0

      by : (t : Bool) → (q == f.pid) ≡ t → y.fate ≡ (if t then fate.Failed f.event f.point else x.fate)
          → HasPoint (fs ++ f ∷ []) q n o
      by true same becomes =
          let failed = same_failure f.event n f.point o (sym becomes ∙ is) in
          (length fs, f, last_at fs f, sym (eqb-true q f.pid same), failed.0, failed.1)
      by false other stays = pick (note_where fs f q n note)
        where
          pick : HasNote fs q n ⊎ ((f.pid ≡ q) × (f.event ≡ n)) → HasPoint (fs ++ f ∷ []) q n o
          pick (inl k) = point_stays fs f q n o (h q x n o (put.each q y at).1 (sym stays ∙ is) k)
          pick (inr k) = absurd (other_pid q f.pid other k.0)

  -- with one note more
  pub put_next : (ys : List ProcessStatus) → PutsPoint f xs ys → TakePoints (fs ++ f ∷ []) ys
  put_next ys (inl put) = put_in ys put.1
  put_next ys (inr stays) = subst (TakePoints (fs ++ f ∷ [])) (sym stays.1) (passed_over stays.0)

-- the fates stay alike
pub placed_next : (f : FailedProcess) (zs xs ys : List ProcessStatus) → ArePlaced zs xs → PutsPoint f xs ys
    → ArePlaced zs ys
placed_next f zs xs ys h (inr stays) = subst (ArePlaced zs) (sym stays.1) h
placed_next f zs xs ys h (inl (failed, put)) =
    record { count = put.count ∙ h.count; each = λ q y s. over q y (put.each q y s) }
  where
    alike : (x y : ProcessFate) → IsAlike x y → (t : Bool) → (z : ProcessFate)
        → z ≡ (if t then fate.Failed f.event f.point else y)
        → (t ≡ true → failed_in y ≡ Some f.event) → IsAlike x z
    alike x y a false z e k = subst (IsAlike x) (sym e) a
    alike x y a true z e k = subst (IsAlike x) (sym e) (as_failed x y a (k refl))
      where
        as_failed : (x y : ProcessFate) → IsAlike x y → failed_in y ≡ Some f.event
            → IsAlike x (fate.Failed f.event f.point)
        as_failed (fate.Failed n p) (fate.Failed m q) a e = a ∙ same_Some m f.event e
        as_failed (fate.Failed n p) fate.Normal a e = absurd (cc)
        as_failed (fate.Failed n p) (fate.Killed b) a e = absurd (cc)
        as_failed (fate.Failed n p) (fate.Waits b) a e = absurd (cc)
        as_failed (fate.Failed n p) (fate.Goes b) a e = absurd (cc)
        as_failed fate.Normal y a e = let never : None ≡ Some f.event = sym (ap failed_in a) ∙ e in absurd (cc)
        as_failed (fate.Killed b) y a e = let never : None ≡ Some f.event = sym (ap failed_in a) ∙ e in absurd (cc)
        as_failed (fate.Waits b) y a e = let never : None ≡ Some f.event = sym (ap failed_in a) ∙ e in absurd (cc)
        as_failed (fate.Goes b) y a e = let never : None ≡ Some f.event = sym (ap failed_in a) ∙ e in absurd (cc)

    over : (q : ℕ) (y : ProcessStatus) → IsStatusOf (λ x z. z ≡ (if q == f.pid then fate.Failed f.event f.point else x))
        (slice_get xs q) y
        → IsStatusOf (λ x z. IsAlike x z) (slice_get zs q) y
    over q y (x, at, pid, begun, becomes) =
        let r = h.each q x at in (
          r.0,
          r.1,
          pid ∙ r.2,
          begun ∙ r.3,
          alike r.0.fate x.fate r.4 (q == f.pid) y.fate becomes
              (λ t. ap failed_at (sym at) ∙ ap (λ p. failed_at (slice_get xs p)) (eqb-true q f.pid t) ∙ failed),
        )

-- ---- one note more

pub points_next : (fs : List FailedProcess) (i : ℕ) (d : FailedProcess) (xs ys : List ProcessStatus) → i < length fs
    → TakePoints (take i fs) xs → PutsPoint (get_or fs i d) xs ys
    → TakePoints (take (i + 1) fs) ys
points_next fs i d xs ys below h put =
    subst (λ gs. TakePoints gs ys) (sym (take_more fs i d below)) (put_next (take i fs) (get_or fs i d) xs h ys put)
