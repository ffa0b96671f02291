-- The module and the edition of an order are those that the history notes before it.
use Rattle.std.proofs.Common.{◌≡◌, ◌⊎◌, ℕ, zero, suc, ◌+◌, Bool, true, false, List, [], ◌∷◌, ◌++◌, length, Option, Some}
use Rattle.std.proofs.Common.{None, inl, inr, ⊎_elim, refl, sym, ap, ◌∙◌, subst, append_assoc, append-nil, arith}
use Rattle.std.specs.Prelude.{Result, Ok, Err, if◌then◌else◌, slice_get, slice_set}
use Rattle.std.specs.Option.{option_flatten}
use Rattle.pf_errors.specs.declared.code.Code.{Code}
use Rattle.pf_errors.specs.declared.code.Code.TheVariants as code
use Rattle.pf_quota.specs.declared.charges.Charge.TheVariants as charge
use Rattle.pf_request.specs.Calls.{Call, submit, order, fetch, status, drop_trial, withdraw, usage, log, edition}
use Rattle.pf_request.specs.Job.{Job}
use Rattle.pf_check.specs.Module.{ReadModule}
use Rattle.pf_desks.specs.Desk.{Profile, Desk, no_desk, Entry, called, claimed, filed, handed_back, Trial}
use Rattle.pf_desks.specs.Desk.{SourceReading, readable, faulty, Reply, number, has_edition, refused, job_ordered}
use Rattle.pf_desks.specs.Desk.{held_at, with_held}
use Rattle.pf_desks.specs.Calls.{within_limits, passed_by, submitted, with_job, ordered, dropped, users_of, withdrawn}
use Rattle.pf_desks.specs.Calls.{in_edition, answer_of_call, noted, after_call, reply_to}
use Rattle.pf_desks.specs.Work.{is_queued, is_running, after_claim, after_file, after_hand_back}
use Rattle.pf_desks.specs.History.{EntryFollows, IsLegal}
use Rattle.pf_desks.proofs.Always.{where_so}
use Rattle.pf_farm_laws.specs.Orders.{IsSubmitted, edition_by, edition_after}

-- ---- lists with gaps

module _ {T : Type 0} where
  push_index : (xs : List (Option T)) (y : Option T) (i : ℕ) (x : T)
      → option_flatten (slice_get (xs ++ y ∷ []) i) ≡ Some x
      → (option_flatten (slice_get xs i) ≡ Some x) ⊎ ((i ≡ length xs) × (y ≡ Some x))
  push_index [] y zero x h = inr (refl, h)
  push_index [] y (suc i) x h = absurd (cc)
  push_index (z ∷ xs) y zero x h = inl h
  push_index (z ∷ xs) y (suc i) x h = ⊎_elim (λ a. inl a) (λ b. inr (ap suc b.0, b.1)) (push_index xs y i x h)

  -- what is held where one thing more is held at the end was held before, or is that thing
  push_held : (xs : List (Option T)) (y : Option T) (n : ℕ) (x : T) → held_at (xs ++ y ∷ []) n ≡ Some x
      → (held_at xs n ≡ Some x) ⊎ ((n ≡ length xs + 1) × (y ≡ Some x))
  push_held xs y zero x h = absurd (cc)
  push_held xs y (suc i) x h = ⊎_elim (λ a. inl a) (λ b. inr (omega (arith, b.0), b.1)) (push_index xs y i x h)

  gone_index : (xs : List (Option T)) (k i : ℕ) (x : T) → option_flatten (slice_get (slice_set xs k None) i) ≡ Some x
      → option_flatten (slice_get xs i) ≡ Some x
  gone_index [] k i x h = h
  gone_index (z ∷ xs) zero zero x h = absurd (cc)
  gone_index (z ∷ xs) zero (suc i) x h = h
  gone_index (z ∷ xs) (suc k) zero x h = h
  gone_index (z ∷ xs) (suc k) (suc i) x h = gone_index xs k i x h

  -- what is held where something was dropped was held before
  gone_held : (xs : List (Option T)) (u n : ℕ) (x : T) → held_at (with_held xs u None) n ≡ Some x
      → held_at xs n ≡ Some x
  gone_held xs zero n x h = h
  gone_held xs (suc k) zero x h = absurd (cc)
  gone_held xs (suc k) (suc i) x h = gone_index xs k i x h

-- ---- modules

-- what a call with a reply makes of the modules: they stay, one more is submitted, or one is withdrawn
data Shelves (p : Profile) (ms : List (Option ReadModule)) (c : Call) (r : Reply)
    (ms' : List (Option ReadModule)) : Type 0 where
  stay : ms' ≡ ms → Shelves p ms c r ms'
  more : (m : ReadModule) → p.reading m.source ≡ readable m.code → c ≡ submit m.source → r ≡ number (length ms + 1)
      → ms' ≡ ms ++ Some m ∷ [] → Shelves p ms c r ms'
  less : (u : ℕ) → ms' ≡ with_held ms u None → Shelves p ms c r ms'

module _ (p : Profile) (d : Desk) where
  abbrev Shelve : Call → Desk × Reply → Type 0
  Shelve c x = Shelves p d.modules c x.1 x.0.modules

  shelve_with : (c : Call) (o : Option Code) (x : Desk × Reply) → Shelve c x → Shelve c (within_limits d o x)
  shelve_with c None x h = h
  shelve_with c (Some e) x h = stay refl

  shelve_submitted : (text : List ℕ) (r : SourceReading) → p.reading text ≡ r
      → Shelve (submit text) (submitted d text r)
  shelve_submitted text (readable m) h = more (record { source = text; code = m }) h refl refl refl
  shelve_submitted text (faulty e) h = stay refl

  shelve_ordered : (c : Call) (n : ℕ) (r : Result Job Code) → Shelve c (ordered d n r)
  shelve_ordered c n (Ok j) = shelve_with c _ (with_job d n j, _) (stay refl)
  shelve_ordered c n (Err e) = stay refl

  shelve_dropped : (c : Call) (t : ℕ) (o : Option Trial) → Shelve c (dropped d t o)
  shelve_dropped c t None = stay refl
  shelve_dropped c t (Some x) = stay refl

  shelve_withdrawn : (c : Call) (n : ℕ) (o : Option ReadModule) (k : ℕ) → Shelve c (withdrawn d n o k)
  shelve_withdrawn c n None k = stay refl
  shelve_withdrawn c n (Some m) zero = less n refl
  shelve_withdrawn c n (Some m) (suc k) = stay refl

  shelve_moved : (c : Call) (e : ℕ) → Shelve c (in_edition d e)
  shelve_moved c e = by _ _
    where
      by : (b low : Bool)
          → Shelve c (if◌then◌else◌ {A = Desk × Reply} b (if low then (d, refused code.EditionTooLow)
          else (record d { edition = e }, has_edition)) (d, refused code.NoEdition))
      by true true = stay refl
      by true false = stay refl
      by false low = stay refl

  shelve_answered : (c : Call) → Shelve c (answer_of_call p d c)
  shelve_answered (submit text) = shelve_with (submit text) _ (submitted d text (p.reading text))
      (shelve_submitted text (p.reading text) refl)
  shelve_answered (order n r) = shelve_ordered (order n r) n (job_ordered p d.edition (held_at d.modules n) r)
  shelve_answered (fetch t) = stay refl
  shelve_answered (status t) = stay refl
  shelve_answered (drop_trial t) = shelve_dropped (drop_trial t) t (held_at d.trials t)
  shelve_answered (withdraw n) = shelve_withdrawn (withdraw n) n (held_at d.modules n) (users_of d n)
  shelve_answered usage = stay refl
  shelve_answered log = stay refl
  shelve_answered (edition e) = shelve_moved (edition e) e

  shelve_called : (c : Call) → Shelves p d.modules c (reply_to p d c) (after_call p d c).modules
  shelve_called c = shelve_with c (passed_by d charge.Call) (noted c (answer_of_call p d c)) (shelve_answered c)

module _ (p : Profile) where
  -- what is noted before and is read so
  abbrev pub IsOf : List Entry → ℕ → ReadModule → Type 0
  IsOf es n m = IsSubmitted es n m.source × (p.reading m.source ≡ readable m.code)

  -- each module that is held was submitted, and was given its number
  abbrev AreKnown : List Entry → List (Option ReadModule) → Type 0
  AreKnown es ms = (n : ℕ) (m : ReadModule) → held_at ms n ≡ Some m → IsOf es n m

  older : (es : List Entry) (e : Entry) (n : ℕ) (m : ReadModule) → IsOf es n m → IsOf (es ++ e ∷ []) n m
  older es e n m h = (
    (
      h.0.0,
      h.0.1 ++ e ∷ [],
      ap (λ (l : List Entry). l ++ e ∷ []) h.0.2 ∙ append_assoc h.0.0
          (called (submit m.source) (number n) ∷ h.0.1) (e ∷ []),
    ),
    h.1,
  )

  called_known : (es : List Entry) (ms ms' : List (Option ReadModule)) (c : Call) (r : Reply) → Shelves p ms c r ms'
      → AreKnown es ms → AreKnown (es ++ called c r ∷ []) ms'
  called_known es ms _ c r (stay e) known n m h =
      older es (called c r) n m (known n m (subst (λ (l : List (Option ReadModule)). held_at l n ≡ Some m) e h))
  called_known es ms _ c r (less u e) known n m h =
      older es (called c r) n m (known n m (gone_held ms u n m
      (subst (λ (l : List (Option ReadModule)). held_at l n ≡ Some m) e h)))
  called_known es ms _ c r (more x read is reported e) known n m h =
      ⊎_elim (λ (old : held_at ms n ≡ Some m). older es (called c r) n m (known n m old)) new
      (push_held ms (Some x) n m (subst (λ (l : List (Option ReadModule)). held_at l n ≡ Some m) e h))
    where
      new : (n ≡ length ms + 1) × (Some x ≡ Some m) → IsOf (es ++ called c r ∷ []) n m
      new at =
          let same : x ≡ m = cc (at.1) in
          let here : called c r ≡ called (submit m.source) (number n) =
          (λ i. called ((is ∙ ap (λ (y : ReadModule). submit y.source) same) i) ((reported ∙ ap number (sym at.0)) i))
          in (
            (es, [], ap (λ (y : Entry). es ++ y ∷ []) here),
            subst (λ (y : ReadModule). p.reading y.source ≡ readable y.code) same read,
          )

  work_known : (es : List Entry) (d k x : Desk) (e : Entry) → k ≡ x → x.modules ≡ d.modules → AreKnown es d.modules
      → AreKnown (es ++ e ∷ []) k.modules
  work_known es d k x e is same known n m h =
      older es e n m (known n m (subst (λ (l : List (Option ReadModule)). held_at l n ≡ Some m)
      (ap (λ (y : Desk). y.modules) is ∙ same) h))

  note_known : (es : List Entry) (d k : Desk) (e : Entry) → EntryFollows p d e k → AreKnown es d.modules
      → AreKnown (es ++ e ∷ []) k.modules
  note_known es d k (called c r) h known =
      called_known es d.modules k.modules c r (subst (λ (x : Desk × Reply). Shelves p d.modules c x.1 x.0.modules)
      (λ i. (sym h.2 i, sym h.1 i)) (shelve_called p d c)) known
  note_known es d k (claimed t) h known = work_known es d k (after_claim d t) (claimed t)
      (where_so (is_queued (held_at d.trials t)) (after_claim d t) k h) refl known
  note_known es d k (filed t m) h known = work_known es d k (after_file p d t m) (filed t m)
      (where_so (is_running (held_at d.trials t)) (after_file p d t m) k h) refl known
  note_known es d k (handed_back t) h known = work_known es d k (after_hand_back d t) (handed_back t)
      (where_so (is_running (held_at d.trials t)) (after_hand_back d t) k h) refl known

  known_along : (before es : List Entry) (d d' : Desk) → IsLegal p d es d' → AreKnown before d.modules
      → AreKnown (before ++ es) d'.modules
  known_along before [] d d' h known =
      subst (λ (l : List Entry). AreKnown l d'.modules) (sym (append-nil before))
      (subst (λ (x : Desk). AreKnown before x.modules) h known)
  known_along before (e ∷ es) d d' h known =
      subst (λ (l : List Entry). AreKnown l d'.modules) (append_assoc before (e ∷ []) es)
      (known_along (before ++ e ∷ []) es h.0 d' h.2 (note_known before d h.0 e h.1 known))

  none_held : AreKnown [] []
  none_held zero m h = absurd (cc)
  none_held (suc i) m h = absurd (cc)

  -- at the desk that a history makes of an empty one
  pub known : (es : List Entry) (d : Desk) → IsLegal p no_desk es d → (n : ℕ) (m : ReadModule)
      → held_at d.modules n ≡ Some m → IsOf es n m
  known es d h = known_along [] es no_desk d h none_held

-- ---- editions

module _ (p : Profile) (d : Desk) where
  abbrev IsIn : Call → Desk × Reply → Type 0
  IsIn c x = x.0.edition ≡ edition_by c x.1 d.edition

  in_refused : (c : Call) (e : Code) → d.edition ≡ edition_by c (refused e) d.edition
  in_refused (submit text) e = refl
  in_refused (order n r) e = refl
  in_refused (fetch t) e = refl
  in_refused (status t) e = refl
  in_refused (drop_trial t) e = refl
  in_refused (withdraw n) e = refl
  in_refused usage e = refl
  in_refused log e = refl
  in_refused (edition n) e = refl

  in_with : (c : Call) (o : Option Code) (x : Desk × Reply) → IsIn c x → IsIn c (within_limits d o x)
  in_with c None x h = h
  in_with c (Some e) x h = in_refused c e

  in_submitted : (text : List ℕ) (r : SourceReading) → (submitted d text r).0.edition ≡ d.edition
  in_submitted text (readable m) = refl
  in_submitted text (faulty e) = refl

  in_ordered : (n : ℕ) (q : _) (r : Result Job Code) → IsIn (order n q) (ordered d n r)
  in_ordered n q (Ok j) = in_with (order n q) _ (with_job d n j, _) refl
  in_ordered n q (Err e) = refl

  in_dropped : (t : ℕ) (o : Option Trial) → (dropped d t o).0.edition ≡ d.edition
  in_dropped t None = refl
  in_dropped t (Some x) = refl

  in_withdrawn : (n : ℕ) (o : Option ReadModule) (k : ℕ) → (withdrawn d n o k).0.edition ≡ d.edition
  in_withdrawn n None k = refl
  in_withdrawn n (Some m) zero = refl
  in_withdrawn n (Some m) (suc k) = refl

  in_moved : (e : ℕ) → IsIn (edition e) (in_edition d e)
  in_moved e = by _ _
    where
      by : (b low : Bool)
          → IsIn (edition e) (if◌then◌else◌ {A = Desk × Reply} b (if low then (d, refused code.EditionTooLow)
          else (record d { edition = e }, has_edition)) (d, refused code.NoEdition))
      by true true = refl
      by true false = refl
      by false low = refl

  in_answered : (c : Call) → IsIn c (answer_of_call p d c)
  in_answered (submit text) = in_with (submit text) _ (submitted d text (p.reading text))
      (in_submitted text (p.reading text))
  in_answered (order n r) = in_ordered n r (job_ordered p d.edition (held_at d.modules n) r)
  in_answered (fetch t) = refl
  in_answered (status t) = refl
  in_answered (drop_trial t) = in_dropped t (held_at d.trials t)
  in_answered (withdraw n) = in_withdrawn n (held_at d.modules n) (users_of d n)
  in_answered usage = refl
  in_answered log = refl
  in_answered (edition e) = in_moved e

  in_called : (c : Call) → IsIn c (after_call p d c, reply_to p d c)
  in_called c = in_with c (passed_by d charge.Call) (noted c (answer_of_call p d c)) (in_answered c)

module _ (p : Profile) where
  edition_along : (d : Desk) (es : List Entry) (d' : Desk) → IsLegal p d es d' → d'.edition ≡ edition_after d.edition es
  edition_along d [] d' h = ap (λ (x : Desk). x.edition) (sym h)
  edition_along d (called c r ∷ es) d' h =
      edition_along h.0 es d' h.2
      ∙ ap (λ (e : ℕ). edition_after e es) (ap (λ (x : Desk). x.edition) h.1.2 ∙ in_called p d c
      ∙ ap (λ (x : Reply). edition_by c x d.edition) (sym h.1.1))
  edition_along d (claimed t ∷ es) d' h =
      edition_along h.0 es d' h.2
      ∙ ap (λ (x : Desk). edition_after x.edition es)
      (where_so (is_queued (held_at d.trials t)) (after_claim d t) h.0 h.1)
  edition_along d (filed t m ∷ es) d' h =
      edition_along h.0 es d' h.2
      ∙ ap (λ (x : Desk). edition_after x.edition es)
      (where_so (is_running (held_at d.trials t)) (after_file p d t m) h.0 h.1)
  edition_along d (handed_back t ∷ es) d' h =
      edition_along h.0 es d' h.2
      ∙ ap (λ (x : Desk). edition_after x.edition es)
      (where_so (is_running (held_at d.trials t)) (after_hand_back d t) h.0 h.1)

  pub edition_noted : (es : List Entry) (d : Desk) → IsLegal p no_desk es d → d.edition ≡ edition_after 1 es
  edition_noted es d h = edition_along no_desk es d h
