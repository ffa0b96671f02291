-- Runs by numbers where a process goes last, with the choices that are made.
use Rattle.std.proofs.Common.{◌≡◌, ◌∙◌, refl, sym, ap, subst, ℕ, zero, suc, ◌+◌, ◌-◌, ◌<◌, Bool, true, false}
use Rattle.std.proofs.Common.{if◌then◌else◌, List, [], ◌∷◌, ◌++◌, length, map, append-nil, append_assoc, arith}
use Rattle.std.proofs.Common.{Option, None, Some}
use Rattle.std.specs.Prelude.{filter, nat_lt, slice_get}
use Rattle.std.proofs.lemmas.Bool.Decides.{nat_tests}
use Rattle.std.proofs.lemmas.Option.{slice_get_within}
use Rattle.pf_model.specs.Choosers.{Chooser, Picks, choose_by_picks}
use Rattle.pf_model.specs.Module.{Module}
use Rattle.pf_model.specs.Channels.{heads}
use Rattle.pf_model.specs.Configuration.{Configuration}
use Rattle.pf_model.specs.Runs.{ready, Passed, Passes, Transition, transition, Goes, stays, more, enabled}
use Rattle.pf_model.specs.Runs.{next_choice, next_state}
use Rattle.pf_model.specs.Meaning.{event_of_transition}
use Rattle.pf_model.specs.declared.report.Actor.{Actor}
use Rattle.pf_model.proofs.Meanings.{enabled_count}
use Rattle.pf_strategy.specs.Last.{are_others, choose_other, is_other, is_other_channel, keep_named, place}
use Rattle.pf_strategy.specs.Noted.{note_choices, point}
use Rattle.pf_strategy.specs.declared.noted.ChoicePoint.{ChoicePoint}
use Rattle.pf_explore_laws.specs.Parting.{point_of}

-- ---- among whom is chosen

-- whether another than the last process may go
abbrev pub are_any : (last : ℕ) → Configuration → Bool
are_any p c =
    nat_lt 0 (length (filter (is_other p) (ready c)) + length (filter (is_other_channel p) (heads c.channels)))

-- how many processes are chosen among, and how many channels
abbrev pub procs : (last : Option ℕ) → Configuration → ℕ
procs None c = length (ready c)
procs (Some p) c = if are_any p c then length (filter (is_other p) (ready c)) else length (ready c)

abbrev pub chans : (last : Option ℕ) → Configuration → ℕ
chans None c = length (heads c.channels)
chans (Some p) c =
    if are_any p c then length (filter (is_other_channel p) (heads c.channels)) else length (heads c.channels)

abbrev pub among : (last : Option ℕ) → Configuration → ℕ
among p c = procs p c + chans p c

-- the place of one of them among all who may go
abbrev pub place_of : (last : Option ℕ) → Configuration → ℕ → ℕ
place_of None c i = i
place_of (Some p) c i = if are_any p c then place i (are_others p (ready c) (heads c.channels)) else i

-- which of them is picked
abbrev pub picked : (last : Option ℕ) → Picks → ℕ → Configuration → ℕ
picked p ps i c = ps i (procs p c) (chans p c)

-- where one may go, there are some to choose among
pub some_among : (p : Option ℕ) (c : Configuration) (i : ℕ) (x : Actor) → slice_get (enabled c) i ≡ Some x
    → 0 < among p c
some_among None c i x e =
    let all = enabled_count c in
    let within = slice_get_within (enabled c) i x e in
    omega arith
some_among (Some p) c i x e = by (are_any p c) refl
  where
    by : (b : Bool) → are_any p c ≡ b
        → 0
        < (if b then length (filter (is_other p) (ready c)) else length (ready c))
        + (if b then length (filter (is_other_channel p) (heads c.channels)) else length (heads c.channels))
    by true some = grind (arith, nat_tests, some)
    by false none =
        let all = enabled_count c in
        let within = slice_get_within (enabled c) i x e in
        omega arith

-- ---- what is chosen

module _ (ps : Picks) where
  plain_choice : (p : Option ℕ) (i : ℕ) (c : Configuration)
      → keep_named p (choose_by_picks ps) i (ready c) (heads c.channels) ≡ (place_of p c (picked p ps i c), suc i)
  plain_choice None i c = refl
  plain_choice (Some p) i c = by (are_any p c)
    where
      by : (b : Bool)
          → (if b then choose_other p (choose_by_picks ps) i (ready c) (heads c.channels)
          else choose_by_picks ps i (ready c) (heads c.channels))
          ≡ (
            if b
                then place (ps i (if b then length (filter (is_other p) (ready c)) else length (ready c))
                (if b then length (filter (is_other_channel p) (heads c.channels)) else length (heads c.channels)))
                (are_others p (ready c) (heads c.channels))
                else ps i (if b then length (filter (is_other p) (ready c)) else length (ready c))
                (if b then length (filter (is_other_channel p) (heads c.channels)) else length (heads c.channels)),
            suc i,
          )
      by true = refl
      by false = refl

  noted_choice : (p : Option ℕ) (s : ℕ × List ChoicePoint) (c : Configuration)
      → keep_named p (note_choices (choose_by_picks ps)) s (ready c) (heads c.channels)
      ≡ (
        place_of p c (picked p ps s.0 c),
        (suc s.0, s.1 ++ point (picked p ps s.0 c) (among p c) ∷ []),
      )
  noted_choice None s c = refl
  noted_choice (Some p) s c = by (are_any p c)
    where
      by : (b : Bool)
          → (if b then choose_other p (note_choices (choose_by_picks ps)) s (ready c) (heads c.channels)
          else note_choices (choose_by_picks ps) s (ready c) (heads c.channels))
          ≡ (
            if b
                then place (ps s.0 (if b then length (filter (is_other p) (ready c)) else length (ready c))
                (if b then length (filter (is_other_channel p) (heads c.channels)) else length (heads c.channels)))
                (are_others p (ready c) (heads c.channels))
                else ps s.0 (if b then length (filter (is_other p) (ready c)) else length (ready c))
                (if b then length (filter (is_other_channel p) (heads c.channels)) else length (heads c.channels)),
            (
              suc s.0,
              s.1 ++ point (ps s.0 (if b then length (filter (is_other p) (ready c)) else length (ready c))
                  (if b then length (filter (is_other_channel p) (heads c.channels)) else length (heads c.channels)))
                  ((if b then length (filter (is_other p) (ready c)) else length (ready c))
                  + (if b then length (filter (is_other_channel p) (heads c.channels))
                  else length (heads c.channels))) ∷ [],
            ),
          )
      by true = refl
      by false = refl

-- ---- runs with their choices

-- Noted m p ps i n c ts es d k: transitions from c to d by picks from number i on, with n steps left and in k steps,
-- where a process that is named goes last; and the choices by which they came
pub data Noted (m : Module) (p : Option ℕ) (ps : Picks) : ℕ → ℕ → Configuration → List Transition → List ChoicePoint
    → Configuration → ℕ → Type 0 where
  none : (i n : ℕ) (c : Configuration) → Noted m p ps i n c [] [] c zero
  one : (i n : ℕ) (c : Configuration) (x : Actor) (q : Passed) (ts : List Transition) (es : List ChoicePoint)
      (d : Configuration) (k : ℕ)
      → slice_get (enabled c) (place_of p c (picked p ps i c)) ≡ Some x → Passes m (suc n) c x q
      → Noted m p ps (suc i) (suc n - q.used) q.after ts es d k
      → Noted m p ps i (suc n) c (transition (place_of p c (picked p ps i c)) (enabled c) x q ∷ ts)
      (point (picked p ps i c) (among p c) ∷ es) d (q.used + k)

module _ (m : Module) (p : Option ℕ) (ps : Picks) where
  abbrev noting : Chooser (ℕ × List ChoicePoint)
  noting = keep_named p (note_choices (choose_by_picks ps))

  abbrev plain : Chooser ℕ
  plain = keep_named p (choose_by_picks ps)

  abbrev here : ℕ → Configuration → ChoicePoint
  here i c = point (picked p ps i c) (among p c)

  pub from_noted : (s : ℕ × List ChoicePoint) (n : ℕ) (c : Configuration) (ts : List Transition) (d : Configuration)
      (k : ℕ) (t : ℕ × List ChoicePoint) → Goes m noting s n c ts d k t
      → (es : List ChoicePoint) × (t.1 ≡ s.1 ++ es) × Noted m p ps s.0 n c ts es d k
  from_noted _ _ _ _ _ _ _ (stays s n c) = ([], sym (append-nil s.1), none s.0 n c)
  from_noted _ _ _ _ _ _ _ (more s n c x q ts d k t chosen pass rest) =
      let e = noted_choice ps p s c in
      let at : next_choice noting s c ≡ place_of p c (picked p ps s.0 c) = ap (λ z. z.0) e in
      let state : next_state noting s c ≡ (suc s.0, s.1 ++ here s.0 c ∷ []) = ap (λ z. z.1) e in
      let r = from_noted (next_state noting s c) (suc n - q.used) q.after ts d k t rest in
      let later : Noted m p ps (suc s.0) (suc n - q.used) q.after ts r.0 d k =
      subst (λ z. Noted m p ps z.0 (suc n - q.used) q.after ts r.0 d k) state r.2 in (
        here s.0 c ∷ r.0,
        r.1 ∙ ap (λ z. z.1 ++ r.0) state ∙ append_assoc s.1 (here s.0 c ∷ []) r.0,
        subst (λ y. Noted m p ps s.0 (suc n) c (transition y (enabled c) x q ∷ ts) (here s.0 c ∷ r.0) d (q.used + k))
            (sym at) (one s.0 n c x q ts r.0 d k (subst (λ y. slice_get (enabled c) y ≡ Some x) at chosen) pass later),
      )

  pub to_noted : (i n : ℕ) (c : Configuration) (ts : List Transition) (es : List ChoicePoint) (d : Configuration)
      (k : ℕ) → Noted m p ps i n c ts es d k → (l : List ChoicePoint)
      → (t : ℕ × List ChoicePoint) × (t.1 ≡ l ++ es) × Goes m noting (i, l) n c ts d k t
  to_noted _ _ _ _ _ _ _ (none i n c) l = ((i, l), sym (append-nil l), stays (i, l) n c)
  to_noted _ _ _ _ _ _ _ (one i n c x q ts es d k chosen pass rest) l =
      let e = noted_choice ps p (i, l) c in
      let at : next_choice noting (i, l) c ≡ place_of p c (picked p ps i c) = ap (λ z. z.0) e in
      let state : next_state noting (i, l) c ≡ (suc i, l ++ here i c ∷ []) = ap (λ z. z.1) e in
      let r = to_noted (suc i) (suc n - q.used) q.after ts es d k rest (l ++ here i c ∷ []) in (
        r.0,
        r.1 ∙ append_assoc l (here i c ∷ []) es,
        subst (λ y. Goes m noting (i, l) (suc n) c (transition y (enabled c) x q ∷ ts) d (q.used + k) r.0) at
            (more (i, l) n c x q ts d k r.0 (subst (λ y. slice_get (enabled c) y ≡ Some x) (sym at) chosen) pass
            (subst (λ z. Goes m noting z (suc n - q.used) q.after ts d k r.0) (sym state) r.2)),
      )

  pub from_plain : (i n : ℕ) (c : Configuration) (ts : List Transition) (d : Configuration) (k t : ℕ)
      → Goes m plain i n c ts d k t → (es : List ChoicePoint) × Noted m p ps i n c ts es d k
  from_plain _ _ _ _ _ _ _ (stays i n c) = ([], none i n c)
  from_plain _ _ _ _ _ _ _ (more i n c x q ts d k t chosen pass rest) =
      let e = plain_choice ps p i c in
      let at : next_choice plain i c ≡ place_of p c (picked p ps i c) = ap (λ z. z.0) e in
      let state : next_state plain i c ≡ suc i = ap (λ z. z.1) e in
      let r = from_plain (next_state plain i c) (suc n - q.used) q.after ts d k t rest in
      let later : Noted m p ps (suc i) (suc n - q.used) q.after ts r.0 d k =
      subst (λ z. Noted m p ps z (suc n - q.used) q.after ts r.0 d k) state r.1 in (
        here i c ∷ r.0,
        subst (λ y. Noted m p ps i (suc n) c (transition y (enabled c) x q ∷ ts) (here i c ∷ r.0) d (q.used + k))
            (sym at) (one i n c x q ts r.0 d k (subst (λ y. slice_get (enabled c) y ≡ Some x) at chosen) pass later),
      )

  pub to_plain : (i n : ℕ) (c : Configuration) (ts : List Transition) (es : List ChoicePoint) (d : Configuration)
      (k : ℕ) → Noted m p ps i n c ts es d k → (t : ℕ) × Goes m plain i n c ts d k t
  to_plain _ _ _ _ _ _ _ (none i n c) = (i, stays i n c)
  to_plain _ _ _ _ _ _ _ (one i n c x q ts es d k chosen pass rest) =
      let e = plain_choice ps p i c in
      let at : next_choice plain i c ≡ place_of p c (picked p ps i c) = ap (λ z. z.0) e in
      let state : next_state plain i c ≡ suc i = ap (λ z. z.1) e in
      let r = to_plain (suc i) (suc n - q.used) q.after ts es d k rest in (
        r.0,
        subst (λ y. Goes m plain i (suc n) c (transition y (enabled c) x q ∷ ts) d (q.used + k) r.0) at
            (more i n c x q ts d k r.0 (subst (λ y. slice_get (enabled c) y ≡ Some x) (sym at) chosen) pass
            (subst (λ z. Goes m plain z (suc n - q.used) q.after ts d k r.0) (sym state) r.1)),
      )

-- where no process goes last, choices are those of the events
pub choices_of_events : (m : Module) (ps : Picks) (i n : ℕ) (c : Configuration) (ts : List Transition)
    (es : List ChoicePoint) (d : Configuration) (k : ℕ) → Noted m None ps i n c ts es d k
    → es ≡ map point_of (map event_of_transition ts)
choices_of_events m ps _ _ _ _ _ _ _ (none i n c) = refl
choices_of_events m ps _ _ _ _ _ _ _ (one i n c x q ts es d k chosen pass rest) =
    ap (λ z. point (picked None ps i c) z ∷ es) (sym (enabled_count c))
    ∙ ap (λ zs. point (picked None ps i c) (length (enabled c)) ∷ zs)
    (choices_of_events m ps (suc i) (suc n - q.used) q.after ts es d k rest)
