-- A desk of which nobody knows how far its trials are gives the reply that settles a call.
use Rattle.std.proofs.Common.{◌≡◌, ℕ, zero, suc, ◌+◌, Bool, true, false, List, [], ◌∷◌, ◌++◌, length, Option, Some}
use Rattle.std.proofs.Common.{None, refl, sym, ap, ◌∙◌, subst}
use Rattle.std.specs.Prelude.{◌≢◌, if◌then◌else◌, nat_lt, unwrap_or, Result, Ok, Err, All, slice_get}
use Rattle.std.specs.Option.{option_flatten, option_map}
use Rattle.std.proofs.lemmas.List.Elements.{All-set, All-push}
use Rattle.pf_errors.specs.declared.code.Code.{Code}
use Rattle.pf_errors.specs.declared.code.Code.TheVariants as code
use Rattle.pf_quota.specs.Charges.{steps_of_trial}
use Rattle.pf_quota.specs.declared.charges.Charge.{Charge}
use Rattle.pf_quota.specs.declared.charges.Charge.TheVariants as charge
use Rattle.pf_request.specs.Calls.{Call, submit, order, fetch, status, drop_trial, withdraw, usage, log, edition}
use Rattle.pf_request.specs.Job.{Job}
use Rattle.pf_check.specs.Module.{ReadModule}
use Rattle.pf_desks.specs.Desk.{Profile, TrialState, queued, running, done, Trial, Desk, held_at, with_held}
use Rattle.pf_desks.specs.Desk.{SourceReading, readable, faulty, job_ordered}
use Rattle.pf_desks.specs.declared.mark.FileMark.TheVariants.{Whole}
use Rattle.pf_desks.specs.Desk.{Reply, ticket, result, uses, logged, has_edition, refused, Entry, called, claimed}
use Rattle.pf_desks.specs.Desk.{filed, handed_back}
use Rattle.pf_desks.specs.Calls.{calls_in, passed_by, within_limits, submitted, with_job, ordered, result_in, fetched}
use Rattle.pf_desks.specs.Calls.{dropped, users_of, withdrawn, is_edition, in_edition, answer_of_call, with_entry}
use Rattle.pf_desks.specs.Calls.{noted, reply_to, after_call}
use Rattle.pf_desks.specs.Work.{is_queued, is_running, in_state, after_claim, after_file, after_hand_back}
use Rattle.pf_desks.proofs.Always.{OfWork, of_claim, of_file, of_back, moved}
use Rattle.pf_desks.proofs.Histories.{call_notes}
use Rattle.pf_desks.proofs.Sums.{calls_more, calls_worked}
use Rattle.pf_request.specs.declared.step.Chore.{Chore}
use Rattle.pf_request.specs.declared.step.Chore.TheVariants.{Claim, Slice, Park, TakeUp, Steal, File, HandBack}
use Rattle.pf_world.specs.Steps.{worker_does}
use Rattle.pf_world.specs.Alone.{at_desk}
use Rattle.pf_world.specs.Laws.{Settles}
use Rattle.pf_world.proofs.Effects.{all_at}
use Rattle.pf_world.proofs.Isolated.{desk_done}
use Rattle.pf_world.proofs.Quiet.{forgot, bare, bare_held, bare_with, bare_more, bare_length, bare_state, bare_users}
use Rattle.pf_world.proofs.Quiet.{quiet, quiet_usage, quiet_passed}

module _ (p : Profile) where
  -- what is done is what the job means
  abbrev IsRightState : Job → TrialState → Type 0
  IsRightState j queued = Unit {0}
  IsRightState j running = Unit {0}
  IsRightState j (done r) = r ≡ p.meaning j.asked

  abbrev IsRight : Option Trial → Type 0
  IsRight None = Unit {0}
  IsRight (Some t) = IsRightState t.job t.state

  right_at : (ts : List (Option Trial)) (i : ℕ) → All IsRight ts → IsRight (held_at ts i)
  right_at ts zero all = tt
  right_at ts (suc i) all = by (slice_get ts i) refl
    where
      by : (o : Option (Option Trial)) → slice_get ts i ≡ o → IsRight (option_flatten o)
      by None h = tt
      by (Some x) h = all_at IsRight ts i x h all

  right_with : (ts : List (Option Trial)) (i : ℕ) (x : Option Trial) → All IsRight ts → IsRight x
      → All IsRight (with_held ts i x)
  right_with ts zero x all new = all
  right_with ts (suc i) x all new = All-set IsRight ts i x new all

  -- a desk is as another where no worker does anything
  abbrev pub IsLike : Desk → Desk → Type 0
  IsLike d e = (e ≡ quiet d e.history) × (calls_in e.history ≡ calls_in d.history) × All IsRight d.trials

  -- ---- calls

  -- the reply that settles a call
  abbrev final_fetched : Option Trial → Reply
  final_fetched None = refused code.NoTrial
  final_fetched (Some t) = result t.job.asked.code.atoms (p.meaning t.job.asked)

  abbrev final_answer : Desk → Call → Reply
  final_answer e (fetch t) = final_fetched (held_at e.trials t)
  final_answer e c = (answer_of_call p e c).1

  abbrev pub final : Desk → Call → Reply
  final e c = (within_limits e (passed_by e charge.Call) (e, final_answer e c)).1

  module _ (d : Desk) (h : List Entry) (same : calls_in h ≡ calls_in d.history) (right : All IsRight d.trials) where
    -- two desks and replies that come of a desk and of the one where no worker does anything
    abbrev IsMove : Desk × Reply → Desk × Reply → Type 0
    IsMove x y = (y.0 ≡ quiet x.0 h) × All IsRight x.0.trials × (x.1 ≡ y.1)

    within_move : (k : Charge) (x y : Desk × Reply) → IsMove x y
        → IsMove (within_limits d (passed_by d k) x) (within_limits (quiet d h) (passed_by (quiet d h) k) y)
    within_move k x y m =
        subst (λ (o : Option Code). IsMove (within_limits d (passed_by d k) x) (within_limits (quiet d h) o y))
        (sym (quiet_passed d h same k)) (by (passed_by d k))
      where
        by : (o : Option Code) → IsMove (within_limits d o x) (within_limits (quiet d h) o y)
        by None = m
        by (Some e) = (refl, right, refl)

    submit_move : (text : List ℕ) (r : SourceReading) → IsMove (submitted d text r) (submitted (quiet d h) text r)
    submit_move text (readable m) = (refl, right, refl)
    submit_move text (faulty c) = (refl, right, refl)

    order_move : (n : ℕ) (r : Result Job Code) → IsMove (ordered d n r) (ordered (quiet d h) n r)
    order_move n (Err e) = (refl, right, refl)
    order_move n (Ok j) =
        within_move (charge.Trial (steps_of_trial j.asked.limit j.asked.runs))
        (with_job d n j, ticket (length d.trials + 1)) (
          with_job (quiet d h) n j,
          ticket (length (bare d.trials) + 1),
        ) (
          ap (λ (ts : List (Option Trial)). record {
            edition = d.edition;
            modules = d.modules;
            trials =
                ts;
            history = h;
          })
              (bare_more d.trials (Some (record { module_number = n; job = j; state = queued }))),
          All-push IsRight d.trials (Some (record { module_number = n; job = j; state = queued })) right tt,
          ap (λ (k : ℕ). ticket (k + 1)) (sym (bare_length d.trials)),
        )

    drop_move : (t : ℕ) (o : Option Trial) → IsMove (dropped d t o) (dropped (quiet d h) t (option_map forgot o))
    drop_move t None = (refl, right, refl)
    drop_move t (Some x) = (
      ap (λ (ts : List (Option Trial)). record { edition = d.edition; modules = d.modules; trials = ts; history = h })
          (bare_with d.trials t None),
      right_with d.trials t None right tt,
      refl,
    )

    withdraw_move : (n : ℕ) (o : Option ReadModule) (k : ℕ) → IsMove (withdrawn d n o k) (withdrawn (quiet d h) n o k)
    withdraw_move n None k = (refl, right, refl)
    withdraw_move n (Some m) zero = (refl, right, refl)
    withdraw_move n (Some m) (suc k) = (refl, right, refl)

    edition_move : (e : ℕ) → IsMove (in_edition d e) (in_edition (quiet d h) e)
    edition_move e = by (is_edition e) (nat_lt e d.edition)
      where
        of : Desk → Bool → Bool → Desk × Reply
        of k b f = if b then (if f then (k, refused code.EditionTooLow) else (record k { edition = e }, has_edition))
            else (k, refused code.NoEdition)

        by : (b f : Bool) → IsMove (of d b f) (of (quiet d h) b f)
        by true true = (refl, right, refl)
        by true false = (refl, right, refl)
        by false f = (refl, right, refl)

    -- a call leaves two desks that are alike, and its reply is the final one where it settles the call
    abbrev IsSettledMove : Call → Desk × Reply → Desk × Reply → Type 0
    IsSettledMove c x y = (y.0 ≡ quiet x.0 h) × All IsRight x.0.trials × (Settles c x.1
        → x.1 ≡ final_answer (quiet d h) c)

    fetch_final : (o : Option Trial) → IsRight o → fetched o ≢ refused code.NotDone
        → fetched o ≡ final_fetched (option_map forgot o)
    fetch_final None r n = refl
    fetch_final (Some t) r n = by t.state r n
      where
        by : (s : TrialState) → IsRightState t.job s → result_in t.job.asked.code.atoms s ≢ refused code.NotDone
            → result_in t.job.asked.code.atoms s ≡ result t.job.asked.code.atoms (p.meaning t.job.asked)
        by queued r n = absurd (n refl)
        by running r n = absurd (n refl)
        by (done x) r n = ap (λ (z : _). result t.job.asked.code.atoms z) r

    settled_move : (c : Call) → IsSettledMove c (answer_of_call p d c) (answer_of_call p (quiet d h) c)
    settled_move (submit text) =
        (let m : IsMove (answer_of_call p d (submit text)) (answer_of_call p (quiet d h) (submit text)) =
        within_move (charge.Module (length text)) (submitted d text (p.reading text))
        (submitted (quiet d h) text (p.reading text)) (submit_move text (p.reading text))
        in (m.0, m.1, λ s. m.2))
    settled_move (order n r) =
        (let m : IsMove (answer_of_call p d (order n r)) (answer_of_call p (quiet d h) (order n r)) = order_move n
        (job_ordered p d.edition (held_at d.modules n) r)
        in (m.0, m.1, λ s. m.2))
    settled_move (fetch t) = (
      refl,
      right,
      λ s. fetch_final (held_at d.trials t) (right_at d.trials t right) s ∙ ap final_fetched
          (sym (bare_held d.trials t)),
    )
    settled_move (status t) = (refl, right, λ s. absurd s)
    settled_move (drop_trial t) =
        (let m : IsMove (answer_of_call p d (drop_trial t)) (answer_of_call p (quiet d h) (drop_trial t)) =
        subst (λ (o : Option Trial). IsMove (dropped d t (held_at d.trials t)) (dropped (quiet d h) t o))
        (sym (bare_held d.trials t)) (drop_move t (held_at d.trials t))
        in (m.0, m.1, λ s. m.2))
    settled_move (withdraw n) =
        (let m : IsMove (answer_of_call p d (withdraw n)) (answer_of_call p (quiet d h) (withdraw n)) =
        subst (λ (k : ℕ). IsMove (withdrawn d n (held_at d.modules n) (users_of d n))
        (withdrawn (quiet d h) n (held_at d.modules n) k)) (sym (bare_users n d.trials))
        (withdraw_move n (held_at d.modules n) (users_of d n))
        in (m.0, m.1, λ s. m.2))
    settled_move usage = (refl, right, λ s. ap uses (sym (quiet_usage d h same)))
    settled_move log = (refl, right, λ s. ap logged (sym same))
    settled_move (edition e) = (let m : IsMove (answer_of_call p d (edition e))
        (answer_of_call p (quiet d h) (edition e)) = edition_move e in (m.0, m.1, λ s. m.2))

    -- with the call noted on both desks, where the log has room
    abbrev IsCallMove : Call → Desk × Reply → Desk × Reply → Reply → Type 0
    IsCallMove c x y f = IsLike x.0 y.0 × (Settles c x.1 → x.1 ≡ f)

    noted_move : (c : Call) (x y : Desk × Reply) → x.0.history ≡ d.history → IsSettledMove c x y
        → IsCallMove c (noted c x) (noted c y) (final_answer (quiet d h) c)
    noted_move c x y kept m = (
      (
        ap (λ (e : Desk). with_entry e (called c y.1)) m.0
            ∙ sym (ap (λ (e : Desk). quiet (with_entry x.0 (called c x.1)) (e.history ++ called c y.1 ∷ [])) m.0),
        ap (λ (e : Desk). calls_in (e.history ++ called c y.1 ∷ [])) m.0
            ∙ calls_more h c y.1
            ∙ ap (λ (n : ℕ). n + 1) same
            ∙ sym (calls_more d.history c x.1)
            ∙ sym (ap (λ (es : List Entry). calls_in (es ++ called c x.1 ∷ [])) kept),
        m.1,
      ),
      m.2,
    )

    call_move : (c : Call) → IsCallMove c (within_limits d (passed_by d charge.Call) (noted c (answer_of_call p d c)))
        (within_limits (quiet d h) (passed_by (quiet d h) charge.Call) (noted c (answer_of_call p (quiet d h) c)))
        (final (quiet d h) c)
    call_move c =
        subst (λ (o : Option Code). IsCallMove c (within_limits d (passed_by d charge.Call) x)
        (within_limits (quiet d h) o y) (within_limits (quiet d h) o (quiet d h, f)).1)
        (sym (quiet_passed d h same charge.Call)) (by (passed_by d charge.Call))
      where
        x : Desk × Reply
        x = noted c (answer_of_call p d c)

        y : Desk × Reply
        y = noted c (answer_of_call p (quiet d h) c)

        f : Reply
        f = final_answer (quiet d h) c

        by : (o : Option Code) → IsCallMove c (within_limits d o x) (within_limits (quiet d h) o y)
            (within_limits (quiet d h) o (quiet d h, f)).1
        by None = noted_move c (answer_of_call p d c) (answer_of_call p (quiet d h) c) (call_notes p d c)
            (settled_move c)
        by (Some e) = ((refl, same, right), λ s. refl)

  pub like_call : (d e : Desk) (c : Call) → IsLike d e
      → IsLike (after_call p d c) (after_call p e c) × (Settles c (reply_to p d c) → reply_to p d c ≡ final e c)
  like_call d e c l =
      subst (λ (k : Desk). IsLike (after_call p d c) (after_call p k c) × (Settles c (reply_to p d c)
      → reply_to p d c ≡ final k c)) (sym l.0) (
      let m : _ = call_move d e.history l.1 l.2 c in (m.0, m.1)
      )

  -- ---- chores

  like_moved : (d e : Desk) (t : ℕ) (f : Job → TrialState) (x : Entry) → OfWork x → ((j : Job) → IsRightState j (f j))
      → IsLike d e → IsLike (moved d t f x) e
  like_moved d e t f x of right l = (
    l.0 ∙ ap (λ (ts : List (Option Trial)). record {
      edition = d.edition;
      modules = d.modules;
      trials = ts;
      history =
          e.history;
    }) (sym (bare_state d.trials t f)),
    l.1 ∙ sym (calls_worked d.history x of),
    right_with d.trials t (option_map (in_state f) (held_at d.trials t)) l.2 (one (held_at d.trials t)),
  )
    where
      one : (o : Option Trial) → IsRight (option_map (in_state f) o)
      one None = tt
      one (Some y) = right y.job

  like_if : (b : Bool) (d k e : Desk) → IsLike d e → IsLike k e → IsLike (unwrap_or (if b then Some k else None) d) e
  like_if true d k e old new = new
  like_if false d k e old new = old

  pub like_chore : (d e : Desk) (w q t : ℕ) (k : Chore) → IsLike d e
      → IsLike (desk_done p (at_desk (worker_does w q t k)) d) e
  like_chore d e w q t Claim l =
      like_if (is_queued (held_at d.trials t)) d (after_claim d t) e l
      (like_moved d e t (λ j. running) (claimed t) (of_claim t) (λ j. tt) l)
  like_chore d e w q t File l =
      like_if (is_running (held_at d.trials t)) d (after_file p d t Whole) e l (
      like_moved d e t (λ j. done (p.meaning j.asked)) (filed t Whole) (of_file t Whole) (λ j. refl) l
      )
  like_chore d e w q t HandBack l =
      like_if (is_running (held_at d.trials t)) d (after_hand_back d t) e l
      (like_moved d e t (λ j. queued) (handed_back t) (of_back t) (λ j. tt) l)
  like_chore d e w q t (Slice n) l = l
  like_chore d e w q t Park l = l
  like_chore d e w q t TakeUp l = l
  like_chore d e w q t (Steal v) l = l
