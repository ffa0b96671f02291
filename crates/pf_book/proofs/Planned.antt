-- The result of each call.
use Rattle.std.proofs.Common.{◌≡◌, ◌<◌, ◌==◌, arith, inl, inr, Bool, true, false, ℕ, zero, suc, ◌+◌, List, [], ◌∷◌}
use Rattle.std.proofs.Common.{◌++◌, length, Option, Some, None, Result, Ok, Err, refl, sym, ap, ◌∙◌}
use Rattle.std.specs.Prelude.{◌||◌, nat_lt, if◌then◌else◌}
use Rattle.std.specs.Option.{option_map}
use Rattle.std.proofs.lemmas.Bool.{eqb-true}
use Rattle.pf_errors.specs.declared.code.Code.{Code}
use Rattle.pf_errors.specs.declared.code.Code.TheVariants as fault
use Rattle.pf_quota.specs.declared.usage.Usage.{Usage}
use Rattle.pf_quota.specs.declared.charges.Charge.TheVariants as charge
use Rattle.pf_quota.specs.declared.charges.Holding.TheVariants as held
use Rattle.pf_quota.specs.declared.refusals.LimitRefusal.{LimitRefusal as Limit}
use Rattle.pf_quota.specs.Charges.{steps_of_trial}
use Rattle.pf_quota.specs.Checks.{refusal_of}
use Rattle.pf_quota.specs.Refusals as quota
use Rattle.pf_quota.specs.Usage.{charged, refunded}
use Rattle.pf_check.specs.Reads.{refused, Reads}
use Rattle.pf_model.specs.Limits.{IsEdition}
use Rattle.pf_request.specs.Calls as calls
use Rattle.pf_request.specs.Calls.{Call}
use Rattle.pf_request.specs.Job.{Job}
use Rattle.pf_check.specs.Module.{ReadModule}
use Rattle.pf_request.specs.View.{view_of_order}
use Rattle.pf_check.specs.Reading.{IsReadAs}
use Rattle.pf_desks.specs.Desk as desk
use Rattle.pf_desks.specs.Desk.{Profile, Desk, Trial, held_at, with_held}
use Rattle.pf_desks.specs.Calls.{answer_of_call, within_limits, passed_by, submitted, ordered, dropped, withdrawn}
use Rattle.pf_desks.specs.Calls.{with_job, users_of, is_edition, in_edition, usage_in}
use Rattle.pf_request.specs.declared.call.Order.{Order}
use Rattle.pf_book.specs.declared.plan.Plan.{Plan}
use Rattle.pf_book.specs.Orders.{OrderAsksFor}
use Rattle.pf_book.specs.Plans.{with_change, IsPlan, IsCharged}
use Rattle.pf_book.specs.Profile.{ForRight}
use Rattle.pf_book.specs.View.{view_of_entry, view_of_reply}
use Rattle.pf_book.proofs.Profiles.{submitted_read, submitted_refused}
use Rattle.pf_desks.proofs.Sums.{module_charged, module_refunded, trial_charged, trial_refunded}

abbrev Answer : Type 0
Answer = Desk × desk.Reply

module _ (d : Desk) (u : Usage) (counts : IsCharged d u) (plan : Plan) where
  -- a plan that changes nothing
  pub alone : (c : Call) (r : desk.Reply) → with_change d plan.change ≡ d → view_of_reply plan.reply ≡ r
      → plan.usage ≡ u
      → ForRight (λ p. ◌≡◌ {A = Answer} (answer_of_call p d c) (d, r)) → view_of_entry plan.noted ≡ desk.called c r
      → IsPlan d c plan
  alone c r same reported uses so noted = record {
    answers = λ p right. (λ i. (same i, reported i)) ∙ sym (so p right);
    notes = noted ∙ ap (desk.called c) (sym reported);
    usage = uses ∙ counts ∙ ap (λ (k : Desk). charged (usage_in k) charge.Call) (sym same);
  }

  -- a plan that leads to another desk
  changed : (c : Call) (d' : Desk) (r : desk.Reply) → with_change d plan.change ≡ d' → view_of_reply plan.reply ≡ r
      → plan.usage ≡ charged (usage_in d') charge.Call
      → ForRight (λ p. ◌≡◌ {A = Answer} (answer_of_call p d c) (d', r)) → view_of_entry plan.noted ≡ desk.called c r
      → IsPlan d c plan
  changed c d' r leads reported uses so noted = record {
    answers = λ p right. (λ i. (leads i, reported i)) ∙ sym (so p right);
    notes = noted ∙ ap (desk.called c) (sym reported);
    usage = uses ∙ ap (λ (k : Desk). charged (usage_in k) charge.Call) (sym leads);
  }

  -- ---- drops and withdrawals

  pub drop_planned : (t : ℕ) (x : Trial) → held_at d.trials t ≡ Some x
      → with_change d plan.change ≡ record d { trials = with_held d.trials t None }
      → view_of_reply plan.reply ≡ desk.given_up
      → view_of_entry plan.noted ≡ desk.called (calls.drop_trial t) desk.given_up
      → plan.usage ≡ refunded u (held.Trial (steps_of_trial x.job.asked.limit x.job.asked.runs))
      → IsPlan d (calls.drop_trial t) plan
  drop_planned t x h leads reported noted uses =
      changed (calls.drop_trial t) (record d { trials = with_held d.trials t None }) desk.given_up leads reported
      (uses ∙ ap (λ (v : Usage). refunded v (held.Trial (steps_of_trial x.job.asked.limit x.job.asked.runs))) counts
      ∙ ap (λ (v : Usage). charged v charge.Call) (trial_refunded d t x h))
      (λ p right. ap (dropped d t) h) noted

  pub withdrawal_planned : (n : ℕ) (m : ReadModule) → held_at d.modules n ≡ Some m → users_of d n ≡ 0
      → with_change d plan.change ≡ record d { modules = with_held d.modules n None }
      → view_of_reply plan.reply ≡ desk.given_up
      → view_of_entry plan.noted ≡ desk.called (calls.withdraw n) desk.given_up
      → plan.usage ≡ refunded u (held.Module (length m.source)) → IsPlan d (calls.withdraw n) plan
  withdrawal_planned n m h free leads reported noted uses =
      changed (calls.withdraw n) (record d { modules = with_held d.modules n None }) desk.given_up leads reported
      (uses ∙ ap (λ (v : Usage). refunded v (held.Module (length m.source))) counts
      ∙ ap (λ (v : Usage). charged v charge.Call) (module_refunded d n m h))
      (λ p right. ap (λ (o : Option ReadModule). withdrawn d n o (users_of d n)) h ∙ ap (withdrawn d n (Some m)) free)
      noted

  -- a module that a held trial uses isn't withdrawn
  pub withdrawal_in_use : (n : ℕ) (m : ReadModule) → held_at d.modules n ≡ Some m → 0 < users_of d n
      → with_change d plan.change ≡ d
      → view_of_reply plan.reply ≡ desk.refused fault.ModuleInUse → plan.usage ≡ u
      → view_of_entry plan.noted ≡ desk.called (calls.withdraw n) (desk.refused fault.ModuleInUse)
      → IsPlan d (calls.withdraw n) plan
  withdrawal_in_use n m h some same reported uses noted =
      alone (calls.withdraw n) (desk.refused fault.ModuleInUse) same reported uses
      (λ p right. ap (λ (o : Option ReadModule). withdrawn d n o (users_of d n)) h ∙ by (users_of d n) some) noted
    where
      by : (k : ℕ) → 0 < k → ◌≡◌ {A = Answer} (withdrawn d n (Some m) k) (d, desk.refused fault.ModuleInUse)
      by zero k = absurd (omega arith)
      by (suc k) less = refl

  -- ---- limits

  -- a charge passes a limit with the call charged where it does without
  module_limit : (b : ℕ) (o : Option Limit) → refusal_of d.edition u (charge.Module b) ≡ o
      → passed_by d (charge.Module b) ≡ option_map quota.code_of o
  module_limit b o h = ap (option_map quota.code_of)
      (sym (ap (λ (v : Usage). refusal_of d.edition v (charge.Module b)) counts) ∙ h)

  trial_limit : (n : ℕ) (o : Option Limit) → refusal_of d.edition u (charge.Trial n) ≡ o
      → passed_by d (charge.Trial n) ≡ option_map quota.code_of o
  trial_limit n o h = ap (option_map quota.code_of)
      (sym (ap (λ (v : Usage). refusal_of d.edition v (charge.Trial n)) counts) ∙ h)

  -- ---- submissions

  module _ (text : List ℕ) where
    pub source_past_limit : (limit : Limit) → refusal_of d.edition u (charge.Module (length text)) ≡ Some limit
        → with_change d plan.change ≡ d
        → view_of_reply plan.reply ≡ desk.refused (quota.code_of limit) → plan.usage ≡ u
        → view_of_entry plan.noted ≡ desk.called (calls.submit text) (desk.refused (quota.code_of limit))
        → IsPlan d (calls.submit text) plan
    source_past_limit limit past same reported uses noted =
        alone (calls.submit text) (desk.refused (quota.code_of limit)) same reported uses
        (λ p right. ap (λ (o : Option Code). within_limits d o (submitted d text (p.reading text)))
        (module_limit (length text) (Some limit) past)) noted

    module _ (within : refusal_of d.edition u (charge.Module (length text)) ≡ None) where
      no_limit : (p : Profile) → ◌≡◌ {A = Answer} (answer_of_call p d (calls.submit text))
          (submitted d text (p.reading text))
      no_limit p = ap (λ (o : Option Code). within_limits d o (submitted d text (p.reading text)))
          (module_limit (length text) None within)

      pub source_no_module : (code : Code) (index : ℕ) → Reads text (refused code index) → with_change d plan.change ≡ d
          → view_of_reply plan.reply ≡ desk.refused code → plan.usage ≡ u
          → view_of_entry plan.noted ≡ desk.called (calls.submit text) (desk.refused code)
          → IsPlan d (calls.submit text) plan
      source_no_module code index reads same reported uses noted =
          alone (calls.submit text) (desk.refused code) same reported uses
          (λ p right. no_limit p ∙ sym (submitted_refused p right d text code index reads)) noted

      pub source_planned : (s : ReadModule) → s.source ≡ text → IsReadAs text s
          → with_change d plan.change ≡ record d { modules = d.modules ++ Some s ∷ [] }
          → view_of_reply plan.reply ≡ desk.number (length d.modules + 1)
          → plan.usage ≡ charged u (charge.Module (length text))
          → view_of_entry plan.noted ≡ desk.called (calls.submit text) (desk.number (length d.modules + 1))
          → IsPlan d (calls.submit text) plan
      source_planned s same reads leads reported uses noted =
          changed (calls.submit text) (record d { modules = d.modules ++ Some s ∷ [] })
          (desk.number (length d.modules + 1)) leads reported
          (uses
          ∙ ap (λ (v : Usage). charged v (charge.Module (length text))) counts
          ∙ ap (λ (l : List ℕ). charged (charged (usage_in d) (charge.Module (length l))) charge.Call) (sym same)
          ∙ ap (λ (v : Usage). charged v charge.Call) (module_charged d s))
          (λ p right. no_limit p ∙ sym (submitted_read p right d text s same reads)) noted

  -- ---- orders

  module _ (o : Order) where
    asked_answered : (r : Result Job Code) → OrderAsksFor d.edition d.modules o r
        → ForRight (λ p. ◌≡◌ {A = Answer} (answer_of_call p d (view_of_order o)) (ordered d o.module r))
    asked_answered r asked p right = ap (ordered d o.module) (asked p right)

    pub order_refused : (code : Code) → OrderAsksFor d.edition d.modules o (Err code) → with_change d plan.change ≡ d
        → view_of_reply plan.reply ≡ desk.refused code → plan.usage ≡ u
        → view_of_entry plan.noted ≡ desk.called (view_of_order o) (desk.refused code) → IsPlan d (view_of_order o) plan
    order_refused code asked same reported uses noted =
        alone (view_of_order o) (desk.refused code) same reported uses (asked_answered (Err code) asked) noted

    module _ (j : Job) (asked : OrderAsksFor d.edition d.modules o (Ok j)) where
      pub order_past_limit : (limit : Limit) → refusal_of d.edition u
          (charge.Trial (steps_of_trial j.asked.limit j.asked.runs)) ≡ Some limit → with_change d plan.change ≡ d
          → view_of_reply plan.reply ≡ desk.refused (quota.code_of limit) → plan.usage ≡ u
          → view_of_entry plan.noted ≡ desk.called (view_of_order o) (desk.refused (quota.code_of limit))
          → IsPlan d (view_of_order o) plan
      order_past_limit limit past same reported uses noted =
          alone (view_of_order o) (desk.refused (quota.code_of limit)) same reported uses
          (λ p right. asked_answered (Ok j) asked p right
          ∙ ap (λ (x : Option Code). within_limits d x (with_job d o.module j, desk.ticket (length d.trials + 1)))
          (trial_limit (steps_of_trial j.asked.limit j.asked.runs) (Some limit) past)) noted

      pub order_planned : refusal_of d.edition u (charge.Trial (steps_of_trial j.asked.limit j.asked.runs)) ≡ None
          → with_change d plan.change ≡ with_job d o.module j
          → view_of_reply plan.reply ≡ desk.ticket (length d.trials + 1)
          → plan.usage ≡ charged u (charge.Trial (steps_of_trial j.asked.limit j.asked.runs))
          → view_of_entry plan.noted ≡ desk.called (view_of_order o) (desk.ticket (length d.trials + 1))
          → IsPlan d (view_of_order o) plan
      order_planned within leads reported uses noted =
          changed (view_of_order o) (with_job d o.module j) (desk.ticket (length d.trials + 1)) leads reported
          (uses
          ∙ ap (λ (v : Usage). charged v (charge.Trial (steps_of_trial j.asked.limit j.asked.runs))) counts
          ∙ ap (λ (v : Usage). charged v charge.Call)
          (trial_charged d (record { module_number = o.module; job = j; state = desk.queued })))
          (λ p right. asked_answered (Ok j) asked p right
          ∙ ap (λ (x : Option Code). within_limits d x (with_job d o.module j, desk.ticket (length d.trials + 1)))
          (trial_limit (steps_of_trial j.asked.limit j.asked.runs) None within)) noted

  -- ---- editions

  -- an edition is answered so, whether there is such a one and whether it is below the desk's own
  edition_so : (e : ℕ) (b low : Bool) → is_edition e ≡ b → nat_lt e d.edition ≡ low
      → ◌≡◌ {A = Answer} (in_edition d e)
      (if b
      then (if low then (d, desk.refused fault.EditionTooLow) else (record d { edition = e }, desk.has_edition))
      else (d, desk.refused fault.NoEdition))
  edition_so e b low there below = λ i.
      if there i
      then (if below i then (d, desk.refused fault.EditionTooLow) else (record d { edition = e }, desk.has_edition))
      else (d, desk.refused fault.NoEdition)

  module _ (e : ℕ) where
    pub no_such_edition : is_edition e ≡ false → with_change d plan.change ≡ d
        → view_of_reply plan.reply ≡ desk.refused fault.NoEdition
        → plan.usage ≡ u → view_of_entry plan.noted ≡ desk.called (calls.edition e) (desk.refused fault.NoEdition)
        → IsPlan d (calls.edition e) plan
    no_such_edition there same reported uses noted =
        alone (calls.edition e) (desk.refused fault.NoEdition) same reported uses
        (λ p right. edition_so e false (nat_lt e d.edition) there refl) noted

    module _ (there : is_edition e ≡ true) where
      pub edition_below : nat_lt e d.edition ≡ true → with_change d plan.change ≡ d
          → view_of_reply plan.reply ≡ desk.refused fault.EditionTooLow
          → plan.usage ≡ u → view_of_entry plan.noted ≡ desk.called (calls.edition e) (desk.refused fault.EditionTooLow)
          → IsPlan d (calls.edition e) plan
      edition_below below same reported uses noted =
          alone (calls.edition e) (desk.refused fault.EditionTooLow) same reported uses
          (λ p right. edition_so e true true there below) noted

      pub edition_planned : nat_lt e d.edition ≡ false → with_change d plan.change ≡ record d { edition = e }
          → view_of_reply plan.reply ≡ desk.has_edition → plan.usage ≡ u
          → view_of_entry plan.noted ≡ desk.called (calls.edition e) desk.has_edition → IsPlan d (calls.edition e) plan
      edition_planned above leads reported uses noted =
          changed (calls.edition e) (record d { edition = e }) desk.has_edition leads reported (uses ∙ counts)
          (λ p right. edition_so e true false there above) noted

-- there is an edition that is 1 or 2
pub edition_there : (e : ℕ) → is_edition e ≡ true → IsEdition e
edition_there e h = by (e == 1) (e == 2) refl refl h
  where
    by : (b c : Bool) → (e == 1) ≡ b → (e == 2) ≡ c → (b || c) ≡ true → IsEdition e
    by true c is other k = inl (eqb-true e 1 is)
    by false true is other k = inr (eqb-true e 2 other)
    by false false is other k = absurd cc
