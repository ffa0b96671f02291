-- What a `fetch` is answered is what the job of its trial means.
use Rattle.std.proofs.Common.{◌≡◌, ℕ, zero, suc, List, [], ◌∷◌, ◌++◌, Option, Some, None, refl, sym, ap, ◌∙◌, subst}
use Rattle.std.specs.Prelude.{All, slice_get}
use Rattle.std.proofs.lemmas.List.Elements.{All-nil, All-cons, All-head, All-tail}
use Rattle.pf_errors.specs.declared.code.Code.{Code}
use Rattle.pf_quota.specs.declared.charges.Charge.TheVariants as charge
use Rattle.pf_model.specs.Shrinking.{Result}
use Rattle.pf_request.specs.Calls.{fetch}
use Rattle.pf_request.specs.Job.{Job}
use Rattle.pf_desks.specs.Desk.{Profile, TrialState, queued, running, done, Trial, Desk, no_desk, result, Entry, called}
use Rattle.pf_desks.specs.Desk.{held_at}
use Rattle.pf_desks.specs.Calls.{passed_by, within_limits, result_in, fetched, noted, reply_to}
use Rattle.pf_desks.specs.History.{IsLegal}
use Rattle.pf_desks.proofs.Histories.{split}
use Rattle.pf_world.proofs.Effects.{all_at}
use Rattle.pf_world.proofs.Final.{IsLike}
use Rattle.pf_farm_laws.specs.Notes.{NotForMemory, NoneForMemory, calls_of}
use Rattle.pf_farm_laws.specs.Laws.{IsMeant, ReportsAreMeant, NotedReportsAreMeant}
use Rattle.pf_farm_laws.proofs.Alike.{after_calls, along}

-- ---- a report is of a trial that is done

-- a trial is held, and this is its result
abbrev pub IsDone : Option Trial → List (List ℕ) → Result → Type 0
IsDone o atoms r = (n : ℕ) × (j : Job) × (o ≡ Some (record { module_number = n; job = j; state = done r }))
    × (atoms ≡ j.asked.code.atoms)

of_fetched : (o : Option Trial) (atoms : List (List ℕ)) (r : Result) → fetched o ≡ result atoms r → IsDone o atoms r
of_fetched None atoms r h = absurd (cc)
of_fetched (Some t) atoms r h = by t.state refl h
  where
    by : (s : TrialState) → t.state ≡ s → result_in t.job.asked.code.atoms s ≡ result atoms r → IsDone (Some t) atoms r
    by queued e h = absurd (cc)
    by running e h = absurd (cc)
    by (done x) e h = let same : done x ≡ done r = cc in (
      t.module_number,
      t.job,
      ap (λ (z : TrialState). Some (record t { state = z })) (e ∙ same),
      cc,
    )

pub of_reply : (p : Profile) (d : Desk) (t : ℕ) (atoms : List (List ℕ)) (r : Result)
    → reply_to p d (fetch t) ≡ result atoms r
    → IsDone (held_at d.trials t) atoms r
of_reply p d t atoms r h = by (passed_by d charge.Call) h
  where
    by : (o : Option Code) → (within_limits d o (noted (fetch t) (d, fetched (held_at d.trials t)))).1 ≡ result atoms r
        → IsDone (held_at d.trials t) atoms r
    by None h = of_fetched (held_at d.trials t) atoms r h
    by (Some c) h = absurd (cc)

-- ---- what is done is what the job means

module _ (p : Profile) where
  -- the result of a trial that is done is what its job means
  abbrev pub IsMeantState : Job → TrialState → Type 0
  IsMeantState j queued = Unit {0}
  IsMeantState j running = Unit {0}
  IsMeantState j (done r) = r ≡ p.meaning j.asked

  abbrev IsMeantTrial : Option Trial → Type 0
  IsMeantTrial None = Unit {0}
  IsMeantTrial (Some t) = IsMeantState t.job t.state

-- what is true of all trials is true of the one that is held
held_of : (P : Option Trial → Type 0) (ts : List (Option Trial)) (t : ℕ) (x : Trial) → held_at ts t ≡ Some x
    → All P ts → P (Some x)
held_of P ts zero x h all = absurd (cc)
held_of P ts (suc i) x h all = by (slice_get ts i) refl
  where
    by : (o : Option (Option Trial)) → slice_get ts i ≡ o → P (Some x)
    by None e = absurd (cc)
    by (Some y) e = subst P (cc) (all_at P ts i y e all)

meant : (p : Profile) (d e : Desk) (t : ℕ) (atoms : List (List ℕ)) (r : Result) → IsLike p d e
    → reply_to p d (fetch t) ≡ result atoms r
    → IsMeant p d t atoms r
meant p d e t atoms r l h =
    let is : IsDone (held_at d.trials t) atoms r = of_reply p d t atoms r h in (
      record { module_number = is.0; job = is.1; state = done r },
      is.2,
      is.3,
      held_of (IsMeantTrial p) d.trials t _ is.2 l.2,
    )

pub reports_are_meant : ReportsAreMeant
reports_are_meant p d t atoms r legal m h = meant p d (after_calls p no_desk (calls_of d.history)) t atoms r
    (along p d.history d m legal).0 h

-- ---- each report of a history

none_before : (before after : List Entry) → NoneForMemory (before ++ after) → NoneForMemory before
none_before [] after m = All-nil _
none_before (x ∷ before) after m =
    All-cons NotForMemory x before (All-head NotForMemory x (before ++ after) m)
    (none_before before after (All-tail NotForMemory x (before ++ after) m))

pub noted_reports_are_meant : NotedReportsAreMeant
noted_reports_are_meant p d before after t atoms r legal m is =
    let at : _ = split p no_desk d before after (called (fetch t) (result atoms r))
    (subst (λ (es : List Entry). IsLegal p no_desk es d) is legal) in
    let none : NoneForMemory before = none_before before (called (fetch t) (result atoms r) ∷ after)
    (subst NoneForMemory is m) in (
      at.0,
      at.2,
      meant p at.0 (after_calls p no_desk (calls_of before)) t atoms r
          (along p before at.0 none at.2).0 (sym at.3.1),
    )
