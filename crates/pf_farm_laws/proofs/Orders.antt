-- What is reported of a ticket is what the job means for which it was given.
use Rattle.std.proofs.Common.{◌≡◌, ℕ, ◌+◌, ◌≤◌, List, [], ◌∷◌, ◌++◌, length, Option, Some, None, refl, sym, ap, ◌∙◌}
use Rattle.std.proofs.Common.{subst}
use Rattle.std.specs.Prelude.{Result, Ok, Err, IfSome}
use Rattle.std.proofs.lemmas.List.Elements.{All-head, All-tail}
use Rattle.pf_errors.specs.declared.code.Code.{Code}
use Rattle.pf_quota.specs.declared.charges.Charge.TheVariants as charge
use Rattle.pf_quota.specs.Charges.{steps_of_trial}
use Rattle.pf_model.specs.Shrinking as shrinking
use Rattle.pf_request.specs.Calls.{order, fetch}
use Rattle.pf_request.specs.Job.{Job, job_of}
use Rattle.pf_check.specs.Module.{ReadModule}
use Rattle.pf_request.specs.Request.{Request}
use Rattle.pf_desks.specs.Desk.{Profile, Desk, no_desk, queued, running, done, Trial, Entry, called, claimed, filed}
use Rattle.pf_desks.specs.Desk.{handed_back, Reply, ticket, result, job_ordered, held_at}
use Rattle.pf_desks.specs.declared.mark.FileMark.TheVariants.{Whole, Memory}
use Rattle.pf_desks.specs.Calls.{within_limits, passed_by, with_job, ordered, noted, after_call, reply_to}
use Rattle.pf_desks.specs.Work.{is_queued, is_running, after_claim, after_file, after_hand_back, result_marked}
use Rattle.pf_desks.specs.History.{EntryFollows, IsLegal}
use Rattle.pf_desks.proofs.Always.{where_so}
use Rattle.pf_desks.proofs.Histories.{split}
use Rattle.pf_desks.proofs.Trials.{IsGiven, given_last, given_in_state, given_called}
use Rattle.pf_farm_laws.specs.Orders.{NoneForMemoryOf, ReportsAreOfTheirOrders}
use Rattle.pf_farm_laws.proofs.Asked.{IsOf, known, edition_noted}
use Rattle.pf_farm_laws.proofs.Meant.{IsMeantState, IsDone, of_reply}

-- ---- an order that is given a ticket

-- its module is held, its request results in a job, and that is the newest trial
abbrev Takes : Profile → Desk → ℕ → Request → ℕ → List (Option Trial) → Type 0
Takes p d n q t ts =
    (m : ReadModule) × (j : Job) × (held_at d.modules n ≡ Some m)
    × (job_of m d.edition (p.property m.code.atoms q.property) q ≡ Ok j)
    × (t ≡ length d.trials + 1) × (ts ≡ (with_job d n j).trials)

module _ (p : Profile) (d : Desk) (n : ℕ) (q : Request) (t : ℕ) where
  takes_job : (m : ReadModule) (r : Result Job Code) → held_at d.modules n ≡ Some m
      → job_of m d.edition (p.property m.code.atoms q.property) q ≡ r
      → (ordered d n r).1 ≡ ticket t → Takes p d n q t (ordered d n r).0.trials
  takes_job m (Err e) held is h = absurd (cc)
  takes_job m (Ok j) held is h = by (passed_by d (charge.Trial (steps_of_trial j.asked.limit j.asked.runs))) h
    where
      x : Desk × Reply
      x = (with_job d n j, ticket (length d.trials + 1))

      by : (o : Option Code) → (within_limits d o x).1 ≡ ticket t → Takes p d n q t (within_limits d o x).0.trials
      by None h = (m, j, held, is, cc, refl)
      by (Some e) h = absurd (cc)

  takes_module : (o : Option ReadModule) → held_at d.modules n ≡ o
      → (ordered d n (job_ordered p d.edition o q)).1 ≡ ticket t
      → Takes p d n q t (ordered d n (job_ordered p d.edition o q)).0.trials
  takes_module None held h = absurd (cc)
  takes_module (Some m) held h = takes_job m (job_of m d.edition (p.property m.code.atoms q.property) q) held refl h

  takes : reply_to p d (order n q) ≡ ticket t → Takes p d n q t (after_call p d (order n q)).trials
  takes h = by (passed_by d charge.Call) h
    where
      x : Desk × Reply
      x = ordered d n (job_ordered p d.edition (held_at d.modules n) q)

      by : (o : Option Code) → (within_limits d o (noted (order n q) x)).1 ≡ ticket t
          → Takes p d n q t (within_limits d o (noted (order n q) x)).0.trials
      by None h = takes_module (held_at d.modules n) refl h
      by (Some e) h = absurd (cc)

-- ---- its trial

module _ (p : Profile) (j : Job) (t : ℕ) where
  -- it is of that job, and its result is what the job means
  abbrev IsOwn : Trial → Type 0
  IsOwn x = (j ≡ x.job) × IsMeantState p x.job x.state

  own_where : (d k x : Desk) → k ≡ x → IsGiven IsOwn x t → IsGiven IsOwn k t
  own_where d k x is g = subst (λ (y : Desk). IsGiven IsOwn y t) (sym is) g

  own_note : (d k : Desk) (e : Entry) → EntryFollows p d e k → (e ≡ filed t Memory → ⊥) → IsGiven IsOwn d t
      → IsGiven IsOwn k t
  own_note d k (called c r) h none g = own_where d k (after_call p d c) h.2 (given_called IsOwn d t g p c)
  own_note d k (claimed u) h none g =
      own_where d k (after_claim d u) (where_so (is_queued (held_at d.trials u)) (after_claim d u) k h)
      (given_in_state IsOwn d t g u (λ i. running) (λ e x y. (y.0, tt)))
  own_note d k (filed u Whole) h none g =
      own_where d k (after_file p d u Whole) (where_so (is_running (held_at d.trials u)) (after_file p d u Whole) k h)
      (given_in_state IsOwn d t g u (λ i. done (p.meaning i.asked)) (λ e x y. (y.0, refl)))
  own_note d k (filed u Memory) h none g =
      own_where d k (after_file p d u Memory) (where_so (is_running (held_at d.trials u)) (after_file p d u Memory) k h)
      (given_in_state IsOwn d t g u (λ i. done (result_marked p Memory i))
      (λ e x y. absurd (none (ap (λ (n : ℕ). filed n Memory) e))))
  own_note d k (handed_back u) h none g =
      own_where d k (after_hand_back d u) (where_so (is_running (held_at d.trials u)) (after_hand_back d u) k h)
      (given_in_state IsOwn d t g u (λ i. queued) (λ e x y. (y.0, tt)))

  own_along : (d : Desk) (es : List Entry) (d' : Desk) → IsLegal p d es d' → NoneForMemoryOf t es → IsGiven IsOwn d t
      → IsGiven IsOwn d' t
  own_along d [] d' h none g = own_where d d' d (sym h) g
  own_along d (e ∷ es) d' h none g =
      own_along h.0 es d' h.2 (All-tail (λ (x : Entry). x ≡ filed t Memory → ⊥) e es none)
      (own_note d h.0 e h.1 (All-head (λ (x : Entry). x ≡ filed t Memory → ⊥) e es none) g)

  -- a result that is reported of it
  reported_own : (d : Desk) (atoms : List (List ℕ)) (r : shrinking.Result) → IsGiven IsOwn d t
      → reply_to p d (fetch t) ≡ result atoms r
      → (atoms ≡ j.asked.code.atoms) × (r ≡ p.meaning j.asked)
  reported_own d atoms r g h =
      let is : IsDone (held_at d.trials t) atoms r = of_reply p d t atoms r h in
      let x : Trial = record { module_number = is.0; job = is.1; state = done r } in
      let own : IsOwn x = subst (λ (o : Option Trial). IfSome o IsOwn) is.2 g.1 in
      (is.3 ∙ ap (λ (i : Job). i.asked.code.atoms) (sym own.0), own.1 ∙ ap (λ (i : Job). p.meaning i.asked) (sym own.0))

pub reports_are_of_their_orders : ReportsAreOfTheirOrders
reports_are_of_their_orders p d before between after n q t atoms r legal is none =
    let first : _ =
    split p no_desk d before (between ++ called (fetch t) (result atoms r) ∷ after) (called (order n q) (ticket t))
    (subst (λ (es : List Entry). IsLegal p no_desk es d) is legal) in
    let second : _ = split p first.1 d between after (called (fetch t) (result atoms r)) first.4 in
    let k : Desk = first.0 in
    let taken : Takes p k n q t (after_call p k (order n q)).trials = takes p k n q t (sym first.3.1) in
    let m : ReadModule = taken.0 in
    let j : Job = taken.1 in
    let of : IsOf p before n m = known p before k first.2 n m taken.2 in
    let trials : first.1.trials ≡ (with_job k n j).trials = ap (λ (x : Desk). x.trials) first.3.2 ∙ taken.5 in
    let new : IsGiven (IsOwn p j t) (with_job k n j) (length k.trials + 1) =
    given_last (IsOwn p j t) k n j (refl, tt) in
    let given : IsGiven (IsOwn p j t) first.1 t =
    subst (λ (x : ℕ × List (Option Trial)). (x.0 ≤ length x.1) × IfSome (held_at x.1 x.0) (IsOwn p j t))
    (λ i. (sym taken.4 i, sym trials i)) new in
    let reported : _ = reported_own p j t second.0 atoms r
    (own_along p j t first.1 between second.0 second.2 none given)
    (sym second.3.1) in (
      j,
      record {
        source = m.source;
        code = m.code;
        submitted = of.0;
        read = of.1;
        job = subst (λ (e : ℕ). job_of m e (p.property m.code.atoms q.property) q ≡ Ok j)
            (edition_noted p before k first.2) taken.3;
      },
      reported.0,
      reported.1,
    )
