-- What each step keeps of what the ledger says.
use Rattle.std.proofs.Common.{◌≡◌, ◌⊎◌, ℕ, zero, suc, ◌+◌, ◌≤◌, ◌<◌, ◌==◌, ◌&&◌, Bool, true, false, true≢false, List}
use Rattle.std.proofs.Common.{[], ◌∷◌, ◌++◌, Option, Some, None, inl, inr, refl, sym, ap, ◌∙◌, subst, ⊎_elim, arith}
use Rattle.std.specs.Prelude.{slice_get, slice_set}
use Rattle.std.specs.Option.{option_map}
use Rattle.pf_errors.specs.declared.code.Code.{Code}
use Rattle.pf_quota.specs.declared.charges.Charge.TheVariants as charge
use Rattle.pf_request.specs.Calls.{Call}
use Rattle.pf_request.specs.Job.{Job}
use Rattle.pf_desks.specs.Desk.{Profile, Desk, no_desk, Trial, TrialState, queued, running, done, Entry, called}
use Rattle.pf_desks.specs.Desk.{claimed, filed, handed_back, Reply, held_at}
use Rattle.pf_desks.specs.declared.mark.FileMark.{FileMark}
use Rattle.pf_desks.specs.Calls.{within_limits, passed_by, answer_of_call, noted, after_call, reply_to, with_entry}
use Rattle.pf_desks.specs.Work.{is_queued, is_running, is_queued_state, is_running_state, in_state, with_state}
use Rattle.pf_desks.specs.Work.{after_claim, after_file, after_hand_back}
use Rattle.pf_desks.proofs.Histories.{call_notes}
use Rattle.pf_farm_accounts.specs.declared.row.Claim.{Claim}
use Rattle.pf_farm_accounts.specs.declared.row.ClaimRow.{ClaimRow}
use Rattle.pf_farm_accounts.specs.declared.row.ClaimEnd.{ClaimEnd}
use Rattle.pf_farm_accounts.specs.declared.row.ClaimEnd.TheVariants.{Filed, HandedBack, Stray}
use Rattle.pf_farm_accounts.specs.Rows.{row_of, claim_of}
use Rattle.pf_farm_laws.specs.Tally.{one_if, tally, put_if}
use Rattle.pf_farm_laws.specs.ClaimNotes.{is_file, is_hand_back, claims_noted}
use Rattle.pf_farm_laws.specs.Claims.{claims_opened, is_of, is_open, is_filed, is_handed_back, is_stray, claims_that}
use Rattle.pf_farm_laws.specs.Gone.{IsGone}
use Rattle.pf_farm_laws.specs.Reported.{IsOut, IsReportedAt}
use Rattle.pf_farm_laws.proofs.Lists.{apart_by, same_by, self_is, held_same, tally_push, tally_set, tally_at}
use Rattle.pf_farm_laws.proofs.Trials.{Turns, turns_called, gone_stays, running_stays, gone_with_state, state_other}
use Rattle.pf_farm_laws.proofs.Trials.{some_within}
use Rattle.pf_farm_laws.proofs.Drops.{append_nil}

and_false : (b : Bool) → (b && false) ≡ false
and_false true = refl
and_false false = refl

and_true : (b : Bool) → (b && true) ≡ b
and_true true = refl
and_true false = refl

put_none : (b : Bool) (n : ℕ) (ns : List ℕ) → put_if b n [] ++ ns ≡ put_if b n ns
put_none true n ns = refl
put_none false n ns = refl

put_append : (b : Bool) (n : ℕ) (xs ys : List ℕ) → put_if b n (xs ++ ys) ≡ put_if b n xs ++ ys
put_append true n xs ys = refl
put_append false n xs ys = refl

-- ---- histories

noted_push : (es : List Entry) (e : Entry) → claims_noted (es ++ e ∷ []) ≡ claims_noted es ++ claims_noted (e ∷ [])
noted_push [] e = refl
noted_push (called c r ∷ es) e = noted_push es e
noted_push (claimed t ∷ es) e = ap (λ l. t ∷ l) (noted_push es e)
noted_push (filed t m ∷ es) e = noted_push es e
noted_push (handed_back t ∷ es) e = noted_push es e

-- ---- rows

opened_push : (q : ℕ) (rows : List (ClaimRow Job)) (r : ClaimRow Job)
    → claims_opened q (rows ++ r ∷ []) ≡ claims_opened q rows ++ put_if (r.claim.project == q) r.claim.ticket []
opened_push q [] r = refl
opened_push q (x ∷ rows) r = ap (put_if (x.claim.project == q) x.claim.ticket) (opened_push q rows r)
    ∙ put_append (x.claim.project == q) x.claim.ticket (claims_opened q rows) _

opened_set : (q : ℕ) (rows : List (ClaimRow Job)) (n : ℕ) (c : Claim Job) (e f : Option ClaimEnd)
    → slice_get rows n ≡ Some (row_of c e) → claims_opened q (slice_set rows n (row_of c f)) ≡ claims_opened q rows
opened_set q [] n c e f h = refl
opened_set q (x ∷ rows) zero c e f h = let is : x ≡ row_of c e = cc (h) in
    ap (λ (y : ClaimRow Job). put_if (y.claim.project == q) y.claim.ticket (claims_opened q rows)) (sym is)
opened_set q (x ∷ rows) (suc n) c e f h = ap (put_if (x.claim.project == q) x.claim.ticket)
    (opened_set q rows n c e f h)

-- ---- what matters of a project's rows alone

abbrev pub Counted : (q : ℕ) → List (ClaimRow Job) → List (ClaimRow Job) → Type 0
Counted q rows rows' = (claims_opened q rows' ≡ claims_opened q rows) × ((f : Option ClaimEnd → Bool) (t : ℕ)
    → claims_that f q t rows' ≡ claims_that f q t rows)

pub reported_where : (q : ℕ) (rows rows' : List (ClaimRow Job)) (d : Desk) → Counted q rows rows'
    → IsReportedAt q rows d
    → IsReportedAt q rows' d
reported_where q rows rows' d same h = record {
  claims = h.claims ∙ sym same.0;
  filed = λ t. h.filed t ∙ sym (same.1 is_filed t);
  handed_back = λ t. h.handed_back t ∙ sym (same.1 is_handed_back t);
  open_once = λ t. omega (arith, h.open_once t, same.1 is_open t);
  open_out = λ t some'. h.open_out t (omega (arith, some', same.1 is_open t));
  stray_gone = λ t some'. h.stray_gone t (omega (arith, some', same.1 is_stray t));
}

-- a claim of another project is not counted
module _ (r : ℕ) (c : Claim Job) (apart : (c.project == r) ≡ false) where
  not_counted : (f : Option ClaimEnd → Bool) (t : ℕ) (e : Option ClaimEnd) → one_if (is_of r t c && f e) ≡ 0
  not_counted f t e = ap (λ b. one_if ((b && (c.ticket == t)) && f e)) apart

  pub other_opened : (rows : List (ClaimRow Job)) (e : Option ClaimEnd) → Counted r rows (rows ++ row_of c e ∷ [])
  other_opened rows e = (
    opened_push r rows (row_of c e) ∙ ap (λ b. claims_opened r rows ++ put_if b c.ticket []) apart
        ∙ append_nil (claims_opened r rows),
    λ f t. omega (
      arith,
      tally_push (λ (x : ClaimRow Job). is_of r t x.claim && f x.end) rows (row_of c e),
      not_counted f t e,
    ),
  )

  pub other_ended : (rows : List (ClaimRow Job)) (n : ℕ) (e f : Option ClaimEnd) → slice_get rows n ≡ Some (row_of c e)
      → Counted r rows (slice_set rows n (row_of c f))
  other_ended rows n e f at = (
    opened_set r rows n c e f at,
    λ g t. omega (
      arith,
      tally_set (λ (x : ClaimRow Job). is_of r t x.claim && g x.end) rows n (row_of c e) (row_of c f)
          at,
      not_counted g t e,
      not_counted g t f,
    ),
  )

-- ---- calls

module _ (q : ℕ) (rows : List (ClaimRow Job)) (d d' : Desk) where
  -- what is said of trials lasts
  reported_lasts : (c : Call) (r : Reply) → Turns d.trials c r d'.trials
      → claims_noted d'.history ≡ claims_noted d.history
      → ((t : ℕ) → tally (is_file t) d'.history ≡ tally (is_file t) d.history)
      → ((t : ℕ) → tally (is_hand_back t) d'.history ≡ tally (is_hand_back t) d.history) → IsReportedAt q rows d
      → IsReportedAt q rows d'
  reported_lasts c r turns a b e h = record {
    claims = a ∙ h.claims;
    filed = λ t. b t ∙ h.filed t;
    handed_back = λ t. e t ∙ h.handed_back t;
    open_once = h.open_once;
    open_out = λ t some'. ⊎_elim (λ (x : is_running (held_at d.trials t) ≡ true).
        running_stays d.trials c r d'.trials t turns x)
        (λ (x : IsGone d t). inr (gone_stays d.trials c r d'.trials t turns x)) (h.open_out t some');
    stray_gone = λ t some'. gone_stays d.trials c r d'.trials t turns (h.stray_gone t some');
  }

pub reported_call : (p : Profile) (q : ℕ) (rows : List (ClaimRow Job)) (d : Desk) (c : Call) → IsReportedAt q rows d
    → IsReportedAt q rows (after_call p d c)
reported_call p q rows d c h = by (passed_by d charge.Call) refl
  where
    x : Desk × Reply
    x = answer_of_call p d c

    es : List Entry
    es = d.history

    by : (o : Option Code) → passed_by d charge.Call ≡ o → IsReportedAt q rows (within_limits d o (noted c x)).0
    by (Some e) full = h
    by None room =
        let now : after_call p d c ≡ (noted c x).0 = ap (λ (o : Option Code). (within_limits d o (noted c x)).0) room in
        let more : (noted c x).0.history ≡ es ++ called c x.1 ∷ [] = ap (λ (l : List Entry). l ++ called c x.1 ∷ [])
        (call_notes p d c) in
        subst (IsReportedAt q rows) now
        (reported_lasts q rows d (after_call p d c) c (reply_to p d c) (turns_called p d c)
        (ap (λ (k : Desk). claims_noted k.history) now ∙ ap claims_noted more ∙ noted_push es (called c x.1)
        ∙ append_nil (claims_noted es))
        (λ t. ap (λ (k : Desk). tally (is_file t) k.history) now ∙ ap (tally (is_file t)) more
        ∙ omega (arith, tally_push (is_file t) es (called c x.1)))
        (λ t. ap (λ (k : Desk). tally (is_hand_back t) k.history) now ∙ ap (tally (is_hand_back t)) more
        ∙ omega (arith, tally_push (is_hand_back t) es (called c x.1)))
        h)

-- ---- claims

one_most : (b : Bool) → one_if b ≤ 1
one_most true = omega arith
one_most false = omega arith

zero_or : (n : ℕ) → (n ≡ 0) ⊎ (0 < n)
zero_or zero = inl refl
zero_or (suc n) = inr (omega arith)

queued_isnt_running : (s : TrialState) → is_queued_state s ≡ true → is_running_state s ≡ false
queued_isnt_running queued h = refl
queued_isnt_running running h = absurd (true≢false (sym h))
queued_isnt_running (done r) h = absurd (true≢false (sym h))

-- what waits for a worker is neither running nor gone
waits_not_running : (o : Option Trial) → is_queued o ≡ true → is_running o ≡ false
waits_not_running None h = refl
waits_not_running (Some x) h = queued_isnt_running x.state h

waits_not_out : (d : Desk) (t : ℕ) → is_queued (held_at d.trials t) ≡ true → IsOut d t → ⊥
waits_not_out d t waits out =
    ⊎_elim (λ (r : is_running (held_at d.trials t) ≡ true).
    true≢false (sym r ∙ waits_not_running (held_at d.trials t) waits))
    (λ (g : IsGone d t). true≢false (sym waits ∙ ap is_queued g.2)) out

waits_some : (o : Option Trial) → is_queued o ≡ true → (x : Trial) × (o ≡ Some x)
waits_some None h = absurd (true≢false (sym h))
waits_some (Some x) h = (x, refl)

claimed_runs : (d : Desk) (t : ℕ) → is_queued (held_at d.trials t) ≡ true
    → is_running (held_at (after_claim d t).trials t) ≡ true
claimed_runs d t waits =
    let x = waits_some (held_at d.trials t) waits in
    let here = some_within d.trials t x.0 x.1 in
    ap is_running (held_same d.trials t (option_map (in_state (λ j. running)) (held_at d.trials t)) here.0 here.1
    ∙ ap (option_map (in_state (λ j. running))) x.1)

module _ (q : ℕ) (rows : List (ClaimRow Job)) (d : Desk) (t : ℕ) (j : Job)
    (waits : is_queued (held_at d.trials t) ≡ true) (h : IsReportedAt q rows d) where
  abbrev mine : ClaimRow Job
  mine = row_of (claim_of q t j) None

  counted_more : (f : Option ClaimEnd → Bool) (u : ℕ) → claims_that f q u (rows ++ mine ∷ []) ≡ claims_that f q u rows
      + one_if ((t == u) && f None)
  counted_more f u = tally_push (λ (x : ClaimRow Job). is_of q u x.claim && f x.end) rows mine
      ∙ ap (λ b. claims_that f q u rows + one_if ((b && (t == u)) && f None)) (self_is q)

  none_open : claims_that is_open q t rows ≡ 0
  none_open = ⊎_elim (λ (z : claims_that is_open q t rows ≡ 0). z) (λ (some' : 0 < claims_that is_open q t rows).
      absurd (waits_not_out d t waits (h.open_out t some'))) (zero_or _)

  open_once_more : (u : ℕ) (b : Bool) → (t == u) ≡ b → claims_that is_open q u rows + one_if (b && true) ≤ 1
  open_once_more u true is = let none : claims_that is_open q u rows ≡ 0 = subst (λ n. claims_that is_open q n rows ≡ 0)
      (same_by t u is) none_open in omega (arith, none)
  open_once_more u false not = omega (arith, h.open_once u)

  out_then : (u : ℕ) (b : Bool) → (t == u) ≡ b → 0 < claims_that is_open q u rows + one_if (b && true)
      → IsOut (after_claim d t) u
  out_then u true is some' = inl (subst (λ n. is_running (held_at (after_claim d t).trials n) ≡ true) (same_by t u is)
      (claimed_runs d t waits))
  out_then u false not some' =
      ⊎_elim (λ (x : is_running (held_at d.trials u) ≡ true).
      inl (ap is_running (state_other d.trials t (λ j. running) u (apart_by t u not)) ∙ x))
      (λ (x : IsGone d u). inr (gone_with_state d.trials t (λ j. running) u x))
      (h.open_out u (omega (arith, some')))

  pub reported_claim : IsReportedAt q (rows ++ mine ∷ []) (after_claim d t)
  reported_claim = record {
    claims = noted_push d.history (claimed t) ∙ ap (λ l. l ++ t ∷ []) h.claims
        ∙ sym (opened_push q rows mine ∙ ap (λ b. claims_opened q rows ++ put_if b t []) (self_is q));
    filed = λ u. let none : one_if ((t == u) && false) ≡ 0 = ap one_if (and_false (t == u)) in
        omega (arith, none, tally_push (is_file u) d.history (claimed t), h.filed u, counted_more is_filed u);
    handed_back = λ u. let none : one_if ((t == u) && false) ≡ 0 = ap one_if (and_false (t == u)) in
        omega (
          arith,
          none,
          tally_push (is_hand_back u) d.history (claimed t),
          h.handed_back u,
          counted_more is_handed_back u,
        );
    open_once = λ u. omega (arith, counted_more is_open u, open_once_more u (t == u) refl);
    open_out = λ u some'. out_then u (t == u) refl (omega (arith, some', counted_more is_open u));
    stray_gone = λ u some'. let none : one_if ((t == u) && false) ≡ 0 = ap one_if (and_false (t == u)) in
        gone_with_state d.trials t (λ j. running) u
        (h.stray_gone u (omega (arith, none, some', counted_more is_stray u)));
  }

-- ---- ends

module _ (q : ℕ) (rows : List (ClaimRow Job)) (d : Desk) (n : ℕ) (c : Claim Job) (of : (c.project == q) ≡ true)
    (at : slice_get rows n ≡ Some (row_of c None)) (h : IsReportedAt q rows d) where
  counted_set : (e : ClaimEnd) (f : Option ClaimEnd → Bool) (u : ℕ)
      → claims_that f q u (slice_set rows n (row_of c (Some e))) + one_if ((c.ticket == u) && f None)
      ≡ claims_that f q u rows + one_if ((c.ticket == u) && f (Some e))
  counted_set e f u =
      subst (λ b. claims_that f q u (slice_set rows n (row_of c (Some e))) + one_if ((b && (c.ticket == u)) && f None)
      ≡ claims_that f q u rows + one_if ((b && (c.ticket == u)) && f (Some e))) of
      (tally_set (λ (x : ClaimRow Job). is_of q u x.claim && f x.end) rows n (row_of c None) (row_of c (Some e)) at)

  no : (u : ℕ) → one_if ((c.ticket == u) && false) ≡ 0
  no u = ap one_if (and_false (c.ticket == u))

  -- a trial with an open claim that isn't running is gone
  pub open_gone : is_running (held_at d.trials c.ticket) ≡ false → IsGone d c.ticket
  open_gone idle =
      let here : one_if (is_of q c.ticket c && true) ≡ 1 = ap (λ b. one_if ((b && (c.ticket == c.ticket)) && true)) of
      ∙ ap (λ b. one_if (b && true)) (self_is c.ticket) in
      let some' : 0 < claims_that is_open q c.ticket rows =
      omega (
        arith,
        here,
        tally_at (λ (x : ClaimRow Job). is_of q c.ticket x.claim && is_open x.end) rows n
            (row_of c None) at,
      ) in
      ⊎_elim (λ (r : is_running (held_at d.trials c.ticket) ≡ true). absurd (true≢false (sym r ∙ idle)))
      (λ (g : IsGone d c.ticket). g) (h.open_out c.ticket some')

  closed : (e : ClaimEnd) (u : ℕ) (b : Bool) → (c.ticket == u) ≡ b
      → claims_that is_open q u (slice_set rows n (row_of c (Some e))) + one_if (b && true)
      ≡ claims_that is_open q u rows
  closed e u b is = ap (λ x. claims_that is_open q u (slice_set rows n (row_of c (Some e))) + one_if (x && true))
      (sym is) ∙ counted_set e is_open u ∙ omega (arith, no u)

  module _ (e : ClaimEnd) (note : Entry) (f : Job → TrialState) (kept : is_stray (Some e) ≡ false)
      (no_claim : claims_noted (note ∷ []) ≡ []) (files : (u : ℕ)
      → is_file u note ≡ ((c.ticket == u) && is_filed (Some e)))
      (backs : (u : ℕ) → is_hand_back u note ≡ ((c.ticket == u) && is_handed_back (Some e))) where
    abbrev ended : Desk
    ended = with_entry (record d { trials = with_state d.trials c.ticket f }) note

    abbrev after : List (ClaimRow Job)
    after = slice_set rows n (row_of c (Some e))

    out_still : (u : ℕ) (b : Bool) → (c.ticket == u) ≡ b → 0 < claims_that is_open q u after → IsOut ended u
    out_still u true is some' = absurd (omega (arith, some', closed e u true is, h.open_once u))
    out_still u false not some' =
        ⊎_elim (λ (x : is_running (held_at d.trials u) ≡ true).
        inl (ap is_running (state_other d.trials c.ticket f u (apart_by c.ticket u not)) ∙ x))
        (λ (x : IsGone d u). inr (gone_with_state d.trials c.ticket f u x))
        (h.open_out u (omega (arith, some', closed e u false not)))

    pub reported_end : IsReportedAt q after ended
    reported_end = record {
      claims = noted_push d.history note ∙ ap (λ l. claims_noted d.history ++ l) no_claim
          ∙ append_nil (claims_noted d.history) ∙ h.claims ∙ sym (opened_set q rows n c None (Some e) at);
      filed = λ u. let so = ap one_if (files u) in omega (
        arith,
        so,
        no u,
        tally_push (is_file u) d.history note,
        h.filed u,
        counted_set e is_filed u,
      );
      handed_back = λ u. let so = ap one_if (backs u) in
          omega (
            arith,
            so,
            no u,
            tally_push (is_hand_back u) d.history note,
            h.handed_back u,
            counted_set e is_handed_back u,
          );
      open_once = λ u. omega (arith, h.open_once u, closed e u (c.ticket == u) refl);
      open_out = λ u some'. out_still u (c.ticket == u) refl some';
      stray_gone = λ u some'.
          let none : one_if ((c.ticket == u) && is_stray (Some e)) ≡ 0 =
          ap (λ b. one_if ((c.ticket == u) && b)) kept ∙ no u in
          gone_with_state d.trials c.ticket f u
          (h.stray_gone u (omega (arith, some', none, no u, counted_set e is_stray u)));
    }

  pub reported_filed : (p : Profile) (m : FileMark)
      → IsReportedAt q (slice_set rows n (row_of c (Some Filed))) (after_file p d c.ticket m)
  reported_filed p m = reported_end Filed (filed c.ticket m) _ refl refl (λ u. sym (and_true (c.ticket == u)))
      (λ u. sym (and_false (c.ticket == u)))

  pub reported_back : IsReportedAt q (slice_set rows n (row_of c (Some HandedBack))) (after_hand_back d c.ticket)
  reported_back = reported_end HandedBack (handed_back c.ticket) _ refl refl (λ u. sym (and_false (c.ticket == u)))
      (λ u. sym (and_true (c.ticket == u)))

  stray_then : IsGone d c.ticket → (u : ℕ) (b : Bool) → (c.ticket == u) ≡ b
      → 0 < claims_that is_stray q u rows + one_if (b && true) → IsGone d u
  stray_then gone u true is some' = subst (λ t. IsGone d t) (same_by c.ticket u is) gone
  stray_then gone u false not some' = h.stray_gone u (omega (arith, some'))

  pub reported_stray : is_running (held_at d.trials c.ticket) ≡ false
      → IsReportedAt q (slice_set rows n (row_of c (Some Stray))) d
  reported_stray idle = record {
    claims = h.claims ∙ sym (opened_set q rows n c None (Some Stray) at);
    filed = λ u. omega (arith, no u, h.filed u, counted_set Stray is_filed u);
    handed_back = λ u. omega (arith, no u, h.handed_back u, counted_set Stray is_handed_back u);
    open_once = λ u. omega (arith, h.open_once u, closed Stray u (c.ticket == u) refl);
    open_out = λ u some'. h.open_out u (omega (arith, some', closed Stray u (c.ticket == u) refl));
    stray_gone = λ u some'. stray_then (open_gone idle) u (c.ticket == u) refl
        (omega (arith, some', no u, counted_set Stray is_stray u));
  }

-- no claim, and no desk
pub reported_none : (q : ℕ) → IsReportedAt q [] no_desk
reported_none q = record {
  claims = refl;
  filed = λ t. refl;
  handed_back = λ t. refl;
  open_once = λ t. omega arith;
  open_out = λ t some'. absurd (omega arith);
  stray_gone = λ t some'. absurd (omega arith);
}
