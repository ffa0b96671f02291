-- A desk put back into the map is the desk put among the desks.
use Rattle.std.proofs.Common.{◌≡◌, ℕ, zero, suc, nat_eq, Bool, true, false, cond, [], ◌∷◌, Some, None, position}
use Rattle.std.proofs.Common.{slice_get, refl, sym, ap, ◌∙◌, subst, inl}
use Rattle.std.specs.Prelude.{if◌then◌else◌, Option, Result, Ok, Err}
use Rattle.std.specs.Bool.{OnTrue}
use Rattle.std.specs.declared.alloc.Global.{Global}
use Rattle.std.specs.declared.sync.Arc.{Arc}
use Rattle.std.specs.Map.{lookup, keys_of, values_of, set_value}
use Rattle.std.proofs.lemmas.Map.Steps.{set_value_same}
use Rattle.indexmap.specs.IndexMap.{insert_entry, set_value_at}
use Rattle.indexmap.proofs.MapLemmas.{Found, Found-position, Missing-position, insert_entry-first}
use Rattle.pf_errors.specs.declared.memory.NoMemory.{NoMemory}
use Rattle.pf_request.specs.Calls.{Call}
use Rattle.pf_request.specs.Job.{Job}
use Rattle.pf_desks.specs.Desk.{Desk, no_desk, held_at}
use Rattle.pf_desks.specs.Calls.{HasRoom, reply_to, after_call}
use Rattle.pf_desks.specs.Work.{is_queued, is_running, after_claim, after_hand_back, claim_step, file_step}
use Rattle.pf_desks.specs.Work.{hand_back_step}
use Rattle.pf_desks.specs.History.{IsLegalDesk}
use Rattle.pf_desks.specs.Desks.{Desks, replied, work_done, not_now, desk_at, put_desk, worked}
use Rattle.pf_sched.specs.Views.{FinishedView}
use Rattle.pf_book.specs.Profile.{ForRight}
use Rattle.pf_book.specs.Queued.{job_at}
use Rattle.pf_book.specs.Trials.{JobAt, IsStrayJob}
use Rattle.pf_book.specs.View.{mark_of}
use Rattle.pf_book.specs.Answers.{DeskAnswers, DeskClaims, DeskFiles, DeskHandsBack, SimulatesCall, ClaimsAt}
use Rattle.pf_book.specs.Answers.{SimulatesFile, SimulatesHandBack}
use Rattle.pf_book.specs.declared.reply.Reply.{Reply}

pub at_some : (p : ℕ) (es : Desks) (d : Desk) → lookup (nat_eq p) es ≡ Some d → desk_at p es ≡ d
at_some p [] d h = absurd (cc)
at_some p (e ∷ es) d h = by (nat_eq p e.0) (λ k. at_some p es d k) h
  where
    by : (b : Bool) → (lookup (nat_eq p) es ≡ Some d → desk_at p es ≡ d)
        → cond b (Some e.1) (lookup (nat_eq p) es) ≡ Some d → (if b then e.1 else desk_at p es) ≡ d
    by true rest k = cc (k)
    by false rest k = rest k

pub at_none : (p : ℕ) (es : Desks) → lookup (nat_eq p) es ≡ None → desk_at p es ≡ no_desk
at_none p [] h = refl
at_none p (e ∷ es) h = by (nat_eq p e.0) (λ k. at_none p es k) h
  where
    by : (b : Bool) → (lookup (nat_eq p) es ≡ None → desk_at p es ≡ no_desk)
        → cond b (Some e.1) (lookup (nat_eq p) es) ≡ None → (if b then e.1 else desk_at p es) ≡ no_desk
    by true rest k = absurd (cc (k))
    by false rest k = rest k

put_set : (p : ℕ) (es : Desks) (d w : Desk) → lookup (nat_eq p) es ≡ Some d
    → set_value (nat_eq p) es w ≡ put_desk p w es
put_set p [] d w h = absurd (cc)
put_set p (e ∷ es) d w h = by (nat_eq p e.0) (λ k. put_set p es d w k) h
  where
    by : (b : Bool) → (lookup (nat_eq p) es ≡ Some d → set_value (nat_eq p) es w ≡ put_desk p w es)
        → cond b (Some e.1) (lookup (nat_eq p) es) ≡ Some d
        → cond b ((e.0, w) ∷ es) (e ∷ set_value (nat_eq p) es w) ≡ (if b then (e.0, w) ∷ es else e ∷ put_desk p w es)
    by true rest k = refl
    by false rest k = ap (λ (l : Desks). e ∷ l) (rest k)

pub put_insert : (p : ℕ) (es : Desks) (w : Desk) → insert_entry nat_eq es p w ≡ put_desk p w es
put_insert p [] w = refl
put_insert p (e ∷ es) w = ap (λ (l : Desks). if nat_eq p e.0 then (e.0, w) ∷ es else e ∷ l) (put_insert p es w)

put_same : (p : ℕ) (es : Desks) (d : Desk) → lookup (nat_eq p) es ≡ Some d → put_desk p d es ≡ es
put_same p es d h = sym (put_set p es d d h) ∙ set_value_same (nat_eq p) es d h

-- ---- where a project's desk is

-- the desks are these entries, and the desk of a project is the one at an index of them
pub record IsDeskAt (p : ℕ) (es w : Desks) (i : ℕ) (d : Desk) : Type 0 where
  pub here : desk_at p w ≡ d
  pub put : (d' : Desk) → set_value_at es i d' ≡ put_desk p d' w
  pub same : put_desk p d w ≡ w

pub desk_at_index : (p : ℕ) (es w : Desks) (i : ℕ) (d : Desk) → position (nat_eq p) (keys_of es) ≡ Some i
    → slice_get (values_of es) i ≡ Some d → es ≡ w → IsDeskAt p es w i d
desk_at_index p es w i d index value seen = record {
  here = ap (desk_at p) (sym seen) ∙ at_some p es d found;
  put = λ d'. sym (insert_entry-first nat_eq p d' es i f.first) ∙ put_insert p es d' ∙ ap (put_desk p d') seen;
  same = ap (put_desk p d) (sym seen) ∙ put_same p es d found ∙ seen;
}
  where
    f : Found (nat_eq p) es i
    f = Found-position (nat_eq p) es i index

    found : lookup (nat_eq p) es ≡ Some d
    found = f.value ∙ value

-- a project whose desk is at no index has none yet
pub no_desk_at : (p : ℕ) (es w : Desks) → position (nat_eq p) (keys_of es) ≡ None → es ≡ w → desk_at p w ≡ no_desk
no_desk_at p es w none seen = ap (desk_at p) (sym seen) ∙ at_none p es (Missing-position (nat_eq p) es none).value

-- ---- the steps of desks, where a project's desk is this one

-- a desk's answer to a call is that of all desks
module _ (q : ℕ) (w : Desks) (c : Call) (d d' : Desk) (here : desk_at q w ≡ d) (w' : Desks)
    (put : w' ≡ put_desk q d' w) where
  pub answers : (r : Reply) → DeskAnswers d c (Ok r) d' → SimulatesCall w q c (Ok r) w'
  answers r h p right =
      let h' = h p right in
      let placed = ap (λ (k : Desk). put_desk q (after_call p k c) w) here ∙ ap (λ (k : Desk). put_desk q k w)
      (sym h'.1) ∙ sym put in
      let reply = ap (λ (k : Desk). reply_to p k c) here ∙ sym h'.0 in
      λ i. (placed i, replied (reply i))

  pub answers_all : put_desk q d w ≡ w → (r : Result Reply NoMemory) → DeskAnswers d c r d' → SimulatesCall w q c r w'
  answers_all same (Ok r) h = answers r h
  answers_all same (Err e) h = (subst HasRoom (sym here) h.0, put ∙ ap (λ (k : Desk). put_desk q k w) h.1 ∙ same)

-- ---- where there is no work

module _ (q : ℕ) (w : Desks) (t : ℕ) (d : Desk) (here : desk_at q w ≡ d) where
  pub no_claim : is_queued (held_at d.trials t) ≡ false → (w' : Desks) → w' ≡ w → ClaimsAt w q t (Ok None) w'
  no_claim h w' same =
      ap (worked q w) (ap (λ (k : Desk). claim_step k t) here
      ∙ ap (λ (b : Bool). if b then Some (after_claim d t) else None) h)
      ∙ ap (λ (v : Desks). (v, not_now)) (sym same)

  pub no_file : (f : FinishedView) → is_running (held_at d.trials t) ≡ false → (w' : Desks) → w' ≡ w
      → SimulatesFile w q t f false w'
  no_file f h w' same = (inl (ap (λ (k : Desk). is_running (held_at k.trials t)) here ∙ h), same)

  pub no_hand_back : is_running (held_at d.trials t) ≡ false → (w' : Desks) → w' ≡ w → SimulatesHandBack w q t false w'
  no_hand_back h w' same =
      ap (worked q w) (ap (λ (k : Desk). hand_back_step k t) here
      ∙ ap (λ (b : Bool). if b then Some (after_hand_back d t) else None) h)
      ∙ ap (λ (v : Desks). (v, not_now)) (sym same)

-- ---- the work of workers

-- a claim at a desk is that of all desks
pub claims_at : (q : ℕ) (w : Desks) (t : ℕ) (d d' : Desk) → desk_at q w ≡ d → (w' : Desks) → w' ≡ put_desk q d' w
    → put_desk q d w ≡ w
    → (r : Result (Option (Arc Job Global)) NoMemory) → DeskClaims d t r d' → ClaimsAt w q t r w'
claims_at q w t d d' here w' put same (Ok (Some j)) h = (
  ap (λ (k : Desk). job_at k.trials t) here ∙ h.0,
  ap (worked q w) (ap (λ (k : Desk). claim_step k t) here ∙ h.1) ∙ ap (λ (v : Desks). (v, work_done)) (sym put),
)
claims_at q w t d d' here w' put same (Ok None) h =
    no_claim q w t d here h.0 w' (put ∙ ap (λ (k : Desk). put_desk q k w) h.1 ∙ same)
claims_at q w t d d' here w' put same (Err e) h =
    (ap (λ (k : Desk). is_queued (held_at k.trials t)) here ∙ h.0, put ∙ ap (λ (k : Desk). put_desk q k w) h.1 ∙ same)

-- a file at a desk is that of all desks
pub files : (q : ℕ) (w : Desks) (t : ℕ) (f : FinishedView) (d d' : Desk) → desk_at q w ≡ d → (w' : Desks)
    → w' ≡ put_desk q d' w → put_desk q d w ≡ w
    → (b : Bool) → DeskFiles d t f b d' → SimulatesFile w q t f b w'
files q w t f d d' here w' put same true h =
    λ p right. ap (worked q w) (ap (λ (k : Desk). file_step p k t (mark_of f.result)) here ∙ h.2 p right)
    ∙ ap (λ (v : Desks). (v, work_done)) (sym put)
files q w t f d d' here w' put same false h = (
  subst (λ (k : Desk). IsStrayJob k.trials t f.job) (sym here) h.0,
  put ∙ ap (λ (k : Desk). put_desk q k w) h.1 ∙ same,
)

-- the job of a trial at a desk is that among the desks
pub own_job_at : (q : ℕ) (w : Desks) (t : ℕ) (j : Job) (d : Desk) → desk_at q w ≡ d → (b : Bool)
    → OnTrue b (JobAt d.trials t j)
    → OnTrue b (JobAt (desk_at q w).trials t j)
own_job_at q w t j d here b h = subst (λ (k : Desk). OnTrue b (JobAt k.trials t j)) (sym here) h

-- a hand-back at a desk is that of all desks
pub takes_back : (q : ℕ) (w : Desks) (t : ℕ) (d d' : Desk) → desk_at q w ≡ d → (w' : Desks) → w' ≡ put_desk q d' w
    → put_desk q d w ≡ w
    → (b : Bool) → DeskHandsBack d t b d' → SimulatesHandBack w q t b w'
takes_back q w t d d' here w' put same true h =
    ap (worked q w) (ap (λ (k : Desk). hand_back_step k t) here ∙ h) ∙ ap (λ (v : Desks). (v, work_done)) (sym put)
takes_back q w t d d' here w' put same false h =
    no_hand_back q w t d here h.0 w' (put ∙ ap (λ (k : Desk). put_desk q k w) h.1 ∙ same)

-- a project without a desk has no trial
pub none_queued : (t : ℕ) → is_queued (held_at no_desk.trials t) ≡ false
none_queued zero = refl
none_queued (suc t) = refl

-- no job waits there, and none is running
pub no_job : (t : ℕ) → job_at no_desk.trials t ≡ None
no_job zero = refl
no_job (suc t) = refl

pub none_running : (t : ℕ) → is_running (held_at no_desk.trials t) ≡ false
none_running zero = refl
none_running (suc t) = refl

-- an empty desk is legal
pub empty_legal : (q : ℕ) (w : Desks) → desk_at q w ≡ no_desk → ForRight (λ p. IsLegalDesk p (desk_at q w))
empty_legal q w here p right = subst (IsLegalDesk p) (sym here) refl

-- a project without a desk has room for a call
pub empty_room : (q : ℕ) (w : Desks) → desk_at q w ≡ no_desk → HasRoom (desk_at q w)
empty_room q w here = subst HasRoom (sym here) refl
