-- Histories only grow, so what clients saw stays true.
use Rattle.std.proofs.Common.{◌≡◌, ℕ, ◌==◌, Bool, true, false, List, [], ◌∷◌, ◌++◌, length, Option, Some, None, refl}
use Rattle.std.proofs.Common.{sym, ap, ◌∙◌, subst, append-nil, append_assoc}
use Rattle.std.specs.Prelude.{Result, Ok, Err, if◌then◌else◌, All, slice_get}
use Rattle.std.specs.declared.alloc.Global.{Global}
use Rattle.std.specs.declared.sync.Arc.{Arc}
use Rattle.std.proofs.lemmas.List.Elements.{All-nil, All-push, All-weaker}
use Rattle.pf_errors.specs.declared.code.Code.{Code}
use Rattle.pf_errors.specs.declared.memory.NoMemory.{NoMemory}
use Rattle.pf_quota.specs.declared.charges.Charge.TheVariants as charge
use Rattle.pf_request.specs.Calls.{Call}
use Rattle.pf_request.specs.Job.{Job}
use Rattle.pf_desks.specs.Calls.{answer_of_call, noted, passed_by, within_limits, after_call}
use Rattle.pf_desks.specs.Desk.{Profile, Desk, Entry, called, claimed, filed, handed_back, held_at}
use Rattle.pf_desks.specs.Desks.{Desks, Answer, desk_at, put_desk}
use Rattle.pf_desks.specs.History.{IsLegalDesk}
use Rattle.pf_desks.specs.Work.{is_running, after_claim, after_file, after_hand_back}
use Rattle.pf_desks.specs.declared.stage.TrialStage.{TrialStage}
use Rattle.pf_desks.proofs.Histories.{call_notes}
use Rattle.pf_desks.proofs.Isolated.{desk_placed}
use Rattle.pf_sched.specs.Views.{FinishedView}
use Rattle.pf_book.specs.declared.reply.Reply.{Reply}
use Rattle.pf_book.specs.Answers.{SimulatesCall, ClaimsAt, SimulatesFile, SimulatesHandBack}
use Rattle.pf_book.specs.Profile.{ForRight}
use Rattle.pf_book.specs.View.{mark_of}
use Rattle.pf_book.proofs.Claims.{claimed_world}
use Rattle.pf_farm_accounts.specs.Places.{AreAmong, StartsWith}
use Rattle.pf_farm_laws.specs.Stages.{stage_at, WasSoFar}
use Rattle.pf_farm_laws.proofs.Lists.{same_by}
use Rattle.pf_farm_state.specs.declared.client.ClosedSeat.{ClosedSeat}
use Rattle.pf_farm_state.specs.declared.look.TrialLook.{TrialLook}
use Rattle.pf_farm_state.specs.Clients.{SawTruly}
use Rattle.pf_farm_state.specs.Looks.{look_of, IsTrueLook, AreTrueLooks}
use Rattle.pf_farm_state.proofs.Language.{for_one}
use Rattle.pf_farm_state.proofs.Sound.{all_at, worked_done, worked_not}

-- ---- histories

-- the history of each desk goes on from what it was
abbrev pub Extends : Desks → Desks → Type 0
Extends w w' = (q : ℕ) → StartsWith (desk_at q w').history (desk_at q w).history

pub stays : (w w' : Desks) → w' ≡ w → Extends w w'
stays w w' same q = ([], ap (λ (x : Desks). (desk_at q x).history) same ∙ sym (append-nil (desk_at q w).history))

placed : (q : ℕ) (d : Desk) (w : Desks) → StartsWith d.history (desk_at q w).history → Extends w (put_desk q d w)
placed q d w more r = subst (λ (k : Desk). StartsWith k.history (desk_at r w).history) (sym (desk_placed r q d w))
    (by (q == r) refl)
  where
    by : (b : Bool) → (q == r) ≡ b → StartsWith (if b then d else desk_at r w).history (desk_at r w).history
    by true e = subst (λ k. StartsWith d.history (desk_at k w).history) (same_by q r e) more
    by false e = ([], sym (append-nil (desk_at r w).history))

-- a call is noted, or its log has no room
call_grows : (p : Profile) (d : Desk) (c : Call) → StartsWith (after_call p d c).history d.history
call_grows p d c = by (passed_by d charge.Call)
  where
    by : (o : Option Code) → StartsWith (within_limits d o (noted c (answer_of_call p d c))).0.history d.history
    by None = (
      called c (answer_of_call p d c).1 ∷ [],
      ap (λ (es : List Entry). es ++ called c (answer_of_call p d c).1 ∷ []) (call_notes p d c),
    )
    by (Some e) = ([], sym (append-nil d.history))

pub call_extends : (w w' : Desks) (q : ℕ) (c : Call) (r : Result Reply NoMemory) → SimulatesCall w q c r w'
    → Extends w w'
call_extends w w' q c (Ok r) a = for_one (λ p right.
    subst (Extends w) (ap (λ (x : Desks × Answer). x.0) (a p right))
    (placed q (after_call p (desk_at q w) c) w (call_grows p (desk_at q w) c)))
call_extends w w' q c (Err e) a = stays w w' a.1

pub claim_extends : (w w' : Desks) (q t : ℕ) (j : Arc Job Global) → ClaimsAt w q t (Ok (Some j)) w' → Extends w w'
claim_extends w w' q t j h = subst (Extends w) (sym (claimed_world q t w w' j h).1)
    (placed q (after_claim (desk_at q w) t) w (claimed t ∷ [], refl))

pub file_extends : (w w' : Desks) (q t : ℕ) (f : FinishedView) (b : Bool) → SimulatesFile w q t f b w' → Extends w w'
file_extends w w' q t f true h = for_one (λ p right.
    let d = after_file p (desk_at q w) t (mark_of f.result) in
    let x = worked_done q w w' (is_running (held_at (desk_at q w).trials t)) d (h p right) in
    subst (Extends w) (sym x.1) (placed q d w (filed t (mark_of f.result) ∷ [], refl)))
file_extends w w' q t f false h = stays w w' h.1

pub back_extends : (w w' : Desks) (q t : ℕ) (b : Bool) → SimulatesHandBack w q t b w' → Extends w w'
back_extends w w' q t true h =
    let d = after_hand_back (desk_at q w) t in
    let x = worked_done q w w' (is_running (held_at (desk_at q w).trials t)) d h in
    subst (Extends w) (sym x.1) (placed q d w (handed_back t ∷ [], refl))
back_extends w w' q t false h =
    stays w w' (worked_not q w w' (is_running (held_at (desk_at q w).trials t)) (after_hand_back (desk_at q w) t) h).1

-- ---- what clients saw

was_so_far : (p : Profile) (es more : List Entry) (n t : ℕ) (s : Option TrialStage) → WasSoFar p es n t s
    → WasSoFar p (es ++ more) n t s
was_so_far p es more n t s h = record {
  before = h.before;
  after = h.after ++ more;
  desk = h.desk;
  noted = ap (λ (l : List Entry). l ++ more) h.noted ∙ append_assoc h.before h.after more;
  count = h.count;
  led = h.led;
  so_far = h.so_far;
}

still_true : (p : Profile) (w w' : Desks) (b : Bool) (l : TrialLook) → Extends w w' → IsTrueLook p w b l
    → IsTrueLook p w' b l
still_true p w w' b l grows h = (
  subst (λ (es : List Entry). WasSoFar p es l.notes l.ticket l.stage) (sym (grows l.project).1)
      (was_so_far p (desk_at l.project w).history (grows l.project).0 l.notes l.ticket l.stage h.0),
  h.1,
)

abbrev pub AreTrue : Desks → Bool → List TrialLook → Type 0
AreTrue w b ls = ForRight (λ p. AreTrueLooks p w b ls)

pub true_none : (w : Desks) (b : Bool) → AreTrue w b []
true_none w b p right = All-nil (IsTrueLook p w b)

pub true_still : (w w' : Desks) (b : Bool) (ls : List TrialLook) → Extends w w' → AreTrue w b ls → AreTrue w' b ls
true_still w w' b ls grows all p right = All-weaker (IsTrueLook p w b) (IsTrueLook p w' b)
    (λ l h. still_true p w w' b l grows h) ls (all p right)

pub true_stopped : (w : Desks) (b : Bool) (ls : List TrialLook) → AreTrue w b ls → AreTrue w true ls
true_stopped w b ls all p right = All-weaker (IsTrueLook p w b) (IsTrueLook p w true) (λ l h. (h.0, λ _. refl)) ls
    (all p right)

-- one look more, at what is now
pub true_more : (w : Desks) (b : Bool) (ls : List TrialLook) (q t n : ℕ) → n ≡ length (desk_at q w).history
    → ForRight (λ p. IsLegalDesk p (desk_at q w)) → AreTrue w b ls
    → AreTrue w b (ls ++ look_of q t n (stage_at (desk_at q w) t) b ∷ [])
true_more w b ls q t n count legal all p right =
    let d = desk_at q w in
    let now : WasSoFar p d.history n t (stage_at d t) = record {
      before = d.history;
      after = [];
      desk = d;
      noted = sym (append-nil d.history);
      count = sym count;
      led = legal p right;
      so_far = refl;
    } in
    All-push (IsTrueLook p w b) ls (look_of q t n (stage_at d t) b) (all p right) (now, λ stops. stops)

-- ---- seats that are closed

abbrev IsAt : List TrialLook → TrialLook → Type 0
IsAt log l = (k : ℕ) × (slice_get log k ≡ Some l)

abbrev pub AllAmong : List ClosedSeat → List TrialLook → Type 0
AllAmong ss log = All (λ (s : ClosedSeat). AreAmong s.looks log) ss

pub among_more : (ss : List ClosedSeat) (s : ClosedSeat) (log : List TrialLook) → AllAmong ss log → AreAmong s.looks log
    → AllAmong (ss ++ s ∷ []) log
among_more ss s log all one = All-push (λ (x : ClosedSeat). AreAmong x.looks log) ss s all one

true_among : (p : Profile) (w : Desks) (b : Bool) (log ls : List TrialLook) → AreTrueLooks p w b log
    → AreAmong ls log → AreTrueLooks p w b ls
true_among p w b log ls all among = All-weaker (IsAt log) (IsTrueLook p w b)
    (λ l at. all_at (IsTrueLook p w b) log at.0 l at.1 all) ls among

-- whose looks are among those that are true
pub saw_truly : (w : Desks) (b : Bool) (log : List TrialLook) (ss : List ClosedSeat) → AreTrue w b log
    → AllAmong ss log → ForRight (λ p. SawTruly p ss w b)
saw_truly w b log ss all among p right = All-weaker (λ (s : ClosedSeat). AreAmong s.looks log)
    (λ (s : ClosedSeat). AreTrueLooks p w b s.looks) (λ s h. true_among p w b log s.looks (all p right) h) ss among
