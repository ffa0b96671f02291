-- What a desk keeps is kept by a call.
use Rattle.std.proofs.Common.{◌≡◌, ℕ, List, [], ◌∷◌, ◌++◌, map, Option, Some, None, Ok, refl, sym, ap, ◌∙◌, subst}
use Rattle.std.proofs.Common.{arith, ◌+◌, ◌≤◌}
use Rattle.std.specs.Option.{option_map}
use Rattle.std.specs.Vec.{vec_len, vec_capacity}
use Rattle.pf_errors.specs.declared.code.Code.{Code}
use Rattle.pf_quota.specs.declared.usage.Usage.{Usage}
use Rattle.pf_quota.specs.declared.charges.Charge.TheVariants as charge
use Rattle.pf_quota.specs.declared.refusals.LimitRefusal.{LimitRefusal as Limit}
use Rattle.pf_quota.specs.Checks.{refusal_of}
use Rattle.pf_quota.specs.Refusals as quota
use Rattle.pf_quota.specs.Usage.{usage_of}
use Rattle.pf_model.specs.Limits.{IsEdition}
use Rattle.pf_request.specs.Calls.{Call}
use Rattle.pf_check.specs.Module.{ReadModule}
use Rattle.pf_desks.specs.Desk as desk
use Rattle.pf_desks.specs.Desk.{Profile, Desk, Trial, called}
use Rattle.pf_desks.specs.Calls.{answer_of_call, within_limits, noted, passed_by, HasRoom, after_call, reply_to}
use Rattle.pf_desks.specs.Calls.{with_entry, usage_in, held_by}
use Rattle.pf_desks.specs.History.{IsLegalDesk}
use Rattle.pf_desks.proofs.Histories.{desk_more}
use Rattle.pf_book.specs.Answers.{DeskAnswers}
use Rattle.pf_book.specs.Kept.{desk_in, IsValid}
use Rattle.pf_book.specs.Plans.{with_change, IsPlan}
use Rattle.pf_book.specs.Profile.{ForRight}
use Rattle.pf_book.specs.Queues.{trials_dropped_by}
use Rattle.pf_book.specs.Running.{running_in}
use Rattle.pf_book.specs.Users.{holding, CountUsers}
use Rattle.pf_book.specs.View.{view_of_reply, view_of_entry}
use Rattle.pf_book.specs.declared.desk.Desk.TheInside.{Inside}
use Rattle.pf_book.specs.declared.plan.DeskChange.{DeskChange}
use Rattle.pf_book.specs.declared.plan.DeskChange.TheVariants as change
use Rattle.pf_book.specs.declared.plan.Plan.{Plan}
use Rattle.pf_book.specs.declared.reply.Reply.{Reply}
use Rattle.pf_book.proofs.Queued.{change_running}
use Rattle.pf_desks.proofs.Sums.{calls_more}

-- ---- the same desk in other lists

-- what is kept is kept where the lists hold the same, and the history has its room
pub same_valid : (b b' : Inside) → b'.edition ≡ b.edition → b'.modules.items ≡ b.modules.items
    → b'.trials.items ≡ b.trials.items → b'.history.items ≡ b.history.items
    → b'.users.items ≡ b.users.items → b'.usage ≡ b.usage → b'.running ≡ b.running
    → vec_len b'.history + b'.running ≤ vec_capacity b'.history → IsValid b → IsValid b'
same_valid b b' edition modules trials history users usage running room h =
    let same : desk_in b' ≡ desk_in b = λ i. record {
      edition = edition i;
      modules = modules i;
      trials = trials i;
      history = map view_of_entry (history i);
    } in
    let counts : CountUsers b.users.items b.modules.items b.trials.items =
    record { counted = h.counted; exact = h.users; used = h.used } in
    let one : CountUsers b'.users.items b.modules.items b.trials.items =
    subst (λ (l : List ℕ). CountUsers l b.modules.items b.trials.items) (sym users) counts in
    let two : CountUsers b'.users.items b'.modules.items b.trials.items =
    subst (λ (l : List (Option ReadModule)). CountUsers b'.users.items l b.trials.items) (sym modules) one in
    let all : CountUsers b'.users.items b'.modules.items b'.trials.items =
    subst (λ (l : List (Option Trial)). CountUsers b'.users.items b'.modules.items l) (sym trials) two in
    record {
      legal = λ p right. subst (IsLegalDesk p) (sym same) (h.legal p right);
      edition = subst IsEdition (sym edition) h.edition;
      sums = usage ∙ h.sums ∙ ap usage_in (sym same);
      counted = all.counted;
      users = all.exact;
      used = all.used;
      running = running ∙ h.running ∙ ap running_in (sym same);
      room = room;
    }

-- ---- a call that the log has room for, or none

module _ (d : Desk) (u : Usage) (sums : u ≡ usage_in d) where
  reported_limit : (o : Option Limit) → refusal_of d.edition u charge.Call ≡ o
      → passed_by d charge.Call ≡ option_map quota.code_of o
  reported_limit o h = ap (option_map quota.code_of)
      (ap (λ (v : Usage). refusal_of d.edition v charge.Call) (sym sums) ∙ h)

  pub has_room : refusal_of d.edition u charge.Call ≡ None → HasRoom d
  has_room h = reported_limit None h

  -- a call that the log has no room for is answered so, and the desk stays
  pub full_answers : (limit : Limit) (c : Call) (r : Reply) → refusal_of d.edition u charge.Call ≡ Some limit
      → view_of_reply r ≡ desk.refused (quota.code_of limit)
      → (d' : Desk) → d' ≡ d → DeskAnswers d c (Ok r) d'
  full_answers limit c r h reported d' same p right =
      let full = reported_limit (Some limit) h in (
        reported ∙ sym (ap (λ (o : Option Code). (within_limits d o (noted c (answer_of_call p d c))).1) full),
        same ∙ sym (ap (λ (o : Option Code). (within_limits d o (noted c (answer_of_call p d c))).0) full),
      )

-- ---- a call that is noted

-- a change leaves what was noted, and looks at modules and trials alone
with_history : (d : Desk) (a : DeskChange) → with_change d a
    ≡ record (with_change (holding d.edition d.modules d.trials) a) { history = d.history }
with_history d change.Nothing = refl
with_history d (change.Module m) = refl
with_history d (change.Trial n j) = refl
with_history d (change.DropTrial t) = refl
with_history d (change.Withdraw n) = refl
with_history d (change.Edition e) = refl

same_history : (d : Desk) (a : DeskChange) → (with_change d a).history ≡ d.history
same_history d a = ap (λ (k : Desk). k.history) (with_history d a)

-- the desk of the lists that a change was carried out in, and of what was noted
pub changed_desk : (d : Desk) (a : DeskChange) (e : desk.Entry) (edition : ℕ) (ms : List (Option ReadModule))
    (ts : List (Option Trial)) (es : List desk.Entry)
    → holding edition ms ts ≡ with_change (holding d.edition d.modules d.trials) a → es ≡ d.history ++ e ∷ []
    → ◌≡◌ {A = Desk} (record { edition = edition; modules = ms; trials = ts; history = es })
    (with_entry (with_change d a) e)
changed_desk d a e edition ms ts es made noted =
    (λ i. record {
      edition = (made i).edition;
      modules = (made i).modules;
      trials = (made i).trials;
      history = noted i;
    })
    ∙ ap (λ (k : Desk). with_entry k e) (sym (with_history d a))

module _ (d : Desk) (c : Call) (plan : Plan) (planned : IsPlan d c plan) (room : HasRoom d) (d' : Desk)
    (is : d' ≡ with_entry (with_change d plan.change) (called c (view_of_reply plan.reply))) where
  abbrev reported : desk.Reply
  reported = view_of_reply plan.reply

  longer : d'.history ≡ d.history ++ called c reported ∷ []
  longer = ap (λ (k : Desk). k.history) is ∙ ap (λ es. es ++ called c reported ∷ []) (same_history d plan.change)

  -- the desk and the reply are those that the call leads to
  pub called_is : ForRight (λ p. d' ≡ after_call p d c)
  called_is p right =
      is
      ∙ ap (λ (x : Desk × desk.Reply). with_entry x.0 (called c x.1)) (planned.answers p right)
      ∙ sym (ap (λ (o : Option Code). (within_limits d o (noted c (answer_of_call p d c))).0) room)

  reply_is : ForRight (λ p. reported ≡ reply_to p d c)
  reply_is p right =
      ap (λ (x : Desk × desk.Reply). x.1) (planned.answers p right)
      ∙ sym (ap (λ (o : Option Code). (within_limits d o (noted c (answer_of_call p d c))).1) room)

  pub called_answers : (reply : Reply) → reply ≡ plan.reply → DeskAnswers d c (Ok reply) d'
  called_answers reply same p right = (ap view_of_reply same ∙ reply_is p right, called_is p right)

  called_legal : ForRight (λ p. IsLegalDesk p d) → ForRight (λ p. IsLegalDesk p d')
  called_legal h p right = desk_more p d d' (called c reported) (h p right) (
    room,
    reply_is p right,
    called_is p right,
  ) longer

  called_sums : plan.usage ≡ usage_in d'
  called_sums =
      planned.usage
      ∙ ap (usage_of (held_by (with_change d plan.change)))
      (sym (calls_more (with_change d plan.change).history c reported))
      ∙ ap usage_in (sym is)

  -- what a desk keeps, where it is this desk
  pub called_valid : (b' : Inside) → desk_in b' ≡ d' → b'.usage ≡ plan.usage → IsEdition b'.edition
      → CountUsers b'.users.items b'.modules.items b'.trials.items
      → b'.running + trials_dropped_by d.trials plan.change ≡ running_in d
      → vec_len b'.history + b'.running ≤ vec_capacity b'.history
      → ForRight (λ p. IsLegalDesk p d) → IsValid b'
  called_valid b' here uses edition counts running room legal = record {
    legal = λ p right. subst (IsLegalDesk p) (sym here) (called_legal legal p right);
    edition = edition;
    sums = uses ∙ called_sums ∙ ap usage_in (sym here);
    counted = counts.counted;
    users = counts.exact;
    used = counts.used;
    running = omega (arith, running, change_running d plan.change, ap running_in here, ap running_in is);
    room = room;
  }
