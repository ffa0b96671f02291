-- What the code's replies, notes and trials stand for.
use Rattle.std.specs.Prelude.{Bool, true, false}
use Rattle.pf_errors.specs.declared.code.Code.{Code}
use Rattle.pf_errors.specs.declared.code.Code.TheVariants as code
use Rattle.pf_quota.specs.Refusals as quota
use Rattle.pf_model.specs.Properties.{Outcome, memory}
use Rattle.pf_model.specs.Shrinking.{Result, report, shrunk_to, nothing_fails}
use Rattle.pf_desks.specs.Desk as desk
use Rattle.pf_request.specs.Calls as calls
use Rattle.pf_request.specs.Job.{Job}
use Rattle.pf_request.specs.View.{view_of_order}
use Rattle.pf_sched.specs.Views.{without_memory}
use Rattle.pf_book.specs.declared.refusal.CallRefusal.{CallRefusal}
use Rattle.pf_book.specs.declared.refusal.CallRefusal.TheVariants as refusal
use Rattle.pf_book.specs.declared.reply.Reply.{Reply}
use Rattle.pf_book.specs.declared.reply.Reply.TheVariants as reply
use Rattle.pf_book.specs.declared.entry.Entry.{Entry}
use Rattle.pf_book.specs.declared.entry.Entry.TheVariants as entry
use Rattle.pf_desks.specs.declared.mark.FileMark.{FileMark}
use Rattle.pf_desks.specs.declared.mark.FileMark.TheVariants as mark
use Rattle.pf_book.specs.declared.trial.TrialState.{TrialState}
use Rattle.pf_book.specs.declared.trial.TrialState.TheVariants as state

abbrev pub code_of : CallRefusal → Code
code_of (refusal.Source c) = c
code_of refusal.NoModule = code.NoModule
code_of refusal.NoRoot = code.NoRoot
code_of refusal.NoProperty = code.NoProperty
code_of refusal.NoTrial = code.NoTrial
code_of refusal.ModuleInUse = code.ModuleInUse
code_of refusal.NotDone = code.NotDone
code_of refusal.OutOfRange = code.OutOfRange
code_of refusal.WeightsOutOfRange = code.WeightsOutOfRange
code_of refusal.NoEdition = code.NoEdition
code_of refusal.EditionTooLow = code.EditionTooLow
code_of (refusal.PastLimit q) = quota.code_of q

abbrev pub view_of_reply : Reply → desk.Reply
view_of_reply (reply.Module n) = desk.number n
view_of_reply (reply.Ticket t) = desk.ticket t
view_of_reply (reply.Result f) = desk.result f.job.asked.code.atoms f.result
view_of_reply (reply.Stage s) = desk.stage s
view_of_reply reply.GivenUp = desk.given_up
view_of_reply (reply.Usage u) = desk.uses u
view_of_reply (reply.Logged n) = desk.logged n
view_of_reply reply.HasEdition = desk.has_edition
view_of_reply (reply.Refused e) = desk.refused (code_of e)

-- ---- marks

abbrev pub mark_by : Outcome → FileMark
mark_by memory = mark.Memory
mark_by _ = mark.Whole

-- the mark under which a job's result is filed
abbrev pub mark_of : Result → FileMark
mark_of (report r) = mark_by r.outcome
mark_of (shrunk_to f r) = mark.Whole
mark_of nothing_fails = mark.Whole

-- ---- notes and states

abbrev pub view_of_entry : Entry → desk.Entry
view_of_entry (entry.Submitted s n) = desk.called (calls.submit s) (desk.number n)
view_of_entry (entry.SubmitRefused s e) = desk.called (calls.submit s) (desk.refused (code_of e))
view_of_entry (entry.Ordered o t) = desk.called (view_of_order o.value) (desk.ticket t)
view_of_entry (entry.OrderRefused o e) = desk.called (view_of_order o.value) (desk.refused (code_of e))
view_of_entry (entry.Fetched t w) = desk.called (calls.fetch t) (desk.result w.job.asked.code.atoms w.result)
view_of_entry (entry.ReportedMemory t j) = desk.called (calls.fetch t)
    (desk.result j.value.asked.code.atoms without_memory)
view_of_entry (entry.FetchRefused t e) = desk.called (calls.fetch t) (desk.refused (code_of e))
view_of_entry (entry.Stood t s) = desk.called (calls.status t) (desk.stage s)
view_of_entry (entry.StatusRefused t e) = desk.called (calls.status t) (desk.refused (code_of e))
view_of_entry (entry.Dropped t) = desk.called (calls.drop_trial t) desk.given_up
view_of_entry (entry.DropRefused t e) = desk.called (calls.drop_trial t) (desk.refused (code_of e))
view_of_entry (entry.Withdrawn n) = desk.called (calls.withdraw n) desk.given_up
view_of_entry (entry.WithdrawRefused n e) = desk.called (calls.withdraw n) (desk.refused (code_of e))
view_of_entry (entry.Used u) = desk.called calls.usage (desk.uses u.value)
view_of_entry (entry.Counted n) = desk.called calls.log (desk.logged n)
view_of_entry (entry.Moved e) = desk.called (calls.edition e) desk.has_edition
view_of_entry (entry.MoveRefused e r) = desk.called (calls.edition e) (desk.refused (code_of r))
view_of_entry (entry.Claimed t) = desk.claimed t
view_of_entry (entry.Filed t m) = desk.filed t m
view_of_entry (entry.HandedBack t) = desk.handed_back t

-- a worker has it, or it waits for one
abbrev pub state_running : Bool → desk.TrialState
state_running true = desk.running
state_running false = desk.queued

abbrev pub view_of_state : TrialState → desk.TrialState
view_of_state (state.Undone running job) = state_running running
view_of_state (state.Done w) = desk.done w.result
view_of_state (state.WithoutMemory job) = desk.done without_memory

-- the job of a trial, however far it is
abbrev pub job_within : TrialState → Job
job_within (state.Undone running job) = job.value
job_within (state.Done w) = w.job
job_within (state.WithoutMemory job) = job.value
