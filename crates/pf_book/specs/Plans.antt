-- The results of calls, before anything is changed.
use Rattle.std.specs.Prelude.{◌≡◌, [], ◌∷◌, ◌++◌, Some, None, IsSome, Result, Ok, Err}
use Rattle.pf_quota.specs.declared.usage.Usage.{Usage}
use Rattle.pf_quota.specs.declared.charges.Charge.TheVariants as charge
use Rattle.pf_quota.specs.Usage.{charged}
use Rattle.pf_model.specs.Limits.{IsEdition}
use Rattle.pf_request.specs.Calls.{Call}
use Rattle.pf_desks.specs.Desk as desk
use Rattle.pf_errors.specs.declared.memory.NoMemory.{NoMemory}
use Rattle.pf_desks.specs.Calls.{answer_of_call, usage_in, users_of, with_job}
use Rattle.pf_store.specs.Sources.{Kept}
use Rattle.pf_book.specs.declared.plan.DeskChange.{DeskChange}
use Rattle.pf_book.specs.declared.plan.DeskChange.TheVariants as change
use Rattle.pf_book.specs.declared.plan.Plan.{Plan}
use Rattle.pf_book.specs.Kept.{FollowsDesk}
use Rattle.pf_book.specs.Profile.{ForRight}
use Rattle.pf_book.specs.View.{view_of_entry, view_of_reply}

-- the desk with what a call changes
abbrev pub with_change : desk.Desk → DeskChange → desk.Desk
with_change d change.Nothing = d
with_change d (change.Module m) = record d { modules = d.modules ++ Some m ∷ [] }
with_change d (change.Trial n j) = with_job d n j.value
with_change d (change.DropTrial t) = record d { trials = desk.with_held d.trials t None }
with_change d (change.Withdraw n) = record d { modules = desk.with_held d.modules n None }
with_change d (change.Edition e) = record d { edition = e }

-- the result of a call to a desk is what it is answered with, which is noted so; and what is used then, with the call
-- itself
pub record IsPlan (d : desk.Desk) (c : Call) (plan : Plan) : Type 0 where
  pub answers : ForRight (λ p. ◌≡◌ {A = desk.Desk × desk.Reply} (with_change d plan.change, view_of_reply plan.reply)
      (answer_of_call p d c))
  pub notes : view_of_entry plan.noted ≡ desk.called c (view_of_reply plan.reply)
  pub usage : plan.usage ≡ charged (usage_in (with_change d plan.change)) charge.Call

-- what is used, with a call that is charged already
abbrev pub IsCharged : desk.Desk → Usage → Type 0
IsCharged d u = u ≡ charged (usage_in d) charge.Call

-- a change can be carried out: a trial is of a module that is held, no held trial uses a module that is given up, and
-- there is the edition
abbrev pub CanChange : desk.Desk → DeskChange → Type 0
CanChange d change.Nothing = Unit {0}
CanChange d (change.Module m) = Unit {0}
CanChange d (change.Trial n j) = IsSome (desk.held_at d.modules n)
CanChange d (change.DropTrial t) = Unit {0}
CanChange d (change.Withdraw n) = users_of d n ≡ 0
CanChange d (change.Edition e) = IsEdition e

-- the modules stay as they are
abbrev pub KeepsModules : DeskChange → Type 0
KeepsModules change.Nothing = Unit {0}
KeepsModules (change.Module m) = ⊥
KeepsModules (change.Trial n j) = Unit {0}
KeepsModules (change.DropTrial t) = Unit {0}
KeepsModules (change.Withdraw n) = ⊥
KeepsModules (change.Edition e) = Unit {0}

-- FollowsPlan k k' d r: the holders of each source change as the modules of the desk will; where memory ran out they
-- are as they were
abbrev pub FollowsPlan : Kept → Kept → desk.Desk → Result Plan NoMemory → Type 0
FollowsPlan k k' d (Ok p) = FollowsDesk k d k' (with_change d p.change)
FollowsPlan k k' d (Err e) = FollowsDesk k d k' d
