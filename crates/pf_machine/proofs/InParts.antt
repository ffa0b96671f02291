-- A turn that is made in parts.
use Rattle.std.proofs.Common.{◌≡◌, ◌+◌, ◌≤◌, ℕ, suc, List, sym, ◌∙◌, subst, arith}
use Rattle.pf_heap.specs.Heap.{Cell}
use Rattle.pf_model.specs.Module.{Module}
use Rattle.pf_model.specs.Context.{ProcessState, Move, goes_on}
use Rattle.pf_code.specs.Sound.{Code}
use Rattle.pf_stepper.specs.Advanced.{Steps, no_step, one_more}
use Rattle.pf_stepper.specs.MachineView.{MachineStatus, goes}
use Rattle.pf_stepper.specs.Moves.{MachineMoved}
use Rattle.pf_stepper.specs.Turns.{StepsAndMove}
use Rattle.pf_stepper.specs.declared.machine.Move as did
use Rattle.pf_stepper.specs.declared.machine.Move.TheVariants as v
use Rattle.pf_turns.specs.declared.process.Process.{Process}
use Rattle.pf_inbox.specs.InboxView.{InboxView}
use Rattle.pf_machine.specs.Statuses.{IsAtStatus, Ran}
use Rattle.pf_machine.specs.Stays.{TurnsGoOn}

-- steps one after the other
steps_on : (m : Module) (own j k : ℕ) (p q r : Move) → Steps m own j p q → Steps m own k q r → Steps m own (j + k) p r
steps_on m own j k p q r s (no_step x) = subst (λ n. Steps m own n p x) (omega arith) s
steps_on m own j k p q r s (one_more n x y z t c) =
    let e : suc (j + n) ≡ j + suc n = omega arith in
    subst (λ i. Steps m own i p z) e (one_more (j + n) p y z (steps_on m own j n p x y s t) c)

module _ (m : Module) (own : ℕ) (code : Code) (left more : ℕ) (u : ProcessState) (b : InboxView) (n : ℕ)
    (h : List Cell) (k : Process) (c : InboxView) (a : Ran m own code left u b v.Pure n h k c) where
  abbrev w : ProcessState
  w = a.ran.next

  there : IsAtStatus m own code h k c (goes w)
  there = subst (IsAtStatus m own code h k c) a.ran.is_there a.is_at

  module _ (used : ℕ) (g : List Cell) (j : Process) (d : InboxView) where
    more_steps : Ran m own code more w c v.Pure used g j d → Ran m own code (left + more) u b v.Pure (n + used) g j d
    more_steps r = record {
      standing = r.standing;
      ran = record {
        next = r.ran.next;
        all = omega (arith, a.ran.all, r.ran.all);
        steps = steps_on m own left more (goes_on u) (goes_on w) (goes_on r.ran.next) a.ran.steps r.ran.steps;
        is_there = r.ran.is_there;
        kept = r.ran.kept ∙ a.ran.kept;
      };
      is_at = r.is_at;
    }

    and_move : (x : did.Move) (s : MachineStatus) → StepsAndMove m own more w c.messages x s used d.messages
        → StepsAndMove m own (left + more) u b.messages x s (n + used) d.messages
    and_move x s r = record {
      before = left + r.before;
      middle = r.middle;
      counted = omega (arith, a.ran.all, r.counted);
      within = omega (arith, a.ran.all, r.within);
      steps = steps_on m own left r.before (goes_on u) (goes_on w) (goes_on r.middle) a.ran.steps r.steps;
      last = subst (λ mail. MachineMoved m own r.middle mail x s d.messages) a.ran.kept r.last;
    }

    in_parts : (x : did.Move) → Ran m own code more w c x used g j d
        → Ran m own code (left + more) u b x (n + used) g j d
    in_parts v.Pure r = more_steps r
    in_parts (v.Action y) r =
        record { standing = r.standing; ran = and_move (v.Action y) r.standing r.ran; is_at = r.is_at }
    in_parts (v.Take y) r =
        record { standing = r.standing; ran = and_move (v.Take y) r.standing r.ran; is_at = r.is_at }
    in_parts v.Wait r = record { standing = r.standing; ran = and_move v.Wait r.standing r.ran; is_at = r.is_at }
    in_parts (v.End y) r =
        record { standing = r.standing; ran = and_move (v.End y) r.standing r.ran; is_at = r.is_at }

pub turns_go_on : TurnsGoOn
turns_go_on m own code left more u b n h k c x used g j d a f =
    in_parts m own code left more u b n h k c a used g j d x
    (f (w m own code left more u b n h k c a) (there m own code left more u b n h k c a))
