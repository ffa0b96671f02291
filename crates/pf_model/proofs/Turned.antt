-- Turns and transitions are what they are worked out to be.
use Rattle.std.proofs.Common.{◌≡◌, ℕ, zero, suc, ◌<◌, true, List, Some, refl, sym, ap, ◌∙◌, subst, arith}
use Rattle.pf_syntax.specs.Tree.{Tree}
use Rattle.pf_model.specs.Module.{Module}
use Rattle.pf_model.specs.Contraction.{Change, Becomes, Raises, Exits, Asks, Awaits}
use Rattle.pf_model.specs.Context.{Frame, ProcessState, running, waiting, ending, ended, returned, Move, goes_on, asks}
use Rattle.pf_model.specs.Context.{awaits, returns, moved, Moves}
use Rattle.pf_model.specs.Channels.{Queue, row_of, with_row, row_with_left, taken, taken_from}
use Rattle.pf_sorted.specs.Maps.{got}
use Rattle.pf_model.specs.Configuration.{Core, Configuration, of}
use Rattle.pf_model.specs.Actions.{acted}
use Rattle.pf_model.specs.Receive.{selected}
use Rattle.pf_model.specs.Deliveries.{Deed}
use Rattle.pf_model.specs.Turns.{Turn, cut_running, cut_ending, end, contraction, act, last_of_turn, after_act}
use Rattle.pf_model.specs.Turns.{received, ended_so}
use Rattle.pf_model.specs.Runs.{can_go, Passed, Passes, turn, delivery}
use Rattle.pf_model.specs.declared.report.Actor.{Actor}
use Rattle.pf_model.specs.declared.report.Actor.TheVariants.{Process, Channel}
use Rattle.pf_model.specs.Evaluation.{SoughtRedex, valued, placed, sought, move_of, Turned, turned, one_more, turned_by}
use Rattle.pf_model.specs.Evaluation.{turn_of, turn_passed, delivery_passed, pass_of}
use Rattle.pf_model.proofs.Sought.{moves_as_sought, one_move}

-- where a process goes on by itself it can go
abbrev GoesOn : Move → Type 0
GoesOn (goes_on s) = can_go s ≡ true
GoesOn x = Unit {0}

pub moved_goes_on : (fs : List Frame) (d : Change) → GoesOn (moved fs d)
moved_goes_on fs (Becomes t) = refl
moved_goes_on fs (Raises e) = refl
moved_goes_on fs (Exits v) = refl
moved_goes_on fs (Asks a) = tt
moved_goes_on fs (Awaits ks) = tt

sought_goes_on : (s : SoughtRedex) → GoesOn (move_of s)
sought_goes_on (valued v) = tt
sought_goes_on (placed fs r d) = moved_goes_on fs d

module _ (m : Module) (a : ℕ) (c : Core) where
  -- this deed and these steps are of a turn
  abbrev pub IsTurn : ℕ → ProcessState → Turned → Type 0
  IsTurn n s t = Turn m a c n s t.deed t.used

  turned_as : (n : ℕ) (t : Tree) (x : Move) → Moves m a t x → GoesOn x
      → ((s : ProcessState) → can_go s ≡ true → IsTurn n s (turn_of m a c n s))
      → IsTurn (suc n) (running t) (turned_by m a c (turn_of m a c n) x)
  turned_as n t (goes_on s) h g rest = let k = turn_of m a c n s in contraction n k.used t s k.deed h (rest s g)
  turned_as n t (asks fs x) h g rest = act n t (asks fs x) (after_act a fs (acted m c a x)) h refl
  turned_as n t (awaits fs ks) h g rest = act n t (awaits fs ks)
      (received c a fs ks (selected m a ks (of c a).mailbox)) h refl
  turned_as n t (returns v) h g rest = act n t (returns v) (ended_so c a (returned v)) h refl

  pub turns_as : (n : ℕ) (s : ProcessState) → can_go s ≡ true → IsTurn n s (turn_of m a c n s)
  turns_as n (waiting t) h = absurd (cc)
  turns_as n (ended e) h = absurd (cc)
  turns_as zero (running t) h = cut_running t
  turns_as zero (ending r) h = cut_ending r
  turns_as (suc n) (ending r) h = end n r
  turns_as (suc n) (running t) h =
      turned_as n t (move_of (sought m a t)) (moves_as_sought m a t) (sought_goes_on (sought m a t)) (turns_as n)

  pub turn_uses : (n : ℕ) (s : ProcessState) (d : Deed) (k : ℕ) → Turn m a c (suc n) s d k → 0 < k
  turn_uses _ _ _ _ (end n r) = omega arith
  turn_uses _ _ _ _ (contraction n k t s d h r) = omega arith
  turn_uses _ _ _ _ (act n t x d h e) = omega arith

  -- ---- and no other

  last_only : (n : ℕ) (x : Move) (d : Deed) → last_of_turn m c a x ≡ Some d
      → turned_by m a c (turn_of m a c n) x ≡ turned d 1
  last_only n (goes_on s) d e = absurd (cc)
  last_only n (asks fs x) d e = cc
  last_only n (awaits fs ks) d e = cc
  last_only n (returns v) d e = cc

  pub turn_only : (n : ℕ) (s : ProcessState) (d : Deed) (k : ℕ) → Turn m a c n s d k → turn_of m a c n s ≡ turned d k
  turn_only _ _ _ _ (cut_running t) = refl
  turn_only _ _ _ _ (cut_ending r) = refl
  turn_only _ _ _ _ (end n r) = refl
  turn_only _ _ _ _ (contraction n k t s d h r) =
      ap (turned_by m a c (turn_of m a c n)) (one_move m a t (move_of (sought m a t)) (goes_on s)
      (moves_as_sought m a t) h)
      ∙ ap one_more (turn_only n s d k r)
  turn_only _ _ _ _ (act n t x d h e) =
      ap (turned_by m a c (turn_of m a c n)) (one_move m a t (move_of (sought m a t)) x (moves_as_sought m a t) h)
      ∙ last_only n x d e

-- ---- transitions

-- a process that can go, or a channel with a signal in it
abbrev pub CanPass : Configuration → Actor → Type 0
CanPass c (Process a) = can_go (of c.core a).state ≡ true
CanPass c (Channel a b) = (q : Queue) × (got b (row_of a c.channels) ≡ Some q)

module _ (m : Module) (n : ℕ) (c : Configuration) where
  pub passes_as : (x : Actor) → CanPass c x → Passes m n c x (pass_of m n c x)
  passes_as (Process a) h = let t = turn_of m a c.core n (of c.core a).state in
      turn a t.used t.deed (turns_as m a c.core n (of c.core a).state h)
  passes_as (Channel a b) h =
      let cs = with_row a (row_with_left b h.0.rest (row_of a c.channels)) c.channels in
      let e : taken a b c.channels ≡ Some (h.0.first, cs) = ap (taken_from a b c.channels) h.1 in
      subst (λ o. Passes m n c (Channel a b) (delivery_passed a b c o)) (sym e) (delivery a b h.0.first cs e)

  pub pass_only : (x : Actor) (p : Passed) → Passes m n c x p → pass_of m n c x ≡ p
  pass_only _ _ (turn a k d t) = ap (λ u. turn_passed a u c.channels) (turn_only m a c.core n (of c.core a).state d k t)
  pass_only _ _ (delivery a b s cs e) = ap (delivery_passed a b c) e

pub pass_uses : (m : Module) (n : ℕ) (c : Configuration) (x : Actor) (p : Passed) → Passes m (suc n) c x p → 0 < p.used
pass_uses m n c _ _ (turn a k d t) = turn_uses m a c.core n (of c.core a).state d k t
pass_uses m n c _ _ (delivery a b s cs e) = omega arith
