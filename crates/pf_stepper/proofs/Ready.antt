-- What an inbox that is ready ahead of a machine is ready for, along its steps.
use Rattle.std.proofs.Common.{◌≡◌, ℕ, List, refl, sym, ap, subst}
use Rattle.pf_terms.specs.Term.{value_of}
use Rattle.pf_terms.specs.declared.term.Term.{Term}
use Rattle.pf_syntax.specs.Tree.{Clauses, lit}
use Rattle.pf_syntax.specs.Module.{Checked, tree_at}
use Rattle.pf_syntax.specs.declared.node.NodeId.{NodeId}
use Rattle.pf_syntax.specs.declared.node.Operand.TheVariants as part
use Rattle.pf_patterns.specs.Slots.{activation}
use Rattle.pf_patterns.specs.Substitution.{sub_clauses}
use Rattle.pf_model.specs.Module.{Module, module_of}
use Rattle.pf_model.specs.Contraction.{Act}
use Rattle.pf_model.specs.Context.{Frame, ProcessState, running, ending, Move, goes_on, asks, awaits, returns, at_value}
use Rattle.pf_model.proofs.Sought.{one_move}
use Rattle.pf_stepper.specs.Lookups.{clauses_in}
use Rattle.pf_stepper.specs.View.{process_of}
use Rattle.pf_stepper.specs.MicroSteps.{Contracts}
use Rattle.pf_stepper.specs.Advanced.{AdvancedFrom, RanFrom, Steps, no_step, one_more, stack_process}
use Rattle.pf_stepper.specs.MachineView.{MachineView, spent, goes}
use Rattle.pf_stepper.specs.Readiness.{Receive, receive_of, IsReadyForAll, IsAtReceive, IsReadyAhead}
use Rattle.pf_stepper.specs.Settled.{going, IsReadyAfter, IsReadyToSettle}
use Rattle.pf_stepper.specs.declared.frame.Focus.{Focus}
use Rattle.pf_stepper.specs.declared.frame.Focus.TheVariants as f
use Rattle.pf_stepper.specs.declared.stack.Stack.{Stack}
use Rattle.pf_stepper.specs.declared.advance.Advance.{Advance}
use Rattle.pf_stepper.specs.declared.advance.Advance.TheVariants as a
use Rattle.pf_stepper.specs.declared.machine.MachineStatus.TheVariants as stood
use Rattle.pf_stepper.proofs.Outer.{advanced_goes, process_goes}

abbrev machine_at : Checked → ℕ → ProcessState → MachineView
machine_at m own x = record { own = own; checked = m; standing = goes x }

not_spent : (x : ProcessState) → goes x ≡ spent → ⊥
not_spent x e = absurd cc

same_going : (x y : ProcessState) → goes x ≡ goes y → x ≡ y
same_going x y e = cc

same_awaited : (fs gs : List Frame) (ks ls : Clauses) → awaits fs ks ≡ awaits gs ls → ks ≡ ls
same_awaited fs gs ks ls e = cc

module _ (m : Module) (own : ℕ) where
  one_next : (p x y : Move) → Contracts m own p x → Contracts m own p y → x ≡ y
  one_next (goes_on (running t)) x y h k = one_move m own t x y h k
  one_next p x y h k = absurd h

  abbrev IsGoing : Move → Type 0
  IsGoing (goes_on s) = Unit {0}
  IsGoing p = ⊥

  contracts_going : (p x : Move) → Contracts m own p x → IsGoing p
  contracts_going (goes_on s) x h = tt
  contracts_going p x h = absurd h

  not_awaiting : (p : Move) (fs : List Frame) (ks : Clauses) → IsGoing p → p ≡ awaits fs ks → ⊥
  not_awaiting (goes_on s) fs ks g e = absurd cc
  not_awaiting p fs ks g e = absurd g

  -- from a `receive` no step leads to where it goes on
  stays_at : (j : ℕ) (p q : Move) → Steps m own j p q → IsGoing q → (fs : List Frame) (ks : Clauses)
      → Contracts m own p (awaits fs ks) → q ≡ p
  stays_at _ _ _ (no_step p) g fs ks h = refl
  stays_at _ _ _ (one_more k p q r s c) g fs ks h =
      let e = stays_at k p q s (contracts_going q r c) fs ks h in
      absurd (not_awaiting r fs ks g (one_next p r (awaits fs ks) (subst (λ z. Contracts m own z r) e c) h))

module _ (m : Checked) (own : ℕ) (ready : Receive → Type 0) where
  awaited_at : (x : ProcessState) (ks : Clauses) (t : IsAtReceive (machine_at m own x) ks)
      → Contracts (module_of m) own (goes_on x) (awaits t.frames ks)
  awaited_at x ks t = subst (λ y. Contracts (module_of m) own (goes_on y) (awaits t.frames ks))
      (sym (same_going x t.state t.stood)) t.next

  is_at : (x : ProcessState) (fs : List Frame) (ks : Clauses)
      → Contracts (module_of m) own (goes_on x) (awaits fs ks) → IsAtReceive (machine_at m own x) ks
  is_at x fs ks c = record { state = x; frames = fs; stood = refl; next = c }

  -- it stays ready on the way
  pub ready_later : (j : ℕ) (x y : ProcessState) → Steps (module_of m) own j (goes_on x) (goes_on y)
      → IsReadyAhead ready (machine_at m own x) → IsReadyAhead ready (machine_at m own y)
  ready_later j x y s h r c =
      h r (record {
        lives = not_spent x;
        only = λ ks t.
            let k = awaited_at x ks t in
            let e = stays_at (module_of m) own j (goes_on x) (goes_on y) s tt t.frames ks k in
            c.only ks (is_at y t.frames ks
            (subst (λ z. Contracts (module_of m) own z (awaits t.frames ks)) (sym e) k));
      })

  -- at a `receive` it is ready for this
  pub ready_at : (x : ProcessState) (fs : List Frame) (ks : Clauses)
      → Contracts (module_of m) own (goes_on x) (awaits fs ks) → IsReadyAhead ready (machine_at m own x)
      → ready (receive_of (module_of m) own ks)
  ready_at x fs ks k h =
      h (receive_of (module_of m) own ks) (record {
        lives = not_spent x;
        only = λ ls t. ap (receive_of (module_of m) own)
            (same_awaited fs t.frames ks ls (one_next (module_of m) own (goes_on x) (awaits fs ks) (awaits t.frames ls)
            k (awaited_at x ls t)));
      })

  -- elsewhere for whatever comes
  pub ready_elsewhere : (x : ProcessState) → ((fs : List Frame) (ks : Clauses)
      → Contracts (module_of m) own (goes_on x) (awaits fs ks) → ⊥) → IsReadyAhead ready (machine_at m own x)
      → IsReadyForAll ready
  ready_elsewhere x n h r = h r (record {
    lives = not_spent x;
    only = λ ks t.
        absurd (n t.frames ks (awaited_at x ks t));
  })

  pub ready_waiting : (x : ProcessState) (fs : List Frame) (ks : Clauses)
      → Contracts (module_of m) own (goes_on x) (awaits fs ks) → ready (receive_of (module_of m) own ks)
      → IsReadyAhead ready (machine_at m own x)
  ready_waiting x fs ks k h r c = subst ready (sym (c.only ks (is_at x fs ks k))) h

-- ready for whatever comes, so also ahead
pub ready_anyhow : (ready : Receive → Type 0) (s : MachineView) → IsReadyForAll ready → IsReadyAhead ready s
ready_anyhow ready s h r c = h r

-- where memory ran out there is nothing to be ready for
pub ready_spent : (ready : Receive → Type 0) (s : MachineView) → s.standing ≡ spent → IsReadyAhead ready s
ready_spent ready s e r c = absurd (c.lives e)

-- what was ready for more is ready ahead too
pub ready_still : (ready ready' : Receive → Type 0) → ((r : Receive) → ready r → ready' r) → (s : MachineView)
    → IsReadyAhead ready s → IsReadyAhead ready' s
ready_still ready ready' f s h r c = f r (h r c)

-- ---- the stack of a machine

module _ (ready : Receive → Type 0) (m : Checked) (own : ℕ) where
  abbrev Before : Move → Type 0
  Before p = IsReadyAhead ready (going m own p)

  module _ (left used : ℕ) (x : ProcessState) (s : Stack) (h : Before (goes_on x)) where
    last : (r : Advance) (j : ℕ) (q : Move) → Steps (module_of m) own j (goes_on x) q → AdvancedFrom m own q s r
        → (y : ProcessState) × AdvancedFrom m own (goes_on y) s r × Before (goes_on y)
    last r j q k d =
        let g = advanced_goes m own left q s r d in (
          g.0,
          subst (λ p. AdvancedFrom m own p s r) g.1 d,
          ready_later m own ready j x g.0 (subst (Steps (module_of m) own j (goes_on x)) g.1 k) h,
        )

    ran_ready : (r : Advance) → RanFrom m own left (goes_on x) s r used → IsReadyToSettle ready m own s r
    ran_ready (a.Changed y) k =
        let q = process_goes m.tables s.env.items s.operands.items s.base s.frames.items y in
        subst Before (sym q.1) (ready_later m own ready left x q.0
        (subst (Steps (module_of m) own left (goes_on x)) q.1 k.1) h)
    ran_ready (a.Sends w) k = last (a.Sends w) k.0 k.1 k.4 k.5
    ran_ready (a.Asks act) k = last (a.Asks act) k.0 k.1 k.4 k.5
    ran_ready (a.Awaits n) k = last (a.Awaits n) k.0 k.1 k.4 k.5
    ran_ready (a.Returned v) k = last (a.Returned v) k.0 k.1 k.4 k.5
    ran_ready (a.Ended e) k = last (a.Ended e) k.0 k.1 k.4 k.5

  -- a machine whose stack ran is ready to settle
  pub ready_to_settle : (left used : ℕ) (s s' : Stack) (x : Focus) (r : Advance)
      → IsReadyAfter ready m own s (stood.Goes x) → RanFrom m own left (stack_process m s x) s' r used
      → IsReadyToSettle ready m own s' r
  ready_to_settle left used s s' x r h k =
      let q = process_goes m.tables s.env.items s.operands.items s.base s.frames.items x in
      ran_ready left used q.0 s' (subst Before q.1 h) r (subst (λ p. RanFrom m own left p s' r used) q.1 k)

  module _ (s : Stack) where
    no_return : (v : Term) (x : ProcessState) → goes_on x ≡ goes_on (running (lit (value_of v)))
        → (fs : List Frame) (ks : Clauses) → Contracts (module_of m) own (goes_on x) (awaits fs ks) → ⊥
    no_return v x e fs ks k =
        let l : Contracts (module_of m) own (goes_on (running (lit (value_of v)))) (awaits fs ks) =
        subst (λ p. Contracts (module_of m) own p (awaits fs ks)) e k in
        let d = one_move (module_of m) own (lit (value_of v)) (awaits fs ks) (returns (value_of v)) l
        (at_value (value_of v) refl refl) in absurd cc

    no_end : (e : Term) (x : ProcessState) → goes_on x ≡ goes_on (ending (value_of e))
        → (fs : List Frame) (ks : Clauses) → Contracts (module_of m) own (goes_on x) (awaits fs ks) → ⊥
    no_end e x q fs ks k = subst (λ p. Contracts (module_of m) own p (awaits fs ks)) q k

    no_asking : (gs : List Frame) (act : Act) (x : ProcessState) → Contracts (module_of m) own (goes_on x) (asks gs act)
        → (fs : List Frame) (ks : Clauses) → Contracts (module_of m) own (goes_on x) (awaits fs ks) → ⊥
    no_asking gs act x c fs ks k = let d = one_next (module_of m) own (goes_on x) (asks gs act) (awaits fs ks) c k in
        absurd cc

    pub ready_sending : (w : Term) → IsReadyToSettle ready m own s (a.Sends w) → IsReadyForAll ready
    ready_sending w h = ready_elsewhere m own ready h.0 (no_asking _ _ h.0 h.1.0) h.2

    pub ready_asking : (act : _) → IsReadyToSettle ready m own s (a.Asks act) → IsReadyForAll ready
    ready_asking act h = ready_elsewhere m own ready h.0 (no_asking _ _ h.0 h.1.0) h.2

    pub ready_returned : (v : Term) → IsReadyToSettle ready m own s (a.Returned v) → IsReadyForAll ready
    ready_returned v h = ready_elsewhere m own ready h.0 (no_return v h.0 h.1) h.2

    pub ready_ended : (e : Term) → IsReadyToSettle ready m own s (a.Ended e) → IsReadyForAll ready
    ready_ended e h = ready_elsewhere m own ready h.0 (no_end e h.0 h.1) h.2

    pub ready_awaiting : (n : NodeId) (ks : Clauses) → ks ≡ clauses_in (tree_at m.tables n.0)
        → IsReadyToSettle ready m own s (a.Awaits n)
        → ready (receive_of (module_of m) own (sub_clauses (activation s.env.items s.base) ks))
    ready_awaiting n ks e h =
        subst (λ ls. ready (receive_of (module_of m) own (sub_clauses (activation s.env.items s.base) ls))) (sym e)
        (ready_at m own ready h.0 _ _ h.1.0 h.2)

    -- at a `receive` that found nothing, over the same slots
    pub ready_after_wait : (env' : List Term) (ready' : Receive → Type 0) (n : NodeId) (ks : Clauses)
        → ks ≡ clauses_in (tree_at m.tables n.0) → IsReadyToSettle ready m own s (a.Awaits n)
        → env' ≡ s.env.items → ready' (receive_of (module_of m) own (sub_clauses (activation s.env.items s.base) ks))
        → IsReadyAhead ready' (going m own (process_of m.tables env' s.operands.items s.base s.frames.items
        (f.Eval (part.Node n))))
    ready_after_wait env' ready' n ks e h same r =
        let k = subst (λ ls. ready' (receive_of (module_of m) own (sub_clauses (activation s.env.items s.base) ls))) e
        r in
        subst (λ xs. IsReadyAhead ready' (going m own (process_of m.tables xs s.operands.items s.base s.frames.items
        (f.Eval (part.Node n))))) (sym same)
        (subst (λ p. IsReadyAhead ready' (going m own p)) (sym h.1.1) (ready_waiting m own ready' h.0 _ _ h.1.0 k))
