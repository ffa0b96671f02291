-- Actions that make no process: what they do to ties and channels is what the definition says.
use Rattle.std.proofs.Common.{◌≡◌, ℕ, zero, suc, Bool, true, false, ◌==◌, ◌||◌, List, [], ◌∷◌, Option, Some, None}
use Rattle.std.proofs.Common.{if◌then◌else◌, refl, sym, ap, ◌∙◌, subst, map}
use Rattle.std.specs.Prelude.{Ok, is_some}
use Rattle.pf_terms.specs.Value.{Value, atom, pid, ref, same}
use Rattle.pf_terms.specs.Term.{value_of}
use Rattle.pf_terms.specs.Fixed.{true_atom, process, trap_exit, badarg}
use Rattle.pf_terms.specs.declared.term.Term.{Term}
use Rattle.pf_terms.specs.declared.term.Term.TheVariants as term
use Rattle.pf_ops.specs.Operations.{truth}
use Rattle.pf_ops.specs.Guards.{truth_of}
use Rattle.pf_sorted.specs.Maps.{got, has, put, without}
use Rattle.pf_model.specs.Contraction.{send, link, unlink, monitor, exit_other, set_flag, register, unregister, whereis}
use Rattle.pf_model.specs.Contraction.{make_ref}
use Rattle.pf_model.specs.Channels as signal
use Rattle.pf_model.specs.Channels.{Signal, Channels, sent}
use Rattle.pf_model.specs.Configuration.{Process, Core, of, process_at, posted}
use Rattle.pf_model.specs.Labels as label
use Rattle.pf_model.specs.Reports.{label_of}
use Rattle.pf_model.specs.Actions.{Acted, acted, gives, raising, given, only_if, as_pid, as_atom, as_reference}
use Rattle.pf_model.specs.Actions.{receiver, linked_to, linked_with, unlinked_from, monitored, demonitored}
use Rattle.pf_model.specs.Actions.{demonitored_so, flag_set, may_register, registered, unregistered, pid_or_undefined}
use Rattle.pf_ties.specs.Ties as ties
use Rattle.pf_ties.specs.Laws as law
use Rattle.pf_ties.specs.Laws.{ties_of}
use Rattle.pf_ties.proofs.Followed.{follow_actions}
use Rattle.pf_stepper.specs.Turns.{answer_value}
use Rattle.pf_system.specs.Acts.{ActAnswer, AnswersAct, CarriesOut, ActsAs}
use Rattle.pf_system.specs.declared.shared.Shared.{Shared}

-- ---- operands of another kind

pub not_pid : (t : Term) → ((p : ℕ) → t ≡ term.Pid p → ⊥) → as_pid (value_of t) ≡ None
not_pid (term.Int n) h = refl
not_pid (term.Atom a) h = refl
not_pid (term.Ref r) h = refl
not_pid (term.Pid p) h = absurd (h p refl)
not_pid (term.Tuple vs) h = refl
not_pid (term.List l) h = refl

pub not_reference : (t : Term) → ((r : ℕ) → t ≡ term.Ref r → ⊥) → as_reference (value_of t) ≡ None
not_reference (term.Int n) h = refl
not_reference (term.Atom a) h = refl
not_reference (term.Ref r) h = absurd (h r refl)
not_reference (term.Pid p) h = refl
not_reference (term.Tuple vs) h = refl
not_reference (term.List l) h = refl

pub not_atom : (t : Term) → ((a : _) → t ≡ term.Atom a → ⊥) → as_atom (value_of t) ≡ None
not_atom (term.Int n) h = refl
not_atom (term.Atom a) h = absurd (h a refl)
not_atom (term.Ref r) h = refl
not_atom (term.Pid p) h = refl
not_atom (term.Tuple vs) h = refl
not_atom (term.List l) h = refl

pub given_none : {T : Type 0} (c : Core) (o : Option T) (go : T → Acted) → o ≡ None → given c o go ≡ raising c badarg
given_none c o go e = ap (λ q. given c q go) e

-- a signal that is sent on a condition
pub sent_if : (a : ℕ) (t : Bool) (x : ℕ × Signal) (cs cs' : Channels) → t ≡ true → cs' ≡ sent a x.0 x.1 cs
    → cs' ≡ posted a (law.only_if t x) cs
sent_if a t x cs cs' e s = subst (λ z. cs' ≡ posted a (law.only_if z x) cs) (sym e) s

pub none_unless : (a : ℕ) (t : Bool) (x : ℕ × Signal) (cs cs' : Channels) → t ≡ false → cs' ≡ cs
    → cs' ≡ posted a (law.only_if t x) cs
none_unless a t x cs cs' e s = subst (λ z. cs' ≡ posted a (law.only_if z x) cs) (sym e) s

-- what is sent to the process that a reference watched, if it was active
abbrev pub to_watched : ℕ → Option ℕ → List (ℕ × Signal)
to_watched k None = []
to_watched k (Some p) = (p, signal.demonitor k) ∷ []

pub sent_to : (a k p : ℕ) (o : Option ℕ) (cs cs' : Channels) → o ≡ Some p → cs' ≡ sent a p (signal.demonitor k) cs
    → cs' ≡ posted a (to_watched k o) cs
sent_to a k p o cs cs' e s = subst (λ z. cs' ≡ posted a (to_watched k z) cs) (sym e) s

pub sent_to_none : (a k : ℕ) (o : Option ℕ) (cs cs' : Channels) → ((p : ℕ) → o ≡ Some p → ⊥) → cs' ≡ cs
    → cs' ≡ posted a (to_watched k o) cs
sent_to_none a k None cs cs' e s = s
sent_to_none a k (Some p) cs cs' e s = absurd (e p refl)

-- the ties of one process are those of it among all
ties_at_of : (a : ℕ) (ps : List Process) → ties.ties_at a (map law.process_ties ps) ≡ law.process_ties (process_at a ps)
ties_at_of a [] = refl
ties_at_of zero (p ∷ ps) = refl
ties_at_of (suc a) (p ∷ ps) = ties_at_of a ps

module _ (a : ℕ) (b b' : Shared) (r : ActAnswer) where
  abbrev Refuses : Type 0
  Refuses = (c : Core) → AnswersAct r (raising c badarg)

  -- ---- what is refused changes nothing

  raised : (x : Acted) (c : Core) → ties_of c ≡ b.ties → x ≡ raising c badarg → Refuses → b' ≡ b → CarriesOut x a b r b'
  raised x c t e k q =
      subst (λ y. CarriesOut y a b r b') (sym e)
      (record { ties = t ∙ ap (λ z. z.ties) (sym q); channels = ap (λ z. z.channels) q; answers = k c })

  pub link_refused : (v : Value) → as_pid v ≡ None → Refuses → b' ≡ b → ActsAs a (link v) b r b'
  link_refused v e k q m c t = raised (acted m c a (link v)) c t (given_none c (as_pid v) (linked_to c a) e) k q

  pub unlink_refused : (v : Value) → as_pid v ≡ None → Refuses → b' ≡ b → ActsAs a (unlink v) b r b'
  unlink_refused v e k q m c t = raised (acted m c a (unlink v)) c t (given_none c (as_pid v) (unlinked_from c a) e) k q

  pub monitor_refused : (v w : Value) → as_pid w ≡ None → Refuses → b' ≡ b → ActsAs a (monitor v w) b r b'
  monitor_refused v w e k q m c t =
      raised (acted m c a (monitor v w)) c t (given_none c (as_pid w)
      (λ p. only_if c (same v process) (monitored c a p)) e) k q

  pub kind_refused : (v w : Value) (p : ℕ) → w ≡ pid p → same v process ≡ false → Refuses → b' ≡ b
      → ActsAs a (monitor v w) b r b'
  kind_refused v w p e f k q m c t =
      raised (acted m c a (monitor v w)) c t
      (ap (λ z. given c (as_pid z) (λ p. only_if c (same v process) (monitored c a p))) e
      ∙ ap (λ z. only_if c z (monitored c a p)) f) k q

  pub exit_refused : (v w : Value) → as_pid v ≡ None → Refuses → b' ≡ b → ActsAs a (exit_other v w) b r b'
  exit_refused v w e k q m c t =
      raised (acted m c a (exit_other v w)) c t
      (given_none c (as_pid v) (λ p. gives c ((p, signal.exit false w) ∷ []) true_atom (label.exits p w)) e) k q

  pub setting_refused : (v w : Value) → truth_of w ≡ None → Refuses → b' ≡ b → ActsAs a (set_flag v w) b r b'
  setting_refused v w e k q m c t =
      raised (acted m c a (set_flag v w)) c t
      (given_none c (truth_of w) (λ p. only_if c (same v trap_exit) (flag_set c a p)) e) k q

  pub flag_refused : (v w : Value) (p : Bool) → truth_of w ≡ Some p → same v trap_exit ≡ false → Refuses → b' ≡ b
      → ActsAs a (set_flag v w) b r b'
  flag_refused v w p e f k q m c t =
      raised (acted m c a (set_flag v w)) c t
      (ap (λ z. given c z (λ p. only_if c (same v trap_exit) (flag_set c a p))) e
      ∙ ap (λ z. only_if c z (flag_set c a p)) f) k q

  pub name_refused : (v w : Value) → as_atom v ≡ None → Refuses → b' ≡ b → ActsAs a (register v w) b r b'
  name_refused v w e k q m c t =
      raised (acted m c a (register v w)) c t
      (given_none c (as_atom v) (λ x. given c (as_pid w) (registered c x)) e) k q

  pub named_refused : (v w : Value) (n : ℕ) → v ≡ atom n → as_pid w ≡ None → Refuses → b' ≡ b
      → ActsAs a (register v w) b r b'
  named_refused v w n e f k q m c t =
      raised (acted m c a (register v w)) c t
      (ap (λ z. given c (as_atom z) (λ x. given c (as_pid w) (registered c x))) e ∙ given_none c (as_pid w)
      (registered c n) f) k q

  pub unregister_refused : (v : Value) → as_atom v ≡ None → Refuses → b' ≡ b → ActsAs a (unregister v) b r b'
  unregister_refused v e k q m c t = raised (acted m c a (unregister v)) c t
      (given_none c (as_atom v) (unregistered c) e) k q

  pub whereis_refused : (v : Value) → as_atom v ≡ None → Refuses → b' ≡ b → ActsAs a (whereis v) b r b'
  whereis_refused v e k q m c t =
      raised (acted m c a (whereis v)) c t (given_none c (as_atom v)
      (λ x. gives c [] (pid_or_undefined (got x c.names)) (label.looks_up x)) e) k q

  pub send_refused : (v w : Value) → ((c : Core) → ties_of c ≡ b.ties → None ≡ receiver c v) → Refuses → b' ≡ b
      → ActsAs a (send v w) b r b'
  send_refused v w e k q m c t =
      raised (acted m c a (send v w)) c t (given_none c (receiver c v)
      (λ p. gives c ((p, signal.message w) ∷ []) w (label.sends p w)) (sym (e c t))) k q

  -- ---- what is done

  abbrev GivesTrue : label.Label → Type 0
  GivesTrue l = (c : Core) (ss : List (ℕ × Signal)) → AnswersAct r (gives c ss true_atom l)

  either : (t : Bool) (x y : Acted) → AnswersAct r x → AnswersAct r y → AnswersAct r (if t then x else y)
  either true x y h k = h
  either false x y h k = k

  pub sends_so : (v w : Value) (p : ℕ) → ((c : Core) → ties_of c ≡ b.ties → Some p ≡ receiver c v) → b'.ties ≡ b.ties
      → b'.channels ≡ sent a p (signal.message w) b.channels
      → answer_value r.value ≡ Ok w → label_of r.label ≡ label.sends p w → ActsAs a (send v w) b r b'
  sends_so v w p e q s x y m c t =
      subst (λ o. CarriesOut (given c o (λ p. gives c ((p, signal.message w) ∷ []) w (label.sends p w))) a b r b')
      (e c t)
      (record { ties = t ∙ sym q; channels = s; answers = record { value = x; label = y } })

  pub exits_so : (v w : Value) (p : ℕ) → v ≡ pid p → b'.ties ≡ b.ties
      → b'.channels ≡ sent a p (signal.exit false w) b.channels → GivesTrue (label.exits p w)
      → ActsAs a (exit_other v w) b r b'
  exits_so v w p e q s x m c t =
      subst (λ o. CarriesOut (given c (as_pid o)
      (λ p. gives c ((p, signal.exit false w) ∷ []) true_atom (label.exits p w))) a b r b') (sym e)
      (record { ties = t ∙ sym q; channels = s; answers = x c ((p, signal.exit false w) ∷ []) })

  pub links_so : (v : Value) (p : ℕ) (new' : Bool) → v ≡ pid p → new' ≡ ties.is_new_link b.ties a p
      → b'.ties ≡ ties.linked b.ties a p
      → b'.channels ≡ posted a (law.only_if new' (p, signal.link)) b.channels → GivesTrue (label.links p)
      → ActsAs a (link v) b r b'
  links_so v p new' e n q s x m c t =
      subst (λ o. CarriesOut (given c (as_pid o) (linked_to c a)) a b r b') (sym e)
      (record {
        ties = follow_actions.link c a p ∙ ap (λ z. ties.linked z a p) t ∙ sym q;
        channels = s ∙ ap (λ z. posted a (law.only_if z (p, signal.link)) b.channels)
            (n ∙ ap (λ z. ties.is_new_link z a p) (sym t))
            ∙ ap (λ z. posted a z b.channels) (sym (follow_actions.link_sends c a p));
        answers = either ((p == a) || has p (of c a).links) (gives c [] true_atom (label.links p))
            (gives (linked_with c a p) ((p, signal.link) ∷ []) true_atom (label.links p)) (x c [])
            (x (linked_with c a p) ((p, signal.link) ∷ []));
      })

  pub unlinks_so : (v : Value) (p : ℕ) (was : Bool) → v ≡ pid p → was ≡ has p (ties.of b.ties a).links
      → b'.ties ≡ ties.unlinked b.ties a p
      → b'.channels ≡ posted a (law.only_if was (p, signal.unlink)) b.channels → GivesTrue (label.unlinks p)
      → ActsAs a (unlink v) b r b'
  unlinks_so v p was e n q s x m c t =
      subst (λ o. CarriesOut (given c (as_pid o) (unlinked_from c a)) a b r b') (sym e)
      (record {
        ties = follow_actions.unlink c a p ∙ ap (λ z. ties.unlinked z a p) t ∙ sym q;
        channels = s ∙ ap (λ z. posted a (law.only_if z (p, signal.unlink)) b.channels)
            (n ∙ ap (λ z. has p (ties.of z a).links) (sym t))
            ∙ ap (λ z. posted a z b.channels) (sym (follow_actions.unlink_sends c a p));
        answers = either (has p (of c a).links) _ _ (x _ _) (x c []);
      })

  pub watches_so : (c : Core) (p k : ℕ) → ties_of c ≡ b.ties → k ≡ b.ties.next_reference
      → b'.ties ≡ ties.monitored b.ties a p
      → b'.channels ≡ sent a p (signal.monitor k) b.channels → answer_value r.value ≡ Ok (ref k)
      → label_of r.label ≡ label.monitors k p
      → CarriesOut (monitored c a p) a b r b'
  watches_so c p k t n q s x y =
      let e : k ≡ c.next_reference = n ∙ ap (λ z. z.next_reference) (sym t) in
      record {
        ties = follow_actions.monitor c a p ∙ ap (λ z. ties.monitored z a p) t ∙ sym q;
        channels = s ∙ ap (λ z. sent a p (signal.monitor z) b.channels) e;
        answers = record { value = x ∙ ap (λ z. Ok (ref z)) e; label = y ∙ ap (λ z. label.monitors z p) e };
      }

  pub monitors_so : (v w : Value) (p : ℕ) → w ≡ pid p → same v process ≡ true
      → ((c : Core) → ties_of c ≡ b.ties → CarriesOut (monitored c a p) a b r b')
      → ActsAs a (monitor v w) b r b'
  monitors_so v w p e f k m c t =
      subst (λ o. CarriesOut (given c (as_pid o) (λ p. only_if c (same v process) (monitored c a p))) a b r b') (sym e)
      (subst (λ z. CarriesOut (only_if c z (monitored c a p)) a b r b') (sym f) (k c t))

  demonitored_sent : (c : Core) (k : ℕ) (o : Option ℕ) → (demonitored c a k o).left.sent ≡ to_watched k o
  demonitored_sent c k None = refl
  demonitored_sent c k (Some p) = refl

  demonitored_answers : (c : Core) (k : ℕ) (o : Option ℕ) → GivesTrue (label.demonitors false k)
      → AnswersAct r (demonitored c a k o)
  demonitored_answers c k None x = x _ _
  demonitored_answers c k (Some p) x = x _ _

  so_sent : (c : Core) (k : ℕ) (f : Bool) → (demonitored_so c a k f).left.sent ≡ to_watched k (got k (of c a).active)
  so_sent c k false = demonitored_sent c k (got k (of c a).active)
  so_sent c k true = demonitored_sent c k (got k (of c a).active)

  so_answers : (c : Core) (k : ℕ) (f : Bool) → GivesTrue (label.demonitors f k) → AnswersAct r (demonitored_so c a k f)
  so_answers c k false x = demonitored_answers c k (got k (of c a).active) x
  so_answers c k true x = x _ _

  pub demonitors_so : (k : ℕ) (f : Bool) (o : Option ℕ) → o ≡ got k (ties.of b.ties a).active
      → b'.ties ≡ ties.demonitored b.ties a k
      → b'.channels ≡ posted a (to_watched k o) b.channels → GivesTrue (label.demonitors f k)
      → (c : Core) → ties_of c ≡ b.ties → CarriesOut (demonitored_so c a k f) a b r b'
  demonitors_so k f o n q s x c t =
      let g : o ≡ got k (of c a).active = n ∙ ap (λ z. got k (ties.of z a).active) (sym t) ∙ ap (λ z. got k z.active)
      (ties_at_of a c.processes) in
      record {
        ties = follow_actions.demonitor_with c a k f ∙ ap (λ z. ties.demonitored z a k) t ∙ sym q;
        channels = s ∙ ap (λ z. posted a (to_watched k z) b.channels) g ∙ ap (λ z. posted a z b.channels)
            (sym (so_sent c k f));
        answers = so_answers c k f x;
      }

  pub makes_so : (k : ℕ) → k ≡ b.ties.next_reference → b'.ties ≡ ties.reference_made b.ties → b'.channels ≡ b.channels
      → answer_value r.value ≡ Ok (ref k)
      → label_of r.label ≡ label.makes_reference k → ActsAs a make_ref b r b'
  makes_so k n q s x y m c t =
      let e : k ≡ c.next_reference = n ∙ ap (λ z. z.next_reference) (sym t) in
      record {
        ties = ap ties.reference_made t ∙ sym q;
        channels = s;
        answers = record { value = x ∙ ap (λ z. Ok (ref z)) e; label = y ∙ ap label.makes_reference e };
      }

  pub sets_so : (v w : Value) (p was : Bool) → truth_of w ≡ Some p → same v trap_exit ≡ true
      → was ≡ (ties.of b.ties a).traps_exits → b'.ties ≡ ties.flag_set b.ties a p
      → b'.channels ≡ b.channels → answer_value r.value ≡ Ok (truth was) → label_of r.label ≡ label.sets_flag p
      → ActsAs a (set_flag v w) b r b'
  sets_so v w p was e f n q s x y m c t =
      let g : was ≡ (of c a).traps_exits = n ∙ ap (λ z. (ties.of z a).traps_exits) (sym t) ∙ ap (λ z. z.traps_exits)
      (ties_at_of a c.processes) in
      subst (λ z. CarriesOut (given c z (λ p. only_if c (same v trap_exit) (flag_set c a p))) a b r b') (sym e)
      (subst (λ z. CarriesOut (only_if c z (flag_set c a p)) a b r b') (sym f)
      (record {
        ties = follow_actions.set_flag c a p ∙ ap (λ z. ties.flag_set z a p) t ∙ sym q;
        channels = s;
        answers = record { value = x ∙ ap (λ z. Ok (truth z)) g; label = y };
      }))

  pub registers_so : (v w : Value) (n p : ℕ) → v ≡ atom n → w ≡ pid p → ties.may_register b.ties n p ≡ true
      → b'.ties ≡ ties.with_names b.ties (put n p b.ties.names)
      → b'.channels ≡ b.channels → GivesTrue (label.registers n p) → ActsAs a (register v w) b r b'
  registers_so v w n p e f g q s x m c t =
      let h : may_register c n p ≡ true = follow_actions.may_register c n p ∙ ap (λ z. ties.may_register z n p) t ∙ g in
      subst (λ z. CarriesOut (given c (as_atom z) (λ x. given c (as_pid w) (registered c x))) a b r b') (sym e)
      (subst (λ z. CarriesOut (given c (as_pid z) (registered c n)) a b r b') (sym f)
      (subst (λ z. CarriesOut (only_if c z (gives (record c { names = put n p c.names }) [] true_atom
      (label.registers n p))) a b r b') (sym h)
      (record {
        ties = follow_actions.names c (put n p c.names) ∙ ap (λ z. ties.with_names z (put n p z.names)) t ∙ sym q;
        channels = s;
        answers = x _ _;
      })))

  pub not_registered : (v w : Value) (n p : ℕ) → v ≡ atom n → w ≡ pid p → ties.may_register b.ties n p ≡ false → Refuses
      → b' ≡ b → ActsAs a (register v w) b r b'
  not_registered v w n p e f g k q m c t =
      let h : may_register c n p ≡ false = follow_actions.may_register c n p
      ∙ ap (λ z. ties.may_register z n p) t ∙ g in
      raised (acted m c a (register v w)) c t
      (ap (λ z. given c (as_atom z) (λ x. given c (as_pid w) (registered c x))) e
      ∙ ap (λ z. given c (as_pid z) (registered c n)) f
      ∙ ap (λ z. only_if c z (gives (record c { names = put n p c.names }) [] true_atom (label.registers n p))) h) k q

  pub unregisters_so : (v : Value) (n : ℕ) → v ≡ atom n → is_some (got n b.ties.names) ≡ true
      → b'.ties ≡ ties.with_names b.ties (without n b.ties.names)
      → b'.channels ≡ b.channels → GivesTrue (label.unregisters n) → ActsAs a (unregister v) b r b'
  unregisters_so v n e g q s x m c t =
      let h : is_some (got n c.names) ≡ true = ap (λ z. is_some (got n z.names)) t ∙ g in
      subst (λ z. CarriesOut (given c (as_atom z) (unregistered c)) a b r b') (sym e)
      (subst (λ z. CarriesOut (only_if c z (gives (record c { names = without n c.names }) [] true_atom
      (label.unregisters n))) a b r b') (sym h)
      (record {
        ties = follow_actions.names c (without n c.names) ∙ ap (λ z. ties.with_names z (without n z.names)) t ∙ sym q;
        channels = s;
        answers = x _ _;
      }))

  pub not_unregistered : (v : Value) (n : ℕ) → v ≡ atom n → is_some (got n b.ties.names) ≡ false → Refuses → b' ≡ b
      → ActsAs a (unregister v) b r b'
  not_unregistered v n e g k q m c t =
      let h : is_some (got n c.names) ≡ false = ap (λ z. is_some (got n z.names)) t ∙ g in
      raised (acted m c a (unregister v)) c t
      (ap (λ z. given c (as_atom z) (unregistered c)) e
      ∙ ap (λ z. only_if c z (gives (record c { names = without n c.names }) [] true_atom (label.unregisters n))) h) k q

  pub looks_up_so : (v : Value) (n : ℕ) (o : Option ℕ) → v ≡ atom n → o ≡ got n b.ties.names → b' ≡ b
      → answer_value r.value ≡ Ok (pid_or_undefined o)
      → label_of r.label ≡ label.looks_up n → ActsAs a (whereis v) b r b'
  looks_up_so v n o e g q x y m c t =
      let h : o ≡ got n c.names = g ∙ ap (λ z. got n z.names) (sym t) in
      subst (λ z. CarriesOut (given c (as_atom z)
      (λ x. gives c [] (pid_or_undefined (got x c.names)) (label.looks_up x))) a b r b') (sym e)
      (record {
        ties = t ∙ ap (λ z. z.ties) (sym q);
        channels = ap (λ z. z.channels) q;
        answers = record { value = x ∙ ap (λ z. Ok (pid_or_undefined z)) h; label = y };
      })
