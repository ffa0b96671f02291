-- What a stop is as a move, and what a turn was that it ended.
use Rattle.std.proofs.Common.{◌≡◌, ◌-◌, ◌≤◌, ℕ, suc, List, refl, sym, ap, ◌∙◌, subst, arith}
use Rattle.std.specs.Prelude.{reverse}
use Rattle.pf_syntax.specs.Tree.{Clauses, lit, receive}
use Rattle.pf_heap.specs.Heap.{Cell, word_value}
use Rattle.pf_model.specs.Module.{Module}
use Rattle.pf_model.specs.Contraction as asked
use Rattle.pf_model.specs.Contraction.{Asks, Becomes, send}
use Rattle.pf_model.specs.Context.{Frame, ProcessState, asks, ending, fill, goes_on, returns, running}
use Rattle.pf_code.specs.Points as points
use Rattle.pf_code.specs.Points.{inside, plug}
use Rattle.pf_code.specs.Sound.{Code}
use Rattle.pf_code.specs.Simulation.{IsAt}
use Rattle.pf_code.proofs.Charges.{plug_fill}
use Rattle.pf_actions.specs.Acts.{act_over}
use Rattle.pf_stepper.specs.Acts.{act_of}
use Rattle.pf_stepper.specs.MachineView.{asking, goes, over}
use Rattle.pf_stepper.specs.MicroSteps.{Contracts}
use Rattle.pf_stepper.specs.declared.act.Act.{Act}
use Rattle.pf_stepper.specs.declared.machine.Move.{Move}
use Rattle.pf_stepper.specs.declared.machine.Move.TheVariants as v
use Rattle.pf_turns.specs.Turns.{Represents, Stopped}
use Rattle.pf_turns.specs.declared.process.Process.{Process}
use Rattle.pf_turns.specs.declared.status.Status.{Status}
use Rattle.pf_turns.specs.declared.status.Stop.{Stop}
use Rattle.pf_turns.specs.declared.status.Stop.TheVariants as stop
use Rattle.pf_inbox.specs.InboxView.{InboxView}
use Rattle.pf_machine.specs.Lifted.{IsMoveOf}
use Rattle.pf_machine.specs.Statuses.{GoesOnWith, LooksForNone, Ran, TakesOrWaits}
use Rattle.pf_machine.proofs.Steps.{awaits_next, last_step, returns_value, steps_are}
use Rattle.pf_machine.proofs.Inboxes.{goes_with}

module _ (m : Module) (own : ℕ) (code : Code) (left n : ℕ) (u : ProcessState) (b : InboxView) (h : List Cell)
    (k : Process) where
  abbrev x : Status
  x = k.status

  asked_for : (fs : List Frame) (a : asked.Act) (c : Act) → n ≤ left → b.mark ≡ 0
      → points.Steps m own n (goes_on u) (inside fs (Asks a))
      → Represents m own code h k.machine x (inside fs (Asks a)) → act_of c ≡ a
      → Ran m own code left u b (v.Action c) n h k b
  asked_for fs a c few e steps represents is =
      let l = last_step m own n (goes_on u) (asks (reverse fs) a) u refl tt steps in record {
        standing = asking (reverse fs);
        ran = record {
          before = l.before;
          middle = l.state;
          counted = l.counted;
          within = few;
          steps = l.steps;
          last = record {
            frames = reverse fs;
            step = subst (λ y. Contracts m own (goes_on l.state) (asks (reverse fs) y)) (sym is) l.last;
            is_there = refl;
            kept = refl;
          };
        };
        is_at = (a, represents, e);
      }

  -- where no message is looked for
  pub moved : (s : Stop) (did : Move) → LooksForNone s → n ≤ left → b.mark ≡ 0
      → Stopped m own code (goes_on u) n (left - n) h k.machine x s → IsMoveOf h s did
      → Ran m own code left u b did n h k b
  moved stop.Cut did l few e w is =
      let all : n ≡ left = omega (arith, few, w.0) in
      subst (λ y. Ran m own code left u b y n h k b) (sym is) (record {
        standing = goes w.1;
        ran = record {
          next = w.1;
          all = all;
          steps = steps_are m own left (goes_on u) (goes_on w.1)
              (subst (λ i. points.Steps m own i (goes_on u) (goes_on w.1)) all w.2);
          is_there = refl;
          kept = refl;
        };
        is_at = goes_with m own code h k.machine b w.1 x w.3 e;
      })
  moved (stop.Receives d) did l few e w is = absurd l
  moved (stop.Acts a) did l few e w is =
      subst (λ y. Ran m own code left u b y n h k b) (sym is.1)
      (asked_for w.0 (act_over h a) is.0 few e w.1 w.2 is.2)
  moved (stop.Sends to y) did l few e w is =
      subst (λ y. Ran m own code left u b y n h k b) (sym is.1)
      (asked_for w.0 (send (word_value h to) (word_value h y)) is.0 few e w.1 w.2 is.2)
  moved (stop.Returns y) did l few e w is =
      let value = word_value h y in
      let s = last_step m own n (goes_on u) (returns value) u refl tt w in
      let was = returns_value m own s.state value s.last ∙ ap (λ z. running (lit z)) (sym is.2) in
      subst (λ y. Ran m own code left u b y n h k b) (sym is.1) (record {
        standing = over;
        ran = record {
          before = s.before;
          middle = s.state;
          counted = s.counted;
          within = few;
          steps = s.steps;
          last = record { was = was; is_there = refl; kept = refl };
        };
        is_at = tt;
      })
  moved (stop.Ends y) did l few e w is =
      let value = word_value h y in
      subst (λ y. Ran m own code left u b y n h k b) (sym is.1) (record {
        standing = over;
        ran = record {
          before = w.0;
          middle = ending value;
          counted = w.1;
          within = few;
          steps = steps_are m own w.0 (goes_on u) (goes_on (ending value)) w.2;
          last = record { was = ap ending (sym is.2); is_there = refl; kept = refl };
        };
        is_at = tt;
      })

-- at a `receive`
pub received : (m : Module) (own : ℕ) (code : Code) (left n j : ℕ) (u : ProcessState) (d : ℕ) (fs : List Frame)
    (ks : Clauses) (b b' : InboxView) (h : List Cell) (k : Process) (did : Move) → n ≡ suc j → n ≤ left
    → points.Steps m own j (goes_on u) (inside fs (Becomes (receive ks)))
    → TakesOrWaits m own code d fs ks b b' h k did → Ran m own code left u b did n h k b'
received m own code left n j u d fs ks b b' h k (v.Take t) counted few steps w =
    let middle = running (plug fs (receive ks)) in
    let body = w.0.body in
    let s = w.0.state in
    let at : IsAt m own code s (goes_on (running (fill (reverse fs) body))) =
    subst (λ y. IsAt m own code s (goes_on (running y))) (plug_fill fs body) w.0.at in record {
      standing = goes (running (fill (reverse fs) body));
      ran = record {
        before = j;
        middle = middle;
        counted = counted;
        within = few;
        steps = steps_are m own j (goes_on u) (goes_on middle) steps;
        last = record {
          frames = reverse fs;
          clauses = ks;
          body = body;
          step = awaits_next m own fs ks;
          taken = w.0.taken;
          is_there = refl;
        };
      };
      is_at = subst (λ y. GoesOnWith m own code h k.machine y b' (running (fill (reverse fs) body))) (sym w.1)
          ((s, w.0.is_in, at), w.2);
    }
received m own code left n j u d fs ks b b' h k v.Wait counted few steps w =
    let middle = running (plug fs (receive ks)) in record {
      standing = goes middle;
      ran = record {
        before = j;
        middle = middle;
        counted = counted;
        within = few;
        steps = steps_are m own j (goes_on u) (goes_on middle) steps;
        last = record {
          frames = reverse fs;
          clauses = ks;
          step = awaits_next m own fs ks;
          none = w.0.none;
          is_there = refl;
          kept = w.0.kept;
        };
      };
      is_at = subst (λ y. GoesOnWith m own code h k.machine y b' middle) (sym w.1)
          (w.0.state, fs, ks, w.0.is_in, w.0.at, refl, w.0.passed);
    }
received m own code left n j u d fs ks b b' h k v.Pure counted few steps w = absurd w
received m own code left n j u d fs ks b b' h k (v.Action a) counted few steps w = absurd w
received m own code left n j u d fs ks b b' h k (v.End e) counted few steps w = absurd w
