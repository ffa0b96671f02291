-- What stays as it is while another process runs.
use Rattle.std.proofs.Common.{ℕ, List, [], refl, sym, ap, ◌∙◌}
use Rattle.pf_syntax.specs.Tree.{lit}
use Rattle.pf_heap.specs.Heap.{Cell, Keeps}
use Rattle.pf_model.specs.Module.{Module}
use Rattle.pf_model.specs.Contraction.{Becomes}
use Rattle.pf_model.specs.Context.{Move, goes_on, ending}
use Rattle.pf_code.specs.Points.{inside}
use Rattle.pf_code.specs.Sound.{Code}
use Rattle.pf_code.specs.Machine.{State}
use Rattle.pf_loop.specs.View.{AreWords}
use Rattle.pf_loop.specs.Run.{IsIn, Stays}
use Rattle.pf_loop.specs.declared.machine.Machine.{Machine}
use Rattle.pf_loop.proofs.Words.{words_keep}
use Rattle.pf_loop.proofs.Followed.{in_stays}
use Rattle.pf_turns.specs.Stays.{ProcessesStay}
use Rattle.pf_turns.specs.Turns.{IsStatusOf, Represents}
use Rattle.pf_turns.specs.declared.status.Status.{Status}
use Rattle.pf_turns.specs.declared.status.Status.TheVariants as status

module _ (h g : List Cell) (keeps : Keeps h g) where
  pub in_same : (k : Machine) (s : State) → AreWords h k.stack.words.items → IsIn h k s → IsIn g k s
  in_same k s a at =
      let stays : Stays k k = record { words = λ i. refl; base = refl; pc = refl; waiting = refl } in
      in_stays h g k k s keeps a stays at.at at.registers

  pub status_same : (x : Status) → IsStatusOf h x → IsStatusOf g x
  status_same status.Begins a = tt
  status_same status.Goes a = tt
  status_same (status.Receives d) a = tt
  status_same (status.Returns w) a = keeps.words w a
  status_same (status.Ends w) a = keeps.words w a
  status_same (status.Asks d) a = tt
  status_same status.Cut a = tt

  pub represents_same : (m : Module) (own : ℕ) (code : Code) (k : Machine) (x : Status) (p : Move)
      → AreWords h k.stack.words.items → IsStatusOf h x → Represents m own code h k x p → Represents m own code g k x p
  represents_same m own code k status.Begins p a b s = (s.0, in_same k s.0 a s.1, s.2)
  represents_same m own code k status.Goes p a b s = (s.0, in_same k s.0 a s.1, s.2)
  represents_same m own code k (status.Receives d) p a b s = (s.0, s.1, s.2, in_same k s.0 a s.3, s.4, s.5)
  represents_same m own code k (status.Returns w) p a b s =
      s ∙ ap (λ v. inside [] (Becomes (lit v))) (sym (keeps.values w b))
  represents_same m own code k (status.Ends w) p a b s = s ∙ ap (λ v. goes_on (ending v)) (sym (keeps.values w b))
  represents_same m own code k (status.Asks d) p a b s = (s.0, s.1, s.2, in_same k s.0 a s.3, s.4, s.5)
  represents_same m own code k status.Cut p a b s = tt

pub stayed : ProcessesStay
stayed m own code h g k x p keeps a b s = (
  words_keep h g k.stack.words.items keeps a,
  status_same h g keeps x b,
  represents_same h g keeps m own code k x p a b s,
)
