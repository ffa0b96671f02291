-- A process with its inbox, by its status.
use Rattle.std.proofs.Common.{◌≡◌, ℕ, zero, suc, List, [], ◌∷◌, length, refl, sym, ap, ◌∙◌, subst}
use Rattle.std.specs.Prelude.{take, reverse}
use Rattle.std.specs.List.{All}
use Rattle.std.proofs.lemmas.List.{reverse-reverse}
use Rattle.std.proofs.lemmas.List.Elements.{All-head, All-tail}
use Rattle.pf_terms.specs.Value.{Value}
use Rattle.pf_terms.specs.Term.{values_of}
use Rattle.pf_terms.specs.declared.term.Term.{Term}
use Rattle.pf_syntax.specs.Tree.{Clauses, Tree, lit}
use Rattle.pf_heap.specs.Heap.{Cell, word_values, IsWordOf, Keeps}
use Rattle.pf_heap.specs.declared.word.Word.{Word}
use Rattle.pf_model.specs.Module.{Module}
use Rattle.pf_model.specs.Contraction.{Act, Asks, Becomes}
use Rattle.pf_model.specs.Context.{Frame, ProcessState, asks, fill, goes_on, running}
use Rattle.pf_model.specs.Receive.{FitsNone}
use Rattle.pf_code.specs.Points.{inside, plug}
use Rattle.pf_code.specs.Sound.{Code}
use Rattle.pf_code.proofs.Charges.{plug_fill}
use Rattle.pf_loop.specs.View.{AreWords}
use Rattle.pf_loop.specs.declared.machine.Machine.{Machine}
use Rattle.pf_loop.proofs.Words.{words_keep}
use Rattle.pf_turns.specs.Turns.{Represents}
use Rattle.pf_turns.specs.declared.process.Process.{Process}
use Rattle.pf_turns.specs.declared.status.Status.{Status}
use Rattle.pf_turns.specs.declared.status.Status.TheVariants as status
use Rattle.pf_turns.specs.declared.status.Stop.{Stop}
use Rattle.pf_turns.specs.declared.status.Stop.TheVariants as stop
use Rattle.pf_turns.proofs.Stayed.{represents_same, status_same}
use Rattle.pf_inbox.specs.InboxView.{InboxView}
use Rattle.pf_inbox.specs.Tests.{FitsNoneBefore}
use Rattle.pf_machine.specs.Statuses.{GoesOnWith, IsElsewhere, IsOver, LooksForNone}

pub all_words : (h : List Cell) (ws : List Word) → All (IsWordOf h) ws → AreWords h ws
all_words h [] a i = tt
all_words h (w ∷ ws) a zero = All-head (IsWordOf h) w ws a
all_words h (w ∷ ws) a (suc i) = all_words h ws (All-tail (IsWordOf h) w ws a) i

-- at the front of an inbox there is no message
pub none_before : (m : Module) (own : ℕ) (ks : Clauses) (b : InboxView) → b.mark ≡ 0 → FitsNoneBefore m own ks b
none_before m own ks b e = subst (λ n. FitsNone m own ks (take n b.messages)) (sym e) tt

pub over_keeps : (h g : List Cell) (k : Process) → Keeps h g → IsOver h k → IsOver g k
over_keeps h g k keeps o =
    (words_keep h g k.machine.stack.words.items keeps o.0, status_same h g keeps k.status o.1)

-- frames are plugged from the innermost on, and filled from the outermost on
pub filled : (fs : List Frame) (t : Tree) → plug (reverse fs) t ≡ fill fs t
filled fs t = plug_fill (reverse fs) t ∙ ap (λ gs. fill gs t) (reverse-reverse fs)

pub asked_in : (fs : List Frame) (a : Act) → asks fs a ≡ inside (reverse fs) (Asks a)
asked_in fs a = ap (λ gs. asks gs a) (sym (reverse-reverse fs))

module _ (m : Module) (own : ℕ) (code : Code) (h : List Cell) (k : Machine) (b : InboxView) (u : ProcessState) where
  -- at the front of its inbox
  pub goes_with : (x : Status) → Represents m own code h k x (goes_on u) → b.mark ≡ 0 → GoesOnWith m own code h k x b u
  goes_with status.Begins a e = (a, e)
  goes_with status.Goes a e = (a, e)
  goes_with (status.Receives d) a e = (a.0, a.1, a.2, a.3, a.4, a.5, none_before m own a.2 b e)
  goes_with (status.Returns w) a e = (a, e)
  goes_with (status.Ends w) a e = (a, e)
  goes_with (status.Asks d) a e = (a, e)
  goes_with status.Cut a e = (a, e)

  -- where it waits at no `receive`
  pub goes_without : (x : Status) → IsElsewhere x → GoesOnWith m own code h k x b u
      → Represents m own code h k x (goes_on u) × (b.mark ≡ 0)
  goes_without status.Begins l a = a
  goes_without status.Goes l a = a
  goes_without (status.Receives d) l a = absurd l
  goes_without (status.Returns w) l a = a
  goes_without (status.Ends w) l a = a
  goes_without (status.Asks d) l a = a
  goes_without status.Cut l a = a

pub same_count : (h : List Cell) (ws : List Word) (ts : List Term) → word_values h ws ≡ values_of ts
    → length ws ≡ length ts
same_count h [] [] e = refl
same_count h [] (t ∷ ts) e = absurd cc
same_count h (w ∷ ws) [] e = absurd cc
same_count h (w ∷ ws) (t ∷ ts) e = let rest : word_values h ws ≡ values_of ts = cc in ap suc (same_count h ws ts rest)

pub elsewhere_from : (x : Status) → ((d : ℕ) → x ≡ status.Receives d → ⊥) → IsElsewhere x
elsewhere_from status.Begins l = tt
elsewhere_from status.Goes l = tt
elsewhere_from (status.Receives d) l = absurd (l d refl)
elsewhere_from (status.Returns w) l = tt
elsewhere_from (status.Ends w) l = tt
elsewhere_from (status.Asks d) l = tt
elsewhere_from status.Cut l = tt

pub looks_from : (s : Stop) → ((d : ℕ) → s ≡ stop.Receives d → ⊥) → LooksForNone s
looks_from stop.Cut l = tt
looks_from (stop.Receives d) l = absurd (l d refl)
looks_from (stop.Acts a) l = tt
looks_from (stop.Sends to w) l = tt
looks_from (stop.Returns w) l = tt
looks_from (stop.Ends w) l = tt

-- ---- answers

module _ (m : Module) (own : ℕ) (code : Code) (b : InboxView) (fs : List Frame) where
  -- a process that asks for an action, over a heap that grew
  pub asks_on : (h g : List Cell) (k : Process) (a : Act) → Keeps h g → IsOver h k
      → Represents m own code h k.machine k.status (asks fs a)
      → Represents m own code g k.machine k.status (inside (reverse fs) (Asks a))
  asks_on h g k a keeps o r =
      subst (Represents m own code g k.machine k.status) (asked_in fs a)
      (represents_same h g keeps m own code k.machine k.status (asks fs a) o.0 o.1 r)

  pub answered_with : (g : List Cell) (k : Process) (v : Value) → b.mark ≡ 0
      → Represents m own code g k.machine k.status (inside (reverse fs) (Becomes (lit v)))
      → GoesOnWith m own code g k.machine k.status b (running (fill fs (lit v)))
  answered_with g k v e r =
      goes_with m own code g k.machine b (running (fill fs (lit v))) k.status
      (subst (λ t. Represents m own code g k.machine k.status (goes_on (running t))) (filled fs (lit v)) r) e
