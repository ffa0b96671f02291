-- A process that is at a `receive`, over a heap that grew, and what a test of its first messages shows.
use Rattle.std.proofs.Common.{◌≡◌, ◌+◌, ℕ, List, Bool, false, sym, ap, ◌∙◌, arith, inl, inr}
use Rattle.std.specs.Prelude.{slice_get}
use Rattle.std.proofs.lemmas.Bool.{cases_lt}
use Rattle.std.proofs.lemmas.Option.{same_Some}
use Rattle.pf_terms.specs.Term.{value_of}
use Rattle.pf_terms.specs.declared.term.Term.{Term}
use Rattle.pf_syntax.specs.Tree.{Clauses}
use Rattle.pf_heap.specs.Heap.{Cell, Keeps}
use Rattle.pf_model.specs.Module.{Module}
use Rattle.pf_model.specs.Contraction.{picked}
use Rattle.pf_model.specs.Context.{Frame}
use Rattle.pf_nodes.specs.Mail.{Mail}
use Rattle.pf_code.specs.Sound.{Code}
use Rattle.pf_code.specs.Machine.{State}
use Rattle.pf_loop.specs.View.{AreWords}
use Rattle.pf_loop.specs.declared.machine.Machine.{Machine}
use Rattle.pf_loop.specs.declared.setting.Setting.{Setting}
use Rattle.pf_loop.proofs.Followed.{code_keeps}
use Rattle.pf_turns.specs.declared.process.Process.{Process}
use Rattle.pf_turns.proofs.Stayed.{in_same}
use Rattle.pf_inbox.specs.Received.{IsReceiving}
use Rattle.pf_inbox.specs.Searches.{PassesOver, TestsMarked, WaitsAgain}

module _ (h g : List Cell) (x : Setting) (keeps : Keeps h g) (constants : AreWords h x.constants.now) (m : Module)
    (code : Code) (entries : List ℕ) (d : ℕ) (fs : List Frame) (ks : Clauses) where
  -- where the heap grew
  pub receives_on : (k : Process) (s : State) → AreWords h k.machine.stack.words.items
      → IsReceiving h x k m code entries d s fs ks → IsReceiving g x k m code entries d s fs ks
  receives_on k s words r = record {
    runs = code_keeps h g x m code entries keeps constants r.runs;
    sound = r.sound;
    waits = r.waits;
    is_in = in_same h g keeps k.machine s words r.is_in;
    at = r.at;
  }

  -- where messages were tested too, none of which is picked
  pub receives_again : (k j : Process) (s : State) (w : WaitsAgain m x.own code d fs ks g j.machine)
      → j.status ≡ k.status → IsReceiving h x k m code entries d s fs ks
      → IsReceiving g x j m code entries d w.state fs ks
  receives_again k j s w same r = record {
    runs = code_keeps h g x m code entries keeps constants r.runs;
    sound = r.sound;
    waits = same ∙ r.waits;
    is_in = w.is_in;
    at = w.at;
  }

module _ (m : Module) (own : ℕ) (code : Code) (d : ℕ) (fs : List Frame) (ks : Clauses) (h : List Cell)
    (k : Machine) where
  pub waits_again : (l : Mail Term) → TestsMarked m own code d fs ks l h k false → WaitsAgain m own code d fs ks h k
  waits_again l t = record { state = t.judged.1; is_in = t.judged.2; at = t.judged.3 }

  -- one message more is passed over
  pub passes_more : (l r : Mail Term) (to : ℕ) → r.items ≡ l.items → PassesOver m own ks l r.mark → to ≡ r.mark + 1
      → TestsMarked m own code d fs ks r h k false → PassesOver m own ks l to
  passes_more l r to e p next t = record {
    on = omega (arith, p.on, next);
    all = λ i x low below at. elim (cases_lt i r.mark) [
      | inl b ↦ p.all i x low b at
      | inr b ↦
          let here : i ≡ r.mark = omega (arith, below, next, b) in
          let same : t.message ≡ x = same_Some t.message x
          (sym t.there ∙ ap (λ xs. slice_get xs r.mark) e ∙ ap (slice_get l.items) (sym here) ∙ at) in
          ap (λ z. picked m own ks (value_of z)) (sym same) ∙ t.judged.0
    ];
  }

  pub passes_none : (l : Mail Term) → PassesOver m own ks l l.mark
  passes_none l = record { on = omega arith; all = λ i x low below at. absurd (omega (arith, low, below)) }

  -- by its item and its mark
  pub tests_here : (l r : Mail Term) (b : Bool) → r.items ≡ l.items → r.mark ≡ l.mark
      → TestsMarked m own code d fs ks l h k b → TestsMarked m own code d fs ks r h k b
  tests_here l r b e f t = record {
    message = t.message;
    there = ap (λ xs. slice_get xs r.mark) e ∙ ap (slice_get l.items) f ∙ t.there;
    judged = t.judged;
  }
