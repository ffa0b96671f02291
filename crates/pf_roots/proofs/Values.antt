-- Words with the same values in two heaps, and the state of a machine over them.
use Rattle.std.proofs.Common.{◌≡◌, ◌+◌, ℕ, zero, suc, List, [], ◌∷◌, refl, sym, ◌∙◌, subst}
use Rattle.std.specs.Prelude.{reverse}
use Rattle.pf_heap.specs.Heap.{Cell, word_value, word_values}
use Rattle.pf_heap.specs.declared.word.Word.{Word}
use Rattle.pf_code.specs.Registers.{Registers}
use Rattle.pf_code.specs.Machine.{Back, State}
use Rattle.pf_loop.specs.View.{word_at, Have, HaveBelow}
use Rattle.pf_loop.specs.Run.{AreWaiting, IsIn}
use Rattle.pf_loop.specs.declared.machine.Machine.{Machine}
use Rattle.pf_loop.specs.declared.machine.Waiting.{Waiting}

module _ (h g : List Cell) where
  -- the same value at each place
  abbrev pub SameValues : List Word → List Word → Type 0
  SameValues ws us = (i : ℕ) → word_value g (word_at us i) ≡ word_value h (word_at ws i)

  pub values_at : (ws us : List Word) → word_values g us ≡ word_values h ws → SameValues ws us
  values_at [] [] e i = refl
  values_at [] (u ∷ us) e i = absurd cc
  values_at (w ∷ ws) [] e i = absurd cc
  values_at (w ∷ ws) (u ∷ us) e zero = cc
  values_at (w ∷ ws) (u ∷ us) e (suc i) = let rest : word_values g us ≡ word_values h ws = cc in values_at ws us rest i

  module _ (ws us : List Word) (same : SameValues ws us) where
    pub have_moved : (base : ℕ) (r : Registers) → Have h ws base r → Have g us base r
    have_moved base r a i = a i ∙ sym (same (base + i))

    below_moved : (base n : ℕ) (r : Registers) → HaveBelow h ws base n r → HaveBelow g us base n r
    below_moved base n r a i l = a i l ∙ sym (same (base + i))

    waiting_moved : (base : ℕ) (ks : List Waiting) (bs : List Back) → AreWaiting h ws base ks bs
        → AreWaiting g us base ks bs
    waiting_moved base [] bs a = a
    waiting_moved base (k ∷ ks) [] a = absurd a
    waiting_moved base (k ∷ ks) (b ∷ bs) a =
        (a.0, a.1, below_moved k.base b.to b.registers a.2, waiting_moved k.base ks bs a.3)

  -- a machine whose words were moved is in the state in which it was
  pub in_moved : (k j : Machine) (s : State) → SameValues k.stack.words.items j.stack.words.items
      → j.stack.base ≡ k.stack.base → j.pc ≡ k.pc → j.waiting.items ≡ k.waiting.items → IsIn h k s → IsIn g j s
  in_moved k j s same base pc waiting a =
      let ws = k.stack.words.items in
      let us = j.stack.words.items in
      let here = waiting_moved ws us same k.stack.base (reverse k.waiting.items) s.backs a.at.backs in
      let backs = subst (λ n. AreWaiting g us n (reverse k.waiting.items) s.backs) (sym base) here in
      record {
        at = record {
          pc = a.at.pc ∙ sym pc;
          backs = subst (λ ks. AreWaiting g us j.stack.base (reverse ks) s.backs) (sym waiting) backs;
        };
        registers = subst (λ n. Have g us n s.registers) (sym base)
            (have_moved ws us same k.stack.base s.registers a.registers);
      }
