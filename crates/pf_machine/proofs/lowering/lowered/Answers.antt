use Rattle.std.proofs.Common.{rules, ◌≡◌, List, [], ◌∷◌, ◌++◌, sym, ap, ◌∙◌, arith}
use Rattle.std.proofs.lemmas.Grind.{common_steps}
use Rattle.std.proofs.lemmas.List.Elements.{All-push}
use Rattle.pf_terms.specs.Value.{Value, Values, none, more}
use Rattle.pf_terms.specs.Term.{value_of, values_of}
use Rattle.pf_heap.specs.Heap.{cell_values, word_value, word_values, IsWordOf}
use Rattle.pf_heap.specs.declared.word.Word.{Word}
use Rattle.pf_heap.proofs.Cells.{keeps_then}
use Rattle.pf_heap.proofs.Runs.{joined, joined_none, joined_push, values_kept, words_kept}
use Rattle.pf_machine.proofs.lowering.lowered.Goals as goal

pub loop-first-preserved : goal.loop-first-preserved
loop-first-preserved c =
    let h = c.args.heap.now in
    let g = c.loop-first.heap in
    let f = c.lower.new.self in
    let ws = c.loop-first.words.items in
    let w = c.in_ok-word.word in
    let others = values_of c.in-Some.others.now in
    let kept = c.in_ok-word.ensures.keeps in
    let inv = c.loop-first.invariant in
    let items : c.push.new.self.items ≡ ws ++ w ∷ [] = c.in_ok-push.ensures.items in
    let split : values_of c.loop-first.rest.now ≡ more (value_of c.in-Some.first.now) others =
    first_of (search rules, grind (arith, common_steps)) in
    let words = All-push (IsWordOf f) ws w (words_kept g f ws kept inv.words) c.in_ok-word.ensures.word in
    record {
      whole = ap (λ (xs : List Word). joined (word_values f xs) others) items ∙ joined_push (cell_values f) ws w others
          ∙ ap (λ (vs : Values). joined vs (more (word_value f w) others)) (values_kept g f ws kept inv.words)
          ∙ ap (λ (v : Value). joined (word_values g ws) (more v others)) c.in_ok-word.ensures.made
          ∙ ap (joined (word_values g ws)) (sym split) ∙ inv.whole;
      words = rw items words;
      keeps = keeps_then h g f inv.keeps kept;
    }

pub returns-clause-made : goal.returns-clause-made
returns-clause-made c =
    let vs = word_values c.loop-first.heap c.loop-first.words.items in
    let none_left : values_of c.loop-first.rest.now ≡ none = first_of (search rules, grind (arith, common_steps)) in
    sym (joined_none vs) ∙ ap (joined vs) (sym none_left) ∙ c.loop-first.invariant.whole
