use Rattle.std.proofs.Common.{rules, ◌≡◌, List, [], sym, ap, ◌∙◌, arith}
use Rattle.std.specs.Prelude.{Some}
use Rattle.std.proofs.lemmas.Grind.{common_steps}
use Rattle.std.proofs.lemmas.List.Elements.{All-pop}
use Rattle.pf_terms.specs.Value.{Value, Values, list}
use Rattle.pf_heap.specs.Heap.{elements, cell_values, word_value, word_values, IsWordOf}
use Rattle.pf_heap.specs.declared.word.Word.{Word}
use Rattle.pf_heap.proofs.Cells.{keeps_itself, keeps_then}
use Rattle.pf_heap.proofs.Runs.{joined, joined_none, joined_push, values_kept, words_kept, list_is_list}
use Rattle.pf_heap.proofs.heap.Heap.put_list.Goals as goal

pub loop-word-init : goal.loop-word-init
loop-word-init c = record {
  whole = joined_none (word_values c.args.self.now c.args.words.items);
  words = c.requires;
  word = tt;
  list = tt;
  keeps = keeps_itself c.args.self.now;
}

pub loop-word-preserved : goal.loop-word-preserved
loop-word-preserved c =
    let h = c.args.self.now in
    let g = c.loop-word.self in
    let f = c.cons.new.self in
    let ws = c.pop.new.self.items in
    let w = c.in-Some.word in
    let kept = c.in-Ok.ensures.keeps in
    let popped = All-pop (IsWordOf g) c.loop-word.words.items ws (Some w) c.in-Some.ensures.items
    c.loop-word.invariant.words in
    let rest = elements (word_value g c.loop-word.made) in
    let longer = elements (word_value f c.in-Ok.longer) in
    record {
      whole = ap (λ (vs : Values). joined vs longer) (values_kept g f ws kept popped.0)
          ∙ ap (λ (v : Value). joined (word_values g ws) (elements v)) c.in-Ok.ensures.made
          ∙ sym (joined_push (cell_values g) ws w rest)
          ∙ ap (λ (xs : List Word). joined (word_values g xs) rest) (sym c.in-Some.ensures.items)
          ∙ c.loop-word.invariant.whole;
      words = words_kept g f ws kept popped.0;
      word = c.in-Ok.ensures.word.0;
      list = c.in-Ok.ensures.word.1;
      keeps = keeps_then h g f c.loop-word.invariant.keeps kept;
    }

pub returns-clause-made : goal.returns-clause-made
returns-clause-made c =
    let h = c.loop-word.self in
    let inv = c.loop-word.invariant in
    let rest = elements (word_value h c.loop-word.made) in
    let none_left : c.loop-word.words.items ≡ [] = first_of (search rules, grind (arith, common_steps)) in
    list_is_list h c.loop-word.made c.is_in_order.ensures inv.word inv.list
    ∙ ap list (ap (λ (xs : List Word). joined (word_values h xs) rest) (sym none_left) ∙ inv.whole)
