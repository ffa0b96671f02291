use Rattle.std.proofs.Common.{rules, ◌≡◌, List, [], ◌∷◌, ◌++◌, sym, ap, ◌∙◌, arith}
use Rattle.std.proofs.lemmas.Grind.{common_steps}
use Rattle.std.proofs.lemmas.List.Elements.{All-rest}
use Rattle.pf_terms.specs.Value.{Value, list, tuple, none, more, nodes_in}
use Rattle.pf_terms.specs.Term.{value_of}
use Rattle.pf_terms.specs.declared.term.Term.{Term}
use Rattle.pf_terms.proofs.Before.{values_before, before-none, before-push}
use Rattle.pf_heap.specs.Heap.{elements, word_value, word_values, IsSplit, IsWordOf}
use Rattle.pf_heap.specs.declared.word.Word.{Word}
use Rattle.pf_heap.proofs.Runs.{list_is_list}
use Rattle.pf_heap.proofs.heap.Heap.+lift.Goals as goal

pub lift_tuple-loop-first-preserved : goal.lift_tuple-loop-first-preserved
lift_tuple-loop-first-preserved t c =
    let h = c.args.self.now in
    let ts = c.loop-first.items.items in
    let u = c.in_ok-lift.field-0 in
    let first = c.in-Some.first.now in
    let others = c.in-Some.others.now in
    let vs = word_values h others in
    let inv = c.loop-first.invariant in
    let items : c.push.new.self.items ≡ ts ++ u ∷ [] = c.in_ok-push.ensures.items in
    let made : value_of u ≡ word_value h first = c.in_ok-lift.ensures in
    let split : c.loop-first.rest.now ≡ first ∷ others = first_of (search rules, grind (arith, common_steps)) in
    record {
      whole = ap (λ (xs : List Term). values_before xs vs) items ∙ before-push ts u vs
          ∙ ap (λ (v : Value). values_before ts (more v vs)) made
          ∙ ap (λ (ws : List Word). values_before ts (word_values h ws)) (sym split) ∙ inv.whole;
      nodes_fall = omega (arith, ap (λ (ws : List Word). nodes_in (word_values h ws)) split, inv.nodes_fall);
      words = All-rest (IsWordOf h) first others c.loop-first.rest.now split inv.words;
    }

pub lift_tuple-returns-in-Ok : goal.lift_tuple-returns-in-Ok
lift_tuple-returns-in-Ok t c =
    let h = c.args.self.now in
    let ts = c.loop-first.items.items in
    let none_left : c.loop-first.rest.now ≡ [] = first_of (search rules, grind (arith, common_steps)) in
    c.in-Ok.ensures.made ∙ ap tuple (sym (before-none ts) ∙ ap (λ (ws : List Word). values_before ts (word_values h ws))
    (sym none_left) ∙ c.loop-first.invariant.whole)

pub lift_list-cells-preserved : goal.lift_list-cells-preserved
lift_list-cells-preserved t c =
    let h = c.args.self.now in
    let ts = c.cells.items.items in
    let u = c.in_ok-lift.field-0 in
    let head = c.in-Some.head in
    let tail = c.in-Some.tail in
    let vs = elements (word_value h tail) in
    let inv = c.cells.invariant in
    let items : c.push.new.self.items ≡ ts ++ u ∷ [] = c.in_ok-push.ensures.items in
    let made : value_of u ≡ word_value h head = c.in_ok-lift.ensures in
    let split : IsSplit h c.cells.rest head tail = c.in-Some.ensures.value in
    record {
      whole = ap (λ (xs : List Term). values_before xs vs) items ∙ before-push ts u vs
          ∙ ap (λ (v : Value). values_before ts (more v vs)) made
          ∙ ap (values_before ts) (sym split) ∙ inv.whole;
      nodes_fall = omega (arith, ap nodes_in split, inv.nodes_fall);
      word = c.in-Some.ensures.words.1;
      list = c.in-Some.ensures.words.2;
    }

pub lift_list-returns-in-Ok : goal.lift_list-returns-in-Ok
lift_list-returns-in-Ok t c =
    let h = c.args.self.now in
    let ts = c.cells.items.items in
    let none_left : elements (word_value h c.cells.rest) ≡ none = c.in_default.ensures.value in
    ap list (c.in-Ok.ensures.made ∙ sym (before-none ts) ∙ ap (values_before ts) (sym none_left)
    ∙ c.cells.invariant.whole)
    ∙ sym (list_is_list h c.args.word c.is_in_order.ensures c.requires.word c.requires.list)
