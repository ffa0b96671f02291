use Rattle.std.proofs.Common.{rules, ◌≡◌, ◌<◌, ◌&&◌, Bool, true, List, ◌∷◌, sym, ap, ◌∙◌, subst, arith}
use Rattle.std.proofs.lemmas.Grind.{common_steps}
use Rattle.std.proofs.lemmas.List.Elements.{All-rest}
use Rattle.pf_terms.specs.Value.{nodes_in, same, same_all}
use Rattle.pf_heap.specs.Heap.{elements, word_value, word_values, IsList, IsSplit, IsWordOf}
use Rattle.pf_heap.specs.declared.word.Word.{Word}
use Rattle.pf_heap.proofs.Apart.{int_apart, atom_apart, ref_apart, pid_apart, tuple_apart, nil_apart, cons_apart}
use Rattle.pf_heap.proofs.Apart.{lists_same, nodes_positive}
use Rattle.pf_heap.proofs.heap.Heap.+equal.Goals as goal

pub equal-returns-in-Cons-second : goal.equal-returns-in-Cons-second
equal-returns-in-Cons-second t c =
    let first : IsList c.args.first = subst IsList (sym c.in-Cons.is) tt in
    let second : IsList c.args.second = subst IsList (sym c.in-Cons-second.is) tt in
    c.equal_lists.ensures ∙ lists_same c.args.self.now c.args.first c.args.second c.is_in_order.ensures c.requires.first
    c.requires.second first second

pub equal_lists-cells-smaller : goal.equal_lists-cells-smaller
equal_lists-cells-smaller t c =
    let h = c.args.self.now in
    let split : IsSplit h c.cells.a c.in-Some.head c.in-Some.tail = c.in-Some.ensures.value in
    let less : nodes_in (elements (word_value h c.in-Some.tail)) < nodes_in (elements (word_value h c.cells.a)) =
    omega (arith, ap nodes_in split, nodes_positive (word_value h c.in-Some.head)) in
    less

pub equal-returns-in_default-second : goal.equal-returns-in_default-second
equal-returns-in_default-second t c =
    atom_apart c.args.self.now c.args.first c.args.second c.in-Atom.x c.in-Atom.is c.is_in_order.ensures
    c.requires.first c.requires.second c.in_default-second.not-Atom

pub equal-returns-in_default-second-2 : goal.equal-returns-in_default-second-2
equal-returns-in_default-second-2 t c =
    ref_apart c.args.self.now c.args.first c.args.second c.in-Ref.x c.in-Ref.is c.is_in_order.ensures c.requires.first
    c.requires.second c.in_default-second-2.not-Ref

pub equal-returns-in_default-second-3 : goal.equal-returns-in_default-second-3
equal-returns-in_default-second-3 t c =
    pid_apart c.args.self.now c.args.first c.args.second c.in-Pid.x c.in-Pid.is c.is_in_order.ensures c.requires.first
    c.requires.second c.in_default-second-3.not-Pid

pub equal-returns-in_default-second-4 : goal.equal-returns-in_default-second-4
equal-returns-in_default-second-4 t c =
    tuple_apart c.args.self.now c.args.first c.args.second c.in-Tuple.x c.in-Tuple.is c.is_in_order.ensures
    c.requires.first c.requires.second c.in_default-second-4.not-Tuple

pub equal-returns-in_default-second-5 : goal.equal-returns-in_default-second-5
equal-returns-in_default-second-5 t c =
    nil_apart c.args.self.now c.args.first c.args.second c.in-Nil.is c.is_in_order.ensures c.requires.first
    c.requires.second c.in_default-second-5.not-Nil

pub equal-returns-in_default-second-6 : goal.equal-returns-in_default-second-6
equal-returns-in_default-second-6 t c =
    cons_apart c.args.self.now c.args.first c.args.second c.in-Cons.field-0 c.in-Cons.is c.is_in_order.ensures
    c.requires.first c.requires.second c.in_default-second-6.not-Cons

pub equal-returns-in_default : goal.equal-returns-in_default
equal-returns-in_default t c =
    int_apart c.args.self.now c.args.first c.args.second c.in-Int.x c.in-Int.is c.is_in_order.ensures c.requires.first
    c.requires.second c.in_default.not-Int

pub equal_items-items-preserved : goal.equal_items-items-preserved
equal_items-items-preserved t c =
    let h = c.args.self.now in
    let x = c.in-Some.x.now in
    let y = c.in-Some-split_first.y.now in
    let rest = c.in-Some.rest.now in
    let others = c.in-Some-split_first.others.now in
    let inv = c.items.invariant in
    let xs : c.items.xs.now ≡ x ∷ rest = first_of (search rules, grind (arith, common_steps)) in
    let ys : c.items.ys.now ≡ y ∷ others = first_of (search rules, grind (arith, common_steps)) in
    let first_same : same (word_value h x) (word_value h y) ≡ true =
    first_of (search rules, cc, grind (arith, common_steps)) in
    let left = same_all (word_values h rest) (word_values h others) in
    let whole = ap (λ (zs : List Word). same_all (word_values h zs) (word_values h c.items.ys.now)) xs
    ∙ ap (λ (zs : List Word). same_all (word_values h (x ∷ rest)) (word_values h zs)) ys in
    record {
      same_is = ap (λ (b : Bool). b && left) (sym first_same) ∙ sym whole ∙ inv.same_is;
      nodes_fall = omega (arith, ap (λ (zs : List Word). nodes_in (word_values h zs)) xs, inv.nodes_fall);
      first = All-rest (IsWordOf h) x rest c.items.xs.now xs inv.first;
      second = All-rest (IsWordOf h) y others c.items.ys.now ys inv.second;
    }
