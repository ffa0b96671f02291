use Rattle.std.proofs.Common.{◌≡◌, ◌≢◌, ◌+◌, ◌-◌, ◌∷◌, [], zero, suc, map, Some, arith, sym, ap, ◌∙◌, rules}
use Rattle.std.proofs.lemmas.Result.{err_from_is_err_and}
use Rattle.std.proofs.lemmas.List.{map-append}
use Rattle.pf_terms.specs.Term.{value_of}
use Rattle.pf_terms.specs.Value.{tuple, list}
use Rattle.pf_terms.specs.declared.limits.TheConstants.{MOST_NODES}
use Rattle.pf_termtext.specs.Reading.{with_value_before, bounded, value_at, elements_at}
use Rattle.pf_termtext.proofs.Items.{items_more, items_end, items_fail, items_full}
use Rattle.pf_termtext.proofs.Values.{fails_as, elements-map, value_nowhere, value_of_nothing, at_brace, at_bracket}
use Rattle.pf_termtext.proofs.Values.{at_quote, at_minus, at_digit, at_other, tuple_by, list_by}
use Rattle.pf_termtext.proofs.reading.+reads.Goals as goal

-- ---- read_items

pub read_items-returns-in_err-item : goal.read_items-returns-in_err-item
read_items-returns-in_err-item t c =
    let p = err_from_is_err_and c.from_residual.result c.from_residual.ensures.1 in
    let turn : MOST_NODES - c.loop.counter ≡ suc (MOST_NODES - (c.loop.counter + 1)) = omega arith in
    rw (p.1, p.2) (fails_as _ _ _ (λ f. items_fail (value_at c.args.atoms.now c.args.room) _ _ _ _ _ turn f
    c.loop.invariant) c.in_err-item.ensures)

pub read_items-returns-in-None : goal.read_items-returns-in-None
read_items-returns-in-None t c =
    let turn : MOST_NODES - c.loop.counter ≡ suc (MOST_NODES - (c.loop.counter + 1)) = omega arith in
    let pushed = map-append value_of c.loop.items.items (c.in_ok-item.item ∷ []) in
    items_end (value_at c.args.atoms.now c.args.room) _ _ (map value_of c.loop.items.items) c.loop.rest.now
    (value_of c.in_ok-item.item) c.in_ok-item.more.now _ turn c.in_ok-item.ensures c.in-None.ensures
    c.loop.invariant
    ∙ ap (λ vs. Some (vs, c.in_ok-item.more.now)) (sym pushed ∙ ap (map value_of) (sym c.in_ok-push.ensures.items))

pub read_items-loop-preserved : goal.read_items-loop-preserved
read_items-loop-preserved t c =
    let turn : MOST_NODES - c.loop.counter ≡ suc (MOST_NODES - (c.loop.counter + 1)) = omega arith in
    let pushed = map-append value_of c.loop.items.items (c.in_ok-item.item ∷ []) in
    rw (c.in_ok-push.ensures.items, pushed)
    (items_more (value_at c.args.atoms.now c.args.room) _ _ (map value_of c.loop.items.items) c.loop.rest.now
    (value_of c.in_ok-item.item) c.in_ok-item.more.now c.in-Some.next.now _ turn c.in_ok-item.ensures
    c.in-Some.ensures c.loop.invariant)

pub read_items-returns : goal.read_items-returns
read_items-returns t c =
    let turn : MOST_NODES - c.loop.counter ≡ zero = omega arith in
    rw c.no_term.ensures (items_full (value_at c.args.atoms.now c.args.room) _ _ _ _ turn c.loop.invariant)

-- ---- read_tuple and read_list

pub read_tuple-returns-in_err-bounded_tuple : goal.read_tuple-returns-in_err-bounded_tuple
read_tuple-returns-in_err-bounded_tuple t c =
    let p = err_from_is_err_and c.from_residual-in_err-bounded_tuple.result
    c.from_residual-in_err-bounded_tuple.ensures.1 in
    let at = tuple_by (elements_at (value_at c.args.atoms.now c.args.room)) c.args.text.now _ c.in_ok-items.ensures in
    rw (p.1, p.2) (fails_as _ _ _ (λ f. at ∙ ap
    (λ vs. with_value_before c.in_ok-items.rest.now (λ v. v) (bounded (tuple vs)))
    (elements-map c.in_ok-items.items.items) ∙ ap (with_value_before c.in_ok-items.rest.now (λ v. v)) f)
    c.in_err-bounded_tuple.ensures)

pub read_tuple-returns : goal.read_tuple-returns
read_tuple-returns t c =
    let at = tuple_by (elements_at (value_at c.args.atoms.now c.args.room)) c.args.text.now _ c.in_ok-items.ensures in
    at ∙ ap (λ vs. with_value_before c.in_ok-items.rest.now (λ v. v) (bounded (tuple vs)))
    (elements-map c.in_ok-items.items.items) ∙ ap (with_value_before c.in_ok-items.rest.now (λ v. v))
    c.in_ok-bounded_tuple.ensures

pub read_list-returns-in_err-bounded_list : goal.read_list-returns-in_err-bounded_list
read_list-returns-in_err-bounded_list t c =
    let p = err_from_is_err_and c.from_residual-in_err-bounded_list.result
    c.from_residual-in_err-bounded_list.ensures.1 in
    let at = list_by (elements_at (value_at c.args.atoms.now c.args.room)) c.args.text.now _ c.in_ok-items.ensures in
    rw (p.1, p.2) (fails_as _ _ _ (λ f. at ∙ ap
    (λ vs. with_value_before c.in_ok-items.rest.now (λ v. v) (bounded (list vs)))
    (elements-map c.in_ok-items.items.items) ∙ ap (with_value_before c.in_ok-items.rest.now (λ v. v)) f)
    c.in_err-bounded_list.ensures)

pub read_list-returns : goal.read_list-returns
read_list-returns t c =
    let at = list_by (elements_at (value_at c.args.atoms.now c.args.room)) c.args.text.now _ c.in_ok-items.ensures in
    at ∙ ap (λ vs. with_value_before c.in_ok-items.rest.now (λ v. v) (bounded (list vs)))
    (elements-map c.in_ok-items.items.items) ∙ ap (with_value_before c.in_ok-items.rest.now (λ v. v))
    c.in_ok-bounded_list.ensures

-- ---- read_value

pub read_value-returns-then-room-eq0 : goal.read_value-returns-then-room-eq0
read_value-returns-then-room-eq0 t c =
    rw c.no_term.ensures (value_nowhere c.args.atoms.now c.args.room c.args.text.now (search rules))

pub read_value-returns-in_default : goal.read_value-returns-in_default
read_value-returns-in_default t c =
    let less : c.args.room ≡ suc (c.args.room - 1) = omega arith in
    rw c.no_term-in_default.ensures (value_of_nothing c.args.atoms.now c.args.room (c.args.room - 1) less
    c.args.text.now c.in_default.ensures.cases)

pub read_value-returns-in-123 : goal.read_value-returns-in-123
read_value-returns-in-123 t c =
    let less : c.args.room ≡ suc (c.args.room - 1) = omega arith in
    rw (at_brace c.args.atoms.now c.args.room (c.args.room - 1) less c.args.text.now c.in-Some.first.now
    c.in-Some.after.now c.in-Some.ensures.cases.0 c.in-123.is) c.read_tuple.ensures

pub read_value-returns-in-91 : goal.read_value-returns-in-91
read_value-returns-in-91 t c =
    let less : c.args.room ≡ suc (c.args.room - 1) = omega arith in
    rw (at_bracket c.args.atoms.now c.args.room (c.args.room - 1) less c.args.text.now c.in-Some.first.now
    c.in-Some.after.now c.in-Some.ensures.cases.0 c.in-91.is) c.read_list.ensures

pub read_value-returns-in-39 : goal.read_value-returns-in-39
read_value-returns-in-39 t c =
    let less : c.args.room ≡ suc (c.args.room - 1) = omega arith in
    rw (at_quote c.args.atoms.now c.args.room (c.args.room - 1) less c.args.text.now c.in-Some.first.now
    c.in-Some.after.now c.in-Some.ensures.cases.0 c.in-39.is) c.read_quoted.ensures

pub read_value-returns-in-45 : goal.read_value-returns-in-45
read_value-returns-in-45 t c =
    let less : c.args.room ≡ suc (c.args.room - 1) = omega arith in
    rw (at_minus c.args.atoms.now c.args.room (c.args.room - 1) less c.args.text.now c.in-Some.first.now
    c.in-Some.after.now c.in-Some.ensures.cases.0 c.in-45.is) c.read_integer.ensures

pub read_value-returns-in_default-first : goal.read_value-returns-in_default-first
read_value-returns-in_default-first t c =
    let less : c.args.room ≡ suc (c.args.room - 1) = omega arith in
    rw (at_digit c.args.atoms.now c.args.room (c.args.room - 1) less c.args.text.now c.in-Some.first.now
    c.in-Some.after.now c.in-Some.ensures.cases.0 (sym c.if-is_digit.ensures))
    c.read_integer-in_default-first.ensures

pub read_value-returns-in_default-2 : goal.read_value-returns-in_default-2
read_value-returns-in_default-2 t c =
    let less : c.args.room ≡ suc (c.args.room - 1) = omega arith in
    let not_brace : c.in-Some.first.now ≢ 123 = search rules in
    let not_bracket : c.in-Some.first.now ≢ 91 = search rules in
    let not_quote : c.in-Some.first.now ≢ 39 = search rules in
    let not_minus : c.in-Some.first.now ≢ 45 = search rules in
    rw (at_other c.args.atoms.now c.args.room (c.args.room - 1) less c.args.text.now c.in-Some.first.now
    c.in-Some.after.now c.in-Some.ensures.cases.0
    not_brace not_bracket not_quote not_minus (sym c.if-is_digit.ensures)) c.read_plain.ensures
