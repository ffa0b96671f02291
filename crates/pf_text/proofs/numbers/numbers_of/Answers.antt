use Rattle.std.proofs.Common.{◌≡◌, ◌∷◌, [], ◌∙◌, ap, sym, length, map, None, Some, rules, tests}
use Rattle.std.specs.Prelude.{◌==◌}
use Rattle.std.proofs.lemmas.List.{map-append}
use Rattle.std.proofs.lemmas.Iterator.Splits.{YieldsList-from_slice_split}
use Rattle.std.proofs.lemmas.Iterator.Consumers.{YieldsList-turn, YieldsList-end}
use Rattle.pf_text.specs.Numbers.{number_of_digits, numbers_of_texts}
use Rattle.pf_text.proofs.Numerals.{numbers_more, numbers_none}
use Rattle.pf_text.proofs.numbers.numbers_of.Goals as goal

pub loop-piece-preserved : goal.loop-piece-preserved
loop-piece-preserved c =
    let number : number_of_digits c.in-Some.piece.now ≡ Some c.in-Some-number_of.number =
    grind (rules, c.number_of.ensures) in
    let texts = map-append (λ p. p.now) c.loop-piece.yielded (c.in-Some.piece ∷ []) in
    ap numbers_of_texts texts
    ∙ numbers_more (map (λ p. p.now) c.loop-piece.yielded) c.in-Some.piece.now c.loop-piece.numbers.items
    c.in-Some-number_of.number c.loop-piece.invariant number
    ∙ ap Some (sym c.in_ok-push-in-Some-number_of.ensures.items)

pub returns-in-None-number_of : goal.returns-in-None-number_of
returns-in-None-number_of c =
    let t = YieldsList-turn (YieldsList-from_slice_split _ (λ b. b == 44) c.args.text.now (cc) (cc) (cc)
    (λ x r q k. search (rules, tests))) c.loop-piece.yielded _ c.loop-piece.yielded_by _ _ c.in-Some.piece
    c.in-Some.is c.next.ensures.steps in
    let number : number_of_digits c.in-Some.piece.now ≡ None = grind (rules, c.number_of.ensures) in
    sym (numbers_none _ (length c.loop-piece.yielded) c.in-Some.piece.now t.0 t.1 number)

pub returns : goal.returns
returns c =
    let t = YieldsList-end (YieldsList-from_slice_split _ (λ b. b == 44) c.args.text.now (cc) (cc) (cc)
    (λ x r q k. search (rules, tests))) c.loop-piece.yielded _ c.loop-piece.yielded_by _ _ c.in-None.is
    c.next.ensures.steps in
    sym c.loop-piece.invariant ∙ ap numbers_of_texts t.0
