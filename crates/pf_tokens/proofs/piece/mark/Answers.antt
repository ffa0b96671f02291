use Rattle.std.proofs.Common.{length, arith, sym, ap}
use Rattle.std.specs.Prelude.{nat_eq}
use Rattle.std.specs.List.{starts_with}
use Rattle.pf_tokens.specs.TokenKinds.{mark_text, marks}
use Rattle.pf_tokens.proofs.Tables.{find_passes, begins_within}
use Rattle.pf_tokens.proofs.piece.mark.Goals as goal

pub returns-in-Some-clause-within : goal.returns-in-Some-clause-within
returns-in-Some-clause-within c =
    let bytes = c.args.bytes.now in
    let m = c.in-Some.mark in
    let is_there = begins_within bytes (mark_text m)
    (find_passes (λ mark. starts_with nat_eq bytes (mark_text mark)) marks m (sym c.in-Some.ensures)) in
    omega (arith, is_there, ap length c.text.ensures, ap (λ p. p.length) c.token.ensures)
