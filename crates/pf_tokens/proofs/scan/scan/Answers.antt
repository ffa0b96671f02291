use Rattle.std.proofs.Common.{◌≡◌, suc, ◌+◌, ◌-◌, ◌<◌, length, arith, rules}
use Rattle.std.specs.Prelude.{map}
use Rattle.std.proofs.lemmas.Result.{err_from_is_err_and}
use Rattle.std.proofs.lemmas.List.{length-drop}
use Rattle.pf_tokens.specs.TokenKinds.{placed_of}
use Rattle.pf_tokens.specs.Scan.{shown_piece}
use Rattle.pf_tokens.proofs.Turns.{scan_goes, scan_fails, scan_ends, scan_out}
use Rattle.pf_tokens.proofs.scan.scan.Goals as goal

pub returns-then-is_empty : goal.returns-then-is_empty
returns-then-is_empty c = scan_ends (map placed_of c.loop.found.items) _ c.loop.offset c.loop.rest.now _ (search rules)
    c.loop.invariant.given

pub returns-in_err-next : goal.returns-in_err-next
returns-in_err-next c =
    let p = err_from_is_err_and c.from_residual.result c.from_residual.ensures.1 in
    let n = length c.args.source.now in
    let turn : n - c.loop.counter ≡ suc (n - (c.loop.counter + 1)) = omega arith in
    let some : 0 < length c.loop.rest.now = search rules in
    rw (p.1, p.2) (scan_fails (map placed_of c.loop.found.items) _ _ c.loop.offset c.loop.rest.now _ _ turn some
    c.in_err-next.ensures.given c.loop.invariant.given)

pub loop-preserved : goal.loop-preserved
loop-preserved c =
    let n = length c.args.source.now in
    let next = c.in_ok-next.next in
    let turn : n - c.loop.counter ≡ suc (n - (c.loop.counter + 1)) = omega arith in
    let some : 0 < length c.loop.rest.now = search rules in
    let goes = scan_goes (map placed_of c.loop.found.items) _ _ c.loop.offset c.loop.rest.now (shown_piece next) _ turn
    some c.in_ok-next.ensures.given c.loop.invariant.given in
    let rest = c.split_at.ensures.back in
    record {
      given = rw (rest, c.in_ok-put.ensures) goes;
      at = rw rest (omega (
        arith,
        length-drop next.length c.loop.rest.now,
        c.loop.invariant.at,
        c.in_ok-next.ensures.within,
      ));
    }

pub returns : goal.returns
returns c = scan_out (map placed_of c.loop.found.items) _ c.loop.offset c.loop.rest.now _ (omega arith)
    c.loop.invariant.given
