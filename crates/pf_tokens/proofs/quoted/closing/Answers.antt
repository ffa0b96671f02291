use Rattle.std.proofs.Common.{get_or, ◌+◌, List, ℕ, Ok, arith, ◌∙◌, ap}
use Rattle.std.proofs.lemmas.List.{append-nil}
use Rattle.pf_tokens.specs.Scan.{width}
use Rattle.pf_tokens.proofs.Quotes.{escapes_alone, closing_goes, closing_ends, with_front-put_byte}
use Rattle.pf_tokens.proofs.quoted.closing.Goals as goal
use Rattle.pf_tokens.proofs.quoted.closing.Goals.{in-Escapes, in-Means+in_ok-push-in-Means}

pub returns-in-Closes-clause-given : goal.returns-in-Closes-clause-given
returns-in-Closes-clause-given c =
    let l = c.loop-byte in
    let goes = closing_goes l.text.items c.args.quote c.args.offset l.byte-index c.args.rest.now l.is_escaped l.length _
    _ c.loop-byte-test.true c.in-Closes.ensures l.invariant.given in
    goes ∙ ap (λ (t : List ℕ). Ok (t, l.length + 1)) (append-nil l.text.items)

pub returns-in-Fails-clause-given : goal.returns-in-Fails-clause-given
returns-in-Fails-clause-given c =
    let l = c.loop-byte in
    rw c.refusal.ensures
    (closing_goes l.text.items c.args.quote c.args.offset l.byte-index c.args.rest.now l.is_escaped l.length _ _
    c.loop-byte-test.true c.in-Fails.ensures l.invariant.given)

pub loop-byte-preserved : goal.loop-byte-preserved
loop-byte-preserved c =
    let l = c.loop-byte in
    elim c.match-step_of.branch [
      | in-Escapes w ↦
          let goes = closing_goes l.text.items c.args.quote c.args.offset l.byte-index c.args.rest.now l.is_escaped
          l.length _ _ c.loop-byte-test.true w.in-Escapes.ensures l.invariant.given in
          let was = escapes_alone c.args.quote l.is_escaped (get_or c.args.rest.now l.byte-index 0)
          w.in-Escapes.ensures in
          record {
            given = rw (w.text-is, w.length-is, w.is_escaped-is) goes;
            read = rw (w.length-is, w.is_escaped-is) (omega (arith, l.invariant.read, ap width was));
          }
      | in-Means+in_ok-push-in-Means w ↦
          let goes = closing_goes l.text.items c.args.quote c.args.offset l.byte-index c.args.rest.now l.is_escaped
          l.length _ _ c.loop-byte-test.true w.in-Means.ensures l.invariant.given in
          record {
            given = rw (
              w.text-is,
              w.length-is,
              w.is_escaped-is,
              w.in_ok-push-in-Means.ensures.items,
              w.width-length.ensures,
            ) (goes ∙ with_front-put_byte l.text.items w.in-Means.meant _);
            read = rw (w.length-is, w.is_escaped-is, w.width-length.ensures) (omega (arith, l.invariant.read));
          }
    ]

pub returns-clause-given : goal.returns-clause-given
returns-clause-given c = rw c.refusal-2.ensures
    (closing_ends c.loop-byte.text.items c.args.quote c.args.offset c.loop-byte.byte-index c.args.rest.now
    c.loop-byte.is_escaped c.loop-byte.length _ (omega arith) c.loop-byte.invariant.given)
