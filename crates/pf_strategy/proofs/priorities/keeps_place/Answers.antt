use Rattle.std.proofs.Common.{◌≡◌, ◌+◌, zero, suc, arith, get_or, subst}
use Rattle.std.specs.Prelude.{drop}
use Rattle.std.proofs.lemmas.Option.{slice_get-get_or}
use Rattle.pf_strategy.specs.Keys.{keys_among}
use Rattle.pf_strategy.specs.Places.{IsBelow, KeepsPlace}
use Rattle.pf_strategy.specs.Priorities.{held}
use Rattle.pf_strategy.proofs.Renewed.{keeps_last, keeps_one_more, next_above, none_next}
use Rattle.pf_strategy.proofs.priorities.keeps_place.Goals as goal
use Rattle.pf_strategy.proofs.priorities.keeps_place.Goals.{
  else-after-holders-via-then-after-holders+else-holders-after,
}
use Rattle.pf_strategy.proofs.priorities.keeps_place.Goals.{else-after-holders-via-else-after-holders}

pub loop-at-preserved : goal.loop-at-preserved
loop-at-preserved c m e keeps =
    let keys = keys_among c.args.pids.now c.args.channels.now in
    let hs = c.args.holders.now in
    let at = c.loop-at.at in
    c.loop-at.invariant (suc m) (omega (arith, e))
    (keeps_one_more keys hs at m (get_or hs at (held 0 0)) c.key_at-in-loop-at.result c.key_at-in-loop-at.ensures
    (slice_get-get_or hs at (held 0 0) (omega (arith, c.loop-at-test.true, c.requires))) c.if-holders-at.false keeps)

pub returns : goal.returns
returns c is =
    let keys = keys_among c.args.pids.now c.args.channels.now in
    let hs = c.args.holders.now in
    let n = c.args.index in
    let k = c.key_at.result in
    let after : n + 1 ≡ suc n = omega arith in
    let below : IsBelow k (drop (n + 1) hs) =
    elim c.else-after-holders.branch [
      | else-after-holders-via-then-after-holders+else-holders-after w ↦ next_above hs (n + 1) k (held 0 0)
          (omega (arith, w.if-after-holders.true)) (omega (arith, w.if-holders-after.false, c.if-own-key_at.false))
      | else-after-holders-via-else-after-holders w ↦ none_next hs (n + 1) k (omega (arith, w.if-after-holders.false))
    ] in
    let end : n ≡ c.loop-at.at = omega (arith, c.loop-at-test.false, c.loop-at.auto.at-end) in
    c.loop-at.invariant zero (omega (arith, end))
    (subst (λ x. KeepsPlace (drop x keys) (drop x hs) zero) end
    (keeps_last keys hs n (get_or hs n (held 0 0)) k c.key_at.ensures
    (slice_get-get_or hs n (held 0 0) c.requires) c.if-own-key_at.false
    (subst (λ x. IsBelow k (drop x hs)) after below)))
