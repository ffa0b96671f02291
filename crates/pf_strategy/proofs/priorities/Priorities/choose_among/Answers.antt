use Rattle.std.proofs.Common.{◌≡◌, ◌+◌, ◌-◌, ◌≤◌, length, sym, ap, ◌∙◌, arith}
use Rattle.std.specs.Prelude.{drop, take}
use Rattle.std.specs.List.{remove}
use Rattle.std.proofs.lemmas.Option.{get_or_from_slice_get}
use Rattle.rand_pcg.specs.Pcg.{pcg32}
use Rattle.pf_strategy.specs.Keys.{keys_among}
use Rattle.pf_strategy.specs.Priorities.{all_given, all_held, highest_from}
use Rattle.pf_strategy.proofs.Places.{Gave, all_gone, count_of_keys, higher, long, no_higher, one_given, same_list}
use Rattle.pf_strategy.proofs.priorities.Priorities.choose_among.Goals as goal
use Rattle.pf_strategy.proofs.priorities.Priorities.choose_among.Goals.{then-priority-highest, else-priority-highest}

pub loop-at-preserved : goal.loop-at-preserved
loop-at-preserved c =
    let i = c.loop-at.invariant in
    let at = c.loop-at.at in
    let keys = keys_among c.args.pids.now c.args.channels.now in
    let hs = c.loop-at.self.held.items in
    let ns = c.give.new.holders.items in
    let g = c.loop-at.self.generator in
    let p = c.in_ok-priority.priority in
    let k = c.key_at-key.result in
    let best = c.loop-at.best in
    let most = c.loop-at.highest in
    let best_now = c.if-priority-highest.best in
    let most_now = c.if-priority-highest.highest in
    let w : Gave pcg32 keys g c.give.new.generator hs ns at k p =
    record {
      within = i.within;
      key = omega (arith, c.loop-at-test.true, count_of_keys c.args.pids.now c.args.channels.now);
      is_key = sym (get_or_from_slice_get keys at k 0 c.key_at-key.ensures);
      priority = c.in_ok-priority.ensures.priority;
      generator = c.in_ok-priority.ensures.generator;
      holders = c.in_ok-priority.ensures.holders;
    } in
    let rest = all_given pcg32 (drop (at + 1) keys) c.give.new.generator (drop (at + 1) ns) in
    let highest : highest_from at best most (all_given pcg32 (drop at keys) g (drop at hs)).held ≡ highest_from
    (at + 1) best_now most_now rest.held =
    elim c.if-priority-highest.branch [
      | then-priority-highest b ↦ higher pcg32 keys g c.give.new.generator hs ns at k p w best most best_now most_now
          (omega (arith, b.if-priority-highest.true)) b.best-is b.highest-is
      | else-priority-highest b ↦ no_higher pcg32 keys g c.give.new.generator hs ns at k p w best most best_now most_now
          (omega (arith, b.if-priority-highest.false)) b.best-is b.highest-is
    ] in
    let one : best_now ≤ at + 1 - 1 =
    elim c.if-priority-highest.branch [
      | then-priority-highest b ↦ omega (arith, b.best-is)
      | else-priority-highest b ↦ omega (arith, b.best-is, i.best)
    ] in
    record {
      within = long pcg32 keys g c.give.new.generator hs ns at k p w;
      given = i.given ∙ one_given pcg32 keys g c.give.new.generator hs ns at k p w;
      best = one;
      highest = ap (highest_from 0 0 0) (sym (same_list pcg32 keys g c.give.new.generator hs ns at k p w))
          ∙ i.highest ∙ highest;
    }

pub returns-clause-choice : goal.returns-clause-choice
returns-clause-choice c =
    let i = c.loop-at.invariant in
    let at = c.loop-at.at in
    let keys = keys_among c.args.pids.now c.args.channels.now in
    let count = length c.args.pids.now + length c.args.channels.now in
    let g = c.loop-at.self.generator in
    let hs = c.loop-at.self.held.items in
    let best = c.loop-at.best in
    let end : at ≡ count = omega (arith, c.loop-at-test.false, c.loop-at.auto.at-end) in
    let few : length keys ≤ at = omega (
      arith,
      c.loop-at-test.false,
      count_of_keys c.args.pids.now c.args.channels.now,
    ) in
    let left : remove (take at hs) best ≡ remove c.truncate.new.self.items best =
    ap (λ n. remove (take n hs) best) end ∙ ap (λ xs. remove xs best) (sym c.truncate.ensures.items) in
    all_gone pcg32 keys g hs at (all_held c.args.self.now) best c.loop-at.highest few i.given i.highest
    ∙ ap (λ xs. (best, record { generator = g; held = xs })) left
