use Rattle.std.proofs.Common.{Bool, true, refl, sym, ap, ◌∙◌, subst, length, arith, rules}
use Rattle.std.specs.Prelude.{if◌then◌else◌}
use Rattle.pf_loop.proofs.Words.{keep_none, keep_then, on_err, words_keep}
use Rattle.pf_turns.specs.declared.status.Status.{Status}
use Rattle.pf_turns.specs.declared.status.Status.TheVariants as status
use Rattle.pf_inbox.specs.Searches.{PassesOver, TestsMarked, mark_after}
use Rattle.pf_inbox.proofs.Receiving.{passes_more, passes_none, receives_again, tests_here, waits_again}
use Rattle.pf_inbox.proofs.search.search.Goals as goal

abbrev after : Status → Bool → Status
after x b = if b then status.Goes else x

pub messages-init : goal.messages-init
messages-init c = record {
  words = c.requires.words;
  keeps = keep_none c.args.heap.now;
  status = refl;
  items = refl;
  on = omega arith;
  counted = omega (arith, c.requires.none_made);
  room = search rules;
  passed = λ m code entries d s fs ks r. (
    passes_none m c.args.setting.now.own code d fs ks c.args.heap.now c.args.process.now.machine c.args.list.now,
    record { state = s; is_in = r.is_in; at = r.at },
  );
}

pub test_marked-requires-clause-constants : goal.test_marked-requires-clause-constants
test_marked-requires-clause-constants c =
    words_keep c.args.heap.now c.messages.heap c.args.setting.now.constants.now c.messages.invariant.keeps
    c.requires.constants

pub messages-preserved : goal.messages-preserved
messages-preserved c =
    let own = c.args.setting.now.own in
    let l = c.messages in
    let inv = l.invariant in
    let f = c.test_marked.new.heap in
    let k = c.test_marked.new.process.machine in
    let e = c.in_ok-taken.ensures in
    let next = e.mark ∙ ap (λ b. mark_after b l.list.mark) c.if-taken.false in
    let items = e.items ∙ inv.items in
    record {
      words = e.words;
      keeps = keep_then c.args.heap.now l.heap f inv.keeps e.keeps;
      status = e.status ∙ ap (after l.process.status) c.if-taken.false ∙ inv.status;
      items = items;
      on = omega (arith, next, inv.on);
      counted = omega (arith, e.counted, next, inv.counted, inv.on);
      room = omega (arith, ap length e.items, inv.room);
      passed = λ m code entries d s fs ks r.
          let before = inv.passed m code entries d s fs ks r in
          let again = receives_again c.args.heap.now l.heap c.args.setting.now inv.keeps c.requires.constants m code
          entries d fs ks c.args.process.now l.process s before.1 inv.status r in
          let t = subst (TestsMarked m own code d fs ks l.list f k) c.if-taken.false
          (e.tested m code entries d before.1.state fs ks again) in (
            passes_more m own code d fs ks f k c.args.list.now l.list c.test_marked.new.list.mark inv.items before.0
                next t,
            waits_again m own code d fs ks f k l.list t,
          );
    }

pub returns-then-taken : goal.returns-then-taken
returns-then-taken c =
    let own = c.args.setting.now.own in
    let l = c.messages in
    let inv = l.invariant in
    let f = c.test_marked.new.heap in
    let k = c.test_marked.new.process.machine in
    let e = c.in_ok-taken.ensures in
    let here = e.mark ∙ ap (λ b. mark_after b l.list.mark) c.if-taken.true in
    record {
      words = e.words;
      keeps = keep_then c.args.heap.now l.heap f inv.keeps e.keeps;
      status = e.status ∙ ap (after l.process.status) c.if-taken.true;
      items = e.items ∙ inv.items;
      on = omega (arith, here, inv.on);
      there = omega (arith, here, ap length e.items, c.in-Some.ensures.within);
      counted = omega (arith, e.counted, here, inv.counted, inv.on);
      sought = λ m code entries d s fs ks r.
          let before = inv.passed m code entries d s fs ks r in
          let again = receives_again c.args.heap.now l.heap c.args.setting.now inv.keeps c.requires.constants m code
          entries d fs ks c.args.process.now l.process s before.1 inv.status r in
          let t = subst (TestsMarked m own code d fs ks l.list f k) c.if-taken.true
          (e.tested m code entries d before.1.state fs ks again) in (
            subst (PassesOver m own ks c.args.list.now) (sym here) before.0,
            tests_here m own code d fs ks f k l.list c.test_marked.new.list true e.items here t,
          );
      err = tt;
    }

pub returns-in_err-taken-clause-keeps : goal.returns-in_err-taken-clause-keeps
returns-in_err-taken-clause-keeps c =
    keep_then c.args.heap.now c.messages.heap c.test_marked.new.heap c.messages.invariant.keeps
    c.test_marked.ensures.keeps

pub returns-in_err-taken-clause-items : goal.returns-in_err-taken-clause-items
returns-in_err-taken-clause-items c = c.test_marked.ensures.items ∙ c.messages.invariant.items

pub returns-in_err-taken-clause-on : goal.returns-in_err-taken-clause-on
returns-in_err-taken-clause-on c =
    let here = ap (λ x. x.mark) c.in_err-taken.ensures.stopped.1 in omega (arith, here, c.messages.invariant.on)

pub returns-in_err-taken-clause-err : goal.returns-in_err-taken-clause-err
returns-in_err-taken-clause-err c =
    on_err c.from_residual.result (c.in_err-taken.ensures.err ∙ c.messages.invariant.status)

pub returns-clause-sought : goal.returns-clause-sought
returns-clause-sought c = λ m code entries d s fs ks r.
    c.messages.invariant.passed m code entries d s fs ks r

pub returns-clause-there : goal.returns-clause-there
returns-clause-there c = c.in_default.ensures.item
