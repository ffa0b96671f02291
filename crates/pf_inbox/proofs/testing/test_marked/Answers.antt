use Rattle.std.proofs.Common.{Bool, ap, ◌∙◌, subst}
use Rattle.std.specs.Prelude.{if◌then◌else◌}
use Rattle.pf_terms.specs.Term.{value_of}
use Rattle.pf_loop.specs.Judged.{Judged}
use Rattle.pf_loop.proofs.Words.{keep_then, words_keep}
use Rattle.pf_turns.specs.declared.status.Status.{Status}
use Rattle.pf_turns.specs.declared.status.Status.TheVariants as status
use Rattle.pf_inbox.proofs.Receiving.{receives_on}
use Rattle.pf_inbox.proofs.testing.test_marked.Goals as goal

abbrev after : Status → Bool → Status
after x b = if b then status.Goes else x

pub returns-in_err-word-clause-words : goal.returns-in_err-word-clause-words
returns-in_err-word-clause-words c =
    words_keep c.args.heap.now c.lower.new.self c.args.process.now.machine.stack.words.items c.lower.ensures.keeps
    c.requires.words

pub test-requires-clause-words : goal.test-requires-clause-words
test-requires-clause-words c =
    words_keep c.args.heap.now c.lower.new.self c.args.process.now.machine.stack.words.items c.lower.ensures.keeps
    c.requires.words

pub test-requires-clause-constants : goal.test-requires-clause-constants
test-requires-clause-constants c =
    words_keep c.args.heap.now c.lower.new.self c.args.setting.now.constants.now c.lower.ensures.keeps
    c.requires.constants

pub returns-in_err-taken-clause-keeps : goal.returns-in_err-taken-clause-keeps
returns-in_err-taken-clause-keeps c =
    keep_then c.args.heap.now c.lower.new.self c.test.new.heap c.lower.ensures.keeps c.test.ensures.keeps

pub returns-then-taken-clause-keeps : goal.returns-then-taken-clause-keeps
returns-then-taken-clause-keeps c =
    keep_then c.args.heap.now c.lower.new.self c.test.new.heap c.lower.ensures.keeps c.test.ensures.keeps

pub returns-clause-keeps : goal.returns-clause-keeps
returns-clause-keeps c =
    keep_then c.args.heap.now c.lower.new.self c.test.new.heap c.lower.ensures.keeps c.test.ensures.keeps

pub returns-then-taken-clause-tested : goal.returns-then-taken-clause-tested
returns-then-taken-clause-tested c = λ m code entries d s fs ks r.
    let own = c.args.setting.now.own in
    let k = c.test.new.self.machine in
    let g = c.lower.new.self in
    let f = c.test.new.heap in
    let on = receives_on c.args.heap.now g c.args.setting.now c.lower.ensures.keeps c.requires.constants m code entries
    d fs ks c.args.process.now s c.requires.words r in
    let j = c.in_ok-taken.ensures.tested m code entries d s fs ks on.runs on.sound on.waits on.is_in on.at in
    let message = c.in-Some.message.now in
    let seen = subst (λ v. Judged m own code d fs ks v f k c.in_ok-taken.taken) c.in_ok-word.ensures.made j in
    record {
      message = message;
      there = c.in-Some.ensures.item;
      judged = subst (Judged m own code d fs ks (value_of message) f k) c.if-taken.true seen;
    }

pub returns-clause-tested : goal.returns-clause-tested
returns-clause-tested c = λ m code entries d s fs ks r.
    let own = c.args.setting.now.own in
    let k = c.test.new.self.machine in
    let g = c.lower.new.self in
    let f = c.test.new.heap in
    let on = receives_on c.args.heap.now g c.args.setting.now c.lower.ensures.keeps c.requires.constants m code entries
    d fs ks c.args.process.now s c.requires.words r in
    let j = c.in_ok-taken.ensures.tested m code entries d s fs ks on.runs on.sound on.waits on.is_in on.at in
    let message = c.in-Some.message.now in
    let seen = subst (λ v. Judged m own code d fs ks v f k c.in_ok-taken.taken) c.in_ok-word.ensures.made j in
    record {
      message = message;
      there = c.in-Some.ensures.item;
      judged = subst (Judged m own code d fs ks (value_of message) f k) c.if-taken.false seen;
    }

pub returns-then-taken-clause-status : goal.returns-then-taken-clause-status
returns-then-taken-clause-status c =
    c.in_ok-taken.ensures.status ∙ ap (after c.args.process.now.status) c.if-taken.true

pub returns-clause-status : goal.returns-clause-status
returns-clause-status c = c.in_ok-taken.ensures.status ∙ ap (after c.args.process.now.status) c.if-taken.false
