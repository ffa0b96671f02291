use Rattle.std.proofs.Common.{◌≡◌, sym, ap, ◌∙◌, subst}
use Rattle.std.specs.Prelude.{Option, MatchOption, if◌then◌else◌, is_some, length}
use Rattle.pf_terms.specs.declared.term.Term.{Term}
use Rattle.pf_loop.proofs.Words.{on_err}
use Rattle.pf_turns.specs.Turns.{IsStatusOf}
use Rattle.pf_turns.specs.declared.status.Status.{Status}
use Rattle.pf_turns.specs.declared.status.Status.TheVariants as status
use Rattle.pf_turns.proofs.Stayed.{status_same}
use Rattle.pf_inbox.specs.Received.{Receives}
use Rattle.pf_machine.proofs.machine.Machine.receive.Goals as goal

abbrev after : Status → Option Term → Status
after x o = if is_some o then status.Goes else x

pub returns-in_err-taken-clause-over : goal.returns-in_err-taken-clause-over
returns-in_err-taken-clause-over c =
    let h = c.args.heap.now in
    let g = c.receive.new.heap in
    let same = c.in_err-taken.ensures.err.1 in (
      c.receive.ensures.words,
      subst (IsStatusOf g) (sym same)
          (status_same h g c.receive.ensures.keeps c.args.self.now.process.status c.requires.over.1),
    )

pub returns-in_err-taken-clause-err : goal.returns-in_err-taken-clause-err
returns-in_err-taken-clause-err c = on_err c.from_residual.result c.in_err-taken.ensures.err.0

pub returns-in-Some-clause-over : goal.returns-in-Some-clause-over
returns-in-Some-clause-over c =
    let goes = c.in_ok-taken.ensures.status ∙ ap (after c.args.self.now.process.status) c.in-Some.is in
    (c.receive.ensures.words, subst (IsStatusOf c.receive.new.heap) (sym goes) tt)

pub returns-in-Some-clause-received : goal.returns-in-Some-clause-received
returns-in-Some-clause-received c = λ m code entries d s fs ks r before.
    let own = c.args.setting.now.own in
    let b = c.args.inbox.now in
    let b' = c.receive.new.self in
    let k = c.receive.new.process in
    let g = c.receive.new.heap in (
      subst (Receives m own code d fs ks b b' g k.machine) c.in-Some.is
          (c.in_ok-taken.ensures.received m code entries d s fs ks r before),
      c.in_ok-taken.ensures.status ∙ ap (after c.args.self.now.process.status) c.in-Some.is,
      subst (λ (o : Option Term). MatchOption o (b'.mark ≡ length b'.messages) (λ t. b'.mark ≡ 0)) c.in-Some.is
          c.in_ok-taken.ensures.mark,
    )

pub returns-in-None-clause-over : goal.returns-in-None-clause-over
returns-in-None-clause-over c =
    let h = c.args.heap.now in
    let g = c.receive.new.heap in
    let x = c.args.self.now.process.status in
    let same = c.in_ok-taken.ensures.status ∙ ap (after x) c.in-None.is in (
      c.receive.ensures.words,
      subst (IsStatusOf g) (sym same)
          (status_same h g c.receive.ensures.keeps x c.requires.over.1),
    )

pub returns-in-None-clause-received : goal.returns-in-None-clause-received
returns-in-None-clause-received c = λ m code entries d s fs ks r before.
    let own = c.args.setting.now.own in
    let k = c.receive.new.process in (
      subst (Receives m own code d fs ks c.args.inbox.now c.receive.new.self c.receive.new.heap k.machine) c.in-None.is
          (c.in_ok-taken.ensures.received m code entries d s fs ks r before),
      c.in_ok-taken.ensures.status ∙ ap (after c.args.self.now.process.status) c.in-None.is ∙ r.waits,
    )
