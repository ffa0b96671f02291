use Rattle.std.proofs.Common.{Ok, refl, subst}
use Rattle.std.specs.Prelude.{IfOk}
use Rattle.std.proofs.lemmas.Result.{IfOk-weaker}
use Rattle.pf_hunt.specs.Notices.{HearsSome}
use Rattle.pf_hunt.proofs.Hearing.{hears_weaker}
use Rattle.pf_cli.specs.Args.{view_of_hunt_args}
use Rattle.pf_command.specs.Hunts.{HuntAnswers, HuntNotifies}
use Rattle.pf_command.specs.Streams.{IsAnsweredSo, PrintsAnswer, streams}
use Rattle.pf_command.proofs.Streaming.{answered, handed_on_source, sent_as, source_ends, unread_ends}
use Rattle.pf_errors.specs.declared.fault.OrNoMemory.TheVariants.{NoMemory}
use Rattle.pf_command.proofs.hunt.hunt_source.Goals as goal

pub returns-in_err-bytes-clause-served : goal.returns-in_err-bytes-clause-served
returns-in_err-bytes-clause-served g c =
    handed_on_source (HuntAnswers (view_of_hunt_args c.args.asked.now.args.now)) _ _ c.from_residual.result
    c.in_err-bytes.field-0.0 c.from_residual.ensures
    (unread_ends (HuntAnswers (view_of_hunt_args c.args.asked.now.args.now)) _ _ _ _ _ _ c.in_err-bytes.field-0.0
    c.in_err-bytes.ensures.counted)

pub returns-in_err-source-clause-served : goal.returns-in_err-source-clause-served
returns-in_err-source-clause-served g c =
    handed_on_source (HuntAnswers (view_of_hunt_args c.args.asked.now.args.now)) _ _
    c.from_residual-in_err-source.result NoMemory
    c.from_residual-in_err-source.ensures
    ((c.in_ok-bytes.ensures.kept, refl), refl)

pub returns-clause-served : goal.returns-clause-served
returns-clause-served g c =
    source_ends (HuntAnswers (view_of_hunt_args c.args.asked.now.args.now)) c.in_ok-bytes.bytes.items
    (g.R.Read.remaining c.args.reader.now.inner) _ _ _ _ _ _ _ c.in_ok-bytes.ensures.front
    c.in_ok-bytes.ensures.kept
    c.print_hunt.result
    (sent_as (HuntAnswers (view_of_hunt_args c.args.asked.now.args.now)) c.in_ok-source.source
    c.in_ok-bytes.bytes.items _ _ _ _
    c.print_hunt.result c.in_ok-source.ensures c.print_hunt.ensures.sent)

pub returns-clause-heard : goal.returns-clause-heard
returns-clause-heard g c =
    let h = view_of_hunt_args c.args.asked.now.args.now in
    let bytes = c.in_ok-bytes.bytes.items in
    let old = c.args.seeds.now in
    let new = c.print_hunt.new.seeds in
    let heard = g.S.HuntObserver.Heard in
    let u0 = g.R.Read.remaining c.args.reader.now.inner in
    let u1 = g.R.Read.remaining c.take_front.new.self.inner in
    let w0 = g.W.Write.contents c.args.writer.now.inner in
    let w1 = g.W.Write.contents c.print_hunt.new.writer.inner in
    let m0 = c.args.reader.now.failures.total in
    let m1 = c.take_front.new.self.failures.total in
    let n0 = c.args.writer.now.failures.total in
    let n1 = c.print_hunt.new.writer.failures.total in
    IfOk-weaker c.print_hunt.result (λ s. HearsSome heard old
    (λ ns. PrintsAnswer (HuntNotifies h ns bytes) w0 w1 n0 n1 (Ok s)) new)
    (λ s. HearsSome heard old (λ ns. IsAnsweredSo (HuntNotifies h ns) (streams u0 w0 m0 n0) (streams u1 w1 m1 n1) s)
    new)
    (λ s.
    hears_weaker heard (λ ns. PrintsAnswer (HuntNotifies h ns bytes) w0 w1 n0 n1 (Ok s))
    (λ ns. IsAnsweredSo (HuntNotifies h ns) (streams u0 w0 m0 n0) (streams u1 w1 m1 n1) s) old new
    (λ ns k. answered (HuntNotifies h ns) bytes u0 u1 w0 w1 m0 m1 n0 n1 c.in_ok-bytes.ensures.front
    c.in_ok-bytes.ensures.kept (Ok s) k))
    (subst (λ b. IfOk c.print_hunt.result (λ s.
    HearsSome heard old (λ ns. PrintsAnswer (HuntNotifies h ns b) w0 w1 n0 n1 (Ok s)) new)) c.in_ok-source.ensures
    c.print_hunt.ensures.heard)
