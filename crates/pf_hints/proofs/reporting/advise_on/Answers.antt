use Rattle.std.proofs.lemmas.Result.{IfOk-weaker}
use Rattle.pf_hints.specs.Advised.{IsAdvice}
use Rattle.pf_hints.specs.Faults.{IsOfFault}
use Rattle.pf_hints.proofs.reporting.advise_on.Goals as goal

pub returns : goal.returns
returns c =
    let source = c.args.source.now in
    let fault = c.args.fault in
    IfOk-weaker c.advise.result (IsAdvice source fault.code fault.offset) (IsOfFault source)
    (λ a h. (fault.code, fault.offset, c.requires, h)) c.advise.ensures
