use Rattle.pf_tokens.proofs.Numbers.{first_there, stays_first}
use Rattle.pf_tokens.proofs.number.number_of.Goals as goal

pub returns-clause-number : goal.returns-clause-number
returns-clause-number c = λ more. (stays_first more c.enter.new.self c.args.name.now c.in_ok-number.number.0
    (first_there c.enter.new.self c.args.name.now c.in_ok-number.number.0 c.len.ensures.distinct
    c.in_ok-number.ensures.entered)).0
