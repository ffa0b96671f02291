use Rattle.std.proofs.Common.{sym, ◌∙◌, refl}
use Rattle.pf_terms.specs.Term.{value_of}
use Rattle.pf_system.proofs.Acting.{send_refused}
use Rattle.pf_system.proofs.shared.Shared.send.Goals as goal

pub returns-in_default : goal.returns-in_default
returns-in_default c =
    let b = c.args.self.now in
    send_refused c.args.pid b b _ (value_of c.args.to) (value_of c.args.message)
    (λ d e. sym c.in_default.is ∙ c.receiver.ensures d e)
    c.raising.ensures refl
