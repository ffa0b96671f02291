use Rattle.std.proofs.Common.{ap, length, arith}
use Rattle.pf_nodes.proofs.Mails.{length-values}
use Rattle.pf_nodes.proofs.mail.MailList.mark.Goals as goal

pub returns-clause-within : goal.returns-clause-within
returns-clause-within g c =
    let m = c.self.invariant in let within = m.within in
    omega (arith, within, length-values c.self.inside.nodes.items m.full, ap (λ v. length v.items) c.self.view_is)
