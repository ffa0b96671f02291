use Rattle.std.proofs.Common.{ap, arith, length}
use Rattle.pf_nodes.proofs.Mails.{length-values, mail_found, mail_stepped, no_more}
use Rattle.pf_nodes.proofs.mail.MailList.pass.Goals as goal

pub unreachable-requires : goal.unreachable-requires
unreachable-requires g c =
    let s = c.self.inside in let seen = c.self.view_is in let asked = c.requires in
    let end = no_more c.self.invariant c.in_default.is in
    omega (
      arith,
      end,
      asked,
      ap (λ m. m.mark) seen,
      ap (λ m. length m.items) seen,
      length-values s.nodes.items c.self.invariant.full,
    )

pub get-requires : goal.get-requires
get-requires g c = mail_found c.self.invariant c.in-Some.node_ref c.in-Some.is

pub invariant_of-self : goal.invariant_of-self
invariant_of-self g c = (mail_stepped c.self.invariant c.in-Some.node_ref c.in-Some.is c.get.result.now c.get.ensures).0
