use Rattle.std.proofs.Common.{◌∙◌, sym, ap, length}
use Rattle.pf_nodes.proofs.Mails.{length-values}
use Rattle.pf_nodes.proofs.mail.MailList.len.Goals as goal

pub returns : goal.returns
returns g c = let m = c.self.invariant in m.count_is ∙ sym (length-values c.self.inside.nodes.items m.full)
    ∙ ap (λ v. length v.items) c.self.view_is
