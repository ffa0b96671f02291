use Rattle.std.proofs.Common.{◌≡◌, ℕ, ◌==◌, true, T, ◌∙◌, ap, sym, subst, length, eqb→eq}
use Rattle.pf_nodes.proofs.Mails.{no_nodes}
use Rattle.pf_nodes.proofs.mail.MailList.drop.Goals as goal

zero_of : (n : ℕ) → (n == 0) ≡ true → n ≡ 0
zero_of n e = eqb→eq n 0 (subst T (sym e) tt)

pub end-requires : goal.end-requires
end-requires g c =
    let none = zero_of (length c.loop-self.self.items) (sym c.is_empty.ensures ∙ c.loop-self-test.false) in
    no_nodes c.self.inside.nodes.items c.self.invariant.full (ap (λ m. length m.items) c.self.view_is ∙ none)
