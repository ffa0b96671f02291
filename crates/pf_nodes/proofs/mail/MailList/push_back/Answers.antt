use Rattle.std.proofs.Common.{◌∙◌, ◌++◌, ◌∷◌, [], sym, ap, subst, arith, length}
use Rattle.std.specs.Prelude.{MatchOption, ⊤}
use Rattle.pf_nodes.specs.NodeRefs.{IsNodeRef}
use Rattle.pf_nodes.specs.Mail.{mail}
use Rattle.pf_nodes.proofs.Mails.{length-values, last_placed, new_placed, mail_added}
use Rattle.pf_nodes.proofs.mail.MailList.push_back.Goals as goal

pub returns-then-self-clause-spare : goal.returns-then-self-clause-spare
returns-then-self-clause-spare g c =
    let s = c.self.inside in let full = c.if-self.true in let len = c.self.invariant.count_is in
    λ spare below. absurd (omega (
      arith,
      full,
      len,
      below,
      ap (λ m. length m.items) c.self.view_is,
      length-values s.nodes.items c.self.invariant.full,
    ))

pub join-requires-clause-before : goal.join-requires-clause-before
join-requires-clause-before g c =
    let s = c.self.inside in let a = c.add-node_ref.ensures in
    subst (λ l. MatchOption s.back ⊤ (IsNodeRef l)) (sym a.items)
    (last_placed c.self.invariant c.add-node_ref.result c.of.result.value a.fresh)

pub join-requires-clause-after : goal.join-requires-clause-after
join-requires-clause-after g c =
    let a = c.add-node_ref.ensures in let node_ref = c.add-node_ref.result in
    subst (λ l. IsNodeRef l node_ref) (sym a.items) (new_placed c.self.invariant node_ref c.of.result.value a.fresh)

pub invariant_of-self : goal.invariant_of-self
invariant_of-self g c =
    let a = c.add-node_ref.ensures in
    (mail_added c.self.invariant c.add-node_ref.result c.of.result.value a.fresh c.args.value
    (ap (λ n. n.next) (c.of.ensures) ∙ ap (λ n. n.next) c.deref_mut-2.ensures.value) (ap (λ n. n.value) c.of.ensures)
    c.add-node_ref.new.self.items c.join.new.self.items c.or-self-inside.result c.or-self-inside-2.result a.items
    c.join.ensures c.or-self-inside.ensures c.or-self-inside-2.ensures).0

pub returns-clause-pushed : goal.returns-clause-pushed
returns-clause-pushed g c =
    let s = c.self.inside in let a = c.add-node_ref.ensures in let seen = c.self.view_is in
    let added = mail_added c.self.invariant c.add-node_ref.result c.of.result.value a.fresh c.args.value
    (ap (λ n. n.next) (c.of.ensures) ∙ ap (λ n. n.next) c.deref_mut-2.ensures.value) (ap (λ n. n.value) c.of.ensures)
    c.add-node_ref.new.self.items c.join.new.self.items c.or-self-inside.result c.or-self-inside-2.result a.items
    c.join.ensures c.or-self-inside.ensures c.or-self-inside-2.ensures in
    ap (λ l. mail l s.position) added.1 ∙ (λ i. mail ((seen i).items ++ c.args.value ∷ []) (seen i).mark)
