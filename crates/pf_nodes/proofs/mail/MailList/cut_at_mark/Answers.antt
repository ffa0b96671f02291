use Rattle.std.proofs.Common.{◌∙◌, sym, ap, subst, arith, length}
use Rattle.std.specs.Prelude.{MatchOption, ⊤, remove, slice_get}
use Rattle.std.specs.Option.{option_or}
use Rattle.pf_nodes.specs.NodeRefs.{IsNodeRef}
use Rattle.pf_nodes.specs.Mail.{mail}
use Rattle.pf_nodes.proofs.Mails.{length-values, no_more, mail_found, mail_cut, mail_left}
use Rattle.pf_nodes.proofs.mail.MailList.cut_at_mark.Goals as goal

pub unreachable-requires : goal.unreachable-requires
unreachable-requires g c =
    let s = c.self.inside in let seen = c.self.view_is in let asked = c.requires in
    let end = no_more c.self.invariant c.in_default.is in
    omega (
      arith,
      end,
      asked,
      ap (λ m. m.mark) seen,
      ap (λ m. length m.items) seen,
      length-values s.nodes.items c.self.invariant.full,
    )

pub remove-requires : goal.remove-requires
remove-requires g c =
    mail_found c.self.invariant c.in-Some.node_ref c.in-Some.is

pub join-requires-clause-before : goal.join-requires-clause-before
join-requires-clause-before g c =
    let r = c.remove.ensures in let rest = c.remove.new.self.items in
    let l = mail_cut c.self.invariant c.in-Some.node_ref c.in-Some.is c.remove.result.value rest r.node r.items in
    subst (λ o. MatchOption o ⊤ (IsNodeRef rest))
    (sym (ap (λ n. n.prev) (c.deref.ensures ∙ c.into_box-node.ensures))) l.prev_there

pub join-requires-clause-after : goal.join-requires-clause-after
join-requires-clause-after g c =
    let r = c.remove.ensures in let rest = c.remove.new.self.items in
    let l = mail_cut c.self.invariant c.in-Some.node_ref c.in-Some.is c.remove.result.value rest r.node r.items in
    subst (λ o. MatchOption o ⊤ (IsNodeRef rest))
    (sym (ap (λ n. n.next) (c.deref-2.ensures ∙ c.into_box-node.ensures))) l.next_there

pub invariant_of-self : goal.invariant_of-self
invariant_of-self g c =
    let r = c.remove.ensures in let rest = c.remove.new.self.items in let n = c.remove.result.value in
    let l = mail_cut c.self.invariant c.in-Some.node_ref c.in-Some.is n rest r.node r.items in
    let prev = c.deref.result.now.prev in let next = c.deref-2.result.now.next in
    (mail_left c.self.invariant c.in-Some.node_ref c.in-Some.is n rest l c.join.new.self.items c.or-self-inside.result
    c.or-self-inside-2.result prev next
    (ap (λ m. m.prev) (c.deref.ensures ∙ c.into_box-node.ensures))
    (ap (λ m. m.next) (c.deref-2.ensures ∙ c.into_box-node.ensures)) c.join.ensures
    (c.or-self-inside.ensures ∙ ap (λ o. option_or o next) c.and.ensures)
    (c.or-self-inside-2.ensures ∙ ap (λ o. option_or o prev) c.and-2.ensures)).0

pub returns-clause-item : goal.returns-clause-item
returns-clause-item g c =
    let r = c.remove.ensures in let rest = c.remove.new.self.items in let seen = c.self.view_is in
    let l = mail_cut c.self.invariant c.in-Some.node_ref c.in-Some.is c.remove.result.value rest r.node r.items in
    (λ i. slice_get (sym seen i).items (sym seen i).mark) ∙ l.item ∙ sym (ap (λ m. m.value) c.into_box-node.ensures)

pub returns-clause-others : goal.returns-clause-others
returns-clause-others g c =
    let s = c.self.inside in let r = c.remove.ensures in let rest = c.remove.new.self.items in
    let n = c.remove.result.value in
    let l = mail_cut c.self.invariant c.in-Some.node_ref c.in-Some.is n rest r.node r.items in
    let prev = c.deref.result.now.prev in let next = c.deref-2.result.now.next in
    let seen = c.self.view_is in let kept = mail_left c.self.invariant c.in-Some.node_ref c.in-Some.is n rest l
    c.join.new.self.items c.or-self-inside.result c.or-self-inside-2.result prev next
    (ap (λ m. m.prev) (c.deref.ensures ∙ c.into_box-node.ensures))
    (ap (λ m. m.next) (c.deref-2.ensures ∙ c.into_box-node.ensures)) c.join.ensures
    (c.or-self-inside.ensures ∙ ap (λ o. option_or o next) c.and.ensures)
    (c.or-self-inside-2.ensures ∙ ap (λ o. option_or o prev) c.and-2.ensures) in
    ap (λ l. mail l s.position) kept.1 ∙ (λ i. mail (remove (seen i).items (seen i).mark) (seen i).mark)
