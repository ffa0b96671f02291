use Rattle.std.proofs.Common.{◌≡◌, ◌∙◌, sym, ap, subst, length, Option, Some, None, arith}
use Rattle.std.specs.Prelude.{IfSome, MatchOption, option_copied, slice_get}
use denote.Ref.{Bor}
use Rattle.pf_nodes.proofs.Mails.{length-values, mail_found, mail_stepped, no_more}
use Rattle.pf_nodes.proofs.mail.MailList.marked.Goals as goal

module _ {T : Type 0} where
  -- the reference is to an item of which P holds
  lent : (End : Type 0) (P : T → Type 0) (o : Option (Bor T)) (v : T) → option_copied o ≡ Some v → P v
      → MatchOption o End (λ t. P t.now)
  lent End P None v e p = absurd cc
  lent End P (Some r) v e p = let same : r.now ≡ v = cc in subst P (sym same) p

  whatever : (Q : Type 0) (o : Option (Bor T)) → Q → IfSome o (λ _. Q)
  whatever Q None q = tt
  whatever Q (Some x) q = q

pub get-requires : goal.get-requires
get-requires g c = mail_found c.self.invariant c.in-Some.node_ref c.in-Some.is

pub returns-in-Some-clause-item : goal.returns-in-Some-clause-item
returns-in-Some-clause-item g c =
    let seen = c.self.view_is in let m = c.args.self.now in
    let step = mail_stepped c.self.invariant c.in-Some.node_ref c.in-Some.is c.get.result.now c.get.ensures in
    lent _ (λ t. slice_get m.items m.mark ≡ Some t) c.as_ref.result step.2.0 (c.as_ref.ensures.value ∙ step.2.1)
    ((λ i. slice_get (sym seen i).items (sym seen i).mark) ∙ step.2.2)

pub returns-in-Some-clause-within : goal.returns-in-Some-clause-within
returns-in-Some-clause-within g c =
    let s = c.self.inside in let seen = c.self.view_is in
    let step = mail_stepped c.self.invariant c.in-Some.node_ref c.in-Some.is c.get.result.now c.get.ensures in
    let below = step.1 in
    whatever _ c.as_ref.result (omega (
      arith,
      below,
      ap (λ m. m.mark) seen,
      ap (λ m. length m.items) seen,
      length-values s.nodes.items c.self.invariant.full,
    ))

pub returns-in-None-clause-item : goal.returns-in-None-clause-item
returns-in-None-clause-item g c =
    let s = c.self.inside in let seen = c.self.view_is in let end = no_more c.self.invariant c.in-None.is in
    omega (
      arith,
      end,
      ap (λ m. m.mark) seen,
      ap (λ m. length m.items) seen,
      length-values s.nodes.items c.self.invariant.full,
    )
