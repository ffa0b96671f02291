-- What an inbox answers to a `receive`.
use Rattle.std.specs.Prelude.{◌≡◌, ℕ, List, ◌++◌, Some, None}
use Rattle.pf_terms.specs.Value.{Value}
use Rattle.pf_terms.specs.Term.{value_of}
use Rattle.pf_terms.specs.declared.term.Term.{Term}
use Rattle.pf_syntax.specs.Tree.{Clauses}
use Rattle.pf_syntax.specs.Module.{Checked}
use Rattle.pf_syntax.specs.Over.{part_over}
use Rattle.pf_syntax.specs.declared.node.Operand.{Operand}
use Rattle.pf_patterns.specs.Slots.{activation}
use Rattle.pf_patterns.specs.Substitution.{sub, sub_clauses}
use Rattle.pf_model.specs.Module.{module_of}
use Rattle.pf_model.specs.Receive.{selected}

-- slots were pushed, and over them the body is that of the oldest message that a clause picks; this message is taken
pub record TakesMessage (m : Checked) (own base : ℕ) (before after' : List Term) (ks : Clauses)
    (mail mail' : List Value) (body : Operand) (message : Term) : Type 0 where
  pub added : List Term
  pub grown : after' ≡ before ++ added
  pub taken : selected (module_of m) own (sub_clauses (activation before base) ks) mail ≡ Some (record {
    body = sub (activation after' base) (part_over m.tables body);
    message = value_of message;
    others = mail';
  })

-- no message is picked, and all stays
pub record TakesNothing (m : Checked) (own base : ℕ) (before after' : List Term) (ks : Clauses)
    (mail mail' : List Value) : Type 0 where
  pub nothing : selected (module_of m) own (sub_clauses (activation before base) ks) mail ≡ None
  pub mailbox : mail' ≡ mail
  pub slots : after' ≡ before
