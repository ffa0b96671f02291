use Rattle.std.proofs.Common.{◌≡◌, None, refl, rules}
use Rattle.pf_grammar.specs.Parse.{first_form}
use Rattle.pf_tokens.specs.View.{token_list}
use Rattle.pf_grammar.proofs.Whole.{tree_complete, begins_complete}
use Rattle.pf_reader.proofs.Head.{has_head}
use Rattle.pf_reader.proofs.read.tree_fault.Goals as goal

pub returns-in_default : goal.returns-in_default
returns-in_default c =
    let none : first_form c.args.atoms.now (token_list c.args.tokens.now) ≡ None = search rules in
    rw c.refusal.ensures
    (λ h. let some = begins_complete c.args.atoms.now (token_list c.args.tokens.now) h.0 h.1 h.2 in absurd (cc), refl)

pub returns-in-Ok : goal.returns-in-Ok
returns-in-Ok c =
    rw c.refusal-in-Ok.ensures (
      has_head c.args.atoms.now (token_list c.args.tokens.now) _ c.first_form.result _
          c.first_form.ensures c.in-Some.is,
      λ m d. let some = tree_complete c.args.atoms.now (token_list c.args.tokens.now) m d in
          let none = c.requires in absurd (cc),
      c.in-Ok.ensures,
    )
