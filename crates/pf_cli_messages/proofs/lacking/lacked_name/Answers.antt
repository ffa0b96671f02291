use Rattle.std.proofs.Common.{Some, ap, sym, ◌∙◌}
use Rattle.pf_tokens.specs.TokenKinds.{kind_of}
use Rattle.pf_cli_messages.specs.Lacked.{lacked_name}
use Rattle.pf_cli_messages.proofs.Absent.{not_lacked}
use Rattle.pf_cli_messages.proofs.lacking.lacked_name.Goals as goal

pub returns-in-Some : goal.returns-in-Some
returns-in-Some c =
    let names = c.args.atoms.now in
    not_lacked names c.in-Atom.name.items c.in-Some.field-0.0
    (c.in-Some.ensures.found ∙ ap (λ t. Some t) c.deref.ensures.value)
    ∙ sym (ap (λ k. lacked_name names (kind_of k)) c.in-Atom.is)
