use Rattle.std.proofs.Common.{◌≡◌, ◌∙◌, Some, map, ap, sym}
use Rattle.pf_tokens.specs.TokenKinds.{placed_of}
use Rattle.pf_cli_messages.specs.Lacked.{lacked}
use Rattle.pf_cli_messages.proofs.lacking.lacked_atom.Goals as goal

-- the text has these tokens alone
pub returns-in-Some : goal.returns-in-Some
returns-in-Some c = λ ts has.
    let names = c.args.atoms.now in
    let only = c.in_ok-found.ensures.only ts has in
    let same : ts ≡ map placed_of c.in_ok-found.found.items = cc in
    ap (λ t. Some t) c.in_ok-from_slice-in-Some.ensures.items ∙ c.in-Some.ensures
    ∙ ap (λ found. lacked names (map placed_of found)) c.deref.ensures.value ∙ ap (lacked names) (sym same)

pub returns : goal.returns
returns c = λ ts has.
    let names = c.args.atoms.now in
    let only = c.in_ok-found.ensures.only ts has in
    let same : ts ≡ map placed_of c.in_ok-found.found.items = cc in
    c.in-None.ensures ∙ ap (λ found. lacked names (map placed_of found)) c.deref.ensures.value
    ∙ ap (lacked names) (sym same)
