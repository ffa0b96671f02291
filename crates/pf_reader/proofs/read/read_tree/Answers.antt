use Rattle.std.proofs.Common.{◌≡◌, Some, None, subst, rules}
use Rattle.std.specs.Prelude.{map}
use Rattle.pf_tokens.specs.TokenKinds.{placed_of}
use Rattle.pf_tokens.specs.NumberedTokens.{atoms_of, numbered_tokens}
use Rattle.pf_grammar.specs.Grammar.{tree_of}
use Rattle.pf_grammar.specs.Parse.{tree}
use Rattle.pf_tokens.specs.View.{token_list}
use Rattle.pf_reader.specs.Outcome.{IsTreeFault}
use Rattle.pf_grammar.proofs.Whole.{tree_sound, tree_complete}
use Rattle.pf_reader.proofs.read.read_tree.Goals as goal

pub returns-in-Ok-clause-found : goal.returns-in-Ok-clause-found
returns-in-Ok-clause-found c =
    let ts = map placed_of c.args.tokens.now in
    let read : tree (atoms_of ts) (numbered_tokens ts) ≡ Some (tree_of c.in-Ok.syntax) = search rules in
    tree_sound (atoms_of ts) (numbered_tokens ts) (tree_of c.in-Ok.syntax) read

pub returns-in-Ok-clause-only : goal.returns-in-Ok-clause-only
returns-in-Ok-clause-only c = λ m d.
    let ts = map placed_of c.args.tokens.now in
    let read : tree (atoms_of ts) (numbered_tokens ts) ≡ Some (tree_of c.in-Ok.syntax) = search rules in
    let whole = tree_complete (atoms_of ts) (numbered_tokens ts) m d in
    cc

pub returns-clause-only : goal.returns-clause-only
returns-clause-only c = λ m d.
    let ts = map placed_of c.args.tokens.now in
    let read : tree (atoms_of ts) (numbered_tokens ts) ≡ None = search rules in
    let whole = tree_complete (atoms_of ts) (numbered_tokens ts) m d in
    absurd (cc)

pub returns-clause-fault : goal.returns-clause-fault
returns-clause-fault c =
    let ts = map placed_of c.args.tokens.now in
    let atoms : c.in_ok-atoms.atoms ≡ atoms_of ts = search rules in
    let tokens : token_list c.deref-in-Err-Fault.result.now ≡ numbered_tokens ts = search rules in
    let reported = subst (λ us. IsTreeFault c.in_ok-atoms.atoms us c.args.end c.tree_fault.result) tokens
    c.tree_fault.ensures in
    subst (λ names. IsTreeFault names (numbered_tokens ts) c.args.end c.tree_fault.result) atoms reported
