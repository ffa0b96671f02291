use Rattle.std.proofs.Common.{◌≡◌, ◌+◌, suc, [], ◌∷◌, ◌++◌, drop, arith, rules, drop-cons}
use Rattle.std.specs.Prelude.{map, flat_map}
use Rattle.pf_tokens.specs.TokenKinds.{placed_of}
use Rattle.pf_tokens.specs.NumberedTokens.{atom_name, atoms_after, numbered_token_in, variable_name, variables_of}
use Rattle.pf_tokens.specs.declared.numbered_token.NumberedToken.{NumberedToken as CodeNumberedToken}
use Rattle.pf_tokens.specs.View.{numbered_token_of}
use Rattle.pf_tokens.proofs.Numbering.{names_go, numbered_as, token_list_go}
use Rattle.pf_tokens.proofs.number.number_all.Goals as goal

pub loop-token-preserved : goal.loop-token-preserved
loop-token-preserved c =
    let ts = c.args.tokens.now in
    let i = c.loop-token.token-index in
    let x = c.token-item.result in
    let next = drop (i + 1) ts in
    let up : suc i ≡ i + 1 = omega arith in
    let step = drop-cons ts i x (omega arith) in
    let is = c.token-item.is in
    let e : drop i ts ≡ x ∷ next = cc in
    let a = names_go (drop i ts) next x e (λ t. atom_name t.kind) _ _ _ c.in_ok-kind.ensures.atoms
    c.loop-token.invariant.atoms in
    let v = names_go (drop i ts) next x e (λ t. variable_name t.kind) _ _ _ c.in_ok-kind.ensures.variables
    c.loop-token.invariant.variables in
    let s = c.in_ok-kind.ensures.kind (flat_map (λ t. atom_name t.kind) (map placed_of next))
    (flat_map (λ t. variable_name t.kind) (map placed_of next)) in
    let at = c.in_ok-at.ensures.same in
    let t : CodeNumberedToken = record { kind = c.in_ok-kind.kind; at = c.in_ok-at.at } in
    let same : numbered_token_of t ≡ numbered_token_in (atoms_after c.args.atoms.now (map placed_of ts))
    (variables_of (map placed_of ts)) (placed_of x) =
    numbered_as c.in_ok-kind.kind c.in_ok-at.at x _ _ _ _ s a v at in
    let pushed : c.push.new.self.items ≡ c.loop-token.found.items ++ t ∷ [] = search rules in
    record {
      atoms = a;
      variables = v;
      token_list = token_list_go (drop i ts) next x e _ _ _ _ t _ pushed same c.loop-token.invariant.token_list;
      atom_room = c.in_ok-kind.ensures.room.0;
      variable_room = c.in_ok-kind.ensures.room.1;
    }
