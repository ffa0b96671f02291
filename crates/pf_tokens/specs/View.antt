-- What the code's tokens stand for.
use Rattle.std.specs.Prelude.{List, map}
use Rattle.pf_tokens.specs.declared.numbered_token.NumberedKind.{NumberedKind as CodeNumberedKind}
use Rattle.pf_tokens.specs.declared.numbered_token.NumberedKind.TheVariants as kinds
use Rattle.pf_tokens.specs.declared.numbered_token.NumberedToken.{NumberedToken as CodeNumberedToken}
use Rattle.pf_tokens.specs.NumberedTokens.{NumberedKind, integer, atom, variable, anonymous, text, own_module, dot}
use Rattle.pf_tokens.specs.NumberedTokens.{mark, reserved, NumberedToken}

abbrev pub kind_of : CodeNumberedKind → NumberedKind
kind_of (kinds.Integer n) = integer n.value
kind_of (kinds.Atom a) = atom a.0
kind_of (kinds.Variable x) = variable x.0
kind_of kinds.Anonymous = anonymous
kind_of (kinds.Text cs) = text cs.now
kind_of kinds.OwnModule = own_module
kind_of kinds.Dot = dot
kind_of (kinds.Mark m) = mark m
kind_of (kinds.Reserved r) = reserved r

abbrev pub numbered_token_of : CodeNumberedToken → NumberedToken
numbered_token_of t = record { kind = kind_of t.kind; at = t.at }

abbrev pub token_list : List CodeNumberedToken → List NumberedToken
token_list ts = map numbered_token_of ts
