use Rattle.std.proofs.Common.{drop}
use Rattle.std.specs.Prelude.{map}
use Rattle.pf_tokens.specs.TokenKinds.{placed_of}
use Rattle.pf_reader.specs.PatternAlone.{LacksModule}
use Rattle.pf_reader.proofs.pattern_alone.lacks_module.Given as goal

-- all lack it where those that are left do
abbrev pub invariant-loop-token : goal.invariant-loop-token
invariant-loop-token l = record {
  back : LacksModule (map placed_of (drop l.token-index l.tokens)) → LacksModule (map placed_of l.tokens);
  on : LacksModule (map placed_of l.tokens) → LacksModule (map placed_of (drop l.token-index l.tokens));
}
