use Rattle.std.proofs.Common.{rules}
use Rattle.std.proofs.lemmas.Str.Pattern.{strip_prefix_char}
use Rattle.pf_cli.proofs.Named.{stripped}
use Rattle.pf_cli.proofs.values.file_at.Goals as goal

pub returns : goal.returns
returns c = stripped c.args.word.now c.strip_prefix.result
    (strip_prefix_char 64 c.args.word.now c.strip_prefix.result c.strip_prefix.ensures.cases (search rules))
