use Rattle.std.proofs.Common.{◌≡◌, true, rules}
use Rattle.std.proofs.lemmas.Str.Pattern.{contains_char}
use Rattle.pf_files.proofs.names.open.Goals as goal

pub returns-then-not-contains : goal.returns-then-not-contains
returns-then-not-contains g c k within is =
    let found : c.contains.result ≡ true =
    (contains_char 0 c.args.name.now c.contains.result c.contains.ensures.cases (search rules)).1 k within is in
    absurd cc
