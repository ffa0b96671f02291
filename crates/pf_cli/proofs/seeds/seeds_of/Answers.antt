use Rattle.std.proofs.Common.{◌∙◌, Some, ap}
use Rattle.pf_text.specs.Numbers.{long_number_of}
use Rattle.pf_cli.specs.Seeds.{seeds_between}
use Rattle.pf_cli.proofs.Undotted.{counted}
use Rattle.pf_cli.proofs.seeds.seeds_of.Goals as goal

pub returns-in-None : goal.returns-in-None
returns-in-None c =
    c.seeds_between-in-None.ensures
    ∙ ap (seeds_between (Some 0)) (c.long_number_of-in-None.ensures
    ∙ ap long_number_of c.as_bytes-in-None.ensures.value)
    ∙ counted c.args.text.now c.in-None.ensures.cases
