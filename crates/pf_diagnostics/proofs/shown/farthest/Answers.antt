use Rattle.std.proofs.lemmas.List.{take_min}
use Rattle.pf_diagnostics.specs.declared.shown.TheConstants.{MOST_SHOWN}
use Rattle.pf_diagnostics.proofs.shown.farthest.Goals as goal

pub returns : goal.returns
returns c = rw c.min-shown.ensures (take_min MOST_SHOWN c.args.after.now)
