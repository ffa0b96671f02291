use Rattle.std.proofs.Common.{refl}
use Rattle.pf_cli.specs.Args.{steps}
use Rattle.pf_words.proofs.Ends.{unopened}
use Rattle.pf_words.proofs.work.work_on_steps.Goals as goal

pub returns-in-Err : goal.returns-in-Err
returns-in-Err g c = rw c.in-Some.is (unopened steps _ _ _ _ _ _ _ refl refl refl c.end-in-Err.ensures)
