use Rattle.std.proofs.Common.{ap, sym, subst}
use Rattle.pf_hunt_suite.specs.Stages.{Ends, asked_of}
use Rattle.pf_hunt_suite.specs.declared.end.RootEnd.TheVariants.{Stopped}
use Rattle.pf_hunt_suite.proofs.Ended.{ends_stopped}
use Rattle.pf_hunt_suite.proofs.stage.OpenRoot.stopped.Goals as goal

pub returns : goal.returns
returns c h known may past =
    rw (c.seeds.ensures, known.hunted) (ends_stopped h c.args.self.now known may past)
