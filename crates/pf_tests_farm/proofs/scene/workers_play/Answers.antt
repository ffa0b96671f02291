use Rattle.pf_farm.proofs.Worked.{idle_are_free}
use Rattle.pf_tests_farm.proofs.scene.workers_play.Goals as goal

pub work_all-requires-clause-free : goal.work_all-requires-clause-free
work_all-requires-clause-free g c κs within = idle_are_free c.args.seats.now c.requires.idle
