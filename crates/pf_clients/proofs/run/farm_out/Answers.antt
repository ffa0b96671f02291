use Rattle.pf_farm.proofs.Worked.{idle_are_free}
use Rattle.pf_clients.proofs.run.farm_out.Goals as goal

pub work_all-requires-clause-free : goal.work_all-requires-clause-free
work_all-requires-clause-free g c κs within = idle_are_free c.args.seats.now c.requires.idle
