use Rattle.std.proofs.Common.{◌≡◌, vec_len}
use Rattle.pf_farm.specs.Farms.{opened_farm}
use Rattle.pf_tests_farm.proofs.scene.seated.Given as goal

abbrev pub invariant-projects : goal.invariant-projects
invariant-projects g l = record {
  seats : vec_len l.seats ≡ l.project-index;
  farm : l.farm ≡ opened_farm l.fn.farm.workers l.project-index;
}
