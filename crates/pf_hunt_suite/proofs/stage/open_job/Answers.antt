use Rattle.std.proofs.Common.{◌≡◌, ◌≤◌, ◌<◌, ◌-◌, List, Bor, ℕ, map, refl, sym, subst, arith}
use Rattle.pf_errors.specs.declared.code.Code.{Code}
use Rattle.pf_errors.specs.declared.code.Code.TheVariants.{NoProperty}
use Rattle.pf_errors.specs.declared.fault.OrNoMemory.TheVariants as fault
use Rattle.pf_property.specs.Views.{property_of}
use Rattle.pf_verdicts.specs.Further.{AreProperties, AreRefused}
use Rattle.pf_hunt.specs.Hunts.{fails, none_is}
use Rattle.pf_hunt.proofs.Firsts.{no_seeds}
use Rattle.pf_hunt_suite.specs.Ends.{JobEnds, failures_by, hunted, no_property, none_fails}
use Rattle.pf_hunt_suite.specs.Stages.{IsStageOf, asked_of, goes_on, over}
use Rattle.pf_hunt_suite.specs.declared.end.RootEnd.TheVariants.{NoFailure, Refused}
use Rattle.pf_hunt_suite.specs.declared.stage.RootStage.TheVariants.{Over}
use Rattle.pf_hunt_suite.proofs.stage.open_job.Goals as goal

pub returns-in-Err-Fault : goal.returns-in-Err-Fault
returns-in-Err-Fault c =
    let r = c.args.hunted in
    let h = asked_of r in
    let code = c.in-Err-Fault.code in
    let refused : AreRefused r.«module».now.code.atoms h.further (fault.Fault code) =
    subst (λ (xs : List (Bor (List ℕ))). AreRefused r.«module».now.code.atoms (map (λ s. s.now) xs) (fault.Fault code))
    c.as_slice.ensures.value (rw c.in-Err-Fault.field-0-is at c.in-Err-Fault.ensures.fault) in
    rw c.in-Err-Fault.field-0-is (subst (λ (k : Code). IsStageOf r (Over (Refused k))) (sym refused.0)
    (over (Refused NoProperty) (no_property c.args.job c.requires refused.1)))

pub returns-then-args : goal.returns-then-args
returns-then-args c =
    let r = c.args.hunted in
    let h = asked_of r in
    let ps = map property_of c.in-Ok.further.items in
    let are : AreProperties r.«module».now.code.atoms h.further ps =
    subst (λ (xs : List (Bor (List ℕ))). AreProperties r.«module».now.code.atoms (map (λ s. s.now) xs) ps)
    c.as_slice.ensures.value c.in-Ok.ensures.read in
    let none = no_seeds (fails (failures_by h ps)) h.strategy c.args.job.asked h.seeds.0 h.seeds.1
    (omega (arith, c.if-args.true)) in
    let e : h.seeds.1 - h.seeds.0 ≡ 0 = omega (arith, c.if-args.true) in
    over (NoFailure 0) (hunted c.args.job ps (NoFailure 0) c.requires are
    (subst (λ n. JobEnds h ps c.args.job (NoFailure n)) e (none_fails (none_is none))))

pub returns : goal.returns
returns c =
    let r = c.args.hunted in
    let h = asked_of r in
    let ps = map property_of c.in-Ok.further.items in
    let are : AreProperties r.«module».now.code.atoms h.further ps =
    subst (λ (xs : List (Bor (List ℕ))). AreProperties r.«module».now.code.atoms (map (λ s. s.now) xs) ps)
    c.as_slice.ensures.value c.in-Ok.ensures.read in
    let from : h.seeds.0 ≤ h.seeds.0 = omega arith in
    let left : h.seeds.0 < h.seeds.1 = omega (arith, c.if-args.false) in
    goes_on _ (record {
      hunted = refl;
      asked = c.requires;
      strategy = refl;
      properties = are;
      leaks = refl;
      from = from;
      left = left;
      none = none_is (no_seeds (fails (failures_by h ps)) h.strategy c.args.job.asked h.seeds.0 h.seeds.0
          (omega arith));
    })
