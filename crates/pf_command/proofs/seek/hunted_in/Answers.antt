use Rattle.std.proofs.Common.{◌≡◌, List, Bor, ℕ, map, Ok, Err, sym, ◌∙◌, subst}
use Rattle.pf_errors.specs.declared.code.Code.{Code}
use Rattle.pf_errors.specs.declared.fault.OrNoMemory.TheVariants.{Fault}
use Rattle.pf_property.specs.Views.{property_of}
use Rattle.pf_sched.specs.Views.{code_of}
use Rattle.pf_verdicts.specs.Further.{AreProperties, AreRefused}
use Rattle.pf_cli.specs.Args.{view_of_hunt_args}
use Rattle.pf_command.specs.Hunts.{HuntAsksFor, run_asked}
use Rattle.pf_command.proofs.Asking.{further_refused, not_hunted}
use Rattle.pf_command.proofs.seek.hunted_in.Goals as goal

pub returns-in-Err-Fault : goal.returns-in-Err-Fault
returns-in-Err-Fault c bytes of =
    let h = view_of_hunt_args c.args.args.now in
    let m = c.args.module in
    let asked : HuntAsksFor h h.sought m (Err (code_of c.in-Err-Fault.refusal)) =
    rw c.in-Err-Fault.field-0-is at c.in-Err-Fault.ensures in
    not_hunted h bytes m _ c.refused_as.result of
    (λ (k : Code) (is : Fault c.code.result ≡ Fault k).
    let same : c.code.result ≡ k = cc in
    subst (λ (z : Code). HuntAsksFor h h.sought m (Err z)) (sym c.code.ensures ∙ same) asked)
    c.refused_as.ensures

pub returns-in-Ok-further_properties : goal.returns-in-Ok-further_properties
returns-in-Ok-further_properties c bytes of =
    let h = view_of_hunt_args c.args.args.now in
    let m = c.args.module in
    let ps = map property_of c.in-Ok-further_properties.further.items in
    let may = c.in-Ok.ensures in
    let are : AreProperties m.code.atoms h.further ps =
    subst (λ (xs : List (Bor (List ℕ))). AreProperties m.code.atoms (map (λ s. s.now) xs) ps) c.as_slice.ensures.value
    c.in-Ok-further_properties.ensures.read in
    (of, run_asked h.sought m c.in-Ok.job ps may.0 may.1 are, are)

pub returns-in-Err : goal.returns-in-Err
returns-in-Err c bytes of =
    let h = view_of_hunt_args c.args.args.now in
    let m = c.args.module in
    let e = c.in-Err.refusal in
    let refused : AreRefused m.code.atoms h.further e =
    subst (λ (xs : List (Bor (List ℕ))). AreRefused m.code.atoms (map (λ s. s.now) xs) e) c.as_slice.ensures.value
    c.in-Err.ensures.fault in
    not_hunted h bytes m e c.refused_as-in-Err.result of
    (λ k is. further_refused h m c.in-Ok.job e k c.in-Ok.ensures refused is) c.refused_as-in-Err.ensures
