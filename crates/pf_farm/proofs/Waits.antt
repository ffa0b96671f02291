-- Clients that waited.
use Rattle.std.proofs.Common.{◌≡◌, Bool, true, false, Option, Some, None, sym, ◌∙◌}
use Rattle.pf_desks.specs.declared.stage.TrialStage.{TrialStage}
use Rattle.pf_desks.specs.declared.stage.TrialStage.TheVariants.{Queued, Running, Done}
use Rattle.pf_farm.specs.Floors.{must_wait, IsTrialOver}

-- where a client waits no more, and the farm goes on, its trial is over
pub is_over : (s : Option TrialStage) (stops : Bool) (x : Option TrialStage) → s ≡ x → must_wait x stops ≡ false
    → stops ≡ false → IsTrialOver s
is_over None stops x e goes on = tt
is_over (Some Done) stops x e goes on = tt
is_over (Some Queued) stops x e goes on = let h : true ≡ false = (λ i. must_wait (e i) (sym on i)) ∙ goes in absurd (cc)
is_over (Some Running) stops x e goes on = let h : true ≡ false = (λ i. must_wait (e i) (sym on i))
    ∙ goes in absurd (cc)
