-- What clients saw that waited, and the histories of the desks.
use Rattle.std.specs.Prelude.{◌≡◌, ℕ, Bool, true, List, All, Option}
use Rattle.pf_desks.specs.Desk.{Profile}
use Rattle.pf_desks.specs.Desks.{Desks, desk_at}
use Rattle.pf_desks.specs.declared.stage.TrialStage.{TrialStage}
use Rattle.pf_farm_laws.specs.Stages.{WasSoFar}
use Rattle.pf_farm_state.specs.declared.look.TrialLook.{TrialLook}

abbrev pub look_of : (project ticket notes : ℕ) → Option TrialStage → (stops : Bool) → TrialLook
look_of q t n s b = record { project = q; ticket = t; notes = n; stage = s; stops = b }

-- what a client saw was so at that point of its project's history, and the farm was stopped if the client saw that
abbrev pub IsTrueLook : Profile → Desks → (stopped : Bool) → TrialLook → Type 0
IsTrueLook p w stopped l =
    WasSoFar p (desk_at l.project w).history l.notes l.ticket l.stage × (l.stops ≡ true → stopped ≡ true)

abbrev pub AreTrueLooks : Profile → Desks → (stopped : Bool) → List TrialLook → Type 0
AreTrueLooks p w stopped ls = All (IsTrueLook p w stopped) ls
