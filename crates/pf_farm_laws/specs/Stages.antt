-- How far a trial was at a point of a history.
use Rattle.std.specs.Prelude.{◌≡◌, ℕ, List, ◌++◌, length, Option}
use Rattle.std.specs.Option.{option_map}
use Rattle.pf_desks.specs.Calls.{stage_of}
use Rattle.pf_desks.specs.Desk.{Profile, Desk, no_desk, Entry, held_at}
use Rattle.pf_desks.specs.History.{IsLegal}
use Rattle.pf_desks.specs.declared.stage.TrialStage.{TrialStage}

-- how far the trial of a ticket is, if it is held
abbrev pub stage_at : Desk → (ticket : ℕ) → Option TrialStage
stage_at d t = option_map (λ x. stage_of x.state) (held_at d.trials t)

-- the first n things that a history notes lead from an empty desk to one at which the trial of a ticket is so far
pub record WasSoFar (p : Profile) (es : List Entry) (n ticket : ℕ) (stage : Option TrialStage) : Type 0 where
  pub before : List Entry
  pub after : List Entry
  pub desk : Desk
  pub noted : es ≡ before ++ after
  pub count : length before ≡ n
  pub led : IsLegal p no_desk before desk
  pub so_far : stage_at desk ticket ≡ stage
