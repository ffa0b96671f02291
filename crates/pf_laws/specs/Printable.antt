-- Which bytes the texts of runs have.
use Rattle.std.specs.Prelude.{◌≡◌, ◌⊎◌, ◌≤◌, ℕ, List}
use Rattle.std.specs.List.{All}
use Rattle.pf_terms.specs.Atoms.{name_of}
use Rattle.pf_terms.specs.Value.{Value}
use Rattle.pf_syntax.specs.Tree.{Program}
use Rattle.pf_check.specs.Reads.{accepted, Reads}
use Rattle.pf_model.specs.Meaning.{Event, Report}
use Rattle.pf_model.specs.Properties.{Outcome}
use Rattle.pf_model.specs.Shrinking.{Result}
use Rattle.pf_model.specs.TermText.{value_text}
use Rattle.pf_model.specs.Text.{event_text, outcome_text, report_text, result_text}

-- a byte from the space to `~`
abbrev pub IsVisible : ℕ → Type 0
IsVisible b = (32 ≤ b) × (b ≤ 126)

-- each byte is visible
abbrev pub AreVisible : List ℕ → Type 0
AreVisible = All IsVisible

-- each byte is visible or a line end
abbrev pub AreLines : List ℕ → Type 0
AreLines = All (λ b. (b ≡ 10) ⊎ IsVisible b)

-- where atoms have these names, each value, event and outcome prints in visible bytes, so on one line, and each report
-- and result in lines of them
pub record PrintsVisibly (name : ℕ → List ℕ) : Type 0 where
  pub values : (v : Value) → AreVisible (value_text name v)
  pub events : (e : Event) → AreVisible (event_text name e)
  pub outcomes : (o : Outcome) → AreVisible (outcome_text name o)
  pub reports : (r : Report) → AreLines (report_text name r)
  pub results : (r : Result) → AreLines (result_text name r)

-- whatever the bytes of a source, if they are read as a module its runs print so, whatever they result in
abbrev pub ReadModulesPrintVisibly : Type 0
ReadModulesPrintVisibly =
    (bytes : List ℕ) (name : ℕ) (atoms : List (List ℕ)) (functions : Program)
    → Reads bytes (accepted name atoms functions)
    → PrintsVisibly (name_of atoms)
