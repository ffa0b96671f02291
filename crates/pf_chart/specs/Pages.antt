-- What the code knows of a page.
use Rattle.std.specs.Prelude.{◌≡◌, ℕ, List, Option, Some, map}
use Rattle.pf_chart.specs.Origins.{IsColumnOf}
use Rattle.pf_chart.specs.Sheets.{Page, side_of}
use Rattle.pf_chart.specs.declared.columns.Column.{Column}
use Rattle.pf_chart.specs.declared.sheet.Sheet.{Sheet}
use Rattle.pf_chart.specs.declared.sheet.PageSide.TheVariants as side

-- the page of a sheet
abbrev pub page_in : Sheet → Page
page_in s = record { pitch = s.pitch; events = map (λ r. r.index) s.rows.now; above = s.above; count = s.count }

-- the column of who spawned a process, and the event in which it did, which is on the page
abbrev pub IsParent : Page → List Column → (spawned : Option (ℕ × ℕ)) → ℕ × ℕ → Type 0
IsParent p cs o r = (pid : ℕ) × (o ≡ Some (pid, r.1)) × IsColumnOf cs pid r.0 × (side_of p r.1 ≡ side.Here)
