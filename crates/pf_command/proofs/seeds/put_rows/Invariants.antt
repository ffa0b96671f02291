use Rattle.std.proofs.Common.{◌≡◌, ◌++◌, take}
use Rattle.std.specs.Prelude.{flat_map}
use Rattle.pf_terms.specs.Atoms.{name_of}
use Rattle.pf_hunt.specs.Views.{row_of}
use Rattle.pf_command.specs.Hunts.{row_text}
use Rattle.pf_command.proofs.seeds.put_rows.Given as goal

-- the rows so far have gone out
abbrev pub invariant-loop-row : goal.invariant-loop-row
invariant-loop-row l = l.out.items ≡ l.fn.out.items ++ flat_map (λ x. row_text (name_of l.atoms) (row_of x))
    (take l.row-index l.rows)
