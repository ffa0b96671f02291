-- Where the value of an expression goes, and what the clauses of one are tried on.
use Rattle.std.specs.Prelude.{ℕ, ◌≤◌, List, Some, length}
use Rattle.pf_syntax.specs.Tree.{Tree}
use Rattle.pf_model.specs.Context.{Move, goes_on, running}
use Rattle.pf_code.specs.Registers.{Registers, row}
use Rattle.pf_code.specs.Points.{testing}
use Rattle.pf_code.specs.Sound.{Code}
use Rattle.pf_compile_patterns.specs.Planned.{AreBelow}
use Rattle.pf_compile_patterns.specs.Maker.{IsPlace}
use Rattle.pf_compile.specs.declared.target.After.{After}
use Rattle.pf_compile.specs.declared.target.After.TheVariants as after
use Rattle.pf_compile.specs.declared.target.Subject.{Subject}
use Rattle.pf_compile.specs.declared.target.Subject.TheVariants as subject
use Rattle.pf_compile.specs.declared.target.Target.{Target}

abbrev pub IsAfter : Code → After → Type 0
IsAfter code (after.Place k) = IsPlace code k
IsAfter code after.Return = 1 ≤ length code.instructions

-- the variables in scope are in registers that aren't free, and so is what goes on with the value
abbrev pub IsTarget : Code → List ℕ → Target → Type 0
IsTarget code slots to = (to.into ≤ to.free) × AreBelow to.free slots × IsAfter code to.after

-- the register of what clauses are tried on
abbrev pub register_of : Subject → ℕ
register_of (subject.Value s) = s
register_of (subject.Message s) = s

-- what is next where a clause was picked, by which the process becomes this tree; a message is still to be taken
abbrev pub begun : Subject → Registers → Tree → Move
begun (subject.Value s) r t = goes_on (running t)
begun (subject.Message s) r t = testing (row r 0 s) (Some t)
