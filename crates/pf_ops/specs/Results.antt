-- What the results of operators stand for.
use Rattle.std.specs.Prelude.{ℤ, Result, Ok, Err}
use Rattle.pf_terms.specs.Value.{Value, int, atom}
use Rattle.pf_terms.specs.Term.{value_of}
use Rattle.pf_terms.specs.declared.atoms.AtomId.{AtomId}
use Rattle.pf_terms.specs.declared.term.Term.{Term}

-- an integer, or the reason that an operation raises
abbrev pub result_of : Result ℤ AtomId → Result Value Value
result_of (Ok z) = Ok (int z)
result_of (Err e) = Err (atom e.0)

-- a value, or the reason that is raised
abbrev pub answer_of : Result Term AtomId → Result Value Value
answer_of (Ok t) = Ok (value_of t)
answer_of (Err e) = Err (atom e.0)
