-- The messages that signals become, whatever their size.
use Rattle.std.specs.Prelude.{ℕ}
use Rattle.pf_terms.specs.Value.{Value, none, more, pid, ref, tuple}
use Rattle.pf_terms.specs.Fixed.{process, exit_atom, down_atom}

abbrev pub down_tuple : (reference from : ℕ) → Value → Value
down_tuple r a v = tuple (more down_atom (more (ref r) (more process (more (pid a) (more v none)))))

abbrev pub exit_tuple : (from : ℕ) → Value → Value
exit_tuple a v = tuple (more exit_atom (more (pid a) (more v none)))
