-- What ends a turn, with terms for words.
use Rattle.std.specs.Prelude.{◌≡◌, List, Ok, Err}
use Rattle.pf_terms.specs.Term.{value_of}
use Rattle.pf_terms.specs.declared.term.Term.{Term}
use Rattle.pf_heap.specs.Heap.{Cell, word_value}
use Rattle.pf_model.specs.Contraction.{send}
use Rattle.pf_actions.specs.Acts.{act_over}
use Rattle.pf_stepper.specs.Acts.{act_of}
use Rattle.pf_stepper.specs.declared.act.Act.{Act}
use Rattle.pf_stepper.specs.declared.machine.Move.{Move}
use Rattle.pf_stepper.specs.declared.machine.Move.TheVariants as v
use Rattle.pf_turns.specs.declared.status.Stop.{Stop}
use Rattle.pf_turns.specs.declared.status.Stop.TheVariants as stop

-- the move that a stop is; at a `receive` the messages decide
abbrev pub IsMoveOf : List Cell → Stop → Move → Type 0
IsMoveOf h stop.Cut x = x ≡ v.Pure
IsMoveOf h (stop.Receives d) x = Unit {0}
IsMoveOf h (stop.Acts a) x = (b : Act) × (x ≡ v.Action b) × (act_of b ≡ act_over h a)
IsMoveOf h (stop.Sends to w) x = (b : Act) × (x ≡ v.Action b)
    × (act_of b ≡ send (word_value h to) (word_value h w))
IsMoveOf h (stop.Returns w) x = (t : Term) × (x ≡ v.End (Ok t)) × (value_of t ≡ word_value h w)
IsMoveOf h (stop.Ends w) x = (t : Term) × (x ≡ v.End (Err t)) × (value_of t ≡ word_value h w)
