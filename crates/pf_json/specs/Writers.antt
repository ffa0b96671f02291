-- What the code's own writers hold.
use Rattle.pf_json.specs.Lines as lines
use Rattle.pf_json.specs.declared.lines.HeldText.{HeldText}
use Rattle.pf_json.specs.declared.lines.JsonLines.{JsonLines}

abbrev pub view_of_held : HeldText → lines.HeldText
view_of_held h = record { place = h.place; line = h.line.items }

-- what is held of the lines that were written to a writer
abbrev pub held_text_of : {W : Type 0} → JsonLines W → lines.HeldText
held_text_of w = view_of_held w.held
