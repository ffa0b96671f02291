-- Complete commands: those that stay what they are, whatever follows the bytes that were read.
use Rattle.std.specs.Prelude.{◌≡◌, ℕ, Bool, true, false, ◌&&◌, not, nat_lt, if◌then◌else◌, List, [], ◌∷◌, length, ◌==◌}
use Rattle.std.specs.Prelude.{Option, Some, None}
use Rattle.pf_world.specs.Steps.{WorldStep}
use Rattle.pf_protocol.specs.Commands.{LineContent, submission, content_of_line, first_line, words_of_line, command_at}

-- how many bytes have to follow the line of a submission
abbrev pub size_in : Option LineContent → Option ℕ
size_in (Some (submission project size)) = Some size
size_in _ = None

-- n bytes follow and one more, which is a line end or else makes the line no command
abbrev pub has_source : Option ℕ → List ℕ → Bool
has_source None rest = true
has_source (Some size) rest = nat_lt size (length rest)

-- the first command is complete, or its line is surely no command: the line has its end, and a submission what follows
-- it
abbrev pub is_complete : List ℕ → Bool
is_complete bytes = (first_line bytes).is_ended && has_source
    (size_in (content_of_line (words_of_line (first_line bytes).text))) (first_line bytes).rest

-- the first command is answered: if it is complete, and at the end of the input if there is something
abbrev pub is_due : Bool → List ℕ → Bool
is_due over bytes = if over then not (length bytes == 0) else is_complete bytes

-- CompleteCommands bytes steps: the bytes are complete commands of these steps, and after them nothing is complete
pub data CompleteCommands : List ℕ → List WorldStep → Type 0 where
  unfinished : (bytes : List ℕ) → is_complete bytes ≡ false → CompleteCommands bytes []
  command : (bytes rest : List ℕ) (s : WorldStep) (ss : List WorldStep) → is_complete bytes ≡ true
      → command_at bytes ≡ Some (s, rest)
      → CompleteCommands rest ss → CompleteCommands bytes (s ∷ ss)
