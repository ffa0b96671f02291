-- What a parse says of what the words ask for.
use Rattle.std.proofs.Common.{◌≡◌, List, [], ◌∷◌, Option, Some, None, refl, ap, inl, inr, ◌∙◌}
use Rattle.std.specs.Prelude.{◌⊎◌, codes, option_and_then}
use Rattle.clap.specs.Words.{Text, Row, Kinds, HasKind, IsAmong, fault_of, first_of, subcommand_of, kind_of}
use Rattle.clap.specs.declared.error.Error.{Error}
use Rattle.clap.specs.declared.error.kind.ErrorKind.{ErrorKind}
use Rattle.clap.specs.declared.error.kind.ErrorKind.TheVariants as kind
use Rattle.pf_cli.specs.Args.{IsFaultBy, own_fault, of_command, words_asked, unless_refused, wanted_by}
use Rattle.pf_cli.specs.Commands.{pulsefarm}
use Rattle.pf_cli.specs.Args.{file_at, file_of, file_under, schedule_file_of}

refused : {T : Type 0} (kinds : Kinds) (k : ErrorKind) (r : Option T) → IsAmong k kinds → unless_refused kinds r ≡ None
refused [] k r h = absurd h
refused (x ∷ xs) k r h = refl

-- a kind that a parse finds is a fault of the words
pub words_refused : (text : Option Text) (words : List Text) (e : Error) → HasKind (fault_of pulsefarm words) e
    → (kind_of e ≡ kind.OutOfMemory) ⊎ IsFaultBy text (kind_of e) words
unfolding wanted_by
words_refused text words e (inl h) = inl h
words_refused text words e (inr h) = inr (
  refused (fault_of pulsefarm words) (kind_of e)
      (words_asked (of_command text) (subcommand_of pulsefarm words)) h,
  inl h,
)

unrefused : {T : Type 0} (kinds : Kinds) (r : Option T) → kinds ≡ [] → unless_refused kinds r ≡ r
unrefused [] r e = refl
unrefused (x ∷ xs) r e = absurd cc

-- without a command nothing is asked for
pub words_none : (text : Option Text) (words : List Text) → fault_of pulsefarm words ≡ []
    → subcommand_of pulsefarm words ≡ None → wanted_by text words ≡ None
unfolding wanted_by
words_none text words k e = unrefused (fault_of pulsefarm words)
    (words_asked (of_command text) (subcommand_of pulsefarm words)) k ∙ ap (words_asked (of_command text)) e

-- with a command the values of its options say what is asked for
pub words_wanted : (text : Option Text) (words : List Text) (name : Text) (rows : List Row)
    → fault_of pulsefarm words ≡ [] → subcommand_of pulsefarm words ≡ Some (name, rows)
    → wanted_by text words ≡ of_command text name rows
unfolding wanted_by
words_wanted text words name rows k e = unrefused (fault_of pulsefarm words)
    (words_asked (of_command text) (subcommand_of pulsefarm words)) k ∙ ap (words_asked (of_command text)) e

pub words_file : (words : List Text) (name : Text) (rows : List Row) → subcommand_of pulsefarm words ≡ Some (name, rows)
    → file_of words ≡ file_under name rows
unfolding file_of
words_file words name rows e = ap (words_asked file_under) e

pub words_schedule : (words : List Text) (name : Text) (rows : List Row)
    → subcommand_of pulsefarm words ≡ Some (name, rows)
    → schedule_file_of words ≡ option_and_then file_at (first_of (codes "schedule") rows)
unfolding schedule_file_of
words_schedule words name rows e = ap (words_asked (λ (n : Text) (rs : List Row).
    option_and_then file_at (first_of (codes "schedule") rs))) e

-- values that ask for no work, or no command
pub values_refused : (text : Option Text) (words : List Text) (k : ErrorKind) → wanted_by text words ≡ None
    → fault_of pulsefarm words ≡ [] → k ≡ own_fault (subcommand_of pulsefarm words) → IsFaultBy text k words
values_refused text words k e f h = (e, inr (f, h))
