-- What is printed for words that ask for no work.
use Rattle.std.proofs.Common.{◌≡◌, ◌≢◌, List, Option, Some, ap, sym, inl, inr, ◌∙◌}
use Rattle.std.specs.Prelude.{◌⊎◌, Result, Ok, Err, IfOk}
use Rattle.clap.specs.Words.{Text}
use Rattle.clap.specs.declared.error.kind.ErrorKind.{ErrorKind}
use Rattle.clap.specs.declared.error.kind.ErrorKind.TheVariants as kind
use Rattle.pf_cli.specs.Args.{IsFaultBy, ReadWords, Wanted, reading_by, status_of_kind, text_answered, wanted_by}
use Rattle.pf_cli.specs.Args.{words_status}
use Rattle.pf_cli.proofs.Alike.{fault_status}

-- a fault of the words is reported with their status
fault_reported : (text : Option Text) (words : List Text) (file schedule_file : Option Text) (k : ErrorKind)
    → (k ≡ kind.OutOfMemory) ⊎ IsFaultBy text k words → k ≢ kind.OutOfMemory
    → text_answered (status_of_kind k) ≡ reading_by (wanted_by text words) file schedule_file (words_status words)
fault_reported text words file schedule_file k (inl e) n = absurd (n e)
fault_reported text words file schedule_file k (inr h) n =
    ap text_answered (fault_status text words k h)
    ∙ sym (ap (λ (w : Option Wanted). reading_by w file schedule_file (words_status words)) h.0)

-- a text that is printed for a fault is how the words are read
pub text_reported : {T E : Type 0} (r : Result T E) (view : T → ReadWords) (text known : Text) (words : List Text)
    (file schedule_file : Option Text) (k : ErrorKind) → text ≡ known
    → (k ≡ kind.OutOfMemory) ⊎ IsFaultBy (Some text) k words → IfOk r (λ v. view v ≡ text_answered (status_of_kind k))
    → IfOk r (λ v. k ≢ kind.OutOfMemory)
    → IfOk r (λ v. view v ≡ reading_by (wanted_by (Some known) words) file schedule_file (words_status words))
text_reported (Ok v) view text known words file schedule_file k e f h n =
    h ∙ (fault_reported (Some text) words file schedule_file k f n
    ∙ ap (λ (t : Text). reading_by (wanted_by (Some t) words) file schedule_file (words_status words)) e)
text_reported (Err v) view text known words file schedule_file k e f h n = tt
