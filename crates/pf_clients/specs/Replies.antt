-- Where what a client is answered is taken: by its writer, or kept for the end.
use Rattle.std.specs.Prelude.{◌≡◌, ℕ, List, [], ◌++◌, Option, Some, None}
use Rattle.std.specs.Io.KnownBytes.{Appends}
use Rattle.pf_streams.specs.Streams.{AppendsFront}
use Rattle.pf_wire.specs.declared.reported.WrittenAnswer.{WrittenAnswer}
use Rattle.pf_clients.specs.declared.end.FileEnd.{FileEnd}
use Rattle.pf_clients.specs.declared.end.FileEnd.TheVariants.{Answered, NoCommand, Unread, Unwritten}
use Rattle.pf_clients.specs.declared.end.FileEnd.TheVariants.{NoMemory as OutOfMemory}
use Rattle.pf_clients.specs.Texts.{reported_text}

-- what a reply leaves that can't be written: a beginning of it; or nothing of it, where memory ran out
abbrev pub LeavesBeginning : FileEnd → (written_old written_new : Option (List ℕ)) → (text : List ℕ) → Type 0
LeavesBeginning (Unwritten e) w0 w1 text = AppendsFront w0 w1 text
LeavesBeginning OutOfMemory w0 w1 text = w1 ≡ w0
LeavesBeginning Answered w0 w1 text = ⊥
LeavesBeginning (NoCommand r) w0 w1 text = ⊥
LeavesBeginning (Unread e) w0 w1 text = ⊥

-- a client's writer took this text, or where it has none the text was added to what is kept
abbrev pub Takes : {W : Type 0} → (contents : W → Option (List ℕ)) → (was is : Option W)
    → (kept_old kept_new : List WrittenAnswer) → (text : List ℕ) → Type 0
Takes contents None None k0 k1 text = reported_text k1 ≡ reported_text k0 ++ text
Takes contents (Some v) (Some w) k0 k1 text = (k1 ≡ k0) × Appends (contents v) (contents w) text
Takes contents None (Some w) k0 k1 text = ⊥
Takes contents (Some v) None k0 k1 text = ⊥

-- a beginning of the text was taken; nothing of it, where memory ran out
abbrev pub TakesBeginning : {W : Type 0} → (contents : W → Option (List ℕ)) → FileEnd → (was is : Option W)
    → (kept_old kept_new : List WrittenAnswer) → (text : List ℕ) → Type 0
TakesBeginning contents (Unwritten e) v w k0 k1 text =
    (front : List ℕ) × (rest : List ℕ) × (text ≡ front ++ rest) × Takes contents v w k0 k1 front
TakesBeginning contents OutOfMemory v w k0 k1 text = Takes contents v w k0 k1 []
TakesBeginning contents Answered v w k0 k1 text = ⊥
TakesBeginning contents (NoCommand r) v w k0 k1 text = ⊥
TakesBeginning contents (Unread e) v w k0 k1 text = ⊥
