-- What a client is left with when the lines of its file were answered.
use Rattle.std.specs.Prelude.{◌≡◌, ◌⊎◌, ℕ, List, [], Option, None, IfSome}
use Rattle.pf_streams.specs.declared.stream.StreamFault.{StreamFault}
use Rattle.pf_streams.specs.declared.stream.StreamFault.TheVariants.{Read, Write}
use Rattle.pf_farm_state.specs.Clients.{ClientView, empty_client}
use Rattle.pf_wire.specs.declared.reported.WrittenAnswer.{WrittenAnswer}
use Rattle.pf_clients.specs.declared.end.FileEnd.{FileEnd}
use Rattle.pf_clients.specs.declared.end.FileEnd.TheVariants.{Unread, Unwritten}
use Rattle.pf_clients.specs.declared.streams.ClientStreams.{ClientStreams}
use Rattle.pf_clients.specs.Lines.{AnswersFile}
use Rattle.pf_clients.specs.Replies.{Takes}

-- a client's seat has no receipt yet, its streams aren't opened, and nothing was kept for it
abbrev pub IsNew : {W : Type 0} → ClientView → (replies : Option W) → (kept : List WrittenAnswer) → Type 0
IsNew s w kept = (s ≡ empty_client s.project) × (w ≡ None) × (kept ≡ [])

-- how a client ends one of whose streams can't be opened: its file can't be read, or its replies can't be written
abbrev pub unopened : StreamFault → FileEnd
unopened (Read e) = Unread e
unopened (Write e) = Unwritten e

module _ {F W : Type 0} (remaining : F → Option (List ℕ)) (contents : W → Option (List ℕ)) where
  -- the lines of a file were answered, what they were answered was taken by the client's writer or kept, this is left
  -- of its seat, and so the file ended
  abbrev pub AnswersClient : F → (replies_old replies_new : Option W) → (project : ℕ) → (seat : ClientView)
      → (kept : List WrittenAnswer) → FileEnd → Type 0
  AnswersClient f v w q s kept ended =
      (text : List ℕ) × AnswersFile q (remaining f) s text ended × Takes contents v w [] kept text

module _ {S F W : Type 0} (gives : S → ClientStreams F W → Type 0) (lacks : S → StreamFault → Type 0)
    (remaining : F → Option (List ℕ)) (contents : W → Option (List ℕ)) where
  -- a client was given streams of its source, and answered; or one of them can't be opened, and nothing was done
  abbrev pub IsServed : (source : Option S) → (replies : Option W) → (project : ℕ) → (seat : ClientView)
      → (kept : List WrittenAnswer) → FileEnd → Type 0
  IsServed source w q s kept ended =
      IfSome source (λ x.
      ((streams : ClientStreams F W) × gives x streams
      × AnswersClient remaining contents streams.file streams.replies w q s kept ended)
      ⊎ ((e : StreamFault) × lacks x e × (ended ≡ unopened e) × (s ≡ empty_client q) × (w ≡ None) × (kept ≡ [])))
