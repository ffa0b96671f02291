-- How a file ends where an answer isn't taken whole.
use Rattle.std.proofs.Common.{◌≡◌, ◌⊎◌, ℕ, List, [], ◌++◌, Option, Some, None, refl, sym, ap, ◌∙◌, subst, inl, inr}
use Rattle.pf_farm_state.specs.Clients.{ClientView}
use Rattle.pf_wire.specs.declared.reported.WrittenAnswer.{WrittenAnswer}
use Rattle.pf_clients.specs.declared.end.FileEnd.{FileEnd}
use Rattle.pf_clients.specs.declared.end.FileEnd.TheVariants.{Answered, NoCommand, Unread, Unwritten}
use Rattle.pf_clients.specs.declared.end.FileEnd.TheVariants.{NoMemory as OutOfMemory}
use Rattle.pf_clients.specs.Lines.{AnswersFront, RefusesFront, EndsAt}
use Rattle.pf_clients.specs.Replies.{Takes, TakesBeginning}

module _ {W : Type 0} (contents : W → Option (List ℕ)) where
  -- the answer at this end was taken
  abbrev pub EndsTaken : FileEnd → (n : ℕ) → (bytes : List ℕ) → (was is : ClientView) → (v w : Option W)
      → (k0 k1 : List WrittenAnswer) → Type 0
  EndsTaken end n bytes s s' v w k0 k1 =
      (t : List ℕ) × EndsAt end n bytes s s' t × Takes contents v w k0 k1 t

  module _ (n : ℕ) (bytes : List ℕ) (s s' : ClientView) (text : List ℕ) (v w : Option W)
      (k0 k1 : List WrittenAnswer) (some : ¬ (bytes ≡ [])) where
    -- that of a line that was done wasn't taken whole
    pub line_lost : (end : FileEnd) (rest : List ℕ) → AnswersFront bytes rest s s' text
        → TakesBeginning contents end v w k0 k1 text → EndsTaken end n bytes s s' v w k0 k1
    line_lost (Unwritten e) rest a h = (h.0, ((text, h.1, h.2, inl (rest, a)), some), h.3)
    line_lost OutOfMemory rest a h =
        ([], (inr (a.2.0, rest, a.1 ∙ ap (λ m. Some (m, rest)) (sym a.2.1), a.2.2), refl), h)
    line_lost Answered rest a h = absurd h
    line_lost (NoCommand r) rest a h = absurd h
    line_lost (Unread e) rest a h = absurd h

    -- that a line is no command wasn't taken whole
    pub none_lost : (end : FileEnd) → RefusesFront bytes n s s' text
        → TakesBeginning contents end v w k0 k1 text → EndsTaken end n bytes s s' v w k0 k1
    none_lost (Unwritten e) a h = (h.0, ((text, h.1, h.2, inr a), some), h.3)
    none_lost OutOfMemory a h = ([], (inl a.1, refl), h)
    none_lost Answered a h = absurd h
    none_lost (NoCommand r) a h = absurd h
    none_lost (Unread e) a h = absurd h
