-- Properties: whether they hold of what a run shows.
use Rattle.std.specs.Prelude.{ℕ, Bool, true, false, not, ◌||◌, List, [], ◌∷◌, Option, Some, None, is_some}
use Rattle.pf_terms.specs.Value.{Value, same}
use Rattle.pf_terms.specs.Fixed.{true_atom, normal}
use Rattle.pf_syntax.specs.Pattern.{Pattern}
use Rattle.pf_patterns.specs.Fit.{fit}
use Rattle.pf_model.specs.Labels.{Label, sends, ends, delivers, ending_with}

-- how a run ended
pub data Outcome : Type 0 where
  -- the root returned a value
  finished : Value → Outcome
  -- the root ended with a reason
  ended : Value → Outcome
  -- the root waits, and so do these processes, and nothing else can happen
  deadlock : List ℕ → Outcome
  -- the limit of steps ended it
  limit : Outcome
  -- memory ran out
  memory : Outcome

pub data Property : Type 0 where
  returns : Property
  returns_true : Property
  no_crash : Property
  no_deadlock : Property
  within_limit : Property
  never : Pattern → Property

abbrev pub is_finished : Outcome → Bool
is_finished (finished v) = true
is_finished o = false

abbrev pub is_finished_true : Outcome → Bool
is_finished_true (finished v) = same v true_atom
is_finished_true o = false

abbrev pub is_deadlock : Outcome → Bool
is_deadlock (deadlock ps) = true
is_deadlock o = false

abbrev pub is_limit : Outcome → Bool
is_limit limit = true
is_limit o = false

abbrev pub some_label : (Label → Bool) → List Label → Bool
some_label so [] = false
some_label so (l ∷ ls) = so l || some_label so ls

-- a process ended, of its own or by an exit signal, with another reason than `normal`
abbrev pub is_crash : Label → Bool
is_crash (ends r) = not (same r normal)
is_crash (delivers s (ending_with r)) = not (same r normal)
is_crash l = false

-- a message was sent that fits
abbrev pub is_sent_as : Pattern → Label → Bool
is_sent_as p (sends b v) = is_some (fit p v [])
is_sent_as p l = false

abbrev pub holds : Property → List Label → Outcome → Bool
holds returns ls o = is_finished o
holds returns_true ls o = is_finished_true o
holds no_crash ls o = not (some_label is_crash ls)
holds no_deadlock ls o = not (is_deadlock o)
holds within_limit ls o = not (is_limit o)
holds (never p) ls o = not (some_label (is_sent_as p) ls)

-- the verdict of a property; where memory ran out there is none
abbrev pub verdict : Property → List Label → Outcome → Option Bool
verdict p ls memory = None
verdict p ls (finished v) = Some (holds p ls (finished v))
verdict p ls (ended r) = Some (holds p ls (ended r))
verdict p ls (deadlock ps) = Some (holds p ls (deadlock ps))
verdict p ls limit = Some (holds p ls limit)
