-- What a token has.
use Rattle.std.specs.Prelude.{◌≡◌, ℕ, List, Option, Some, None}
use Rattle.crossbeam_deque.specs.Handles.{Pass, view}
use Rattle.pf_farm_accounts.specs.declared.knowledge.Knowledge.{Knowledge}

module _ {T A : Type 0} where
  -- the places that it bears
  abbrev pub borne_by : Pass (Unit {0}) (Knowledge T) A → List ℕ
  borne_by p = (view p).borne

  -- the places that came back to it
  abbrev pub returned_to : Pass (Unit {0}) (Knowledge T) A → List ℕ
  returned_to p = (view p).returned

  -- the entries that it saw
  abbrev pub seen_by : Pass (Unit {0}) (Knowledge T) A → List T
  seen_by p = (view p).seen

  -- it is of the register at home, and carries nothing else
  abbrev pub IsAtHome : Option ((ℕ × ℕ) × A) → Pass (Unit {0}) (Knowledge T) A → Type 0
  IsAtHome home p = (home ≡ Some (p.rows, p.heap)) × (p.me.hand ≡ None) × (p.me.spare ≡ None)
