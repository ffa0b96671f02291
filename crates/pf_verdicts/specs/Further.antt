-- The texts of several properties.
use Rattle.std.specs.Prelude.{◌≡◌, ℕ, List, [], ◌∷◌}
use Rattle.pf_errors.specs.declared.code.Code.{Code}
use Rattle.pf_errors.specs.declared.code.Code.TheVariants.{NoProperty}
use Rattle.pf_errors.specs.declared.fault.OrNoMemory.{OrNoMemory}
use Rattle.pf_errors.specs.declared.fault.OrNoMemory.TheVariants.{NoMemory, Fault}
use Rattle.pf_model.specs.Properties.{Property}
use Rattle.pf_property.specs.Texts.{ReadsProperty}

-- these texts are these properties, one after another, where a run's atoms have these names
abbrev pub AreProperties : (atoms texts : List (List ℕ)) → List Property → Type 0
AreProperties atoms [] [] = Unit {0}
AreProperties atoms [] (p ∷ ps) = ⊥
AreProperties atoms (t ∷ ts) [] = ⊥
AreProperties atoms (t ∷ ts) (p ∷ ps) = ReadsProperty atoms t p × AreProperties atoms ts ps

-- not all of them are properties
abbrev pub AreNone : (atoms texts : List (List ℕ)) → Type 0
AreNone atoms texts = (ps : List Property) → AreProperties atoms texts ps → ⊥

-- that is the refusal; out of memory says nothing of the texts
abbrev pub AreRefused : (atoms texts : List (List ℕ)) → OrNoMemory Code → Type 0
AreRefused atoms texts NoMemory = Unit {0}
AreRefused atoms texts (Fault c) = (c ≡ NoProperty) × AreNone atoms texts
