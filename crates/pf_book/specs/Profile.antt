-- Profiles that are right: they read sources and properties as the language does, and jobs mean to them what they mean
-- in it.
use Rattle.std.specs.Prelude.{◌≡◌, ℕ, List, Option}
use Rattle.pf_check.specs.Reads.{ReadOutcome, accepted, refused, Reads}
use Rattle.pf_model.specs.Shrinking.{Result, IsResult}
use Rattle.pf_model.specs.Properties.{Property}
use Rattle.pf_property.specs.Texts.{IsPropertyOf}
use Rattle.pf_model.specs.Meaning.{Job}
use Rattle.pf_desks.specs.Desk.{SourceReading, readable, faulty, Profile}

-- what desks see of an outcome: a module, or the code of a refusal without its offset
abbrev pub reading_from : ReadOutcome → SourceReading
reading_from (accepted name atoms functions) = readable (record { name = name; atoms = atoms; functions = functions })
reading_from (refused code index) = faulty code

-- however a source is read, the profile reads it so; whatever property bytes are, or none, they are to the profile;
-- whatever result a job has in the language, it has that to the profile
pub record IsRight (p : Profile) : Type 0 where
  pub reads : (bytes : List ℕ) (o : ReadOutcome) → Reads bytes o → p.reading bytes ≡ reading_from o
  pub properties : (names : List (List ℕ)) (bytes : List ℕ) (o : Option Property) → IsPropertyOf names bytes o
      → p.property names bytes ≡ o
  pub means : (j : Job) (r : Result) → IsResult j r → p.meaning j ≡ r

-- it holds for each profile that is right
abbrev pub ForRight : (Profile → Type 0) → Type 0
ForRight P = (p : Profile) → IsRight p → P p
