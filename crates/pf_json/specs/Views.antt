-- What the code's own facts and parts stand for.
use Rattle.std.specs.Prelude.{ℕ, List, map, Option, option_map}
use Rattle.pf_json.specs.Facts as facts
use Rattle.pf_json.specs.Facts.{fact, number, text, truth}
use Rattle.pf_json.specs.declared.facts.Value.{Value}
use Rattle.pf_json.specs.declared.facts.Value.TheVariants.{Number, Text, Truth}
use Rattle.pf_json.specs.declared.facts.Fact.{Fact}
use Rattle.pf_json.specs.declared.parts.TakenPart.{TakenPart}
use Rattle.pf_json.specs.declared.parts.ShapePart.{ShapePart}
use Rattle.pf_json.specs.declared.parts.ShapePart.TheVariants.{Words, Maybe, Count, Word, Code}
use Rattle.pf_json.specs.declared.parts.ShapePart.TheVariants.{Rest, Property, Says, Reports}

abbrev pub view_of_value : Value → facts.Value
view_of_value (Number n) = number n
view_of_value (Text t) = text t.now
view_of_value (Truth b) = truth b

abbrev pub view_of_fact : Fact → facts.Fact
view_of_fact f = fact f.key.now (view_of_value f.value)

abbrev pub views_of : List Fact → List facts.Fact
views_of fs = map view_of_fact fs

abbrev pub view_of_part : ShapePart → facts.ShapePart
view_of_part (Words w) = facts.words w.now
view_of_part (Maybe w) = facts.maybe w.now
view_of_part (Count key) = facts.count key.now
view_of_part (Word key) = facts.word key.now
view_of_part (Code key) = facts.code key.now
view_of_part (Rest key) = facts.rest key.now
view_of_part (Property key) = facts.property key.now
view_of_part Says = facts.says
view_of_part (Reports f) = facts.reports (view_of_fact f)

abbrev pub view_of_taken : TakenPart → List ℕ × Option facts.Fact
view_of_taken s = (s.rest.now, option_map view_of_fact s.fact)
