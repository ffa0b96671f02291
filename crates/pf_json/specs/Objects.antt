-- The JSON object of a line.
use Rattle.std.specs.Prelude.{ℕ, is_some, if◌then◌else◌, List, [], ◌∷◌, ◌++◌, flat_map, codes, unwrap_or}
use Rattle.std.specs.Fmt.{decimal}
use Rattle.std.specs.Str.Lossy.{utf8_lossy}
use Rattle.json.specs.Token as token
use Rattle.json.specs.Token.{Token}
use Rattle.json.specs.Print.{print}
use Rattle.pf_json.specs.Facts.{Fact, Value, fact, number, text, truth, facts_by, facts_by_first, or_else, said}
use Rattle.pf_json.specs.Shapes.{position, shapes}
use Rattle.pf_json.specs.Names.{named_root}
use Rattle.pf_json.specs.declared.place.LinePlace.{LinePlace}
use Rattle.pf_json.specs.declared.place.LinePlace.TheVariants.{Report, Source, Caret, Advice}

-- ---- what a line reports

-- a line of names, one of the shapes, or `WORD REST`
abbrev pub facts_of : List ℕ → List Fact
facts_of line = unwrap_or (or_else (named_root line) (facts_by_first shapes line)) (said line ∷ [])

-- after `line L, column C` come three lines as they are: of the source, with a caret, and with the advice
abbrev pub facts_at : LinePlace → List ℕ → List Fact
facts_at Report line = facts_of line
facts_at Source line = fact (codes "source") (text line) ∷ []
facts_at Caret line = fact (codes "caret") (text line) ∷ []
facts_at Advice line = fact (codes "advice") (text line) ∷ []

abbrev pub next : LinePlace → List ℕ → LinePlace
next Report line = if is_some (facts_by position line) then Source else Report
next Source line = Caret
next Caret line = Advice
next Advice line = Report

-- ---- its object, in which bytes that aren't UTF-8 become U+FFFD

abbrev pub value_token : Value → Token
value_token (number n) = token.number (decimal n)
value_token (text t) = token.string (utf8_lossy t)
value_token (truth b) = token.boolean b

abbrev pub fact_tokens : Fact → List Token
fact_tokens f = token.key (utf8_lossy f.key) ∷ value_token f.value ∷ []

abbrev pub object_tokens : List Fact → List Token
object_tokens facts = token.begin_object ∷ flat_map fact_tokens facts ++ token.end_object ∷ []

-- the object of some facts, on a line of its own
abbrev pub object_line : List Fact → List ℕ
object_line facts = print (object_tokens facts) ++ 10 ∷ []
