-- A document in parts. The bytes of a label occur in it only escaped, and only outside tags.
use Rattle.std.specs.Prelude.{◌≡◌, ℕ, Bool, true, false, ◌&&◌, IsTrue, List, [], ◌∷◌, ◌++◌, flat_map, codes}
use Rattle.std.specs.List.{list_all}
use Rattle.std.specs.Fmt.{decimal}
use Rattle.pf_svg.specs.Escaped.{escaped, short}
use Rattle.pf_svg.specs.Places.{DocumentPlace, after_attribute, after_label, after_said, outside, read}
use Rattle.pf_svg.specs.Words.{is_name, is_phrase, is_document_word}
use Rattle.pf_svg.specs.declared.part.DocumentPart.{DocumentPart}
use Rattle.pf_svg.specs.declared.part.DocumentPart.TheVariants.{Markup, Phrase, Number, Pid, Point, Attribute, Class}
use Rattle.pf_svg.specs.declared.part.DocumentPart.TheVariants.{Moved, Label, Short}

-- ---- texts

-- texts one after another
abbrev pub texts_joined : List (List ℕ) → List ℕ
texts_joined texts = flat_map (λ (t : List ℕ). t) texts

abbrev pub point_text : (x y : ℕ) → List ℕ
point_text x y = decimal x ++ codes " " ++ decimal y

abbrev pub attribute_text : (name : List ℕ) → (value : ℕ) → List ℕ
attribute_text name n = codes " " ++ name ++ codes "=\"" ++ decimal n ++ codes "\""

abbrev pub moved_text : (x y : ℕ) → List ℕ
moved_text x y = codes " transform=\"translate(" ++ (decimal x ++ (codes " " ++ (decimal y ++ codes ")\"")))

-- what a part puts into the document
abbrev pub part_text : DocumentPart → List ℕ
part_text (Markup w) = w.now
part_text (Phrase w) = w.now
part_text (Number n) = decimal n
part_text (Pid p) = codes "&lt;" ++ decimal p ++ codes "&gt;"
part_text (Point x y) = point_text x y
part_text (Attribute name n) = attribute_text name.now n
part_text (Class w) = codes " class=\"" ++ w.now ++ codes "\""
part_text (Moved x y) = moved_text x y
part_text (Label l) = escaped l.now
part_text (Short l most) = short most l.now

-- the beginning and the end of a document
abbrev pub start_text : (width height : ℕ) → List ℕ
start_text width height =
    texts_joined
    (codes "<svg xmlns=\"http://www.w3.org/2000/svg\" role=\"img\"" ∷ attribute_text (codes "width") width
    ∷ attribute_text (codes "height") height
    ∷ codes " viewBox=\"0 0 " ∷ point_text width height ∷ codes "\">\n" ∷ [])

abbrev pub document_end : List ℕ
document_end = codes "</svg>\n"

-- a line of a class, from one point to another
abbrev pub straight_line_text : (class : List ℕ) (x1 y1 x2 y2 : ℕ) → List ℕ
straight_line_text class x1 y1 x2 y2 =
    texts_joined
    (codes "<line class=\"" ∷ class ∷ codes "\"" ∷ attribute_text (codes "x1") x1 ∷ attribute_text (codes "y1") y1
    ∷ attribute_text (codes "x2") x2 ∷ attribute_text (codes "y2") y2 ∷ codes "/>" ∷ [])

-- a straight path from one point to another
abbrev pub stroke_text : (from to : ℕ × ℕ) → List ℕ
stroke_text from to = texts_joined (codes "<path d=\"M" ∷ point_text from.0 from.1 ∷ codes "L" ∷ point_text to.0 to.1
    ∷ codes "\"/>" ∷ [])

-- a curve, which two points between bend
abbrev pub curve_text : (from bent bent_again to : ℕ × ℕ) → List ℕ
curve_text from bent bent_again to =
    texts_joined
    (codes "<path d=\"M" ∷ point_text from.0 from.1 ∷ codes "C" ∷ point_text bent.0 bent.1 ∷ codes " "
    ∷ point_text bent_again.0 bent_again.1 ∷ codes " " ∷ point_text to.0 to.1 ∷ codes "\"/>" ∷ [])

-- ---- parts

-- markup is made of words alone: of those of all documents and of the document's own
abbrev pub is_fixed : (own : List (List ℕ)) → DocumentPart → Bool
is_fixed own (Markup w) = is_document_word own w.now
is_fixed own (Phrase w) = is_phrase own w.now
is_fixed own (Attribute name n) = is_document_word own name.now && is_name name.now
is_fixed own (Class w) = is_phrase own w.now
is_fixed own p = true

-- what may occur outside tags
abbrev pub is_said : (own : List (List ℕ)) → DocumentPart → Bool
is_said own (Phrase w) = is_phrase own w.now
is_said own (Number n) = true
is_said own (Pid p) = true
is_said own (Point x y) = true
is_said own (Label l) = true
is_said own (Short l most) = true
is_said own p = false

-- what may occur in the value of an attribute
abbrev pub is_value : (own : List (List ℕ)) → DocumentPart → Bool
is_value own (Phrase w) = is_phrase own w.now
is_value own p = false

-- what may occur in a tag
abbrev pub is_attribute : (own : List (List ℕ)) → DocumentPart → Bool
is_attribute own (Attribute name n) = is_document_word own name.now && is_name name.now
is_attribute own (Class w) = is_phrase own w.now
is_attribute own (Moved x y) = true
is_attribute own p = false

abbrev pub labels_of_part : DocumentPart → List (List ℕ)
labels_of_part (Label l) = l.now ∷ []
labels_of_part (Short l most) = l.now ∷ []
labels_of_part p = []

-- ---- where parts are

-- the place after a part: markup is read byte by byte
abbrev pub place_after_part : DocumentPlace → DocumentPart → DocumentPlace
place_after_part p (Markup w) = read p w.now
place_after_part p (Attribute name n) = after_attribute p
place_after_part p (Class w) = after_attribute p
place_after_part p (Moved x y) = after_attribute p
place_after_part p (Label l) = after_label p
place_after_part p (Short l most) = after_label p
place_after_part p part = after_said p

abbrev pub after_all : DocumentPlace → List DocumentPart → DocumentPlace
after_all p [] = p
after_all p (part ∷ parts) = after_all (place_after_part p part) parts

-- after what was there, which led to this place, come parts that have these labels in their order, each escaped, and
-- words and numbers for the rest; they lead to that place
pub data DrawsFrom (own : List (List ℕ)) (from : DocumentPlace) (labels : List (List ℕ)) (to : DocumentPlace)
    (before after : List ℕ) : Type 0 where
  drawn : (parts : List DocumentPart) → after ≡ before ++ flat_map part_text parts
      → IsTrue (list_all (is_fixed own) parts)
      → flat_map labels_of_part parts ≡ labels → after_all from parts ≡ to → DrawsFrom own from labels to before after

-- wherever it is outside tags, it is there again after what is drawn, in the same elements
abbrev pub DrawsDocument : (own : List (List ℕ)) (labels : List (List ℕ)) (before after : List ℕ) → Type 0
DrawsDocument own labels before after = (opened : List (List ℕ))
    → DrawsFrom own (outside opened) labels (outside opened) before after

-- after it one element more is open, or the innermost, of this name, is closed
abbrev pub OpensElement : (own : List (List ℕ)) (name : List ℕ) (labels : List (List ℕ)) (before after : List ℕ)
    → Type 0
OpensElement own name labels before after = (opened : List (List ℕ))
    → DrawsFrom own (outside opened) labels (outside (name ∷ opened)) before after

abbrev pub ClosesElement : (own : List (List ℕ)) (name : List ℕ) (labels : List (List ℕ)) (before after : List ℕ)
    → Type 0
ClosesElement own name labels before after = (opened : List (List ℕ))
    → DrawsFrom own (outside (name ∷ opened)) labels (outside opened) before after

-- after what was there comes a whole document: its beginning, what is drawn between them with these labels, and its end
pub data IsDocument (own : List (List ℕ)) (labels : List (List ℕ)) (before after : List ℕ) : Type 0 where
  document : (width height : ℕ) (middle : List ℕ) → DrawsDocument own labels (before ++ start_text width height) middle
      → after ≡ middle ++ document_end
      → IsDocument own labels before after
