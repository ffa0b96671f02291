-- The words of a document: all that it is made of, but for numbers and labels.
use Rattle.std.specs.Prelude.{ℕ, Bool, ◌&&◌, ◌||◌, ◌==◌, nat_lt, List, [], ◌∷◌, ◌++◌, codes}
use Rattle.std.specs.List.{list_all, list_any}
use Rattle.std.specs.Str.{bytes_eq}
use Rattle.pf_svg.specs.Places.{is_plain}

-- tags, or beginnings and ends of tags
abbrev pub tags : List (List ℕ)
tags =
    codes "<svg xmlns=\"http://www.w3.org/2000/svg\" role=\"img\"" ∷ codes " viewBox=\"0 0 " ∷ codes "</svg>\n"
    ∷ codes "<title>" ∷ codes "</title>" ∷ codes "<rect" ∷ codes "<line class=\"" ∷ codes "<path d=\""
    ∷ codes "<path d=\"M"
    ∷ codes "<text class=\"" ∷ codes "</text>" ∷ codes "<g>" ∷ codes "<g class=\"" ∷ codes "</g>\n"
    ∷ codes ">" ∷ codes "\"" ∷ codes "\"/>" ∷ codes "/>" ∷ codes "\">\n" ∷ codes "\n" ∷ []

-- number_names of attributes that are numbers, and what is between the points of a path
abbrev pub number_names : List (List ℕ)
number_names =
    codes "x" ∷ codes "y" ∷ codes "x1" ∷ codes "y1" ∷ codes "x2" ∷ codes "y2" ∷ codes "width" ∷ codes "height"
    ∷ codes "rx" ∷ codes "L" ∷ codes "C" ∷ codes " " ∷ []

-- what may occur in a document that has words of its own
abbrev pub is_document_word : (own : List (List ℕ)) → List ℕ → Bool
is_document_word own w = list_any (bytes_eq w) (tags ++ number_names ++ own)

-- a word that may be text, and in an attribute's quotes
abbrev pub is_phrase : (own : List (List ℕ)) → List ℕ → Bool
is_phrase own w = is_document_word own w && is_plain w

-- a byte of an attribute's name: a small letter, a digit or a minus
abbrev pub is_name_byte : ℕ → Bool
is_name_byte b = (nat_lt 96 b && nat_lt b 123) || ((nat_lt 47 b && nat_lt b 58) || (b == 45))

abbrev pub is_name : List ℕ → Bool
is_name w = list_all is_name_byte w
