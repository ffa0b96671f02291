-- Where a byte of a document is: within which elements, and whether in a tag or in the value of an attribute.
use Rattle.std.specs.Prelude.{ℕ, Bool, true, false, ◌&&◌, ◌||◌, not, ◌==◌, if◌then◌else◌, List, [], ◌∷◌, ◌++◌, codes}
use Rattle.std.specs.List.{list_all}
use Rattle.std.specs.Str.{bytes_eq}

-- a place in a document, with the names of the elements that are open there, the innermost first
pub data DocumentPlace : Type 0 where
  -- outside tags
  outside : (opened : List (List ℕ)) → DocumentPlace
  -- in the name with which a tag begins
  naming : (opened : List (List ℕ)) (name : List ℕ) → DocumentPlace
  -- in a tag after its name, outside values
  inside : (opened : List (List ℕ)) (name : List ℕ) → DocumentPlace
  -- after the equals sign of an attribute
  assigned : (opened : List (List ℕ)) (name : List ℕ) → DocumentPlace
  -- in the quotes of an attribute's value
  quoted : (opened : List (List ℕ)) (name : List ℕ) → DocumentPlace
  -- after the slash of a tag without content
  slashed : (opened : List (List ℕ)) → DocumentPlace
  -- in the name of a tag that ends an element
  ending : (opened : List (List ℕ)) (name : List ℕ) → DocumentPlace
  -- where no document can go on
  nowhere : DocumentPlace

-- after a slash: at the front of a tag it ends an element, after its name the tag has no content
abbrev pub after_slash : (opened : List (List ℕ)) (name : List ℕ) → DocumentPlace
after_slash os [] = ending os []
after_slash os (b ∷ bs) = slashed os

-- after a tag that ends an element: the innermost that is open has this name
abbrev pub closed : (name : List ℕ) (opened : List (List ℕ)) → DocumentPlace
closed name [] = nowhere
closed name (o ∷ os) = if bytes_eq name o then outside os else nowhere

-- after one byte more; the values of attributes have double quotes
abbrev pub read_byte : DocumentPlace → ℕ → DocumentPlace
read_byte (outside os) b = if b == 60 then naming os [] else outside os
read_byte (naming os name) b =
    if b == 62 then outside (name ∷ os)
    else (if b == 32 then inside os name
    else (if b == 47 then after_slash os name
    else naming os (name ++ b ∷ [])))
read_byte (inside os name) b =
    if b == 62 then outside (name ∷ os)
    else (if b == 61 then assigned os name
    else (if b == 47 then slashed os
    else (if b == 60 || (b == 34 || b == 39) then nowhere
    else inside os name)))
read_byte (assigned os name) b = if b == 34 then quoted os name else nowhere
read_byte (quoted os name) b = if b == 34 then inside os name else (if b == 60 then nowhere else quoted os name)
read_byte (slashed os) b = if b == 62 then outside os else nowhere
read_byte (ending os name) b = if b == 62 then closed name os else ending os (name ++ b ∷ [])
read_byte nowhere b = nowhere

-- after these bytes
abbrev pub read : DocumentPlace → List ℕ → DocumentPlace
read p [] = p
read p (b ∷ bs) = read (read_byte p b) bs

-- a word or a number is outside tags or in quotes
abbrev pub after_said : DocumentPlace → DocumentPlace
after_said (outside os) = outside os
after_said (quoted os name) = quoted os name
after_said p = nowhere

-- a label is outside tags alone
abbrev pub after_label : DocumentPlace → DocumentPlace
after_label (outside os) = outside os
after_label p = nowhere

-- an attribute is in a tag, after its name
abbrev pub after_attribute : DocumentPlace → DocumentPlace
after_attribute (naming os name) = inside os name
after_attribute (inside os name) = inside os name
after_attribute p = nowhere

-- a byte that ends neither a text nor what is in quotes
abbrev pub is_plain_byte : ℕ → Bool
is_plain_byte b = not (b == 60 || b == 34)

abbrev pub is_plain : List ℕ → Bool
is_plain bs = list_all is_plain_byte bs
