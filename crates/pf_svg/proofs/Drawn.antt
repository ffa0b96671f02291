-- What is drawn in turn.
use Rattle.std.proofs.Common.{◌≡◌, ◌<◌, ◌≤◌, ◌+◌, ℕ, List, [], ◌∷◌, ◌++◌, refl, sym, ◌∙◌, ap, append_assoc, append-nil}
use Rattle.std.proofs.Common.{Bool, true, false, length, take, get_or, subst}
use Rattle.std.specs.Prelude.{IsTrue, flat_map, ◌&&◌}
use Rattle.std.specs.List.{list_all}
use Rattle.std.proofs.lemmas.List.{take_all, take_more}
use Rattle.std.proofs.lemmas.Grind.{flat_map-append}
use Rattle.std.proofs.lemmas.List.Folds.{list_all-append}
use Rattle.pf_errors.proofs.Bools.{both as parts_of}
use Rattle.pf_svg.specs.Document.{ClosesElement, DrawsDocument, DrawsFrom, IsDocument, OpensElement, place_after_part}
use Rattle.pf_svg.specs.Document.{after_all, document, drawn, document_end, is_attribute, is_fixed, is_said, is_value}
use Rattle.pf_svg.specs.Document.{labels_of_part, part_text, start_text}
use Rattle.pf_svg.specs.Places.{DocumentPlace, inside, naming, outside, quoted}
use Rattle.pf_svg.specs.declared.part.DocumentPart.{DocumentPart}
use Rattle.pf_svg.specs.declared.part.DocumentPart.TheVariants.{Markup, Phrase, Number, Pid, Point, Attribute, Class}
use Rattle.pf_svg.specs.declared.part.DocumentPart.TheVariants.{Moved, Label, Short}

both : (a b : Bool) → IsTrue a → IsTrue b → IsTrue (a && b)
both a b h k = rw (h, k) refl

-- ---- places

after_both : (p : DocumentPlace) (ps qs : List DocumentPart)
    → after_all p (ps ++ qs) ≡ after_all (after_all p ps) qs
after_both p [] qs = refl
after_both p (x ∷ ps) qs = after_both (place_after_part p x) ps qs

fixed_if_said : (own : List (List ℕ)) (x : DocumentPart) → IsTrue (is_said own x) → IsTrue (is_fixed own x)
fixed_if_said own (Phrase w) h = h
fixed_if_said own (Number n) h = refl
fixed_if_said own (Pid p) h = refl
fixed_if_said own (Point x y) h = refl
fixed_if_said own (Label l) h = refl
fixed_if_said own (Short l most) h = refl
fixed_if_said own (Markup w) h = absurd (cc)
fixed_if_said own (Attribute n v) h = absurd (cc)
fixed_if_said own (Class w) h = absurd (cc)
fixed_if_said own (Moved x y) h = absurd (cc)

fixed_if_value : (own : List (List ℕ)) (x : DocumentPart) → IsTrue (is_value own x) → IsTrue (is_fixed own x)
fixed_if_value own (Phrase w) h = h
fixed_if_value own (Markup w) h = absurd (cc)
fixed_if_value own (Number n) h = absurd (cc)
fixed_if_value own (Pid p) h = absurd (cc)
fixed_if_value own (Point x y) h = absurd (cc)
fixed_if_value own (Attribute n v) h = absurd (cc)
fixed_if_value own (Class w) h = absurd (cc)
fixed_if_value own (Moved x y) h = absurd (cc)
fixed_if_value own (Label l) h = absurd (cc)
fixed_if_value own (Short l most) h = absurd (cc)

fixed_if_attribute : (own : List (List ℕ)) (x : DocumentPart) → IsTrue (is_attribute own x) → IsTrue (is_fixed own x)
fixed_if_attribute own (Attribute name n) h = h
fixed_if_attribute own (Class w) h = h
fixed_if_attribute own (Moved x y) h = refl
fixed_if_attribute own (Markup w) h = absurd (cc)
fixed_if_attribute own (Phrase w) h = absurd (cc)
fixed_if_attribute own (Number n) h = absurd (cc)
fixed_if_attribute own (Pid p) h = absurd (cc)
fixed_if_attribute own (Point x y) h = absurd (cc)
fixed_if_attribute own (Label l) h = absurd (cc)
fixed_if_attribute own (Short l most) h = absurd (cc)

pub all_said : (own : List (List ℕ)) (ps : List DocumentPart) → IsTrue (list_all (is_said own) ps)
    → IsTrue (list_all (is_fixed own) ps)
all_said own [] h = refl
all_said own (x ∷ ps) h =
    let hs = parts_of (is_said own x) (list_all (is_said own) ps) h in
    both (is_fixed own x) (list_all (is_fixed own) ps) (fixed_if_said own x hs.0) (all_said own ps hs.1)

pub all_values : (own : List (List ℕ)) (ps : List DocumentPart) → IsTrue (list_all (is_value own) ps)
    → IsTrue (list_all (is_fixed own) ps)
all_values own [] h = refl
all_values own (x ∷ ps) h =
    let hs = parts_of (is_value own x) (list_all (is_value own) ps) h in
    both (is_fixed own x) (list_all (is_fixed own) ps) (fixed_if_value own x hs.0) (all_values own ps hs.1)

pub all_attributes : (own : List (List ℕ)) (ps : List DocumentPart) → IsTrue (list_all (is_attribute own) ps)
    → IsTrue (list_all (is_fixed own) ps)
all_attributes own [] h = refl
all_attributes own (x ∷ ps) h =
    let hs = parts_of (is_attribute own x) (list_all (is_attribute own) ps) h in
    both (is_fixed own x) (list_all (is_fixed own) ps) (fixed_if_attribute own x hs.0) (all_attributes own ps hs.1)

said_outside : (own : List (List ℕ)) (os : List (List ℕ)) (x : DocumentPart) → IsTrue (is_said own x)
    → place_after_part (outside os) x ≡ outside os
said_outside own os (Phrase w) h = refl
said_outside own os (Number n) h = refl
said_outside own os (Pid p) h = refl
said_outside own os (Point x y) h = refl
said_outside own os (Label l) h = refl
said_outside own os (Short l most) h = refl
said_outside own os (Markup w) h = absurd (cc)
said_outside own os (Attribute n v) h = absurd (cc)
said_outside own os (Class w) h = absurd (cc)
said_outside own os (Moved x y) h = absurd (cc)

value_quoted : (own : List (List ℕ)) (os : List (List ℕ)) (name : List ℕ) (x : DocumentPart) → IsTrue (is_value own x)
    → place_after_part (quoted os name) x ≡ quoted os name
value_quoted own os name (Phrase w) h = refl
value_quoted own os name (Markup w) h = absurd (cc)
value_quoted own os name (Number n) h = absurd (cc)
value_quoted own os name (Pid p) h = absurd (cc)
value_quoted own os name (Point x y) h = absurd (cc)
value_quoted own os name (Attribute n v) h = absurd (cc)
value_quoted own os name (Class w) h = absurd (cc)
value_quoted own os name (Moved x y) h = absurd (cc)
value_quoted own os name (Label l) h = absurd (cc)
value_quoted own os name (Short l most) h = absurd (cc)

attribute_inside : (own : List (List ℕ)) (os : List (List ℕ)) (name : List ℕ) (x : DocumentPart)
    → IsTrue (is_attribute own x) → place_after_part (inside os name) x ≡ inside os name
attribute_inside own os name (Attribute n v) h = refl
attribute_inside own os name (Class w) h = refl
attribute_inside own os name (Moved x y) h = refl
attribute_inside own os name (Markup w) h = absurd (cc)
attribute_inside own os name (Phrase w) h = absurd (cc)
attribute_inside own os name (Number n) h = absurd (cc)
attribute_inside own os name (Pid p) h = absurd (cc)
attribute_inside own os name (Point x y) h = absurd (cc)
attribute_inside own os name (Label l) h = absurd (cc)
attribute_inside own os name (Short l most) h = absurd (cc)

attribute_first : (own : List (List ℕ)) (os : List (List ℕ)) (name : List ℕ) (x : DocumentPart)
    → IsTrue (is_attribute own x) → place_after_part (naming os name) x ≡ inside os name
attribute_first own os name (Attribute n v) h = refl
attribute_first own os name (Class w) h = refl
attribute_first own os name (Moved x y) h = refl
attribute_first own os name (Markup w) h = absurd (cc)
attribute_first own os name (Phrase w) h = absurd (cc)
attribute_first own os name (Number n) h = absurd (cc)
attribute_first own os name (Pid p) h = absurd (cc)
attribute_first own os name (Point x y) h = absurd (cc)
attribute_first own os name (Label l) h = absurd (cc)
attribute_first own os name (Short l most) h = absurd (cc)

-- what is said outside tags
pub stays_outside : (own : List (List ℕ)) (os : List (List ℕ)) (ps : List DocumentPart)
    → IsTrue (list_all (is_said own) ps) → after_all (outside os) ps ≡ outside os
stays_outside own os [] h = refl
stays_outside own os (x ∷ ps) h =
    let hs = parts_of (is_said own x) (list_all (is_said own) ps) h in
    ap (λ (p : DocumentPlace). after_all p ps) (said_outside own os x hs.0) ∙ stays_outside own os ps hs.1

-- in quotes
pub stays_quoted : (own : List (List ℕ)) (os : List (List ℕ)) (name : List ℕ) (ps : List DocumentPart)
    → IsTrue (list_all (is_value own) ps)
    → after_all (quoted os name) ps ≡ quoted os name
stays_quoted own os name [] h = refl
stays_quoted own os name (x ∷ ps) h =
    let hs = parts_of (is_value own x) (list_all (is_value own) ps) h in
    ap (λ (p : DocumentPlace). after_all p ps) (value_quoted own os name x hs.0) ∙ stays_quoted own os name ps hs.1

-- attributes in a tag
pub stays_inside : (own : List (List ℕ)) (os : List (List ℕ)) (name : List ℕ) (ps : List DocumentPart)
    → IsTrue (list_all (is_attribute own) ps)
    → after_all (inside os name) ps ≡ inside os name
stays_inside own os name [] h = refl
stays_inside own os name (x ∷ ps) h =
    let hs = parts_of (is_attribute own x) (list_all (is_attribute own) ps) h in
    ap (λ (p : DocumentPlace). after_all p ps) (attribute_inside own os name x hs.0) ∙ stays_inside own os name ps hs.1

-- a tag that has only attributes
pub closed_after : (own : List (List ℕ)) (os : List (List ℕ)) (b : ℕ) (bs : List ℕ) (ps : List DocumentPart)
    → IsTrue (list_all (is_attribute own) ps)
    → (end : DocumentPlace → DocumentPlace) (q : DocumentPlace) → end (naming os (b ∷ bs)) ≡ q
    → end (inside os (b ∷ bs)) ≡ q → end (after_all (naming os (b ∷ bs)) ps) ≡ q
closed_after own os b bs [] h end q e f = e
closed_after own os b bs (x ∷ ps) h end q e f =
    let hs = parts_of (is_attribute own x) (list_all (is_attribute own) ps) h in
    ap (λ (p : DocumentPlace). end (after_all p ps)) (attribute_first own os (b ∷ bs) x hs.0)
    ∙ ap end (stays_inside own os (b ∷ bs) ps hs.1) ∙ f

-- ---- drawing

-- one drawing after another, from place to place
pub follow : {own ks ls : List (List ℕ)} {p q r : DocumentPlace} {x y z : List ℕ} → DrawsFrom own p ks q x y
    → DrawsFrom own q ls r y z → DrawsFrom own p (ks ++ ls) r x z
follow {own} {ks} {ls} {p} {q} {r} {x} {y} {z} (drawn ps e f l w) (drawn qs e' f' l' w') =
    let text : z ≡ x ++ flat_map part_text (ps ++ qs) =
    e' ∙ ap (λ (t : List ℕ). t ++ flat_map part_text qs) e
    ∙ append_assoc x (flat_map part_text ps) (flat_map part_text qs)
    ∙ ap (λ (t : List ℕ). x ++ t) (sym (flat_map-append part_text ps qs)) in
    drawn (ps ++ qs) text
    (rw (list_all-append (is_fixed own) ps qs) (both (list_all (is_fixed own) ps) (list_all (is_fixed own) qs) f f'))
    (rw (flat_map-append labels_of_part ps qs, l, l') refl)
    (after_both p ps qs ∙ ap (λ (t : DocumentPlace). after_all t qs) w ∙ w')

-- the same labels
pub relabelled : {own ks ls : List (List ℕ)} {p q : DocumentPlace} {x y : List ℕ} → ks ≡ ls → DrawsFrom own p ks q x y
    → DrawsFrom own p ls q x y
relabelled h (drawn ps e f l w) = drawn ps e f (l ∙ h) w

-- the same place
pub led : {own ks : List (List ℕ)} {p q r : DocumentPlace} {x y : List ℕ} → q ≡ r → DrawsFrom own p ks q x y
    → DrawsFrom own p ks r x y
led h (drawn ps e f l w) = drawn ps e f l (w ∙ h)

-- a drawing without labels after another
pub follow_plainly : {own ls : List (List ℕ)} {p q r : DocumentPlace} {x y z : List ℕ} → DrawsFrom own p ls q x y
    → DrawsFrom own q [] r y z → DrawsFrom own p ls r x z
follow_plainly {own} {ls} d e = relabelled (append-nil ls) (follow d e)

-- nothing is drawn
pub nothing : {own : List (List ℕ)} (x : List ℕ) → DrawsDocument own [] x x
nothing x = λ os. drawn [] (sym (append-nil x)) refl refl refl

pub in_turn : {own ks ls : List (List ℕ)} {x y z : List ℕ} → DrawsDocument own ks x y → DrawsDocument own ls y z
    → DrawsDocument own (ks ++ ls) x z
in_turn d e = λ os. follow (d os) (e os)

pub renamed : {own ks ls : List (List ℕ)} {x y : List ℕ} → ks ≡ ls → DrawsDocument own ks x y → DrawsDocument own ls x y
renamed h d = λ os. relabelled h (d os)

pub plainly : {own ls : List (List ℕ)} {x y z : List ℕ} → DrawsDocument own ls x y → DrawsDocument own [] y z
    → DrawsDocument own ls x z
plainly d e = λ os. follow_plainly (d os) (e os)

-- within an element that was opened, and to its end
pub within : {own : List (List ℕ)} {name : List ℕ} {ks ls : List (List ℕ)} {x y z : List ℕ}
    → OpensElement own name ks x y → DrawsDocument own ls y z → OpensElement own name (ks ++ ls) x z
within {own} {name} d e = λ os. follow (d os) (e (name ∷ os))

pub to_close : {own : List (List ℕ)} {name : List ℕ} {ls : List (List ℕ)} {x y z : List ℕ} → DrawsDocument own ls x y
    → ClosesElement own name [] y z → ClosesElement own name ls x z
to_close {own} {name} d e = λ os. follow_plainly (d (name ∷ os)) (e os)

pub grouped : {own : List (List ℕ)} {name : List ℕ} {ks ls : List (List ℕ)} {x y z : List ℕ}
    → OpensElement own name ks x y → ClosesElement own name ls y z → DrawsDocument own (ks ++ ls) x z
grouped d e = λ os. follow (d os) (e os)

-- ---- lists

-- one element more of a list each of which has labels
pub grown : {X : Type 0} (f : X → List (List ℕ)) (xs : List X) (i : ℕ) (d : X) → i < length xs
    → flat_map f (take i xs) ++ f (get_or xs i d) ≡ flat_map f (take (i + 1) xs)
grown f xs i d lt =
    let one : f (get_or xs i d) ≡ flat_map f (get_or xs i d ∷ []) = sym (append-nil (f (get_or xs i d))) in
    ap (λ (t : List (List ℕ)). flat_map f (take i xs) ++ t) one
    ∙ sym (flat_map-append f (take i xs) (get_or xs i d ∷ []))
    ∙ sym (ap (flat_map f) (take_more xs i d lt))

-- all elements of a list
pub to_end : {X : Type 0} {own : List (List ℕ)} (f : X → List (List ℕ)) (xs : List X) (n : ℕ) {x y : List ℕ}
    → length xs ≤ n
    → DrawsDocument own (flat_map f (take n xs)) x y → DrawsDocument own (flat_map f xs) x y
to_end f xs n le = renamed (ap (flat_map f) (take_all n xs le))

-- one element more, which was read
pub grown_by : {X : Type 0} (f : X → List (List ℕ)) (xs : List X) (i : ℕ) (x : X) → i < length xs → x ≡ get_or xs i x
    → flat_map f (take i xs) ++ f x ≡ flat_map f (take (i + 1) xs)
grown_by f xs i x lt is = ap (λ (y : _). flat_map f (take i xs) ++ f y) is ∙ grown f xs i x lt

-- ---- documents

-- a beginning, a drawing and an end
pub whole : {own ls : List (List ℕ)} (width height : ℕ) {x y z w : List ℕ} → y ≡ x ++ start_text width height
    → DrawsDocument own ls y z → w ≡ z ++ document_end
    → IsDocument own ls x w
whole {own} {ls} width height {x} {y} {z} e d f =
    document width height z (subst (λ (t : List ℕ). DrawsDocument own ls t z) e d) f

-- the same, after more text
moved_from : {own ls : List (List ℕ)} {p q : DocumentPlace} {x y : List ℕ} (before : List ℕ) → DrawsFrom own p ls q x y
    → DrawsFrom own p ls q (before ++ x) (before ++ y)
moved_from {own} {ls} {p} {q} {x} {y} before (drawn ps e f l w) =
    drawn ps (ap (λ (t : List ℕ). before ++ t) e ∙ sym (append_assoc before x (flat_map part_text ps))) f l w

pub moved : {own ls : List (List ℕ)} {x y : List ℕ} (before : List ℕ) → DrawsDocument own ls x y
    → DrawsDocument own ls (before ++ x) (before ++ y)
moved before d = λ os. moved_from before (d os)

-- a document that was made by itself, after text from elsewhere
pub elsewhere : {own ls : List (List ℕ)} {x y : List ℕ} (before after : List ℕ) → x ≡ [] → after ≡ before ++ y
    → IsDocument own ls x y → IsDocument own ls before after
elsewhere {own} {ls} {x} {y} before after none e (document width height middle d f) =
    let alone : DrawsDocument own ls (start_text width height) middle =
    subst (λ (t : List ℕ). DrawsDocument own ls (t ++ start_text width height) middle) none d in
    document width height (before ++ middle) (moved before alone)
    (e ∙ ap (λ (t : List ℕ). before ++ t) f ∙ sym (append_assoc before middle document_end))
