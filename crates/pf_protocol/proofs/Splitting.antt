-- The lines and the words of bytes that are cut at a byte.
use Rattle.std.proofs.Common.{◌≡◌, ◌==◌, ℕ, Bool, true, false, List, [], ◌∷◌, ◌++◌, length, Option, Some, None, refl}
use Rattle.std.proofs.Common.{ap, ◌∙◌}
use Rattle.std.specs.Prelude.{MatchOption, ◌||◌, not, if◌then◌else◌}
use Rattle.std.specs.List.{onto_first, list_any}
use Rattle.std.proofs.lemmas.Bool.{eq-eqb}
use Rattle.std.proofs.lemmas.List.Elements.{All-head, All-tail}
use Rattle.std.proofs.lemmas.List.Splits.{slice_split_none, slice_split_at}
use denote.Ref.{Bor}
use Rattle.pf_protocol.specs.Splits.{Lacks}
use Rattle.pf_protocol.specs.Commands.{with_byte, first_line, parts_between, is_line_word}

-- a line without an end is all that there is
pub line_whole : (bs : List ℕ) → Lacks 10 bs → first_line bs ≡ record { text = bs; is_ended = false; rest = [] }
line_whole [] h = refl
line_whole (b ∷ bs) h =
    let other : (b == 10) ≡ false = All-head (λ x. (x == 10) ≡ false) b bs h in
    rw other (ap (with_byte b) (line_whole bs (All-tail (λ x. (x == 10) ≡ false) b bs h)))

-- a line ends at the first line end
pub line_cut : (text rest : List ℕ) → Lacks 10 text
    → first_line (text ++ (10 ∷ rest)) ≡ record { text = text; is_ended = true; rest = rest }
line_cut [] rest h = refl
line_cut (b ∷ bs) rest h =
    let other : (b == 10) ≡ false = All-head (λ x. (x == 10) ≡ false) b bs h in
    rw other (ap (with_byte b) (line_cut bs rest (All-tail (λ x. (x == 10) ≡ false) b bs h)))

-- what is cut at the first of such bytes is a part and the parts that follow it
pub parts_cut : (at : ℕ) (text : List ℕ) (r : Option (Bor (List ℕ) × Bor (List ℕ)))
    → MatchOption r (Lacks at text) (λ parts. (text ≡ parts.0.now ++ (at ∷ parts.1.now)) × Lacks at parts.0.now)
    → MatchOption r (parts_between at text ≡ text ∷ [])
    (λ parts. parts_between at text ≡ parts.0.now ∷ parts_between at parts.1.now)
parts_cut at text None h = slice_split_none (λ b. b == at) text h
parts_cut at text (Some p) h = ap (parts_between at) h.0 ∙ slice_split_at (λ b. b == at) p.0.now at p.1.now h.1
    (eq-eqb at at refl)

first_of : (x : ℕ) (parts : List (List ℕ)) → (word : List ℕ) × (words : List (List ℕ))
    × (onto_first x parts ≡ word ∷ words)
first_of x [] = (x ∷ [], [], refl)
first_of x (part ∷ parts) = (x ∷ part, parts, refl)

first_if : (b : Bool) (xs ys : List (List ℕ)) → ((word : List ℕ) × (words : List (List ℕ)) × (xs ≡ word ∷ words))
    → ((word : List ℕ) × (words : List (List ℕ)) × (ys ≡ word ∷ words))
    → (word : List ℕ) × (words : List (List ℕ)) × ((if b then xs else ys) ≡ word ∷ words)
first_if true xs ys f g = f
first_if false xs ys f g = g

-- a text has at least one part
some_part : (at : ℕ) (text : List ℕ) → (part : List ℕ) × (parts : List (List ℕ))
    × (parts_between at text ≡ part ∷ parts)
some_part at [] = ([], [], refl)
some_part at (b ∷ bs) =
    first_if (b == at) ([] ∷ parts_between at bs) (onto_first b (parts_between at bs)) ([], parts_between at bs, refl)
    (first_of b (parts_between at bs))

-- a part with parts after it is followed by a part
pub more_parts : (at : ℕ) (text first others : List ℕ) → parts_between at text ≡ first ∷ parts_between at others
    → (a : List ℕ) × (b : List ℕ) × (parts : List (List ℕ)) × (parts_between at text ≡ a ∷ b ∷ parts)
more_parts at text first others e = let w = some_part at others in
    (first, w.0, w.1, e ∙ ap (λ (ws : List (List ℕ)). first ∷ ws) w.2)

-- a word that isn't empty is one unless it has a blank
pub word_of_some : (text : List ℕ) → (length text == 0) ≡ false
    → is_line_word text ≡ not (list_any (λ c. (c == 9) || (c == 13)) text)
word_of_some [] h = absurd cc
word_of_some (b ∷ bs) h = refl
