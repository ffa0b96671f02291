-- What is read of a text is printed so.
use Rattle.std.proofs.Common.{◌≡◌, ℕ, zero, suc, Bool, true, false, cond, eqb, leb, List, [], ◌∷◌, ◌++◌, length, Option}
use Rattle.std.proofs.Common.{Some, None, refl, sym, ap, ◌∙◌, append_assoc, arith}
use Rattle.std.specs.Prelude.{option_map, codes, ◌&&◌}
use Rattle.std.proofs.lemmas.Bool.{eqb-true, leb-true}
use Rattle.std.proofs.lemmas.Option.{cond_some, option_and_then_some, some_pair_parts}
use Rattle.pf_terms.specs.declared.limits.TheConstants.{MOST_DEPTH, MOST_NODES}
use Rattle.pf_terms.specs.Atoms.{name_of}
use Rattle.pf_terms.specs.Value.{Value, int, atom, tuple, list, nodes, depth, IsWithinLimits}
use Rattle.pf_tokens.specs.Bytes.{is_digit}
use Rattle.pf_model.specs.TermText.{is_plain_name, quoted_byte, value_text, values_text, rest_text}
use Rattle.std.specs.Prelude.{flat_map}
use Rattle.pf_termtext.specs.Texts.{CanBeRead, AllCanBeRead}
use Rattle.pf_termtext.specs.Reading.{TextFront, after_byte, with_value_before, word_bytes, after_word}
use Rattle.pf_termtext.specs.Reading.{integer_of_digits, integer_at, atom_of, plain_at, name_at, quoted_at, elements}
use Rattle.pf_termtext.specs.Reading.{bounded, next_items, items_at, elements_by, elements_at, tuple_at, list_at}
use Rattle.pf_termtext.specs.Reading.{value_by, value_at}
use Rattle.pf_termtext.proofs.Names.{atom_is_there}
use Rattle.pf_termtext.proofs.Written.{name_sound}
use Rattle.pf_termtext.proofs.Numbers.{integer_printed}
use Rattle.pf_termtext.proofs.Words.{word_split}
use Rattle.pf_errors.proofs.Bools.{both}

-- what is made of a value, and of which
before_some : {X Y P : Type 0} (rest : List ℕ) (make : X → Y) (o : Option X) (y : Y) (r : List ℕ)
    → with_value_before rest make o ≡ Some (y, r)
    → ((x : X) → o ≡ Some x → make x ≡ y → rest ≡ r → P) → P
before_some rest make (Some x) y r e then = let parts = some_pair_parts (make x) y rest r e in then
    x refl parts.0 parts.1
before_some rest make None y r e then = absurd cc

pub after_some : (b : ℕ) (text rest : List ℕ) → after_byte b text ≡ Some rest → text ≡ b ∷ rest
after_some b [] rest e = absurd cc
after_some b (c ∷ text) rest e =
    let parts = cond_some (eqb c b) text rest e in
    rw (eqb-true c b parts.0, parts.1) refl

-- a bounded value is within the limits
bounded_some : (v w : Value) → bounded v ≡ Some w → (v ≡ w) × IsWithinLimits v
bounded_some v w e =
    let parts = cond_some (leb (nodes v) MOST_NODES && leb (depth v) MOST_DEPTH) v w e in
    let tests = both (leb (nodes v) MOST_NODES) (leb (depth v) MOST_DEPTH) parts.0 in
    (parts.1, (leb-true (nodes v) MOST_NODES tests.0, leb-true (depth v) MOST_DEPTH tests.1))

-- how a value is printed
abbrev pub text_of : List (List ℕ) → Value → List ℕ
text_of names v = value_text (name_of names) v

-- a value that can be read is printed at the front of the text
abbrev pub Says : List (List ℕ) → List ℕ → Value → List ℕ → Type 0
Says names text v rest = (text ≡ text_of names v ++ rest) × CanBeRead (length names) v × IsWithinLimits v

-- such a text is of elements, at least one
abbrev pub SaysItems : List (List ℕ) → List ℕ → List Value → List ℕ → Type 0
SaysItems names text [] rest = ⊥
SaysItems names text (v ∷ vs) rest =
    (text ≡ text_of names v ++ (rest_text (name_of names) (elements vs) ++ rest)) × CanBeRead (length names) v
    × AllCanBeRead (length names) (elements vs)

-- such a text is of elements, or of none
abbrev pub SaysElements : List (List ℕ) → List ℕ → List Value → List ℕ → Type 0
SaysElements names text vs rest = (text ≡ values_text (name_of names) (elements vs) ++ rest)
    × AllCanBeRead (length names) (elements vs)

module _ (names : List (List ℕ)) where
  integer_sound : (text : List ℕ) (v : Value) (rest : List ℕ) → integer_at false text ≡ Some (v, rest)
      → Says names text v rest
  integer_sound text v rest e =
      before_some (after_word text) int (integer_of_digits false (word_bytes text)) v rest e (λ z read made after_it.
      let (printed, fits) = integer_printed false (word_bytes text) z read in
      rw (← made, ← after_it) (
        word_split text ∙ ap (λ t. t ++ after_word text) (sym printed),
        fits,
        (omega arith, omega arith),
      ))

  negative_sound : (text : List ℕ) (v : Value) (rest : List ℕ) → integer_at true text ≡ Some (v, rest)
      → Says names (45 ∷ text) v rest
  negative_sound text v rest e =
      before_some (after_word text) int (integer_of_digits true (word_bytes text)) v rest e (λ z read made after_it.
      let (printed, fits) = integer_printed true (word_bytes text) z read in
      rw (← made, ← after_it) (
        ap (λ t. 45 ∷ t) (word_split text) ∙ ap (λ t. t ++ after_word text) (sym printed),
        fits,
        (omega arith, omega arith),
      ))

  -- an atom that the table has, printed as it is or in quotes
  atom_sound : (name : List ℕ) (plain : Bool) (text : List ℕ) (v : Value) (rest after_it : List ℕ)
      → is_plain_name name ≡ plain
      → text ≡ cond plain name (codes "'" ++ flat_map quoted_byte name ++ codes "'") ++ after_it
      → with_value_before after_it atom (atom_of names name) ≡ Some (v, rest) → Says names text v rest
  atom_sound name plain text v rest after_it is written e =
      before_some after_it atom (atom_of names name) v rest e (λ a found made same.
      let (is_there, named) = atom_is_there names name a found in
      rw (← made, ← same, named, is) (written, is_there, (omega arith, omega arith)))

  plain_sound : (text : List ℕ) (v : Value) (rest : List ℕ) → plain_at names text ≡ Some (v, rest)
      → Says names text v rest
  plain_sound text v rest e = by (is_plain_name (word_bytes text)) refl e
    where
      by : (t : Bool) → is_plain_name (word_bytes text) ≡ t
          → cond t (with_value_before (after_word text) atom (atom_of names (word_bytes text))) None ≡ Some (v, rest)
          → Says names text v rest
      by true is made = atom_sound (word_bytes text) true text v rest (after_word text) is (word_split text) made
      by false is made = absurd cc

  quoted_sound : (text : List ℕ) (v : Value) (rest : List ℕ) → quoted_at names text ≡ Some (v, rest)
      → Says names (39 ∷ text) v rest
  quoted_sound text v rest e =
      option_and_then_some _ (name_at false text) (v, rest) e (λ p read made. by p read (is_plain_name p.0) refl made)
    where
      by : (p : List ℕ × List ℕ) → name_at false text ≡ Some p → (t : Bool) → is_plain_name p.0 ≡ t
          → cond t None (with_value_before p.1 atom (atom_of names p.0)) ≡ Some (v, rest)
          → Says names (39 ∷ text) v rest
      by p read true is made = absurd cc
      by p read false is made =
          let written = name_sound false text p.0 p.1 read in
          atom_sound p.0 false (39 ∷ text) v rest p.1 is
          (ap (λ t. 39 ∷ t) (written ∙ sym (append_assoc (flat_map quoted_byte p.0) (39 ∷ []) p.1))) made

  module _ (read : List ℕ → TextFront Value) (sound : (text : List ℕ) (v : Value) (rest : List ℕ)
      → read text ≡ Some (v, rest) → Says names text v rest) where
    -- one element is read before others
    one_more : (text : List ℕ) (v : Value) (next : List ℕ) (vs : List Value) (rest : List ℕ)
        → Says names text v (44 ∷ next) → SaysItems names next vs rest → SaysItems names text (v ∷ vs) rest
    one_more text v next [] rest one others = absurd others
    one_more text v next (w ∷ ws) rest one others =
        let joined = append_assoc (text_of names w) (rest_text (name_of names) (elements ws)) rest in
        (one.0 ∙ ap (λ t. text_of names v ++ (44 ∷ t)) (others.0 ∙ sym joined), one.1, (others.1, others.2))

    items_sound : (n : ℕ) (text : List ℕ) (vs : List Value) (rest : List ℕ) → items_at read n text ≡ Some (vs, rest)
        → SaysItems names text vs rest
    unfolding items_at
    items_sound zero text vs rest e = absurd cc
    items_sound (suc n) text vs rest e =
        option_and_then_some _ (read text) (vs, rest) e (λ p first made. by (λ t ws r f. items_sound n t ws r f) p first
        (after_byte 44 p.1) refl made)
      where
        by : ((t : List ℕ) (ws : List Value) (r : List ℕ) → items_at read n t ≡ Some (ws, r) → SaysItems names t ws r)
            → (p : Value × List ℕ) → read text ≡ Some p → (o : Option (List ℕ)) → after_byte 44 p.1 ≡ o
            → next_items (items_at read n) p.0 p.1 o ≡ Some (vs, rest) → SaysItems names text vs rest
        by later p first None comma made =
            let parts = some_pair_parts (p.0 ∷ []) vs p.1 rest made in
            let one = sound text p.0 p.1 first in
            rw (← parts.0, ← parts.1) (one.0, one.1, tt)
        by later p first (Some next) comma made = more_by (items_at read n next) refl made
          where
            more_by : (o : TextFront (List Value)) → items_at read n next ≡ o
                → option_map {U = List Value × List ℕ} (λ q. (p.0 ∷ q.0, q.1)) o ≡ Some (vs, rest)
                → SaysItems names text vs rest
            more_by None items made = absurd cc
            more_by (Some q) items made =
                let parts = some_pair_parts (p.0 ∷ q.0) vs q.1 rest made in
                let one = sound text p.0 (44 ∷ next)
                (first ∙ ap (λ r. Some (p.0, r)) (after_some 44 p.1 next comma)) in
                rw (← parts.0, ← parts.1) (one_more text p.0 next q.0 q.1 one (later next q.0 q.1 items))

    as_elements : (text : List ℕ) (vs : List Value) (rest : List ℕ) → SaysItems names text vs rest
        → SaysElements names text vs rest
    as_elements text [] rest says = absurd says
    as_elements text (v ∷ vs) rest says =
        (says.0 ∙ sym (append_assoc (text_of names v) (rest_text (name_of names) (elements vs)) rest), (says.1, says.2))

    elements_sound : (n close : ℕ) (text : List ℕ) (vs : List Value) (rest : List ℕ)
        → elements_by (items_at read n) close text (after_byte close text) ≡ Some (vs, rest)
        → SaysElements names text vs (close ∷ rest)
    elements_sound n close text vs rest e = by (after_byte close text) refl e
      where
        by : (o : Option (List ℕ)) → after_byte close text ≡ o
            → elements_by (items_at read n) close text o ≡ Some (vs, rest) → SaysElements names text vs (close ∷ rest)
        by (Some r) empty made =
            let parts = some_pair_parts [] vs r rest made in
            rw (← parts.0, ← parts.1) (after_some close text r empty, tt)
        by None empty made = option_and_then_some _ (items_at read n text) (vs, rest) made
            (λ p items closed. ends p items (after_byte close p.1) refl closed)
          where
            ends : (p : List Value × List ℕ) → items_at read n text ≡ Some p → (o : Option (List ℕ))
                → after_byte close p.1 ≡ o
                → option_map {U = List Value × List ℕ} (λ r. (p.0, r)) o ≡ Some (vs, rest)
                → SaysElements names text vs (close ∷ rest)
            ends p items None end closed = absurd cc
            ends p items (Some r) end closed =
                let parts = some_pair_parts p.0 vs r rest closed in
                rw (← parts.0, ← parts.1)
                (as_elements text p.0 (close ∷ r)
                (items_sound n text p.0 (close ∷ r)
                (items ∙ ap (λ q. Some (p.0, q)) (after_some close p.1 r end))))

    tuple_sound : (text : List ℕ) (v : Value) (rest : List ℕ) → tuple_at (elements_at read) text ≡ Some (v, rest)
        → Says names (123 ∷ text) v rest
    tuple_sound text v rest e = option_and_then_some _ (elements_at read 125 text) (v, rest) e (λ p items made.
        before_some p.1 (λ v. v) (bounded (tuple (elements p.0))) v rest made (λ w fits same after_it.
        let (is, within) = bounded_some (tuple (elements p.0)) w fits in
        let says = elements_sound MOST_NODES 125 text p.0 p.1 items in
        rw (← after_it, ← same, ← is) (
          ap (λ t. 123 ∷ t) (says.0 ∙ sym (append_assoc (values_text (name_of names) (elements p.0)) (125 ∷ []) p.1)),
          says.1,
          within,
        )))

    list_sound : (text : List ℕ) (v : Value) (rest : List ℕ) → list_at (elements_at read) text ≡ Some (v, rest)
        → Says names (91 ∷ text) v rest
    list_sound text v rest e = option_and_then_some _ (elements_at read 93 text) (v, rest) e (λ p items made.
        before_some p.1 (λ v. v) (bounded (list (elements p.0))) v rest made (λ w fits same after_it.
        let (is, within) = bounded_some (list (elements p.0)) w fits in
        let says = elements_sound MOST_NODES 93 text p.0 p.1 items in
        rw (← after_it, ← same, ← is) (
          ap (λ t. 91 ∷ t) (says.0 ∙ sym (append_assoc (values_text (name_of names) (elements p.0)) (93 ∷ []) p.1)),
          says.1,
          within,
        )))

    value_by_sound : (text : List ℕ) (v : Value) (rest : List ℕ)
        → value_by (elements_at read) names text ≡ Some (v, rest) → Says names text v rest
    value_by_sound [] v rest e = absurd cc
    value_by_sound (b ∷ text) v rest e = by (eqb b 123) (eqb b 91) (eqb b 39) (eqb b 45) (is_digit b) refl
        refl refl refl e
      where
        by : (p q r s t : Bool) → eqb b 123 ≡ p → eqb b 91 ≡ q → eqb b 39 ≡ r → eqb b 45 ≡ s
            → cond p (tuple_at (elements_at read) text)
            (cond q (list_at (elements_at read) text) (cond r (quoted_at names text)
            (cond s (integer_at true text) (cond t (integer_at false (b ∷ text)) (plain_at names (b ∷ text))))))
            ≡ Some (v, rest)
            → Says names (b ∷ text) v rest
        by true q r s t is_p is_q is_r is_s made = rw (eqb-true b 123 is_p) (tuple_sound text v rest made)
        by false true r s t is_p is_q is_r is_s made = rw (eqb-true b 91 is_q) (list_sound text v rest made)
        by false false true s t is_p is_q is_r is_s made = rw (eqb-true b 39 is_r) (quoted_sound text v rest made)
        by false false false true t is_p is_q is_r is_s made = rw (eqb-true b 45 is_s) (negative_sound text v rest made)
        by false false false false true is_p is_q is_r is_s made = integer_sound (b ∷ text) v rest made
        by false false false false false is_p is_q is_r is_s made = plain_sound (b ∷ text) v rest made

  -- what is read at the front of a text is printed so
  pub value_sound : (room : ℕ) (text : List ℕ) (v : Value) (rest : List ℕ) → value_at names room text ≡ Some (v, rest)
      → Says names text v rest
  unfolding value_at
  value_sound zero text v rest e = absurd cc
  value_sound (suc room) text v rest e = value_by_sound (value_at names room)
      (λ t w r f. value_sound room t w r f) text v rest e
