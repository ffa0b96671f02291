-- What is printed of a value is read as it.
use Rattle.std.proofs.Common.{◌≡◌, inl, inr, ℕ, zero, suc, ◌≤◌, ◌<◌, ◌^◌, pos, negsuc, Bool, true, false, cond, List}
use Rattle.std.proofs.Common.{[], ◌∷◌, ◌++◌, length, Option, Some, None, refl, sym, ap, ◌∙◌, append_assoc, arith}
use Rattle.std.specs.Prelude.{option_map, codes, ◌&&◌, flat_map, ◌⊎◌}
use Rattle.std.specs.List.{list_all}
use Rattle.std.specs.Fmt as print
use Rattle.std.proofs.lemmas.Bool.{eq-eqb, le-leb}
use Rattle.std.proofs.lemmas.Bool.Decides.{nat_tests}
use Rattle.std.proofs.lemmas.Fmt.{decimal_nonempty}
use Rattle.pf_terms.specs.declared.limits.TheConstants.{MOST_DEPTH, MOST_NODES}
use Rattle.pf_terms.specs.Atoms.{name_of}
use Rattle.pf_terms.specs.Order.{Distinguishes}
use Rattle.pf_terms.specs.Value.{Value, Values, int, atom, ref, pid, tuple, list, none, more, count, nodes, nodes_in}
use Rattle.pf_terms.specs.Value.{depth, depth_in, IsWithinLimits}
use Rattle.pf_tokens.specs.Bytes.{ends, is_digit, is_lower, is_word_byte}
use Rattle.pf_tokens.proofs.Classes.{lower_word}
use Rattle.pf_model.specs.TermText.{is_plain_name, quoted_byte, values_text, rest_text}
use Rattle.pf_termtext.specs.Texts.{CanBeRead, AllCanBeRead}
use Rattle.pf_termtext.specs.Reading.{after_byte, with_value_before, word_bytes, integer_of_digits, atom_of, elements}
use Rattle.pf_termtext.specs.Reading.{bounded, next_items, items_at, elements_by, elements_at, value_at}
use Rattle.pf_termtext.proofs.Names.{atom_found}
use Rattle.pf_termtext.proofs.Written.{name_again}
use Rattle.pf_termtext.proofs.Numbers.{decimal_digits, positive_read, negative_read}
use Rattle.pf_termtext.proofs.Words.{word_is, after_word_is}
use Rattle.pf_termtext.proofs.Items.{item_step}
use Rattle.pf_termtext.proofs.Values.{at_brace, at_bracket, at_quote, at_minus, at_digit, at_other, tuple_by, list_by}
use Rattle.pf_termtext.proofs.Sound.{text_of, after_some}
use Rattle.pf_errors.proofs.Bools.{both}

-- the values of elements in turn
abbrev pub listed : Values → List Value
listed none = []
listed (more v vs) = v ∷ listed vs

pub elements-listed : (vs : Values) → elements (listed vs) ≡ vs
elements-listed none = refl
elements-listed (more v vs) = ap (λ ws. more v ws) (elements-listed vs)

-- a value has a node at least, and is a level deep at least
nodes_some : (v : Value) → 1 ≤ nodes v
nodes_some (int z) = omega arith
nodes_some (atom a) = omega arith
nodes_some (ref r) = omega arith
nodes_some (pid p) = omega arith
nodes_some (tuple vs) = omega arith
nodes_some (list vs) = omega arith

depth_some : (v : Value) → 1 ≤ depth v
depth_some (int z) = omega arith
depth_some (atom a) = omega arith
depth_some (ref r) = omega arith
depth_some (pid p) = omega arith
depth_some (tuple vs) = omega arith
depth_some (list vs) = omega arith

count-le : (vs : Values) → count vs ≤ nodes_in vs
count-le none = omega arith
count-le (more v vs) = omega (arith, nodes_some v, count-le vs)

bounded_within : (v : Value) → IsWithinLimits v → bounded v ≡ Some v
bounded_within v within = rw (le-leb (nodes v) MOST_NODES within.0, le-leb (depth v) MOST_DEPTH within.1) refl

-- digits are bytes of words
digits_words : (ds : List ℕ) → list_all is_digit ds ≡ true → list_all is_word_byte ds ≡ true
digits_words [] e = refl
digits_words (d ∷ ds) e =
    let parts = both (is_digit d) (list_all is_digit ds) e in
    rw (digit_word d parts.0, digits_words ds parts.1) refl
  where
    digit_word : (d : ℕ) → is_digit d ≡ true → is_word_byte d ≡ true
    digit_word d e = grind (arith, nat_tests)

-- a name that is written as it is begins with a lower-case letter, and goes on with bytes of words
plain_parts : (b : ℕ) (bs : List ℕ) → is_plain_name (b ∷ bs) ≡ true
    → (is_lower b ≡ true) × (list_all is_word_byte (b ∷ bs) ≡ true)
plain_parts b bs e =
    let outer = both (is_lower b && list_all is_word_byte bs) _ e in
    let inner = both (is_lower b) (list_all is_word_byte bs) outer.0 in
    (inner.0, rw (lower_word b inner.0, inner.1) refl)

module _ (names : List (List ℕ)) (apart : Distinguishes (name_of names) (length names)) where
  -- the value within these bounds can be read
  abbrev Fits : ℕ → Value → Type 0
  Fits room v = CanBeRead (length names) v × (nodes v ≤ MOST_NODES) × (depth v ≤ room)

  abbrev AllFit : ℕ → Values → Type 0
  AllFit room vs = AllCanBeRead (length names) vs × (nodes_in vs ≤ MOST_NODES) × (depth_in vs ≤ room)

  integer_again : (room less n : ℕ) (rest : List ℕ) → room ≡ suc less → n < 2 ^ 63 → ends is_word_byte rest ≡ true
      → value_at names room (print.decimal n ++ rest) ≡ Some (int (pos n), rest)
  integer_again room less n rest is lt whole = by (print.decimal n) refl
    where
      by : (ds : List ℕ) → print.decimal n ≡ ds
          → value_at names room (print.decimal n ++ rest) ≡ Some (int (pos n), rest)
      by [] e = absurd (let some : 0 < length (print.decimal n) = decimal_nonempty n (omega arith) in
          omega (arith, some, ap length e))
      by (d ∷ ds) e =
          let digits : list_all is_digit (d ∷ ds) ≡ true = ap (list_all is_digit) (sym e) ∙ decimal_digits n
          (omega arith) in
          let words = digits_words (d ∷ ds) digits in
          let first = both (is_digit d) (list_all is_digit ds) digits in
          let read : integer_of_digits false (d ∷ ds) ≡ Some (pos n) = ap (integer_of_digits false) (sym e)
          ∙ positive_read n lt in
          ap (λ t. value_at names room (t ++ rest)) e
          ∙ at_digit names room less is (d ∷ (ds ++ rest)) d (ds ++ rest) refl first.0
          ∙ ap (λ r. with_value_before r int (integer_of_digits false (word_bytes (d ∷ ds ++ rest))))
          (after_word_is (d ∷ ds) rest words whole)
          ∙ ap (λ w. with_value_before rest int (integer_of_digits false w)) (word_is (d ∷ ds) rest words whole)
          ∙ ap (with_value_before rest int) read

  negative_again : (room less n : ℕ) (rest : List ℕ) → room ≡ suc less → n < 2 ^ 63 → ends is_word_byte rest ≡ true
      → value_at names room (45 ∷ (print.decimal (suc n) ++ rest)) ≡ Some (int (negsuc n), rest)
  negative_again room less n rest is lt whole =
      let ds = print.decimal (suc n) in
      let words = digits_words (print.decimal (suc n)) (decimal_digits (suc n) (omega arith)) in
      at_minus names room less is (45 ∷ (print.decimal (suc n) ++ rest)) 45 (print.decimal (suc n) ++ rest) refl refl
      ∙ ap (λ r. with_value_before r int (integer_of_digits true (word_bytes (print.decimal (suc n) ++ rest))))
      (after_word_is (print.decimal (suc n)) rest words whole)
      ∙ ap (λ w. with_value_before rest int (integer_of_digits true w))
      (word_is (print.decimal (suc n)) rest words whole)
      ∙ ap (with_value_before rest int) (negative_read n lt)

  atom_again : (room less a : ℕ) (name rest : List ℕ) → room ≡ suc less → a < length names → name_of names a ≡ name
      → ends is_word_byte rest ≡ true
      → (t : Bool) → is_plain_name name ≡ t → value_at names room
      (cond t name (codes "'" ++ flat_map quoted_byte name ++ codes "'") ++ rest) ≡ Some (atom a, rest)
  atom_again room less a [] rest is is_there named whole true plain = absurd cc
  atom_again room less a (b ∷ bs) rest is is_there named whole true plain =
      let parts = plain_parts b bs plain in
      let found : atom_of names (b ∷ bs) ≡ Some a = ap (atom_of names) (sym named)
      ∙ atom_found names a apart is_there in
      at_other names room less is (b ∷ (bs ++ rest)) b (bs ++ rest) refl (not_lower b parts.0 123 refl)
      (not_lower b parts.0 91 refl) (not_lower b parts.0 39 refl) (not_lower b parts.0 45 refl) (no_digit b parts.0)
      ∙ rw (word_is (b ∷ bs) rest parts.1 whole, after_word_is (b ∷ bs) rest parts.1 whole, plain, found) refl
    where
      not_lower : (b : ℕ) → is_lower b ≡ true → (c : ℕ) → is_lower c ≡ false → b ≡ c → ⊥
      not_lower b lower c other e = absurd (let no : true ≡ false = sym lower ∙ ap is_lower e ∙ other in cc)

      no_digit : (b : ℕ) → is_lower b ≡ true → is_digit b ≡ false
      no_digit b lower = grind (arith, nat_tests)
  atom_again room less a name rest is is_there named whole false plain =
      let found : atom_of names name ≡ Some a = ap (atom_of names) (sym named) ∙ atom_found names a apart is_there in
      let written : flat_map quoted_byte name ++ (39 ∷ []) ++ rest ≡ flat_map quoted_byte name ++ (39 ∷ rest) =
      append_assoc (flat_map quoted_byte name) (39 ∷ []) rest in
      ap (λ t. value_at names room (39 ∷ t)) written
      ∙ at_quote names room less is (39 ∷ (flat_map quoted_byte name ++ (39 ∷ rest))) 39
      (flat_map quoted_byte name ++ (39 ∷ rest)) refl refl
      ∙ rw (name_again name rest, plain, found) refl

  -- no value begins with the end of a tuple or a list
  closes_none : (room : ℕ) (close : ℕ) (text : List ℕ) → (close ≡ 125) ⊎ (close ≡ 93)
      → value_at names room (close ∷ text) ≡ None
  unfolding value_at
  closes_none zero close text is = refl
  closes_none (suc room) close text (inl is) = rw is refl
  closes_none (suc room) close text (inr is) = rw is refl

  module _ (room : ℕ) (again : (v : Value) → Fits room v → (rest : List ℕ) → ends is_word_byte rest ≡ true
      → value_at names room (text_of names v ++ rest) ≡ Some (v, rest)) where
    -- one element or several are read up to their end
    items_again : (close : ℕ) (rest : List ℕ) → (close ≡ 125) ⊎ (close ≡ 93) → (vs : Values) (v : Value) (n : ℕ)
        → count vs < n → Fits room v → AllFit room vs
        → items_at (value_at names room) n (text_of names v ++ (rest_text (name_of names) vs ++ (close ∷ rest)))
        ≡ Some (v ∷ listed vs, close ∷ rest)
    items_again close rest is none v zero lt fits all = absurd (omega (arith, lt))
    items_again close rest is none v (suc n) lt fits all =
        item_step (value_at names room) n (text_of names v ++ (close ∷ rest)) (Some (v, close ∷ rest))
        (again v fits (close ∷ rest) (whole close is))
        ∙ ap (next_items (items_at (value_at names room) n) v (close ∷ rest)) (no_comma close is)
      where
        whole : (close : ℕ) → (close ≡ 125) ⊎ (close ≡ 93) → ends is_word_byte (close ∷ rest) ≡ true
        whole close (inl is) = rw is refl
        whole close (inr is) = rw is refl

        no_comma : (close : ℕ) → (close ≡ 125) ⊎ (close ≡ 93) → after_byte 44 (close ∷ rest) ≡ None
        no_comma close (inl is) = rw is refl
        no_comma close (inr is) = rw is refl
    items_again close rest is (more w ws) v zero lt fits all = absurd (omega (arith, lt))
    items_again close rest is (more w ws) v (suc n) lt fits all =
        let later = items_again close rest is ws w n (omega (arith, lt))
        (all.0.0, omega (arith, all.1), omega (arith, all.2)) (all.0.1, omega (arith, all.1), omega (arith, all.2)) in
        let after_it : rest_text (name_of names) (more w ws) ++ (close ∷ rest) ≡ 44
        ∷ (text_of names w ++ (rest_text (name_of names) ws ++ (close ∷ rest))) =
        ap (λ t. 44 ∷ t) (append_assoc (text_of names w) (rest_text (name_of names) ws) (close ∷ rest)) in
        ap (λ t. items_at (value_at names room) (suc n) (text_of names v ++ t)) after_it
        ∙ item_step (value_at names room) n _
        (Some (v, 44 ∷ (text_of names w ++ (rest_text (name_of names) ws ++ (close ∷ rest)))))
        (again v fits (44 ∷ (text_of names w ++ (rest_text (name_of names) ws ++ (close ∷ rest)))) refl)
        ∙ ap (option_map (λ p. (v ∷ p.0, p.1))) later

    -- elements are read up to their end
    elements_again : (close : ℕ) (rest : List ℕ) → (close ≡ 125) ⊎ (close ≡ 93) → (vs : Values) → AllFit room vs
        → nodes_in vs < MOST_NODES
        → elements_at (value_at names room) close (values_text (name_of names) vs ++ (close ∷ rest))
        ≡ Some (listed vs, rest)
    elements_again close rest is none all lt =
        ap (elements_by (items_at (value_at names room) MOST_NODES) close (close ∷ rest)) (found close)
      where
        found : (close : ℕ) → after_byte close (close ∷ rest) ≡ Some rest
        found close = rw (eq-eqb close close refl) refl
    elements_again close rest is (more v vs) all lt =
        let fits : Fits room v = (all.0.0, omega (arith, all.1), omega (arith, all.2)) in
        let others : AllFit room vs = (all.0.1, omega (arith, all.1), omega (arith, all.2)) in
        let tail = rest_text (name_of names) vs ++ (close ∷ rest) in
        let items = items_again close rest is vs v MOST_NODES
        (omega (arith, lt, count-le vs, nodes_some v)) fits others in
        let joined : values_text (name_of names) (more v vs) ++ (close ∷ rest) ≡ text_of names v ++ tail =
        append_assoc (text_of names v) (rest_text (name_of names) vs) (close ∷ rest) in
        ap (elements_at (value_at names room) close) joined
        ∙ ap (elements_by (items_at (value_at names room) MOST_NODES) close (text_of names v ++ tail))
        (no_end (text_of names v ++ tail) (v, tail) (again v fits tail (whole vs)))
        ∙ rw items (closed close)
      where
        closed : (close : ℕ) → option_map {U = List Value × List ℕ} (λ r. (v ∷ listed vs, r))
            (after_byte close (close ∷ rest)) ≡ Some (v ∷ listed vs, rest)
        closed close = rw (eq-eqb close close refl) refl

        whole : (vs : Values) → ends is_word_byte (rest_text (name_of names) vs ++ (close ∷ rest)) ≡ true
        whole none = by close is
          where
            by : (close : ℕ) → (close ≡ 125) ⊎ (close ≡ 93) → ends is_word_byte (close ∷ rest) ≡ true
            by close (inl is) = rw is refl
            by close (inr is) = rw is refl
        whole (more w ws) = refl

        no_end : (text : List ℕ) (p : Value × List ℕ) → value_at names room text ≡ Some p → after_byte close text ≡ None
        no_end text p read = by (after_byte close text) refl
          where
            by : (o : Option (List ℕ)) → after_byte close text ≡ o → o ≡ None
            by None e = refl
            by (Some r) e =
                let none : value_at names room text ≡ None = ap (value_at names room) (after_some close text r e)
                ∙ closes_none room close r is in
                absurd (let both_ways : None ≡ Some p = sym none ∙ read in cc)

  -- what is printed of a value is read as it, where what follows goes on with no byte of a word
  pub value_again : (room : ℕ) → room ≤ MOST_DEPTH → (v : Value) → Fits room v → (rest : List ℕ)
      → ends is_word_byte rest ≡ true → value_at names room (text_of names v ++ rest) ≡ Some (v, rest)
  value_again zero le v fits rest whole = absurd (omega (arith, fits.2, depth_some v))
  value_again (suc room) le (int (pos n)) fits rest whole = integer_again (suc room) room n rest refl fits.0 whole
  value_again (suc room) le (int (negsuc n)) fits rest whole = negative_again (suc room) room n rest refl fits.0 whole
  value_again (suc room) le (atom a) fits rest whole = atom_again (suc room) room a (name_of names a) rest refl fits.0
      refl whole (is_plain_name (name_of names a)) refl
  value_again (suc room) le (ref r) fits rest whole = absurd fits.0
  value_again (suc room) le (pid p) fits rest whole = absurd fits.0
  value_again (suc room) le (tuple vs) fits rest whole =
      let inner = values_text (name_of names) vs in
      let items = elements_again room (λ w f r e. value_again room (omega (arith, le)) w f r e) 125 rest (inl refl) vs
      (fits.0, omega (arith, fits.1), omega (arith, fits.2)) (omega (arith, fits.1)) in
      ap (λ t. value_at names (suc room) (123 ∷ t)) (append_assoc inner (125 ∷ []) rest)
      ∙ at_brace names (suc room) room refl (123 ∷ (inner ++ (125 ∷ rest))) 123 (inner ++ (125 ∷ rest)) refl refl
      ∙ tuple_by (elements_at (value_at names room)) (inner ++ (125 ∷ rest)) (listed vs, rest) items
      ∙ ap (λ ws. with_value_before rest (λ v. v) (bounded (tuple ws))) (elements-listed vs)
      ∙ ap (with_value_before rest (λ v. v)) (bounded_within (tuple vs) (fits.1, omega (arith, fits.2, le)))
  value_again (suc room) le (list vs) fits rest whole =
      let inner = values_text (name_of names) vs in
      let items = elements_again room (λ w f r e. value_again room (omega (arith, le)) w f r e) 93 rest (inr refl) vs
      (fits.0, omega (arith, fits.1), omega (arith, fits.2)) (omega (arith, fits.1)) in
      ap (λ t. value_at names (suc room) (91 ∷ t)) (append_assoc inner (93 ∷ []) rest)
      ∙ at_bracket names (suc room) room refl (91 ∷ (inner ++ (93 ∷ rest))) 91 (inner ++ (93 ∷ rest)) refl refl
      ∙ list_by (elements_at (value_at names room)) (inner ++ (93 ∷ rest)) (listed vs, rest) items
      ∙ ap (λ ws. with_value_before rest (λ v. v) (bounded (list ws))) (elements-listed vs)
      ∙ ap (with_value_before rest (λ v. v)) (bounded_within (list vs) (fits.1, omega (arith, fits.2, le)))
