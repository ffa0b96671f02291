-- Elements with commas between them, as they are read one by one.
use Rattle.std.proofs.Common.{◌≡◌, ℕ, zero, suc, List, [], ◌∷◌, ◌++◌, Some, None, refl, sym, ap, ◌∙◌, append_assoc}
use Rattle.std.specs.Prelude.{option_map}
use Rattle.pf_terms.specs.Value.{Value}
use Rattle.pf_termtext.specs.Reading.{TextFront, ◌>>=◌, after_byte, next_items, items_at}

-- the elements read before, and those that are read after them
abbrev pub with_items : List Value → TextFront (List Value) → TextFront (List Value)
with_items front read = option_map (λ p. (front ++ p.0, p.1)) read

-- an element that was read is one more of those read before
one_more : (front : List Value) (v : Value) (read : TextFront (List Value))
    → with_items front (option_map (λ p. (v ∷ p.0, p.1)) read) ≡ with_items (front ++ v ∷ []) read
one_more front v (Some p) = ap (λ (t : List Value). Some (t, p.1)) (sym (append_assoc front (v ∷ []) p.0))
one_more front v None = refl

module _ (read : List ℕ → TextFront Value) (n : ℕ) where
  pub item_step : (text : List ℕ) (o : TextFront Value) → read text ≡ o
      → items_at read (suc n) text ≡ (o >>= λ p. next_items (items_at read n) p.0 p.1 (after_byte 44 p.1))
  unfolding items_at
  item_step text o e = rw e refl

  -- one more element is read, and a comma follows it
  pub items_more : (m : ℕ) (front : List Value) (text : List ℕ) (v : Value) (rest next : List ℕ)
      (all : TextFront (List Value)) → m ≡ suc n
      → read text ≡ Some (v, rest) → Some next ≡ after_byte 44 rest → all ≡ with_items front (items_at read m text)
      → all ≡ with_items (front ++ v ∷ []) (items_at read n next)
  items_more m front text v rest next all is item comma so_far =
      so_far ∙ ap (λ k. with_items front (items_at read k text)) is
      ∙ ap (λ r. with_items front r) (item_step text (Some (v, rest)) item
      ∙ ap (λ o. next_items (items_at read n) v rest o) (sym comma))
      ∙ one_more front v (items_at read n next)

  -- one more element is read, and no comma follows it
  pub items_end : (m : ℕ) (front : List Value) (text : List ℕ) (v : Value) (rest : List ℕ)
      (all : TextFront (List Value)) → m ≡ suc n
      → read text ≡ Some (v, rest) → None ≡ after_byte 44 rest → all ≡ with_items front (items_at read m text)
      → all ≡ Some (front ++ v ∷ [], rest)
  items_end m front text v rest all is item comma so_far =
      so_far ∙ ap (λ k. with_items front (items_at read k text)) is
      ∙ ap (λ r. with_items front r) (item_step text (Some (v, rest)) item
      ∙ ap (λ o. next_items (items_at read n) v rest o) (sym comma))

  -- no element is read
  pub items_fail : (m : ℕ) (front : List Value) (text : List ℕ) (all : TextFront (List Value)) → m ≡ suc n
      → read text ≡ None → all ≡ with_items front (items_at read m text) → all ≡ None
  items_fail m front text all is item so_far =
      so_far ∙ ap (λ k. with_items front (items_at read k text)) is ∙ ap (λ r. with_items front r)
      (item_step text None item)

-- no more elements are read
pub items_full : (read : List ℕ → TextFront Value) (m : ℕ) (front : List Value) (text : List ℕ)
    (all : TextFront (List Value)) → m ≡ zero
    → all ≡ with_items front (items_at read m text) → all ≡ None
unfolding items_at
items_full read m front text all is so_far = so_far ∙ ap (λ k. with_items front (items_at read k text)) is
