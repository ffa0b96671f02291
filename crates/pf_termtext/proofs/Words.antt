-- The bytes of words at the front of a text.
use Rattle.std.proofs.Common.{◌≡◌, ℕ, true, List, [], ◌∷◌, ◌++◌, length, take, drop, refl, sym, ap, ◌∙◌}
use Rattle.std.specs.List.{list_all, prefix_len}
use Rattle.std.proofs.lemmas.List.{take-append-drop}
use Rattle.pf_tokens.specs.Bytes.{ends, is_word_byte}
use Rattle.pf_tokens.proofs.Runs.{prefix_len-run}
use Rattle.pf_termtext.specs.Reading.{word_bytes, after_word}

-- the bytes of words and those after them are the text
pub word_split : (text : List ℕ) → text ≡ word_bytes text ++ after_word text
word_split text = sym (take-append-drop (prefix_len is_word_byte text) text)

module _ (name rest : List ℕ) (words : list_all is_word_byte name ≡ true) (whole : ends is_word_byte rest ≡ true) where
  run : prefix_len is_word_byte (name ++ rest) ≡ length name
  run = prefix_len-run is_word_byte name rest (record { each = words; whole = whole })

  pub word_is : word_bytes (name ++ rest) ≡ name
  word_is = ap (λ n. take n (name ++ rest)) run ∙ taken name
    where
      taken : (name : List ℕ) → take (length name) (name ++ rest) ≡ name
      taken [] = refl
      taken (b ∷ bs) = ap (λ x. b ∷ x) (taken bs)

  pub after_word_is : after_word (name ++ rest) ≡ rest
  after_word_is = ap (λ n. drop n (name ++ rest)) run ∙ dropped name
    where
      dropped : (name : List ℕ) → drop (length name) (name ++ rest) ≡ rest
      dropped [] = refl
      dropped (b ∷ bs) = dropped bs
