-- One turn of a loop over items with a separator, and what such a loop has found so far.
use Rattle.std.proofs.Common.{◌≡◌, ℕ, suc, List, [], ◌∷◌, ◌++◌, Option, Some, None, refl, sym, ap, ◌∙◌, append_assoc}
use Rattle.std.specs.Prelude.{map}
use Rattle.std.proofs.lemmas.List.{map-append}
use Rattle.pf_errors.specs.declared.fault.OrNoMemory.{OrNoMemory}
use Rattle.pf_errors.specs.declared.fault.OrNoMemory.TheVariants.{NoMemory, Fault}
use Rattle.pf_reader.specs.declared.fault.Syntax.{Syntax}
use Rattle.pf_reader.specs.Given.{Fails, with_front}
use Rattle.pf_tokens.specs.NumberedTokens.{NumberedKind, NumberedToken}
use Rattle.pf_grammar.specs.Parse.{◌>>=◌, Parse, items, after_kind}

-- a fault of a part is a fault of the whole
pub fails_as : {X Y : Type 0} (e : OrNoMemory Syntax) (a : Option X) (b : Option Y) → (a ≡ None → b ≡ None)
    → Fails e a → Fails e b
fails_as NoMemory a b f h = tt
fails_as (Fault s) a b f h = f h

pub no_front : {A : Type 0} (o : Option (List A × List NumberedToken)) → with_front [] o ≡ o
no_front None = refl
no_front (Some x) = refl

front_more : {A : Type 0} (front : List A) (x : A) (o : Option (List A × List NumberedToken))
    → with_front front (o >>= λ y. Some (x ∷ y.0, y.1)) ≡ with_front (front ++ x ∷ []) o
front_more front x None = refl
front_more front x (Some y) = ap (λ xs. Some (xs, y.1)) (sym (append_assoc front (x ∷ []) y.0))

module _ {A : Type 0} (s : NumberedKind) (item : Parse A) where
  turn_fails : (n m : ℕ) (ts : List NumberedToken) → n ≡ suc m → item ts ≡ None → items s item n ts ≡ None
  unfolding items
  turn_fails n m ts k e = rw (k, e) refl

  turn_ends : (n m : ℕ) (ts : List NumberedToken) (x : A) (rest : List NumberedToken) → n ≡ suc m
      → item ts ≡ Some (x, rest) → after_kind s rest ≡ None → items s item n ts ≡ Some (x ∷ [], rest)
  unfolding items
  turn_ends n m ts x rest k e f = rw (k, e, f) refl

  turn_goes : (n m : ℕ) (ts : List NumberedToken) (x : A) (rest next : List NumberedToken) → n ≡ suc m
      → item ts ≡ Some (x, rest) → after_kind s rest ≡ Some next
      → items s item n ts ≡ (items s item m next >>= λ y. Some (x ∷ y.0, y.1))
  unfolding items
  turn_goes n m ts x rest next k e f = rw (k, e, f) refl

  turn_out : (n : ℕ) (ts : List NumberedToken) → n ≡ 0 → items s item n ts ≡ None
  unfolding items
  turn_out n ts k = rw k refl

  -- what was found so far is seen by g; with one more it is seen by f, which sees the earlier ones alike
  module _ {X : Type 0} (f g : X → A) (found pushed : List X) (x : X)
      (whole : Option (List A × List NumberedToken)) where
    seen_pushed : map f found ≡ map g found → pushed ≡ found ++ x ∷ [] → map f pushed ≡ map g found ++ f x ∷ []
    seen_pushed same p = ap (map f) p ∙ map-append f found (x ∷ []) ∙ ap (λ xs. xs ++ f x ∷ []) same

    pub loop_ends : (n m : ℕ) (ts rest : List NumberedToken) → map f found ≡ map g found → pushed ≡ found ++ x ∷ []
        → n ≡ suc m → whole ≡ with_front (map g found) (items s item n ts)
        → item ts ≡ Some (f x, rest) → after_kind s rest ≡ None → whole ≡ Some (map f pushed, rest)
    loop_ends n m ts rest same p k w e a =
        w ∙ ap (with_front (map g found)) (turn_ends n m ts (f x) rest k e a) ∙ ap (λ xs. Some (xs, rest))
        (sym (seen_pushed same p))

    pub loop_goes : (n m : ℕ) (ts rest next : List NumberedToken) → map f found ≡ map g found → pushed ≡ found ++ x ∷ []
        → n ≡ suc m → whole ≡ with_front (map g found) (items s item n ts)
        → item ts ≡ Some (f x, rest) → after_kind s rest ≡ Some next
        → whole ≡ with_front (map f pushed) (items s item m next)
    loop_goes n m ts rest next same p k w e a =
        w ∙ ap (with_front (map g found)) (turn_goes n m ts (f x) rest next k e a) ∙ front_more (map g found) (f x)
        (items s item m next)
        ∙ ap (λ xs. with_front xs (items s item m next)) (sym (seen_pushed same p))

  pub loop_fails : (front : List A) (whole : Option (List A × List NumberedToken)) (n m : ℕ) (ts : List NumberedToken)
      → n ≡ suc m → whole ≡ with_front front (items s item n ts) → item ts ≡ None → whole ≡ None
  loop_fails front whole n m ts k w e = w ∙ ap (with_front front) (turn_fails n m ts k e)

  pub loop_out : (front : List A) (whole : Option (List A × List NumberedToken)) (n : ℕ) (ts : List NumberedToken)
      → n ≡ 0 → whole ≡ with_front front (items s item n ts) → whole ≡ None
  loop_out front whole n ts k w = w ∙ ap (with_front front) (turn_out n ts k)
