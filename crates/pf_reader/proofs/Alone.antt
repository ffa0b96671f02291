-- A pattern by itself is read exactly where it derives the tokens.
use Rattle.std.proofs.Common.{◌≡◌, ℕ, List, [], ◌∷◌, Option, Some, None, refl, sym, ap, subst, ◌∙◌}
use Rattle.std.proofs.lemmas.List.{append-nil}
use Rattle.pf_tokens.specs.TokenKinds.{PlacedToken}
use Rattle.pf_syntax.specs.ExprPattern.{ExprPattern}
use Rattle.pf_tokens.specs.declared.limits.TheConstants.{MOST_TREE_DEPTH}
use Rattle.pf_tokens.specs.NumberedTokens.{atoms_after, numbered_after, NumberedToken}
use Rattle.pf_grammar.specs.Grammar.{TokenNames}
use Rattle.pf_grammar.specs.Parse.{pattern}
use Rattle.pf_grammar.proofs.Single.{some_is}
use Rattle.pf_grammar.proofs.Patterns.{FitsPattern, pattern_sound, pattern_complete}
use Rattle.pf_reader.specs.PatternAlone.{pattern_alone, names_after, DerivesPatternAlone, LacksModule}

module _ (n : TokenNames) (ts : List NumberedToken) where
  of_read : (q : ExprPattern) (o : Option (ExprPattern × List NumberedToken)) → pattern n MOST_TREE_DEPTH ts ≡ o
      → pattern_alone o ≡ Some q → FitsPattern n MOST_TREE_DEPTH q ts
  of_read q None e f = absurd cc
  of_read q (Some (p, t ∷ more)) e f = absurd cc
  of_read q (Some (p, [])) e f =
      let took = pattern_sound n MOST_TREE_DEPTH ts (p, []) e in
      let whole : took.front ≡ ts = sym (took.parts ∙ append-nil took.front) in
      let fits = subst (λ us. FitsPattern n MOST_TREE_DEPTH p us) whole took.holds in
      subst (λ r. FitsPattern n MOST_TREE_DEPTH r ts) (some_is p q f) fits

  -- what is read derives all the tokens, and isn't too deep
  sound : (q : ExprPattern) → pattern_alone (pattern n MOST_TREE_DEPTH ts) ≡ Some q → FitsPattern n MOST_TREE_DEPTH q ts
  sound q f = of_read q (pattern n MOST_TREE_DEPTH ts) refl f

  -- what derives all the tokens, and isn't too deep, is read
  complete : (q : ExprPattern) → FitsPattern n MOST_TREE_DEPTH q ts
      → pattern_alone (pattern n MOST_TREE_DEPTH ts) ≡ Some q
  complete q fits =
      ap (λ us. pattern_alone (pattern n MOST_TREE_DEPTH us)) (sym (append-nil ts))
      ∙ ap pattern_alone (pattern_complete n MOST_TREE_DEPTH q ts [] fits tt)

-- reading tokens from left to right, by these names
abbrev pub read_by : List (List ℕ) → List NumberedToken → Option ExprPattern
read_by atoms us = pattern_alone (pattern (record { atoms = atoms; own = 0 }) MOST_TREE_DEPTH us)

pub read_as : (atoms names : List (List ℕ)) (us vs : List NumberedToken) (o : Option ExprPattern) → atoms ≡ names
    → us ≡ vs → read_by atoms us ≡ o → read_by names vs ≡ o
read_as atoms names us vs o a t e = ap (λ ns. read_by ns vs) (sym a) ∙ ap (read_by atoms) (sym t) ∙ e

module _ (names : List (List ℕ)) (ts : List PlacedToken) where
  pub alone_sound : (q : ExprPattern) → LacksModule ts
      → read_by (atoms_after names ts) (numbered_after names ts) ≡ Some q → DerivesPatternAlone names q ts
  alone_sound q lacks e =
      let fits = sound (names_after names ts) (numbered_after names ts) q e in
      record { no_module = lacks; derives = fits.0; shallow = fits.1 }

  pub alone_complete : (q : ExprPattern) → DerivesPatternAlone names q ts
      → read_by (atoms_after names ts) (numbered_after names ts) ≡ Some q
  alone_complete q d = complete (names_after names ts) (numbered_after names ts) q (d.derives, d.shallow)
