-- Bytes are some property, or none.
use Rattle.std.proofs.Common.{◌≡◌, ◌⊎◌, inl, inr, ℕ, Bool, true, false, List, [], ◌∷◌, ◌++◌, Option, Some, None, Ok}
use Rattle.std.proofs.Common.{Err, take, drop, refl, sym}
use Rattle.std.specs.Prelude.{codes, nat_eq}
use Rattle.std.specs.Cmp.Lexicographic.{pointwise}
use Rattle.std.specs.Str.{bytes_eq}
use Rattle.std.proofs.lemmas.Slice.Eq.{bytes_eq-Decides, starts_is}
use Rattle.std.proofs.lemmas.Bool.Decides.{Decides-eqb}
use Rattle.pf_errors.specs.declared.code.Code.TheVariants.{NoProperty}
use Rattle.pf_errors.specs.declared.fault.OrNoMemory.TheVariants.{Fault}
use Rattle.pf_tokens.specs.TokenKinds.{TokenKind, PlacedToken, own_module}
use Rattle.pf_tokens.specs.Rules.{HasTokens}
use Rattle.pf_tokens.specs.Scan.{Read, tokens}
use Rattle.pf_tokens.proofs.Texts.{Reports, tokens_report}
use Rattle.pf_syntax.specs.Pattern.{Pattern}
use Rattle.pf_syntax.specs.ExprPattern.{ExprPattern}
use Rattle.pf_tokens.specs.NumberedTokens.{atoms_after, numbered_after}
use Rattle.pf_reader.specs.PatternAlone.{DerivesPatternAlone, LacksModule}
use Rattle.pf_reader.proofs.Alone.{alone_complete, alone_sound, read_by}
use Rattle.pf_lower.proofs.Patterns_alone.{some_alone}
use Rattle.pf_model.specs.Properties.{Property, returns, returns_true, no_crash, no_deadlock, within_limit, never}
use Rattle.pf_property.specs.Texts.{IsPropertyOf, ReadsPattern, ReadsProperty}
use Rattle.pf_property.proofs.Patterns_read.{no_tokens, without_pattern}
use Rattle.pf_property.proofs.One.{none_after}

-- ---- `?MODULE`

module_or_other : (kind : TokenKind) → (kind ≡ own_module) ⊎ (kind ≡ own_module → ⊥)
module_or_other own_module = inl refl
module_or_other _ = inr (λ e. cc)

lacks_or_has : (ts : List PlacedToken) → LacksModule ts ⊎ (LacksModule ts → ⊥)
lacks_or_has [] = inl tt
lacks_or_has (t ∷ ts) = both (module_or_other t.kind) (lacks_or_has ts)
  where
    both : (t.kind ≡ own_module) ⊎ (t.kind ≡ own_module → ⊥) → LacksModule ts ⊎ (LacksModule ts → ⊥)
        → LacksModule (t ∷ ts) ⊎ (LacksModule (t ∷ ts) → ⊥)
    both (inl e) rest = inr (λ h. h.0 e)
    both (inr other) (inl h) = inl (other, h)
    both (inr other) (inr h) = inr (λ k. h k.1)

module _ (names : List (List ℕ)) where
  -- ---- patterns

  module _ (text : List ℕ) where
    abbrev PatternOrNone : Type 0
    PatternOrNone = ((p : Pattern) × ReadsPattern names text p) ⊎ ((p : Pattern) → ReadsPattern names text p → ⊥)

    module _ (ts : List PlacedToken) (has : HasTokens text ts) where
      none_derives : ((q : ExprPattern) → DerivesPatternAlone names q ts → ⊥) → PatternOrNone
      none_derives none = inr (without_pattern names text ts has (Fault NoProperty) (refl, none)).1

      by_reading : LacksModule ts → (o : Option ExprPattern)
          → read_by (atoms_after names ts) (numbered_after names ts) ≡ o → PatternOrNone
      by_reading lacks None e = none_derives (λ q d. let whole = alone_complete names ts q d in cc)
      by_reading lacks (Some q) e =
          let made = some_alone q in
          inl (
            made.0,
            record {
              tokens = ts;
              has_tokens = has;
              written = q;
              derives = alone_sound names ts q lacks e;
              becomes = made.1;
            },
          )

      by_module : LacksModule ts ⊎ (LacksModule ts → ⊥) → PatternOrNone
      by_module (inl lacks) = by_reading lacks (read_by (atoms_after names ts) (numbered_after names ts)) refl
      by_module (inr is_there) = none_derives (λ q d. is_there d.no_module)

    by_tokens : (read : Read (List PlacedToken)) → Reports text read → PatternOrNone
    by_tokens (Ok ts) has = by_module ts has (lacks_or_has ts)
    by_tokens (Err e) fault = inr (λ p r. no_tokens text (record { code = e.0; offset = e.1 }) fault
        (r.tokens, r.has_tokens))

    pattern_or_none : PatternOrNone
    pattern_or_none = by_tokens (tokens text) (tokens_report text)

  -- ---- properties

  module _ (bytes : List ℕ) where
    abbrev Outcomes : Type 0
    Outcomes = (o : Option Property) × IsPropertyOf names bytes o

    word_or_other : (word : List ℕ) → (bytes ≡ word) ⊎ (bytes ≡ word → ⊥)
    word_or_other word = by (bytes_eq bytes word) refl
      where
        by : (b : Bool) → bytes_eq bytes word ≡ b → (bytes ≡ word) ⊎ (bytes ≡ word → ⊥)
        by true e = inl ((bytes_eq-Decides bytes word).0 e)
        by false e = inr (λ h. let same = (bytes_eq-Decides bytes word).1 h in cc)

    after : (text : List ℕ) → bytes ≡ codes "never:" ++ text → PatternOrNone text → Outcomes
    after text e (inl found) = (Some (never found.0), (text, e, found.1))
    after text e (inr none) = (None, none_after names bytes text e none)

    prefix_or_none : ((text : List ℕ) × (bytes ≡ codes "never:" ++ text)) ⊎ ((text : List ℕ)
        → bytes ≡ codes "never:" ++ text → ⊥)
    prefix_or_none = by (pointwise nat_eq (codes "never:") (take 6 bytes)) refl
      where
        by : (b : Bool) → pointwise nat_eq (codes "never:") (take 6 bytes) ≡ b
            → ((text : List ℕ) × (bytes ≡ codes "never:" ++ text)) ⊎ ((text : List ℕ)
            → bytes ≡ codes "never:" ++ text → ⊥)
        by true e = inl (drop 6 bytes, (starts_is Decides-eqb bytes (codes "never:") true (sym e)).0 refl)
        by false e = inr (λ text h. let yes = (starts_is Decides-eqb bytes (codes "never:") false (sym e)).1 text h in
            cc)

    none_of_all : (bytes ≡ codes "returns" → ⊥) → (bytes ≡ codes "true" → ⊥) → (bytes ≡ codes "nocrash" → ⊥)
        → (bytes ≡ codes "nodeadlock" → ⊥) → (bytes ≡ codes "withinlimit" → ⊥)
        → ((text : List ℕ) → bytes ≡ codes "never:" ++ text → ⊥) → (p : Property) → ReadsProperty names bytes p → ⊥
    none_of_all not_returns not_true not_no_crash not_no_deadlock not_within_limit not_never returns h = not_returns h
    none_of_all not_returns not_true not_no_crash not_no_deadlock not_within_limit not_never returns_true h = not_true h
    none_of_all not_returns not_true not_no_crash not_no_deadlock not_within_limit not_never no_crash h = not_no_crash h
    none_of_all not_returns not_true not_no_crash not_no_deadlock not_within_limit not_never no_deadlock h =
        not_no_deadlock h
    none_of_all not_returns not_true not_no_crash not_no_deadlock not_within_limit not_never within_limit h =
        not_within_limit h
    none_of_all not_returns not_true not_no_crash not_no_deadlock not_within_limit not_never (never p) h =
        not_never h.0 h.1

    pub any_property : Outcomes
    any_property =
        elim (word_or_other (codes "returns")) [
          | inl h ↦ (Some returns, h)
          | inr a ↦
              elim (word_or_other (codes "true")) [
                | inl h ↦ (Some returns_true, h)
                | inr b ↦
                    elim (word_or_other (codes "nocrash")) [
                      | inl h ↦ (Some no_crash, h)
                      | inr c ↦
                          elim (word_or_other (codes "nodeadlock")) [
                            | inl h ↦ (Some no_deadlock, h)
                            | inr d ↦
                                elim (word_or_other (codes "withinlimit")) [
                                  | inl h ↦ (Some within_limit, h)
                                  | inr e ↦
                                      elim prefix_or_none [
                                        | inl h ↦ after h.0 h.1 (pattern_or_none h.0)
                                        | inr f ↦
                                            (None, none_of_all a b c d e f)
                                      ]
                                ]
                          ]
                    ]
              ]
        ]
