-- What the tokens of a text, its pattern and its lowering show of the text.
use Rattle.std.proofs.Common.{◌≡◌, ℕ, List, Ok, sym, ◌∙◌, subst}
use Rattle.pf_errors.specs.declared.code.Code.{Code}
use Rattle.pf_errors.specs.declared.fault.OrNoMemory.{OrNoMemory}
use Rattle.pf_errors.specs.declared.fault.OrNoMemory.TheVariants.{NoMemory, Fault}
use Rattle.pf_errors.specs.declared.refusal.SourceRefusal.{SourceRefusal}
use Rattle.pf_tokens.specs.TokenKinds.{PlacedToken}
use Rattle.pf_tokens.specs.Rules.{HasTokens, HasFault, HasSomeTokens}
use Rattle.pf_tokens.specs.Scan.{Read}
use Rattle.pf_tokens.proofs.Texts.{tokens_again, tokens_fail}
use Rattle.pf_syntax.specs.Pattern.{Pattern}
use Rattle.pf_syntax.specs.ExprPattern.{ExprPattern}
use Rattle.pf_syntax.specs.Scope.{no_scope}
use Rattle.pf_syntax.specs.Naming.{ExprPatternIs}
use Rattle.pf_tokens.specs.NumberedTokens.{numbered_after}
use Rattle.pf_grammar.proofs.Single.{some_is}
use Rattle.pf_reader.specs.PatternAlone.{names_after, DerivesPatternAlone}
use Rattle.pf_reader.specs.PatternAlone as alone
use Rattle.pf_reader.proofs.Alone.{alone_complete}
use Rattle.pf_check.proofs.Derived.{expr_pattern_formed}
use Rattle.pf_check.proofs.Once.{none_seen}
use Rattle.pf_check.proofs.Unique.{one_expr_pattern}
use Rattle.pf_lower.specs.Alone.{only_atoms, BecomesAlone}
use Rattle.pf_property.specs.Texts.{IsNoPatternText, ReadsPattern}

-- ---- tokens

one_list : (ts us : List PlacedToken) → ◌≡◌ {A = Read (List PlacedToken)} (Ok ts) (Ok us) → ts ≡ us
one_list ts us e = cc

one_tokens : (text : List ℕ) (ts us : List PlacedToken) → HasTokens text ts → HasTokens text us → ts ≡ us
one_tokens text ts us a b = one_list ts us (sym (tokens_again text ts a) ∙ tokens_again text us b)

pub no_tokens : (text : List ℕ) (r : SourceRefusal) → HasFault text r.code r.offset → HasSomeTokens text → ⊥
no_tokens text r fault has =
    let one = tokens_again text has.0 has.1 in
    let other = tokens_fail text r.code r.offset fault in
    cc

module _ (names : List (List ℕ)) (text : List ℕ) where
  -- ---- a text that is no pattern

  pub without_pattern : (ts : List PlacedToken) → HasTokens text ts → (f : OrNoMemory Code)
      → alone.IsNoPattern names ts f → IsNoPatternText names text f
  without_pattern ts has NoMemory h = tt
  without_pattern ts has (Fault c) h = (
    h.0,
    λ p r. h.1 r.written (subst (DerivesPatternAlone names r.written)
        (one_tokens text r.tokens ts r.has_tokens has) r.derives),
  )

  -- ---- a text that is one

  pub with_pattern : (ts : List PlacedToken) → HasTokens text ts → (q : ExprPattern) → DerivesPatternAlone names q ts
      → (p : Pattern) → BecomesAlone q p
      → ReadsPattern names text p
  with_pattern ts has q d p becomes = record {
    tokens = ts;
    has_tokens = has;
    written = q;
    derives = d;
    becomes = becomes (expr_pattern_formed (names_after names ts) q (numbered_after names ts) d.derives);
  }

  pub one_pattern : (p q : Pattern) → ReadsPattern names text p → ReadsPattern names text q → p ≡ q
  one_pattern p q a b =
      let tokens = one_tokens text b.tokens a.tokens b.has_tokens a.has_tokens in
      let derives = subst (DerivesPatternAlone names b.written) tokens b.derives in
      let written = some_is a.written b.written (sym (alone_complete names a.tokens a.written a.derives)
      ∙ alone_complete names a.tokens b.written derives) in
      one_expr_pattern only_atoms no_scope b.written p q none_seen
      (subst (λ w. ExprPatternIs only_atoms no_scope w p) written a.becomes) b.becomes
