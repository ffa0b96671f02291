-- Every source is read in some way.
use Rattle.std.proofs.Common.{◌≡◌, ◌⊎◌, inl, inr, ℕ, zero, suc, ◌<◌, List, [], ◌∷◌, Option, Some, None, Ok, Err}
use Rattle.std.proofs.Common.{Contains, length, refl, sym, ap, ◌∙◌, subst, arith}
use Rattle.pf_tokens.specs.TokenKinds.{PlacedToken}
use Rattle.pf_tokens.specs.Rules.{HasTokens}
use Rattle.pf_tokens.specs.Scan.{Read, tokens}
use Rattle.pf_tokens.proofs.Texts.{Reports, tokens_report}
use Rattle.pf_syntax.specs.Module.{Checked, empty}
use Rattle.pf_tokens.specs.NumberedTokens.{NumberedToken, atoms_of, numbered_tokens}
use Rattle.pf_grammar.specs.Grammar.{HasHead, DerivesTree}
use Rattle.pf_syntax.specs.ExprModule.{Tree}
use Rattle.pf_grammar.specs.Parse.{first_form, tree}
use Rattle.pf_grammar.proofs.Whole.{begins_sound, begins_complete, tree_sound, tree_complete}
use Rattle.pf_errors.specs.Codes.{rank_of}
use Rattle.pf_errors.specs.declared.code.Code.TheVariants.{NoHead, NotGrammar}
use Rattle.pf_errors.specs.declared.refusal.SourceRefusal.{SourceRefusal}
use Rattle.pf_rules.specs.Static.{faults_of, names_of_module, NotAfter, IsFirst}
use Rattle.pf_rules.specs.Checks.{IsModule}
use Rattle.pf_check.specs.Reads.{ReadOutcome, refused, Reads, token_fault, no_head, no_tree, static, checked}
use Rattle.pf_check.specs.Reads.{accepted_as}
use Rattle.pf_check.proofs.Derived.{tree_formed}
use Rattle.pf_check.proofs.NoFaults.{none_in_clauses}
use Rattle.pf_lower.proofs.Exists.{some_functions}

-- ---- the first fault

compare : (a b : ℕ) → (a < b) ⊎ ((a ≡ b) ⊎ (b < a))
compare zero zero = inr (inl refl)
compare zero (suc b) = inl (omega arith)
compare (suc a) zero = inr (inr (omega arith))
compare (suc a) (suc b) = further (compare a b)
  where
    further : (a < b) ⊎ ((a ≡ b) ⊎ (b < a)) → (suc a < suc b) ⊎ ((suc a ≡ suc b) ⊎ (suc b < suc a))
    further (inl h) = inl (omega (arith, h))
    further (inr (inl h)) = inr (inl (ap suc h))
    further (inr (inr h)) = inr (inr (omega (arith, h)))

either_first : (f g : SourceRefusal) → NotAfter f g ⊎ NotAfter g f
either_first f g = by_offset (compare f.offset g.offset)
  where
    by_rank : f.offset ≡ g.offset → (rank_of f.code < rank_of g.code)
        ⊎ ((rank_of f.code ≡ rank_of g.code) ⊎ (rank_of g.code < rank_of f.code)) → NotAfter f g ⊎ NotAfter g f
    by_rank e (inl h) = inl (inr (e, omega (arith, h)))
    by_rank e (inr (inl h)) = inl (inr (e, omega (arith, h)))
    by_rank e (inr (inr h)) = inr (inr (sym e, omega (arith, h)))

    by_offset : (f.offset < g.offset) ⊎ ((f.offset ≡ g.offset) ⊎ (g.offset < f.offset)) → NotAfter f g ⊎ NotAfter g f
    by_offset (inl h) = inl (inl h)
    by_offset (inr (inl h)) = by_rank h (compare (rank_of f.code) (rank_of g.code))
    by_offset (inr (inr h)) = inr (inl h)

through : (f g h : SourceRefusal) → NotAfter f g → NotAfter g h → NotAfter f h
through f g h (inl a) (inl b) = inl (omega (arith, a, b))
through f g h (inl a) (inr b) = let e = b.0 in inl (omega (arith, a, e))
through f g h (inr a) (inl b) = let e = a.0 in inl (omega (arith, b, e))
through f g h (inr a) (inr b) = let j = a.1 in let k = b.1 in inr (a.0 ∙ b.0, omega (arith, j, k))

not_after_itself : (f : SourceRefusal) → NotAfter f f
not_after_itself f = inr (refl, omega arith)

first_or_later : (f : SourceRefusal) (fs : List SourceRefusal) (g : SourceRefusal) → Contains (f ∷ fs) g
    → (f ≡ g) ⊎ Contains fs g
first_or_later f fs g (zero, lt, e) = inl e
first_or_later f fs g (suc k, lt, e) = inr (k, omega (arith, lt), e)

in_front : (f : SourceRefusal) (fs : List SourceRefusal) → Contains (f ∷ fs) f
in_front f fs = (zero, omega arith, refl)

further_on : (f g : SourceRefusal) (fs : List SourceRefusal) → Contains fs g → Contains (f ∷ fs) g
further_on f g fs h = let lt = h.1 in (suc h.0, omega (arith, lt), h.2)

not_there : (f : SourceRefusal) → Contains [] f → ⊥
not_there f h = let lt = h.1 in omega (arith, lt)

-- of one fault and the first of others, which comes first
sooner_of : (f g : SourceRefusal) (gs : List SourceRefusal) → (h : SourceRefusal) × IsFirst (g ∷ gs) h
    → (h : SourceRefusal) × IsFirst (f ∷ g ∷ gs) h
sooner_of f g gs h = sooner (either_first f h.0)
  where
    this : NotAfter f h.0 → (other : SourceRefusal) → (f ≡ other) ⊎ Contains (g ∷ gs) other → NotAfter f other
    this a other (inl e) = subst (NotAfter f) e (not_after_itself f)
    this a other (inr k) = through f h.0 other a (h.1.1 other k)

    that : NotAfter h.0 f → (other : SourceRefusal) → (f ≡ other) ⊎ Contains (g ∷ gs) other → NotAfter h.0 other
    that a other (inl e) = subst (NotAfter h.0) e a
    that a other (inr k) = h.1.1 other k

    sooner : NotAfter f h.0 ⊎ NotAfter h.0 f → (o : SourceRefusal) × IsFirst (f ∷ g ∷ gs) o
    sooner (inl a) = (f, (in_front f (g ∷ gs), λ other k. this a other (first_or_later f (g ∷ gs) other k)))
    sooner (inr a) = (
      h.0,
      (
        further_on f h.0 (g ∷ gs) h.1.0,
        λ other k.
            that a other (first_or_later f (g ∷ gs) other k),
      ),
    )

some_first : (f : SourceRefusal) (fs : List SourceRefusal) → (g : SourceRefusal) × IsFirst (f ∷ fs) g
some_first f [] = (f, (in_front f [], λ other h. alone other (first_or_later f [] other h)))
  where
    alone : (other : SourceRefusal) → (f ≡ other) ⊎ Contains [] other → NotAfter f other
    alone other (inl e) = subst (NotAfter f) e (not_after_itself f)
    alone other (inr h) = absurd (not_there other h)
some_first f (g ∷ gs) = sooner_of f g gs (some_first g gs)

-- ---- the module

some_module : (atoms : List (List ℕ)) (m : Tree) (ts : List NumberedToken) → DerivesTree atoms m ts
    → faults_of atoms m ≡ [] → (c : Checked) × IsModule atoms m c
some_module atoms m ts d none =
    let made = some_functions (names_of_module atoms m.functions) m.exports m.functions (tree_formed atoms m ts d)
    (none_in_clauses atoms m none) in
    (record (empty m.name atoms) { functions = made.0 }, record { name = refl; atoms_are = refl; functions = made.1 })

-- ---- the outcome

module _ (bytes : List ℕ) where
  abbrev Outcomes : Type 0
  Outcomes = (o : ReadOutcome) × Reads bytes o

  module _ (ts : List PlacedToken) (has : HasTokens bytes ts) where
    by_faults : (m : Tree) (all : List SourceRefusal) → faults_of (atoms_of ts) m ≡ all
        → DerivesTree (atoms_of ts) m (numbered_tokens ts) → Outcomes
    by_faults m [] e d = let c = some_module (atoms_of ts) m (numbered_tokens ts) d e in
        (accepted_as c.0, checked ts m c.0 has d e c.1)
    by_faults m (f ∷ fs) e d =
        let g = some_first f fs in (
          refused g.0.code g.0.offset,
          static ts m g.0 has d (subst (λ l. IsFirst l g.0) (sym e) g.1),
        )

    no_derivation : (m : Tree) → tree (atoms_of ts) (numbered_tokens ts) ≡ None
        → DerivesTree (atoms_of ts) m (numbered_tokens ts) → ⊥
    no_derivation m e d = let k = tree_complete (atoms_of ts) (numbered_tokens ts) m d in cc

    by_tree : HasHead (atoms_of ts) (numbered_tokens ts) → (o : Option Tree)
        → tree (atoms_of ts) (numbered_tokens ts) ≡ o → Outcomes
    by_tree head None e = (
      refused NotGrammar (length bytes),
      no_tree ts (length bytes) has head (λ m. no_derivation m e) (inl refl),
    )
    by_tree head (Some m) e = by_faults m (faults_of (atoms_of ts) m) refl
        (tree_sound (atoms_of ts) (numbered_tokens ts) m e)

    no_first_form : first_form (atoms_of ts) (numbered_tokens ts) ≡ None
        → HasHead (atoms_of ts) (numbered_tokens ts) → ⊥
    no_first_form e h = let k = begins_complete (atoms_of ts) (numbered_tokens ts) h.0 h.1 h.2 in cc

    by_head : (o : Option (ℕ × List NumberedToken)) → first_form (atoms_of ts) (numbered_tokens ts) ≡ o → Outcomes
    by_head None e = (refused NoHead 0, no_head ts has (no_first_form e))
    by_head (Some x) e = by_tree (x.0, x.1, begins_sound (atoms_of ts) (numbered_tokens ts) x e)
        (tree (atoms_of ts) (numbered_tokens ts)) refl

  by_tokens : (read : Read (List PlacedToken)) → Reports bytes read → Outcomes
  by_tokens (Ok ts) has = by_head ts has (first_form (atoms_of ts) (numbered_tokens ts)) refl
  by_tokens (Err e) fault = (refused e.0 e.1, token_fault e.0 e.1 fault)

  pub any_outcome : Outcomes
  any_outcome = by_tokens (tokens bytes) (tokens_report bytes)
