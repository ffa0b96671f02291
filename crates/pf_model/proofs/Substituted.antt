-- Values in place of the first variables in scope leave a tree closed.
use Rattle.std.proofs.Common.{◌≡◌, ℕ, zero, suc, ◌+◌, ◌-◌, ◌<◌, ◌≤◌, [], ◌∷◌, Option, Some, None, refl, ap, arith}
use Rattle.std.proofs.Common.{length}
use Rattle.std.specs.Prelude.{slice_get}
use Rattle.std.proofs.lemmas.List.{length-append}
use Rattle.pf_terms.specs.Value.{Value, Values}
use Rattle.pf_syntax.specs.Pattern.{Pattern, Patterns, any, new, slot, known, tuple_of, cons_of, never, no_patterns}
use Rattle.pf_syntax.specs.Pattern.{pattern}
use Rattle.pf_syntax.specs.Tree.{Tree, Trees, Clauses, Guard, lit, var, tuple, cons, op, neg, and_also, or_else, call}
use Rattle.pf_syntax.specs.Tree.{builtin, match, bind, case, if_expression, receive, send, no_trees, tree, no_clauses}
use Rattle.pf_syntax.specs.Tree.{clause, no_alternatives, alternative, Program}
use Rattle.pf_patterns.specs.Fit.{ValueScope, Fits, FitsAll, fit, fit_all}
use Rattle.pf_patterns.specs.Substitution.{sub, sub_trees, sub_clauses, sub_guard, sub_pattern, sub_patterns}
use Rattle.pf_patterns.specs.Substitution.{value_or_var, known_or_slot}
use Rattle.pf_patterns.proofs.FitLaws.{fits_from_fit, all_from_fit}
use Rattle.pf_model.specs.Closed.{binds, all_bind, PatternIsClosed, PatternsAreClosed, tree_count, IsClosed}
use Rattle.pf_model.specs.Closed.{AllAreClosed, ClausesAreClosed, GuardIsClosed}

-- ---- fit gives as many values as the pattern binds

mutual
  fits_length : (p : Pattern) (v : Value) (s t : ValueScope) → Fits p v s t → length t ≡ length s + binds p
  fits_length any v s t h = let e = ap length h in omega arith
  fits_length new v s t h = let e = ap length h in let k = length-append s (v ∷ []) in omega arith
  fits_length (slot x) v s t h = let e = ap length h.1 in omega arith
  fits_length (known w) v s t h = let e = ap length h.1 in omega arith
  fits_length (tuple_of ps) v s t h = all_length ps h.0 s t h.2
  fits_length (cons_of p q) v s t h =
      let a = fits_length p h.0 s h.2 h.4 in let b = fits_length q _ h.2 t h.5 in omega arith
  fits_length never v s t h = absurd h

  all_length : (ps : Patterns) (vs : Values) (s t : ValueScope) → FitsAll ps vs s t → length t ≡ length s + all_bind ps
  all_length no_patterns vs s t h = let e = ap length h.1 in omega arith
  all_length (pattern p ps) vs s t h =
      let a = fits_length p h.0 s h.2 h.4 in let b = all_length ps h.1 h.2 t h.5 in omega arith

pub fit_length : (p : Pattern) (v : Value) (e : ValueScope) → fit p v [] ≡ Some e → binds p ≡ length e
fit_length p v e h = let k = fits_length p v [] e (fits_from_fit p v [] e h) in omega arith

pub fit_all_length : (ps : Patterns) (vs : Values) (e : ValueScope) → fit_all ps vs [] ≡ Some e → all_bind ps ≡ length e
fit_all_length ps vs e h = let k = all_length ps vs [] e (all_from_fit ps vs [] e h) in omega arith

-- ---- substitution

-- an index that has no value is past them
past : (e : ValueScope) (x : ℕ) → slice_get e x ≡ None → length e ≤ x
past [] x h = omega arith
past (v ∷ e) zero h = absurd (cc)
past (v ∷ e) (suc x) h = let k = past e x h in omega arith

module _ (e : ValueScope) where
  mutual
    pub sub_binds : (p : Pattern) → binds (sub_pattern e p) ≡ binds p
    sub_binds any = refl
    sub_binds new = refl
    sub_binds (slot x) = by (slice_get e x)
      where
        by : (o : Option Value) → binds (known_or_slot o (x - length e)) ≡ zero
        by None = refl
        by (Some v) = refl
    sub_binds (known v) = refl
    sub_binds (tuple_of ps) = sub_all_bind ps
    sub_binds (cons_of p q) = let a = sub_binds p in let b = sub_binds q in omega arith
    sub_binds never = refl

    pub sub_all_bind : (ps : Patterns) → all_bind (sub_patterns e ps) ≡ all_bind ps
    sub_all_bind no_patterns = refl
    sub_all_bind (pattern p ps) = let a = sub_binds p in let b = sub_all_bind ps in omega arith

  sub_count : (ts : Trees) → tree_count (sub_trees e ts) ≡ tree_count ts
  sub_count no_trees = refl
  sub_count (tree t ts) = ap (λ n. 1 + n) (sub_count ts)

  -- what is closed under k variables, the first of which get values, is closed under the other n
  slot_closed : (k n x : ℕ) → k ≡ length e + n → x < k → (o : Option Value) → slice_get e x ≡ o
      → PatternIsClosed n (known_or_slot o (x - length e))
  slot_closed k n x q h None d = let l = past e x d in omega arith
  slot_closed k n x q h (Some v) d = tt

  mutual
    pub sub_pattern_closed : (k n : ℕ) (p : Pattern) → k ≡ length e + n → PatternIsClosed k p
        → PatternIsClosed n (sub_pattern e p)
    sub_pattern_closed k n any q h = tt
    sub_pattern_closed k n new q h = tt
    sub_pattern_closed k n (slot x) q h = slot_closed k n x q h (slice_get e x) refl
    sub_pattern_closed k n (known v) q h = tt
    sub_pattern_closed k n (tuple_of ps) q h = sub_patterns_closed k n ps q h
    sub_pattern_closed k n (cons_of p r) q h =
        let d = sub_binds p in (
          sub_pattern_closed k n p q h.0,
          sub_pattern_closed (k + binds p) (n + binds (sub_pattern e p)) r
              (omega arith) h.1,
        )
    sub_pattern_closed k n never q h = tt

    pub sub_patterns_closed : (k n : ℕ) (ps : Patterns) → k ≡ length e + n → PatternsAreClosed k ps
        → PatternsAreClosed n (sub_patterns e ps)
    sub_patterns_closed k n no_patterns q h = tt
    sub_patterns_closed k n (pattern p ps) q h =
        let d = sub_binds p in (
          sub_pattern_closed k n p q h.0,
          sub_patterns_closed (k + binds p) (n + binds (sub_pattern e p)) ps
              (omega arith) h.1,
        )

  module _ (fs : Program) where
    var_closed : (k n x : ℕ) → k ≡ length e + n → x < k → (o : Option Value) → slice_get e x ≡ o
        → IsClosed fs n (value_or_var o (x - length e))
    var_closed k n x q h None d = let l = past e x d in omega arith
    var_closed k n x q h (Some v) d = tt

    mutual
      pub sub_closed : (k n : ℕ) (t : Tree) → k ≡ length e + n → IsClosed fs k t → IsClosed fs n (sub e t)
      sub_closed k n (lit v) q h = tt
      sub_closed k n (var x) q h = var_closed k n x q h (slice_get e x) refl
      sub_closed k n (tuple ts) q h = sub_trees_closed k n ts q h
      sub_closed k n (cons a t) q h = (sub_closed k n a q h.0, sub_closed k n t q h.1)
      sub_closed k n (op o a t) q h = (sub_closed k n a q h.0, sub_closed k n t q h.1)
      sub_closed k n (neg a) q h = sub_closed k n a q h
      sub_closed k n (and_also a t) q h = (sub_closed k n a q h.0, sub_closed k n t q h.1)
      sub_closed k n (or_else a t) q h = (sub_closed k n a q h.0, sub_closed k n t q h.1)
      sub_closed k n (call f ts) q h = (rw (sub_count ts) h.0, sub_trees_closed k n ts q h.1)
      sub_closed k n (builtin f ts) q h = (rw (sub_count ts) h.0, sub_trees_closed k n ts q h.1)
      sub_closed k n (match ps a) q h = (sub_patterns_closed k n ps q h.0, sub_closed k n a q h.1)
      sub_closed k n (bind ps a r) q h =
          let d = sub_all_bind ps in (
            sub_patterns_closed k n ps q h.0,
            sub_closed k n a q h.1,
            sub_closed (k + all_bind ps) (n + all_bind (sub_patterns e ps)) r (omega arith) h.2,
          )
      sub_closed k n (case a ks) q h = (sub_closed k n a q h.0, sub_clauses_closed k n ks q h.1)
      sub_closed k n (if_expression ks) q h = sub_clauses_closed k n ks q h
      sub_closed k n (receive ks) q h = sub_clauses_closed k n ks q h
      sub_closed k n (send a t) q h = (sub_closed k n a q h.0, sub_closed k n t q h.1)

      sub_trees_closed : (k n : ℕ) (ts : Trees) → k ≡ length e + n → AllAreClosed fs k ts
          → AllAreClosed fs n (sub_trees e ts)
      sub_trees_closed k n no_trees q h = tt
      sub_trees_closed k n (tree t ts) q h = (sub_closed k n t q h.0, sub_trees_closed k n ts q h.1)

      sub_clauses_closed : (k n : ℕ) (ks : Clauses) → k ≡ length e + n → ClausesAreClosed fs k ks
          → ClausesAreClosed fs n (sub_clauses e ks)
      sub_clauses_closed k n no_clauses q h = tt
      sub_clauses_closed k n (clause p g body ks) q h =
          let d = sub_binds p in
          let r : k + binds p ≡ length e + (n + binds (sub_pattern e p)) = omega arith in (
            sub_pattern_closed k n p q h.0,
            sub_guard_closed (k + binds p) (n + binds (sub_pattern e p)) g r h.1,
            sub_closed (k + binds p) (n + binds (sub_pattern e p)) body r h.2,
            sub_clauses_closed k n ks q h.3,
          )

      sub_guard_closed : (k n : ℕ) (g : Guard) → k ≡ length e + n → GuardIsClosed fs k g
          → GuardIsClosed fs n (sub_guard e g)
      sub_guard_closed k n no_alternatives q h = tt
      sub_guard_closed k n (alternative ts g) q h = (sub_trees_closed k n ts q h.0, sub_guard_closed k n g q h.1)
