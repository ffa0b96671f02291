-- How the logic stores patterns and trees: a number for the kind, then what is no part of its own, then the parts.
use Rattle.std.specs.Prelude.{◌≡◌, ℕ, zero, suc, refl}
use Rattle.std.proofs.Common.{sym, ap, ◌∙◌}
use base.Stored.{Gv, gnil, gnum, gcons, num, Coded}
use Rattle.pf_terms.specs.Value.{Value}
use Rattle.pf_terms.specs.Encoding.{code_value, decoded, decoded-code_value}
use Rattle.pf_syntax.specs.Pattern.{Pattern, Patterns, any, new, slot, known, tuple_of, cons_of, never, no_patterns}
use Rattle.pf_syntax.specs.Pattern.{pattern}
use Rattle.pf_syntax.specs.Tree.{Tree, Trees, Clauses, Guard, lit, var, tuple, cons, op, neg, and_also, or_else, call}
use Rattle.pf_syntax.specs.Tree.{builtin, match, bind, case, if_expression, receive, send, no_trees, tree, no_clauses}
use Rattle.pf_syntax.specs.Tree.{clause, no_alternatives, alternative}
use Rattle.pf_syntax.specs.Numbers.{number_of_operator, operator_of_number, operator_of_number-number_of_operator}
use Rattle.pf_syntax.specs.Numbers.{number_of_builtin, builtin_of_number, builtin_of_number-number_of_builtin}

abbrev mutual
  pub code_pattern : Pattern → Gv
  code_pattern any = gcons (gnum 0) gnil
  code_pattern new = gcons (gnum 1) gnil
  code_pattern (slot x) = gcons (gnum 2) (gnum x)
  code_pattern (known v) = gcons (gnum 3) (code_value v)
  code_pattern (tuple_of ps) = gcons (gnum 4) (code_patterns ps)
  code_pattern (cons_of p q) = gcons (gnum 5) (gcons (code_pattern p) (code_pattern q))
  code_pattern never = gcons (gnum 6) gnil

  pub code_patterns : Patterns → Gv
  code_patterns no_patterns = gnil
  code_patterns (pattern p ps) = gcons (code_pattern p) (code_patterns ps)

-- the pattern of kind number k, with these parts
abbrev pub pattern_of_kind : ℕ → Gv → Patterns → Pattern → Pattern → Pattern
pattern_of_kind zero b ps p q = any
pattern_of_kind (suc zero) b ps p q = new
pattern_of_kind (suc (suc zero)) b ps p q = slot (num b)
pattern_of_kind (suc (suc (suc zero))) b ps p q = known (decoded b)
pattern_of_kind (suc (suc (suc (suc zero)))) b ps p q = tuple_of ps
pattern_of_kind (suc (suc (suc (suc (suc zero))))) b ps p q = cons_of p q
pattern_of_kind (suc (suc (suc (suc (suc (suc n)))))) b ps p q = never

abbrev mutual
  pub pattern_decoded : Gv → Pattern
  pattern_decoded gnil = any
  pattern_decoded (gnum n) = any
  pattern_decoded (gcons k gnil) = pattern_of_kind (num k) gnil no_patterns any any
  pattern_decoded (gcons k (gnum n)) = pattern_of_kind (num k) (gnum n) no_patterns any any
  pattern_decoded (gcons k (gcons a b)) = pattern_of_kind (num k) (gcons a b)
      (pattern (pattern_decoded a) (patterns_decoded b)) (pattern_decoded a) (pattern_decoded b)

  pub patterns_decoded : Gv → Patterns
  patterns_decoded gnil = no_patterns
  patterns_decoded (gnum n) = no_patterns
  patterns_decoded (gcons a b) = pattern (pattern_decoded a) (patterns_decoded b)

-- a known value is read back from its code, whatever shape that has
known_back : (c : Gv) (v : Value) → decoded c ≡ v → pattern_decoded (gcons (gnum 3) c) ≡ known v
known_back gnil v e = ap known e
known_back (gnum n) v e = ap known e
known_back (gcons a b) v e = ap known e

mutual
  pub pattern_decoded-code : (p : Pattern) → pattern_decoded (code_pattern p) ≡ p
  pattern_decoded-code any = refl
  pattern_decoded-code new = refl
  pattern_decoded-code (slot x) = refl
  pattern_decoded-code (known v) = known_back (code_value v) v (decoded-code_value v)
  pattern_decoded-code (tuple_of no_patterns) = refl
  pattern_decoded-code (tuple_of (pattern p ps)) = ap tuple_of (patterns_decoded-code (pattern p ps))
  pattern_decoded-code (cons_of p q) = ap (λ x. cons_of x (pattern_decoded (code_pattern q))) (pattern_decoded-code p)
      ∙ ap (cons_of p) (pattern_decoded-code q)
  pattern_decoded-code never = refl

  pub patterns_decoded-code : (ps : Patterns) → patterns_decoded (code_patterns ps) ≡ ps
  patterns_decoded-code no_patterns = refl
  patterns_decoded-code (pattern p ps) = ap (λ x. pattern x (patterns_decoded (code_patterns ps)))
      (pattern_decoded-code p) ∙ ap (pattern p) (patterns_decoded-code ps)

abbrev mutual
  pub code_tree : Tree → Gv
  code_tree (lit v) = gcons (gnum 0) (gcons (code_value v) (gcons gnil gnil))
  code_tree (var x) = gcons (gnum 1) (gcons (gnum x) (gcons gnil gnil))
  code_tree (tuple ts) = gcons (gnum 2) (gcons gnil (gcons gnil (code_trees ts)))
  code_tree (cons a b) = gcons (gnum 3) (gcons gnil (gcons (code_tree a) (code_tree b)))
  code_tree (op o a b) = gcons (gnum 4) (gcons (gnum (number_of_operator o)) (gcons (code_tree a) (code_tree b)))
  code_tree (neg a) = gcons (gnum 5) (gcons gnil (gcons (code_tree a) gnil))
  code_tree (and_also a b) = gcons (gnum 6) (gcons gnil (gcons (code_tree a) (code_tree b)))
  code_tree (or_else a b) = gcons (gnum 7) (gcons gnil (gcons (code_tree a) (code_tree b)))
  code_tree (call f ts) = gcons (gnum 8) (gcons (gnum f) (gcons gnil (code_trees ts)))
  code_tree (builtin f ts) = gcons (gnum 9) (gcons (gnum (number_of_builtin f)) (gcons gnil (code_trees ts)))
  code_tree (match ps a) = gcons (gnum 10) (gcons (code_patterns ps) (gcons (code_tree a) gnil))
  code_tree (bind ps a r) = gcons (gnum 11) (gcons (code_patterns ps) (gcons (code_tree a) (code_tree r)))
  code_tree (case a cs) = gcons (gnum 12) (gcons gnil (gcons (code_tree a) (code_clauses cs)))
  code_tree (if_expression cs) = gcons (gnum 13) (gcons gnil (gcons gnil (code_clauses cs)))
  code_tree (receive cs) = gcons (gnum 14) (gcons gnil (gcons gnil (code_clauses cs)))
  code_tree (send a b) = gcons (gnum 15) (gcons gnil (gcons (code_tree a) (code_tree b)))

  pub code_trees : Trees → Gv
  code_trees no_trees = gnil
  code_trees (tree t ts) = gcons (code_tree t) (code_trees ts)

  pub code_clauses : Clauses → Gv
  code_clauses no_clauses = gnil
  code_clauses (clause p g b cs) = gcons (gcons (code_pattern p) (gcons (code_guard g) (code_tree b))) (code_clauses cs)

  pub code_guard : Guard → Gv
  code_guard no_alternatives = gnil
  code_guard (alternative ts g) = gcons (code_trees ts) (code_guard g)

-- the tree of kind number k, with these parts
abbrev pub tree_of_kind : ℕ → Gv → Tree → Tree → Trees → Clauses → Tree
tree_of_kind zero h l r ts cs = lit (decoded h)
tree_of_kind (suc zero) h l r ts cs = var (num h)
tree_of_kind (suc (suc zero)) h l r ts cs = tuple ts
tree_of_kind (suc (suc (suc zero))) h l r ts cs = cons l r
tree_of_kind (suc (suc (suc (suc zero)))) h l r ts cs = op (operator_of_number (num h)) l r
tree_of_kind (suc (suc (suc (suc (suc zero))))) h l r ts cs = neg l
tree_of_kind (suc (suc (suc (suc (suc (suc zero)))))) h l r ts cs = and_also l r
tree_of_kind (suc (suc (suc (suc (suc (suc (suc zero))))))) h l r ts cs = or_else l r
tree_of_kind (suc (suc (suc (suc (suc (suc (suc (suc zero)))))))) h l r ts cs = call (num h) ts
tree_of_kind (suc (suc (suc (suc (suc (suc (suc (suc (suc zero))))))))) h l r ts cs =
    builtin (builtin_of_number (num h)) ts
tree_of_kind (suc (suc (suc (suc (suc (suc (suc (suc (suc (suc zero)))))))))) h l r ts cs = match (patterns_decoded h) l
tree_of_kind (suc (suc (suc (suc (suc (suc (suc (suc (suc (suc (suc zero))))))))))) h l r ts cs =
    bind (patterns_decoded h) l r
tree_of_kind (suc (suc (suc (suc (suc (suc (suc (suc (suc (suc (suc (suc zero)))))))))))) h l r ts cs = case l cs
tree_of_kind (suc (suc (suc (suc (suc (suc (suc (suc (suc (suc (suc (suc (suc zero))))))))))))) h l r ts cs =
    if_expression cs
tree_of_kind (suc (suc (suc (suc (suc (suc (suc (suc (suc (suc (suc (suc (suc (suc zero)))))))))))))) h l r ts
    cs = receive cs
tree_of_kind (suc (suc (suc (suc (suc (suc (suc (suc (suc (suc (suc (suc (suc (suc (suc n))))))))))))))) h l r ts cs =
    send l r

abbrev mutual
  pub tree_decoded : Gv → Tree
  tree_decoded (gcons k (gcons h (gcons l r))) = tree_of_kind (num k) h (tree_decoded l) (tree_decoded r)
      (trees_decoded r) (clauses_decoded r)
  tree_decoded _ = var 0

  pub trees_decoded : Gv → Trees
  trees_decoded (gcons a b) = tree (tree_decoded a) (trees_decoded b)
  trees_decoded _ = no_trees

  pub clauses_decoded : Gv → Clauses
  clauses_decoded (gcons (gcons p (gcons g b)) cs) = clause (pattern_decoded p) (guard_decoded g) (tree_decoded b)
      (clauses_decoded cs)
  clauses_decoded _ = no_clauses

  pub guard_decoded : Gv → Guard
  guard_decoded (gcons ts g) = alternative (trees_decoded ts) (guard_decoded g)
  guard_decoded _ = no_alternatives

mutual
  pub tree_decoded-code : (t : Tree) → tree_decoded (code_tree t) ≡ t
  tree_decoded-code (lit v) = ap lit (decoded-code_value v)
  tree_decoded-code (var x) = refl
  tree_decoded-code (tuple ts) = ap tuple (trees_decoded-code ts)
  tree_decoded-code (cons a b) = let x = tree_decoded-code a in let y = tree_decoded-code b in cc
  tree_decoded-code (and_also a b) = let x = tree_decoded-code a in let y = tree_decoded-code b in cc
  tree_decoded-code (or_else a b) = let x = tree_decoded-code a in let y = tree_decoded-code b in cc
  tree_decoded-code (send a b) = let x = tree_decoded-code a in let y = tree_decoded-code b in cc
  tree_decoded-code (op o a b) = let n = operator_of_number-number_of_operator o in let x = tree_decoded-code a in
      let y = tree_decoded-code b in cc
  tree_decoded-code (neg a) = ap neg (tree_decoded-code a)
  tree_decoded-code (call f ts) = ap (call f) (trees_decoded-code ts)
  tree_decoded-code (builtin f ts) = let n = builtin_of_number-number_of_builtin f in
      let x = trees_decoded-code ts in cc
  tree_decoded-code (match ps a) = let n = patterns_decoded-code ps in let x = tree_decoded-code a in cc
  tree_decoded-code (bind ps a r) = let n = patterns_decoded-code ps in let x = tree_decoded-code a in
      let y = tree_decoded-code r in cc
  tree_decoded-code (case a cs) = let x = tree_decoded-code a in let y = clauses_decoded-code cs in cc
  tree_decoded-code (if_expression cs) = ap if_expression (clauses_decoded-code cs)
  tree_decoded-code (receive cs) = ap receive (clauses_decoded-code cs)

  pub trees_decoded-code : (ts : Trees) → trees_decoded (code_trees ts) ≡ ts
  trees_decoded-code no_trees = refl
  trees_decoded-code (tree t ts) = let x = tree_decoded-code t in let y = trees_decoded-code ts in cc

  pub clauses_decoded-code : (cs : Clauses) → clauses_decoded (code_clauses cs) ≡ cs
  clauses_decoded-code no_clauses = refl
  clauses_decoded-code (clause p g b cs) = let n = pattern_decoded-code p in let x = guard_decoded-code g in
      let y = tree_decoded-code b in let z = clauses_decoded-code cs in cc

  pub guard_decoded-code : (g : Guard) → guard_decoded (code_guard g) ≡ g
  guard_decoded-code no_alternatives = refl
  guard_decoded-code (alternative ts g) = let x = trees_decoded-code ts in let y = guard_decoded-code g in cc

abbrev pub coded_pattern : Coded Pattern
coded_pattern =
    record {
      code = code_pattern;
      inj = λ x y e. sym (pattern_decoded-code x) ∙ ap pattern_decoded e
          ∙ pattern_decoded-code y;
    }

abbrev pub coded_patterns : Coded Patterns
coded_patterns =
    record {
      code = code_patterns;
      inj = λ x y e. sym (patterns_decoded-code x) ∙ ap patterns_decoded e
          ∙ patterns_decoded-code y;
    }

abbrev pub coded_tree : Coded Tree
coded_tree =
    record { code = code_tree; inj = λ x y e. sym (tree_decoded-code x) ∙ ap tree_decoded e ∙ tree_decoded-code y }

abbrev pub coded_guard : Coded Guard
coded_guard =
    record { code = code_guard; inj = λ x y e. sym (guard_decoded-code x) ∙ ap guard_decoded e ∙ guard_decoded-code y }
