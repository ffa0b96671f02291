use Rattle.std.proofs.Common.{◌≡◌, ◌≤◌, List, [], ◌∷◌, ◌++◌, length, drop, refl, ap, None, arith}
use Rattle.pf_terms.specs.Term.{values_of}
use Rattle.pf_terms.specs.declared.term.Term.{Term}
use Rattle.pf_patterns.specs.Fit.{ValueScope, fit_all}
use Rattle.pf_patterns.specs.Scopes.{scope_of}
use Rattle.pf_syntax.specs.declared.node.PatternId.{PatternId}
use Rattle.pf_syntax.specs.Module.{Tables}
use Rattle.pf_syntax.specs.Over.{patterns_at}
use Rattle.pf_patterns.proofs.fitting.+bind.Goals as goal

-- no pattern fits some values
too_many : (t : Tables) (ps : List PatternId) (ts : List Term) (e : ValueScope) → length ps ≡ 0 → 1 ≤ length ts
    → fit_all (patterns_at t ps) (values_of ts) e ≡ None
too_many t (p ∷ ps) ts e n h = absurd (omega arith)
too_many t [] [] e n h = absurd (omega arith)
too_many t [] (v ∷ ts) e n h = refl

nothing_added : (env : List Term) → env ≡ env ++ []
nothing_added [] = refl
nothing_added (v ∷ env) = ap (λ l. v ∷ l) (nothing_added env)

pub bind_all-returns-in-len1-up-values : goal.bind_all-returns-in-len1-up-values
bind_all-returns-in-len1-up-values t c = record {
  added = [];
  grown = nothing_added c.args.env.now.items;
  fit = too_many c.args.code.now.tables c.args.patterns.now c.args.values.now
      (scope_of (drop c.args.base c.args.env.now.items)) (omega arith) (omega arith);
}
