use Rattle.std.proofs.Common.{◌≡◌, ℕ, List, [], ◌∷◌, ◌++◌, ◌==◌, false, length, map, refl, sym, ap, ◌∙◌}
use Rattle.std.proofs.lemmas.Bool.{false≢true}
use Rattle.std.proofs.lemmas.Result.{on_ok_weaker}
use Rattle.pf_syntax.specs.Tree.{Tree}
use Rattle.pf_syntax.specs.Module.{Tables, tree_at}
use Rattle.pf_syntax.specs.Over.{patterns_at}
use Rattle.pf_syntax.specs.declared.node.PatternId.{PatternId}
use Rattle.pf_positions.specs.Spots.{Spot, before_value, equations}
use Rattle.pf_positions.specs.Added.{spot_seen}
use Rattle.pf_positions.proofs.spot.Home.put_before_value.Goals as goal

-- where there are patterns, they are those of a match
of_match : (f : ℕ) (u : Tree) (t : Tables) (ids : List PatternId) → (length ids == 0) ≡ false
    → equations f u (patterns_at t ids) ≡ before_value f u (patterns_at t ids)
of_match f u t [] some = absurd (false≢true (sym some))
of_match f u t (id ∷ ids) some = refl

pub returns : goal.returns
returns c =
    let t = c.args.self.module.now.tables in
    let is = of_match c.args.self.function.0 (tree_at t c.args.node.0) t c.args.ids.now
    (sym c.is_empty.ensures ∙ c.if-is_empty.false) in
    on_ok_weaker c.put_equations.result (λ h.
    h ∙ ap (λ (xs : List Spot). map (spot_seen t) c.args.spots.now.items ++ xs) is) c.put_equations.ensures
