use Rattle.std.proofs.Common.{◌≡◌, ℕ, suc, ◌+◌, ◌<◌, List, ◌∷◌, length, drop, sym, ap, ◌∙◌, arith, add-one}
use Rattle.pf_static_check.specs.Marks.{trail_of, status_of}
use Rattle.pf_static_check.proofs.Trailing.{one_set, dropped_item, same_length}
use Rattle.pf_static_check.proofs.variable_states.VariableStates.set_since.Goals as goal

pub loop-index-preserved : goal.loop-index-preserved
loop-index-preserved c =
    let s = c.loop-index.self in
    let items = s.trail.items in
    let i = c.loop-index.index in
    let name = c.index-name.result.now in
    let same : length items ≡ length c.args.self.now.trail.items =
    same_length items c.args.self.now.trail.items c.loop-index.invariant.trail in
    let within : i < length items = omega (arith, c.args.self.now.trail.ok.0) in
    let kept = c.in_ok-set.ensures.trail in
    let rest : drop (i + 1) (trail_of c.set.new.self) ≡ drop (suc i) (trail_of s) =
    rw add-one (ap (drop (suc i)) kept) in
    let split : drop i (trail_of s) ≡ name.0 ∷ drop (i + 1) (trail_of c.set.new.self) =
    dropped_item items i name within c.index-name.ensures ∙ ap (λ (ns : List ℕ). name.0 ∷ ns) (sym rest) in
    record {
      trail = kept ∙ c.loop-index.invariant.trail;
      states = λ x.
          one_set x name.0 (drop i (trail_of s)) (drop (i + 1) (trail_of c.set.new.self)) c.args.status (status_of s x)
          (status_of c.set.new.self x) _ split (c.in_ok-set.ensures.set x) (c.loop-index.invariant.states x);
    }
