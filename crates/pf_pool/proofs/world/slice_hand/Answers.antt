use Rattle.std.proofs.Common.{◌≡◌, true, false, Option, Some, Ok, Err, sym, ◌∙◌, refl, subst}
use Rattle.std.specs.Prelude.{IfSome}
use Rattle.pf_world.specs.World.{Hand}
use Rattle.pf_world.specs.Chores.{is_going}
use Rattle.pf_pool.specs.declared.response.Response.TheVariants.{Done}
use Rattle.pf_pool.specs.Hands.{SlicesHand}
use Rattle.pf_pool.specs.Runs.{is_out_of_memory}
use Rattle.pf_pool.proofs.Sliced.{hand_sliced, hand_refused}
use Rattle.pf_pool.proofs.world.slice_hand.Goals as goal

pub returns-then-refused-clause-slice : goal.returns-then-refused-clause-slice
returns-then-refused-clause-slice c =
    let x = c.in-Some.run' in
    let r = c.sliced-run.result in
    let was : c.args.hand.now ≡ Some x = cc in
    let goes : is_going x.progress ≡ true = subst (λ (h : Hand). IfSome h (λ r. is_going r.progress ≡ true)) was
    c.requires.going in
    let out : is_out_of_memory r.progress ≡ true = sym c.is_out_of_memory-refused.ensures ∙ c.if-refused.true in
    subst (λ (h : Hand). SlicesHand c.args.turns h (Err (record {})) (Some r)) (sym was)
    (hand_refused x r c.args.turns goes out c.sliced-run.ensures.slice)

pub returns-else-refused-clause-slice : goal.returns-else-refused-clause-slice
returns-else-refused-clause-slice c =
    let x = c.in-Some.run' in
    let r = c.sliced-run.result in
    let was : c.args.hand.now ≡ Some x = cc in
    let not_out : is_out_of_memory r.progress ≡ false = sym c.is_out_of_memory-refused.ensures ∙ c.if-refused.false in
    subst (λ (h : Hand). SlicesHand c.args.turns h (Ok Done) (Some r)) (sym was)
    (refl, hand_sliced x r c.args.turns not_out c.sliced-run.ensures.slice)
