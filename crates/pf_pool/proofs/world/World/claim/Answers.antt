use Rattle.std.proofs.Common.{◌≡◌, List, ◌<◌, true, Some, None, Ok, Err, sym, ap, ◌∙◌, subst, arith}
use Rattle.std.specs.Prelude.{Result, slice_get, slice_set}
use Rattle.pf_errors.specs.declared.memory.NoMemory.{NoMemory}
use Rattle.pf_pool.specs.declared.response.Response.{Response}
use Rattle.std.proofs.lemmas.Option.{slice_get_within}
use Rattle.std.proofs.lemmas.Result.{err_from_is_err_and}
use Rattle.pf_request.specs.Job.{Job}
use Rattle.pf_desks.specs.Desks.{Desks, desk_at}
use Rattle.pf_book.specs.Queued.{job_at}
use Rattle.pf_world.specs.Chores.{new_run}
use Rattle.pf_request.specs.declared.step.Chore.TheVariants.{Claim}
use Rattle.pf_world.specs.Steps.{worker_does}
use Rattle.pf_world.specs.World.{ClaimedRun, Hand, World}
use Rattle.pf_pool.specs.declared.response.Response.TheVariants.{Done}
use Rattle.pf_pool.specs.Hands.{is_free}
use Rattle.pf_pool.specs.Responses.{SimulatesStep}
use Rattle.pf_pool.specs.Sound.{IsSound, world_in}
use Rattle.pf_pool.proofs.Kept.{hand_sound, claim_keeps}
use Rattle.pf_pool.proofs.Lifted.{deque_there}
use Rattle.pf_pool.proofs.Responded.{seen, free_so, claim_refused, claim_responds}
use Rattle.pf_pool.proofs.world.World.claim.Goals as goal

pub index_mut-requires : goal.index_mut-requires
index_mut-requires c =
    let hs = c.self.inside.hands.items in
    let w = c.args.worker in
    let free : slice_get hs w ≡ Some None =
    free_so (slice_get hs w) (ap (λ (l : List Hand). is_free (slice_get l w)) (sym c.deref.ensures.value)
    ∙ sym c.is_free.ensures ∙ c.if-not-is_free.false) in
    omega (arith, slice_get_within hs w None free, c.self.inside.hands.ok.0)

pub returns-in_err-claim_at : goal.returns-in_err-claim_at
returns-in_err-claim_at c =
    let s = world_in c.self.inside in
    let w = c.args.worker in
    let q = c.args.project in
    let t = c.args.ticket in
    let x = worker_does w q t Claim in
    let free : slice_get s.hands w ≡ Some None =
    free_so (slice_get s.hands w) (ap (λ (l : List Hand). is_free (slice_get l w)) (sym c.deref.ensures.value)
    ∙ sym c.is_free.ensures ∙ c.if-not-is_free.false) in
    let rs = deque_there s w None c.self.invariant.workers free in
    let k : World = record s { desks = c.claim_at.new.self } in
    let same : k ≡ s = ap (λ (d : Desks). record s { desks = d }) c.in_err-claim_at.ensures.1 in
    let e = err_from_is_err_and c.from_residual-in_err-claim_at.result c.from_residual-in_err-claim_at.ensures.1 in
    let waits : job_at (desk_at q s.desks).trials t ≡ Some c.in-Some.job.now.value = sym c.in-Some.ensures in
    let refused : SimulatesStep s x (Err e.0) s =
    claim_refused s w q t rs.0 rs.1 free c.in-Some.job.now.value waits e.0 in
    subst (λ (z : Result Response NoMemory). SimulatesStep c.args.self.now x z k) (sym e.1)
    (seen s c.args.self.now k x (Err e.0) c.self.view_is
    (subst (λ (z : World). SimulatesStep s x (Err e.0) z) (sym same) refused))

pub invariant_of-self-2 : goal.invariant_of-self-2
invariant_of-self-2 c =
    let s = world_in c.self.inside in
    let w = c.args.worker in
    let q = c.args.project in
    let t = c.args.ticket in
    let j = c.in-Some.job.now.value in
    let waits : job_at (desk_at q s.desks).trials t ≡ Some j = sym c.in-Some.ensures in
    let run_is : c.in_ok-run.run' ≡ new_run q t j =
    c.in_ok-run.ensures ∙ ap (λ (i : Job). new_run q t i) c.in_ok-try_clone.ensures in
    let keeps = claim_keeps s.desks q t j waits c.in_ok-claim_at.field-0 c.claim_at.new.self c.in_ok-claim_at.ensures in
    subst (λ (r : ClaimedRun). IsSound (record {
      desks = c.claim_at.new.self;
      hands = slice_set s.hands w (Some r);
      deques = s.deques;
    })) (sym run_is)
    (hand_sound s c.claim_at.new.self keeps.0 c.self.invariant w (Some (new_run q t j)) keeps.1)

pub returns : goal.returns
returns c =
    let s = world_in c.self.inside in
    let w = c.args.worker in
    let q = c.args.project in
    let t = c.args.ticket in
    let x = worker_does w q t Claim in
    let j = c.in-Some.job.now.value in
    let w' = c.claim_at.new.self in
    let free : slice_get s.hands w ≡ Some None =
    free_so (slice_get s.hands w) (ap (λ (l : List Hand). is_free (slice_get l w)) (sym c.deref.ensures.value)
    ∙ sym c.is_free.ensures ∙ c.if-not-is_free.false) in
    let rs = deque_there s w None c.self.invariant.workers free in
    let waits : job_at (desk_at q s.desks).trials t ≡ Some j = sym c.in-Some.ensures in
    let run_is : c.in_ok-run.run' ≡ new_run q t j =
    c.in_ok-run.ensures ∙ ap (λ (i : Job). new_run q t i) c.in_ok-try_clone.ensures in
    let k : World = record { desks = w'; hands = slice_set s.hands w (Some c.in_ok-run.run'); deques = s.deques } in
    let done : SimulatesStep s x (Ok Done) k =
    subst (λ (r : ClaimedRun). SimulatesStep s x (Ok Done)
    (record { desks = w'; hands = slice_set s.hands w (Some r); deques = s.deques })) (sym run_is)
    (claim_responds s w q t rs.0 rs.1 free j waits c.in_ok-claim_at.field-0 w' c.in_ok-claim_at.ensures) in
    seen s c.args.self.now k x (Ok Done) c.self.view_is done
