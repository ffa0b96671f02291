use Rattle.std.proofs.Common.{◌≡◌, ℕ, List, ◌∷◌, Option, Some, None, is_some, false, refl, sym, ap, ◌∙◌, arith}
use Rattle.std.specs.Option.{option_map}
use Rattle.pf_desks.specs.Desks.{desk_at}
use Rattle.pf_book.specs.Queued.{job_at}
use Rattle.pf_book.specs.Queues.{HoldsRoom}
use Rattle.pf_book.specs.declared.queue.TrialQueue.{TrialQueue}
use Rattle.pf_book.proofs.Queued.{first_passed, front_is}
use Rattle.pf_book.proofs.Worked.{none_waiting}
use Rattle.pf_book.proofs.book.let_pass.Goals as goal

none_there : {A B : Type 0} (f : A → B) (o : Option A) → is_some o ≡ false → option_map f o ≡ None
none_there f None h = refl
none_there f (Some x) h = absurd (cc (h))

-- the front isn't queued, and goes
pub loop-project-preserved : goal.loop-project-preserved
loop-project-preserved c =
    let w = c.args.desks.now.entries in
    let q = c.in-Some.field-0.now.0 in
    let t = c.in-Some.field-0.now.1 in
    let k = c.loop-project.queue in
    let k' : TrialQueue = record { waiting = c.pop_front.new.self; running = k.running } in
    let front = c.in-Some.ensures.item in
    let items : k.waiting.items ≡ (q, t) ∷ k'.waiting.items =
    front_is k.waiting.items (q, t) front.3.0 front.1 ∙ ap (λ (l : List (ℕ × ℕ)). (q, t) ∷ l)
    (sym c.pop_front.ensures.rest) in
    let all = c.loop-project.invariant.waits in
    let room : HoldsRoom k' 0 = omega (arith, all.room, c.pop_front.ensures.len, c.pop_front.ensures.capacity) in
    let none : job_at (desk_at q w).trials t ≡ None =
    sym c.queued_in.ensures ∙ none_there (λ j. j.now.value) c.queued_in.result
    (sym c.is_some.ensures ∙ c.if-is_some.false) in
    record { waits = first_passed q t k k' w items refl room (none_waiting (desk_at q w).trials t none) all }
