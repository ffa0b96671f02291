use Rattle.std.proofs.Common.{◌≡◌, ◌+◌, ℕ, true, false, Bool, List, [], ◌∷◌, ◌++◌, refl, sym, ap, ◌∙◌, subst, arith}
use Rattle.pf_desks.specs.Desk.{Desk, no_desk}
use Rattle.pf_book.specs.Answers.{DeskHandsBack}
use Rattle.pf_book.specs.Kept.{CountsAll}
use Rattle.pf_book.specs.Queues.{FollowsQueue, QueuesAll}
use Rattle.pf_book.proofs.Counts.{counts_kept}
use Rattle.pf_book.proofs.Placed.{desk_at_index, no_desk_at, takes_back, no_hand_back, none_running}
use Rattle.pf_book.proofs.Queued.{back_followed, queue_kept, queues_put, running_within}
use Rattle.pf_book.proofs.Worked.{some_run, taken_runs}
use Rattle.pf_book.proofs.book.Book.hand_back.Goals as goal

pub returns-in_default : goal.returns-in_default
returns-in_default c =
    let q = c.args.project in
    let here = no_desk_at q c.self.inside.desks.entries c.args.self.now (sym c.in_default.ensures.index)
    c.self.view_is in
    no_hand_back q c.args.self.now c.args.ticket no_desk here (none_running c.args.ticket) _ refl

pub end-requires : goal.end-requires
end-requires c =
    let es = c.self.inside.desks.entries in
    let q = c.args.project in
    let d = c.index_mut.result.now in
    let at = desk_at_index q es es c.in-Some.index d (sym c.in-Some.ensures.index) c.index_mut.ensures.value refl in
    let taken : DeskHandsBack d c.args.ticket true c.hand_back-taken.new.self =
    subst (λ (b : Bool). DeskHandsBack d c.args.ticket b c.hand_back-taken.new.self) c.if-taken.true
    c.hand_back-taken.ensures.back in
    omega (
      arith,
      some_run d.trials c.args.ticket (taken_runs d c.hand_back-taken.new.self c.args.ticket taken).0,
      running_within q c.self.inside.queue es d at.here c.self.invariant.1,
    )

pub invariant_of-self : goal.invariant_of-self
invariant_of-self c =
    let es = c.self.inside.desks.entries in
    let q = c.args.project in
    let t = c.args.ticket in
    let k = c.self.inside.queue in
    let k' = c.push.new.self in
    let d = c.index_mut.result.now in
    let d' = c.hand_back-taken.new.self in
    let at = desk_at_index q es es c.in-Some.index d (sym c.in-Some.ensures.index) c.index_mut.ensures.value refl in
    let taken : DeskHandsBack d t true d' = subst (λ (b : Bool). DeskHandsBack d t b d') c.if-taken.true
    c.hand_back-taken.ensures.back in
    let runs = taken_runs d d' t taken in
    let waiting : k'.waiting.items ≡ k.waiting.items ++ (q, t) ∷ [] =
    c.push.ensures.waiting ∙ ap (λ (l : List (ℕ × ℕ)). l ++ (q, t) ∷ []) c.end.ensures.waiting in
    let ended : k'.running + 1 ≡ k.running = ap (λ (n : ℕ). n + 1) c.push.ensures.running ∙ c.end.ensures.running in
    let follows : FollowsQueue q k d k' d' =
    subst (λ (x : Desk). FollowsQueue q k d k' x) (sym runs.1)
    (back_followed q k k' d t runs.0 waiting ended c.push.ensures.room) in (
      subst (CountsAll c.self.inside.store) (sym (at.put d'))
          (counts_kept c.self.inside.store q es d d' at.here c.self.invariant.0 c.hand_back-taken.ensures.modules),
      subst (QueuesAll k') (sym (at.put d')) (queues_put q k k' es d d' at.here c.self.invariant.1 follows),
    )

pub invariant_of-self-else-taken : goal.invariant_of-self-else-taken
invariant_of-self-else-taken c =
    let es = c.self.inside.desks.entries in
    let q = c.args.project in
    let t = c.args.ticket in
    let k = c.self.inside.queue in
    let d = c.index_mut.result.now in
    let d' = c.hand_back-taken.new.self in
    let at = desk_at_index q es es c.in-Some.index d (sym c.in-Some.ensures.index) c.index_mut.ensures.value refl in
    let stray : DeskHandsBack d t false d' = subst (λ (b : Bool). DeskHandsBack d t b d') c.if-taken.false
    c.hand_back-taken.ensures.back in (
      subst (CountsAll c.self.inside.store) (sym (at.put d'))
          (counts_kept c.self.inside.store q es d d' at.here c.self.invariant.0 c.hand_back-taken.ensures.modules),
      subst (QueuesAll k) (sym (at.put d')) (queues_put q k k es d d' at.here c.self.invariant.1
          (queue_kept q k k d d' refl refl c.self.invariant.1.room stray.1)),
    )

pub returns-then-taken : goal.returns-then-taken
returns-then-taken c =
    let q = c.args.project in
    let d = c.index_mut.result.now in
    let d' = c.hand_back-taken.new.self in
    let at = desk_at_index q c.self.inside.desks.entries c.args.self.now c.in-Some.index d (sym c.in-Some.ensures.index)
    c.index_mut.ensures.value c.self.view_is in
    takes_back q c.args.self.now c.args.ticket d d' at.here _ (at.put d') at.same c.hand_back-taken.result
    c.hand_back-taken.ensures.back

pub returns-else-taken : goal.returns-else-taken
returns-else-taken c =
    let q = c.args.project in
    let d = c.index_mut.result.now in
    let d' = c.hand_back-taken.new.self in
    let at = desk_at_index q c.self.inside.desks.entries c.args.self.now c.in-Some.index d (sym c.in-Some.ensures.index)
    c.index_mut.ensures.value c.self.view_is in
    takes_back q c.args.self.now c.args.ticket d d' at.here _ (at.put d') at.same c.hand_back-taken.result
    c.hand_back-taken.ensures.back
