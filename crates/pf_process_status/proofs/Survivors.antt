-- Statuses of those that live.
use Rattle.std.proofs.Common.{◌≡◌, ◌⊎◌, ◌<◌, inl, inr, ℕ, suc, true, List, [], ◌∷◌, ◌++◌, Some, Result, Ok, Err, length}
use Rattle.std.proofs.Common.{sym, ap, ◌∙◌, subst, arith}
use Rattle.std.specs.Prelude.{IfOk, get_or, option_map, slice_get}
use Rattle.std.proofs.lemmas.Option.{slice_get-get_or, slice_get-map, slice_get_within}
use Rattle.pf_syntax.specs.Module.{Checked}
use Rattle.pf_model.specs.Choosers.{choose_by_picks}
use Rattle.pf_model.specs.Configuration.{Configuration, is_alive, of}
use Rattle.pf_model.specs.Context.{ProcessState}
use Rattle.pf_model.specs.Meaning as meaning
use Rattle.pf_model.specs.Meaning.{Event}
use Rattle.pf_system.proofs.Bodies.{more_length}
use Rattle.pf_process_status.specs.Fates.{AreStandings, Began, EndsAt, HasEnded, LivesSo}
use Rattle.pf_process_status.specs.Followed.{AreByPid, IsFollowed}
use Rattle.pf_process_status.specs.Known.{RunLeadsTo, checked_of, module_of_run, events_of}
use Rattle.pf_process_status.specs.Put.{AreAtEnd, ArePlaced, AreStanding, IsAlike, NoneBelow, ReportsEnds}
use Rattle.pf_process_status.specs.declared.follow.Begun.{Begun}
use Rattle.pf_process_status.specs.declared.follow.Followed.{Followed}
use Rattle.pf_process_status.specs.declared.known.KnownRun.{KnownRun}
use Rattle.pf_process_status.specs.declared.ends.ProcessEnd.TheVariants as end
use Rattle.pf_process_status.specs.declared.standing.ProcessFate.{ProcessFate}
use Rattle.pf_process_status.specs.declared.standing.ProcessFate.TheVariants as fate
use Rattle.pf_process_status.specs.declared.standing.ProcessStatus.{ProcessStatus}
use Rattle.pf_process_status.proofs.Following.{at_pushed}
use Rattle.pf_process_status.proofs.Ran.{NoneEnds, lives_on}

pub if_ok : {E X : Type 0} {P Q : X → Type 0} (r : Result X E) → ((x : X) → P x → Q x) → IfOk r P → IfOk r Q
if_ok (Ok x) h p = h x p
if_ok (Err e) h p = p

-- the item of a loop over a list that was borrowed
pub item_at : {X : Type 0} (xs ys : List X) (i : ℕ) (d : X) → xs ≡ ys → i < length xs
    → slice_get ys i ≡ Some (get_or xs i d)
item_at xs ys i d e l = ap (λ zs. slice_get zs i) (sym e) ∙ slice_get-get_or xs i d l

-- one process more has its status
pub one_more : (m : Checked) (c : Configuration) (fs : List Begun) (i : ℕ) (b : Begun) (xs : List ProcessStatus)
    (x : ProcessStatus)
    → AreByPid fs → AreStanding m c fs i xs → slice_get fs i ≡ Some b → x.pid ≡ b.pid → x.begun ≡ b.function
    → (is_alive (of c.core b.pid).state ≡ true → LivesSo m (of c.core b.pid).state x.fate)
    → AreStanding m c fs (suc i) (xs ++ x ∷ [])
one_more m c fs i b xs x pids h is pid same lives =
    record {
      count = more_length xs x ∙ ap suc h.count;
      begun =
          at_pushed (λ p y. (a : Begun) × (slice_get fs p ≡ Some a) × (y.pid ≡ a.pid)
          × (y.begun ≡ a.function)) xs x h.begun
          (b, ap (slice_get fs) h.count ∙ is, pid, same);
      fates =
          at_pushed (λ p y. is_alive (of c.core p).state ≡ true → LivesSo m (of c.core p).state y.fate) xs x h.fates
          (subst (λ p. is_alive (of c.core p).state ≡ true → LivesSo m (of c.core p).state x.fate)
          (pids i b is ∙ sym h.count) lives);
    }

-- after the last event
pub at_end : (k : KnownRun) (d : Configuration) (f : Followed) (xs : List ProcessStatus) → IsFollowed k d f
    → AreStanding f.system.checked d f.begun.items (length f.begun.items) xs → AreAtEnd k d xs
at_end k d f xs g h =
    record {
      count = h.count ∙ g.begun.count;
      pids = λ p x s. let q = h.begun p x s in q.2 ∙ g.begun.pids p q.0 q.1;
      begun = λ p x s. let q = h.begun p x s in subst (Began k p) (sym q.3) (g.begun.each p q.0 q.1);
      fates = λ p x s l. subst (λ m. LivesSo m (of d.core p).state x.fate) g.module_is (h.fates p x s l);
    }

-- ---- all processes

-- where a process failed makes no difference to whether it did
alike_ended : (es : List Event) (p : ℕ) (y z : ProcessFate) → IsAlike y z → HasEnded es p y → HasEnded es p z
alike_ended es p fate.Normal z e h = subst (HasEnded es p) (sym e) h
alike_ended es p (fate.Killed a) z e h = subst (HasEnded es p) (sym e) h
alike_ended es p (fate.Waits a) z e h = absurd h
alike_ended es p (fate.Goes a) z e h = absurd h
alike_ended es p (fate.Failed n a) (fate.Failed m b) e h = subst (EndsAt es p end.Failed) e h
alike_ended es p (fate.Failed n a) fate.Normal e h = subst (HasEnded es p) (sym e) h
alike_ended es p (fate.Failed n a) (fate.Killed b) e h = subst (HasEnded es p) (sym e) h
alike_ended es p (fate.Failed n a) (fate.Waits b) e h = subst (HasEnded es p) (sym e) h
alike_ended es p (fate.Failed n a) (fate.Goes b) e h = subst (HasEnded es p) (sym e) h

-- nor to how one lives
alike_lives : (m : Checked) (s : ProcessState) (y z : ProcessFate) → IsAlike y z → LivesSo m s y → LivesSo m s z
alike_lives m s fate.Normal z e h = absurd h
alike_lives m s (fate.Killed a) z e h = absurd h
alike_lives m s (fate.Failed n a) z e h = absurd h
alike_lives m s (fate.Waits a) z e h = subst (LivesSo m s) (sym e) h
alike_lives m s (fate.Goes a) z e h = subst (LivesSo m s) (sym e) h

module _ (k : KnownRun) (d : Configuration) (h : RunLeadsTo k d) where
  none_ends : (p : ℕ) → NoneBelow (events_of k) (length (events_of k)) p → NoneEnds p h.transitions
  none_ends p none i t at =
      let there : slice_get (events_of k) i ≡ Some (meaning.event_of_transition t) =
      ap (λ es. slice_get es i) h.events ∙ slice_get-map meaning.event_of_transition h.transitions i
      ∙ ap (option_map meaning.event_of_transition) at in
      none i (meaning.event_of_transition t) (slice_get_within (events_of k) i (meaning.event_of_transition t) there)
      there

  -- a process that no event ended lives, and all others ended
  pub are_there : (xs ys zs : List ProcessStatus) → AreAtEnd k d xs
      → ReportsEnds (events_of k) (length (events_of k)) xs ys
      → ArePlaced ys zs → AreStandings k d zs
  are_there xs ys zs a t b = record {
    count = b.count ∙ t.count ∙ a.count;
    pids = λ p z s.
        let q = b.each p z s in
        let r = t.each p q.0 q.1 in
        q.2 ∙ r.2 ∙ a.pids p r.0 r.1;
    begun = λ p z s.
        let q = b.each p z s in
        let r = t.each p q.0 q.1 in
        subst (Began k p) (sym (q.3 ∙ r.3)) (a.begun p r.0 r.1);
    fates = λ p z s.
        let q = b.each p z s in
        let r = t.each p q.0 q.1 in
        by p r.0 q.0.fate z.fate r.1 q.4 r.4;
  }
    where
      by : (p : ℕ) (x : ProcessStatus) (y z : ProcessFate) → slice_get xs p ≡ Some x → IsAlike y z
          → HasEnded (events_of k) p y ⊎ ((y ≡ x.fate) × NoneBelow (events_of k) (length (events_of k)) p)
          → HasEnded (events_of k) p z ⊎ LivesSo (checked_of k) (of d.core p).state z
      by p x y z at e (inl ended) = inl (alike_ended (events_of k) p y z e ended)
      by p x y z at e (inr r) =
          let within = slice_get_within xs p x at in
          let count = a.count in
          let alive = lives_on (module_of_run k) (choose_by_picks h.picks) 0 k.limit k.root.0 k.edition h.transitions d
          h.steps h.made h.goes p (none_ends p r.1) (omega arith) in
          inr (alike_lives (checked_of k) (of d.core p).state y z e
          (subst (LivesSo (checked_of k) (of d.core p).state) (sym r.0) (a.fates p x at alive)))
