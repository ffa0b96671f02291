-- As many processes live at any point of a run as what it showed leaves, and as many wait at its end as are reported.
use Rattle.std.proofs.Common.{◌≡◌, ◌+◌, ℕ, zero, suc, Bool, true, false, ◌&&◌, List, [], ◌∷◌, ◌++◌, length, map, Option}
use Rattle.std.proofs.Common.{Some, None, Result, Ok, Err, refl, sym, ap, ◌∙◌, subst, arith}
use Rattle.std.specs.Prelude.{count_by, if◌then◌else◌, not, ◌==◌}
use Rattle.std.proofs.lemmas.List.Sums.{sum_by-cons}
use Rattle.pf_terms.specs.Value.{Value, same}
use Rattle.pf_terms.specs.Fixed.{kill, killed, normal}
use Rattle.pf_syntax.specs.Tree.{Clauses}
use Rattle.pf_model.specs.Choosers.{Chooser}
use Rattle.pf_model.specs.Module.{Module}
use Rattle.pf_model.specs.Channels as signal
use Rattle.pf_model.specs.Channels.{Signal, Channels, heads}
use Rattle.pf_model.specs.Context.{Frame, ProcessState, running, waiting, ending, ended, End, returned, failed, Move}
use Rattle.pf_model.specs.Context.{goes_on, asks, awaits, returns}
use Rattle.pf_model.specs.Configuration.{Configuration, Core, Process, fresh, is_alive, of, with_process, with_state}
use Rattle.pf_model.specs.Actions.{Acted, acted}
use Rattle.pf_model.specs.Deliveries.{Deed, at_ended, at_living, changes, delivered, down_at, drops, ends_with, exit_at}
use Rattle.pf_model.specs.Deliveries.{exit_by_link_at, exit_message, with_message, woken}
use Rattle.pf_model.specs.Ends.{ended_by}
use Rattle.pf_model.specs.Labels.{Label, as_message}
use Rattle.pf_sorted.specs.Maps.{got, has, without_number}
use Rattle.pf_model.specs.Meaning.{outcome_of, outcome_with}
use Rattle.pf_model.specs.Properties.{is_finished}
use Rattle.pf_model.specs.Receive.{Taken, selected}
use Rattle.pf_model.specs.Runs.{Goes, stays, more, Passed, Passes, turn, delivery, Transition, can_go, enabled}
use Rattle.pf_model.specs.Runs.{is_waiting, pids_in_state, ready, start}
use Rattle.pf_model.specs.declared.report.Actor.{Actor}
use Rattle.pf_model.specs.declared.report.Actor.TheVariants as actors
use Rattle.pf_model.specs.Turns.{Turn, cut_running, cut_ending, end, contraction, act, after_act, with_answer, ended_so}
use Rattle.pf_model.specs.Turns.{last_of_turn, received}
use Rattle.pf_property.specs.Views.{labels_in}
use Rattle.pf_property.proofs.Shown.{labels_of_run}
use Rattle.pf_sched.specs.Waiting.{LivingIsRight, WaitingIsRight, is_begin, is_end, living}
use Rattle.pf_sched.proofs.Alive.{acted_steady, alive, counts_fewer, counts_kept, lives, lives_on, one}

-- as many more live as the label of a deed says
abbrev Counts : Core → Deed → Type 0
Counts c d = alive d.left.core + one (is_end d.label) ≡ alive c + one (is_begin d.label)

-- ---- turns

module _ (a : ℕ) (c : Core) (here : lives (of c a) ≡ true) where
  state_kept : (s : ProcessState) → is_alive s ≡ true → alive (with_state c a s) + 0 ≡ alive c + 0
  state_kept s l = ap (λ n. n + 0) (counts_kept c a (record (of c a) { state = s }) here l)

  ends_fewer : (e : End) → alive (ended_by c a e).core + 1 ≡ alive c + 0
  ends_fewer e = let f = counts_fewer c a (fresh (ended e) []) here refl in omega arith

  answer_lives : (fs : List Frame) (r : Result Value Value) → is_alive (with_answer fs r) ≡ true
  answer_lives fs (Ok v) = refl
  answer_lives fs (Err e) = refl

  received_counts : (fs : List Frame) (ks : Clauses) (o : Option Taken) → Counts c (received c a fs ks o)
  received_counts fs ks None = state_kept _ refl
  received_counts fs ks (Some t) = ap (λ n. n + 0) (counts_kept c a _ here refl)

  act_counts : (m : Module) (fs : List Frame) (x : Acted) → x ≡ x → (steady : lives (of x.left.core a) ≡ true)
      → alive x.left.core + one (is_end x.label) ≡ alive c + one (is_begin x.label) → Counts c (after_act a fs x)
  act_counts m fs x _ steady counts =
      ap (λ n. n + one (is_end x.label)) (counts_kept x.left.core a
      (record (of x.left.core a) { state = with_answer fs x.answer }) steady (answer_lives fs x.answer)) ∙ counts

  last_counts : (m : Module) (x : Move) (d : Deed) → last_of_turn m c a x ≡ Some d → Counts c d
  last_counts m (goes_on s) d e = absurd (cc)
  last_counts m (asks fs x) d e =
      let same : after_act a fs (acted m c a x) ≡ d = cc in
      let steady = acted_steady c a here m x in
      subst (Counts c) same (act_counts m fs (acted m c a x) refl steady.here steady.counts)
  last_counts m (awaits fs ks) d e =
      let same : received c a fs ks (selected m a ks (of c a).mailbox) ≡ d = cc in
      subst (Counts c) same (received_counts fs ks (selected m a ks (of c a).mailbox))
  last_counts m (returns v) d e = let same : ended_so c a (returned v) ≡ d = cc in
      subst (Counts c) same (ends_fewer (returned v))

  turn_counts : (m : Module) (n : ℕ) (s : ProcessState) (d : Deed) (k : ℕ) → Turn m a c n s d k → Counts c d
  turn_counts m _ _ _ _ (cut_running t) = state_kept (running t) refl
  turn_counts m _ _ _ _ (cut_ending r) = state_kept (ending r) refl
  turn_counts m _ _ _ _ (end n r) = ends_fewer (failed r)
  turn_counts m _ _ _ _ (contraction n k t s d h rest) = turn_counts m n s d k rest
  turn_counts m _ _ _ _ (act n t x d h e) = last_counts m x d e

-- who has a turn lives
turn_lives : (m : Module) (a : ℕ) (c : Core) (n : ℕ) (s : ProcessState) (d : Deed) (k : ℕ) → Turn m a c n s d k
    → is_alive s ≡ true
turn_lives m a c _ _ _ _ (cut_running t) = refl
turn_lives m a c _ _ _ _ (cut_ending r) = refl
turn_lives m a c _ _ _ _ (end n r) = refl
turn_lives m a c _ _ _ _ (contraction n k t s d h rest) = refl
turn_lives m a c _ _ _ _ (act n t x d h e) = refl

-- ---- deliveries

woken_lives : (s : ProcessState) → is_alive s ≡ true → is_alive (woken s) ≡ true
woken_lives (running t) h = refl
woken_lives (waiting t) h = refl
woken_lives (ending r) h = refl
woken_lives (ended e) h = absurd (cc)

by_test : (c : Core) (b : Bool) (x y : Deed) → Counts c x → Counts c y → Counts c (if b then x else y)
by_test c true x y h k = h
by_test c false x y h k = k

module _ (c : Core) (b : ℕ) (here : lives (of c b) ≡ true) where
  changes_count : (p : Process) → lives p ≡ true → alive (with_process c b p) + 0 ≡ alive c + 0
  changes_count p l = ap (λ n. n + 0) (counts_kept c b p here l)

  down_counts : (a r : ℕ) (reason : Value) (o : Option ℕ) → Counts c (down_at c a b r reason o)
  down_counts a r reason None = refl
  down_counts a r reason (Some p) = changes_count _ (woken_lives (of c b).state here)

  exit_counts : (a : ℕ) (by_link : Bool) (r : Value) → Counts c (exit_at c a b by_link r)
  exit_counts a by_link r =
      by_test c (not by_link && same r kill) (ends_with c b (signal.exit by_link r) killed) _
      (ends_fewer b c here (failed killed))
      (by_test c (of c b).traps_exits (changes c b (with_message (of c b) (exit_message a r))
      (signal.exit by_link r) as_message) _
      (changes_count (with_message (of c b) (exit_message a r)) (woken_lives (of c b).state here))
      (by_test c (same r normal && not (a == b)) (drops c (signal.exit by_link r))
      (ends_with c b (signal.exit by_link r) r) refl (ends_fewer b c here (failed r))))

-- a link is taken away first
exit_by_link_counts : (c : Core) (b : ℕ) → lives (of c b) ≡ true → (a : ℕ) (r : Value)
    → Counts c (exit_by_link_at c a b r)
exit_by_link_counts c b here a r = by_test c (has a (of c b).links) (exit_at (with_process c b without) a b true r)
    (drops c (signal.exit true r)) linked refl
  where
    without : Process
    without = record (of c b) { links = without_number a (of c b).links }

    linked : Counts c (exit_at (with_process c b without) a b true r)
    linked =
        let counts = exit_counts (with_process c b without) b (lives_on c b without here here) a true r in
        let d = exit_at (with_process c b without) a b true r in
        counts ∙ ap (λ n. n + one (is_begin d.label)) (counts_kept c b without here here)

living_counts : (c : Core) (a b : ℕ) (s : Signal) → lives (of c b) ≡ true → Counts c (at_living c a b s)
living_counts c a b (signal.message v) h = changes_count c b h _ (woken_lives (of c b).state h)
living_counts c a b signal.link h = changes_count c b h _ h
living_counts c a b signal.unlink h = changes_count c b h _ h
living_counts c a b (signal.monitor r) h = changes_count c b h _ h
living_counts c a b (signal.demonitor r) h = changes_count c b h _ h
living_counts c a b (signal.down r reason) h = down_counts c b h a r reason (got r (of c b).active)
living_counts c a b (signal.exit true r) h = exit_by_link_counts c b h a r
living_counts c a b (signal.exit false r) h = exit_counts c b h a false r

ended_counts : (c : Core) (a : ℕ) (s : Signal) → Counts c (at_ended c a s)
ended_counts c a (signal.message v) = refl
ended_counts c a signal.link = refl
ended_counts c a signal.unlink = refl
ended_counts c a (signal.monitor r) = refl
ended_counts c a (signal.demonitor r) = refl
ended_counts c a (signal.down r reason) = refl
ended_counts c a (signal.exit by_link r) = refl

delivered_counts : (c : Core) (a b : ℕ) (s : Signal) → Counts c (delivered c a b s)
delivered_counts c a b s = by (is_alive (of c b).state) refl
  where
    by : (x : Bool) → is_alive (of c b).state ≡ x → Counts c (if x then at_living c a b s else at_ended c a s)
    by true h = living_counts c a b s h
    by false h = ended_counts c a s

-- ---- runs

pass_counts : (m : Module) (n : ℕ) (c : Configuration) (x : Actor) (p : Passed) → Passes m n c x p
    → alive p.after.core + one (is_end p.label) ≡ alive c.core + one (is_begin p.label)
pass_counts m n c _ _ (turn a k d t) = turn_counts a c.core (turn_lives m a c.core n (of c.core a).state d k t) m n
    (of c.core a).state d k t
pass_counts m n c _ _ (delivery a b s cs e) = delivered_counts c.core a b s

abbrev labels : List Transition → List Label
labels ts = map (λ t. t.label) ts

goes_count : {S : Type 0} (m : Module) (choose : Chooser S) (s : S) (n : ℕ) (c : Configuration) (ts : List Transition)
    (d : Configuration) (k : ℕ) (t : S)
    → Goes m choose s n c ts d k t → alive d.core + count_by is_end (labels ts) ≡ alive c.core
    + count_by is_begin (labels ts)
goes_count m choose _ _ _ _ _ _ _ (stays s n c) = refl
goes_count m choose _ _ _ _ _ _ _ (more s n c x p ts d k t e pass rest) =
    let first = pass_counts m (suc n) c x p pass in
    let others = goes_count m choose _ _ p.after ts d k t rest in
    let ends = sum_by-cons (λ l. one (is_end l)) p.label (labels ts) in
    let begins = sum_by-cons (λ l. one (is_begin l)) p.label (labels ts) in
    omega arith

pub living_is_right : (S : Type 0) → LivingIsRight S
living_is_right S m choose s n root edition ts d k t goes = let counts = goes_count m choose s n (start root edition) ts
    d k t goes in omega arith

-- ---- the end

-- a process that can't go lives exactly if it waits
wait_step : (s : ProcessState) (n : ℕ) (ps : List Process)
    → (if can_go s then n ∷ pids_in_state can_go (suc n) ps else pids_in_state can_go (suc n) ps) ≡ []
    → (pids_in_state can_go (suc n) ps ≡ []) × (one (is_alive s) ≡ one (is_waiting s))
wait_step (running t) n ps h = absurd (cc)
wait_step (ending r) n ps h = absurd (cc)
wait_step (waiting t) n ps h = (h, refl)
wait_step (ended e) n ps h = (h, refl)

length_step : (b : Bool) (n : ℕ) (ns : List ℕ) → length (if b then n ∷ ns else ns) ≡ one b + length ns
length_step true n ns = omega arith
length_step false n ns = omega arith

-- where nobody can go, those that live wait
all_wait : (n : ℕ) (ps : List Process) → pids_in_state can_go n ps ≡ []
    → count_by lives ps ≡ length (pids_in_state is_waiting n ps)
all_wait n [] h = refl
all_wait n (p ∷ ps) h =
    let first = wait_step p.state n ps h in
    let others = all_wait (suc n) ps first.0 in
    let here = first.1 in
    let counts = sum_by-cons (λ q. one (lives q)) p ps in
    let numbers = length_step (is_waiting p.state) n (pids_in_state is_waiting (suc n) ps) in
    omega arith

finished_none : (xs : List Actor) (c : Core) → is_finished (outcome_with xs c) ≡ true → xs ≡ []
finished_none [] c h = refl
finished_none (x ∷ xs) c h = absurd (cc)

empty_first : (ns : List ℕ) (xs : List Actor) → map actors.Process ns ++ xs ≡ [] → ns ≡ []
empty_first [] xs h = refl
empty_first (n ∷ ns) xs h = absurd (cc)

-- where the root returned nobody can go
none_goes : (c : Configuration) → is_finished (outcome_of c) ≡ true → ready c ≡ []
none_goes c h = empty_first (ready c) (map (λ x. actors.Channel x.0 x.1) (heads c.channels))
    (finished_none (enabled c) c.core h)

pub waiting_is_right : (S : Type 0) → WaitingIsRight S
waiting_is_right S choose s j r h = by (is_finished r.outcome) refl
  where
    ls : List Label
    ls = labels h.transitions

    same : labels_in r.events ≡ ls
    same = labels_of_run r.events h.transitions (ap (λ z. z.events) h.report)

    left : living ls ≡ alive h.last.core
    left = let counts = living_is_right S j.code choose s j.limit j.root j.edition h.transitions h.last r.steps h.state
        h.run.goes in omega arith

    by : (b : Bool) → is_finished r.outcome ≡ b
        → (if b then living (labels_in r.events) else 0)
        ≡ (if b then length (pids_in_state is_waiting zero h.last.core.processes) else 0)
    by true e =
        ap living same ∙ left ∙ all_wait zero h.last.core.processes
        (none_goes h.last (ap (λ z. is_finished z.outcome) (sym h.report) ∙ e))
    by false e = refl
