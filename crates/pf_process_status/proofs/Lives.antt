-- Who lives after an event of a run, by what it shows, and which pid a process has that begins.
use Rattle.std.proofs.Common.{◌≡◌, ◌<◌, ℕ, zero, suc, Bool, true, false, not, ◌&&◌, if◌then◌else◌, nat_lt, ◌==◌, List}
use Rattle.std.proofs.Common.{[], ◌∷◌, ◌++◌, length, map, slice_set, Option, Some, None, Result, Ok, Err, refl, sym, ap}
use Rattle.std.proofs.Common.{◌∙◌, subst, arith}
use Rattle.std.specs.Prelude.{IfSome, is_some, slice_get}
use Rattle.std.proofs.lemmas.List.{length-map}
use Rattle.std.proofs.lemmas.Option.{same_Some}
use Rattle.pf_terms.specs.Value.{Value, Values, count, same}
use Rattle.pf_terms.specs.Fixed.{kill, killed, normal, process as process_atom, trap_exit}
use Rattle.pf_syntax.specs.Tree.{Clauses}
use Rattle.pf_model.specs.Module.{Module, exported_as}
use Rattle.pf_model.specs.Channels as signal
use Rattle.pf_model.specs.Channels.{Signal}
use Rattle.pf_model.specs.Context.{Frame, ProcessState, running, waiting, ending, ended, End, returned, failed, Move}
use Rattle.pf_model.specs.Context.{goes_on, asks, awaits, returns}
use Rattle.pf_model.specs.Contraction.{Act, send, spawn, link, unlink, monitor, demonitor, exit_other, set_flag}
use Rattle.pf_model.specs.Contraction.{register, unregister, whereis, make_ref}
use Rattle.pf_model.specs.declared.bond.Bond.{Bond}
use Rattle.pf_model.specs.declared.bond.Bond.TheVariants.{Unbound, Linking, Watching}
use Rattle.pf_model.specs.Configuration.{Configuration, Core, Process, fresh, is_alive, of, process_at, with_process}
use Rattle.pf_model.specs.Configuration.{with_state}
use Rattle.pf_model.specs.Actions.{Acted, acted, and_flushed, as_atom, as_elements, as_pid, as_reference, begun}
use Rattle.pf_model.specs.Actions.{demonitored, demonitored_so, flag_set, given, linked_to, may_register, monitored}
use Rattle.pf_model.specs.Actions.{only_if, raising, receiver, registered, spawned, start_of, unlinked_from}
use Rattle.pf_model.specs.Actions.{unregistered}
use Rattle.pf_model.specs.Deliveries.{Deed, at_ended, at_living, changes, delivered, down_at, drops, ends_with, exit_at}
use Rattle.pf_model.specs.Deliveries.{exit_by_link_at, exit_message, with_message, woken}
use Rattle.pf_model.specs.Ends.{ended_by}
use Rattle.pf_model.specs.Flush.{flushes}
use Rattle.pf_model.specs.Labels.{Label, as_message}
use Rattle.pf_sorted.specs.Maps.{got, has, without_number}
use Rattle.pf_model.specs.Receive.{Taken, selected}
use Rattle.pf_model.specs.Runs.{Passed, Passes, turn, delivery}
use Rattle.pf_model.specs.declared.report.Actor.{Actor}
use Rattle.pf_model.specs.declared.report.Actor.TheVariants as actors
use Rattle.pf_model.specs.Turns.{Turn, cut_running, cut_ending, end, contraction, act, after_act, with_answer, ended_so}
use Rattle.pf_model.specs.Turns.{last_of_turn, received}
use Rattle.pf_system.proofs.Bodies.{map_more, more_length, set_length, set_map}
use Rattle.pf_system.proofs.Delivering.{at_set}
use Rattle.pf_process_status.specs.Fates.{begun_in, who_ends}

-- ---- who lives

abbrev pub lives : Process → Bool
lives p = is_alive p.state

-- which processes live, by pid
abbrev pub lives_in : Core → List Bool
lives_in c = map lives c.processes

abbrev pub without : Option ℕ → List Bool → List Bool
without None bs = bs
without (Some p) bs = slice_set bs p false

abbrev pub and_one : Option ℕ → List Bool → List Bool
and_one None bs = bs
and_one (Some p) bs = bs ++ true ∷ []

-- who lives after what an actor shows, if these did before
abbrev pub following : Actor → Label → List Bool → List Bool
following x l bs = and_one (begun_in l) (without (who_ends x l) bs)

-- a process that begins has this pid
abbrev pub IsNext : Label → ℕ → Type 0
IsNext l n = IfSome (begun_in l) (λ p. p ≡ n)

-- ---- one process

in_range : (ps : List Process) (a : ℕ) → lives (process_at a ps) ≡ true → a < length ps
in_range [] a h = absurd (cc)
in_range (p ∷ ps) zero h = omega arith
in_range (p ∷ ps) (suc a) h = let i = in_range ps a h in omega arith

at_more : (ps : List Process) (a : ℕ) (q : Process) → a < length ps → process_at a (ps ++ q ∷ []) ≡ process_at a ps
at_more [] a q h = absurd (omega arith)
at_more (p ∷ ps) zero q h = refl
at_more (p ∷ ps) (suc a) q h = at_more ps a q (omega arith)

set_same : (ps : List Process) (a : ℕ) → lives (process_at a ps) ≡ true → slice_set (map lives ps) a true ≡ map lives ps
set_same [] a h = refl
set_same (p ∷ ps) zero h = ap (λ b. b ∷ map lives ps) (sym h)
set_same (p ∷ ps) (suc a) h = ap (λ bs. lives p ∷ bs) (set_same ps a h)

module _ (c : Core) (a : ℕ) (p : Process) (here : lives (of c a) ≡ true) where
  -- one that lives in place of another
  kept : lives p ≡ true → lives_in (with_process c a p) ≡ lives_in c
  kept l = set_map lives a c.processes p ∙ ap (slice_set (lives_in c) a) l ∙ set_same c.processes a here

  lives_on : lives p ≡ true → lives (of (with_process c a p) a) ≡ true
  lives_on l = ap lives (at_set a c.processes p (in_range c.processes a here)) ∙ l

ends_here : (c : Core) (a : ℕ) (e : End) → lives_in (ended_by c a e).core ≡ slice_set (lives_in c) a false
ends_here c a e = set_map lives a c.processes (fresh (ended e) [])

-- ---- actions

-- of what an action of a process makes: the process lives, and who lives else is shown
record Steady (c : Core) (a : ℕ) (x : Acted) : Type 0 where
  here : lives (of x.left.core a) ≡ true
  shows : lives_in x.left.core ≡ following (actors.Process a) x.label (lives_in c)
  next : IsNext x.label (length c.processes)

begun_lives : (o : Option ℕ) (vs : Values) → is_alive (begun o vs) ≡ true
begun_lives None vs = refl
begun_lives (Some f) vs = refl

-- the function that a process begins with
abbrev called : Module → (home name : ℕ) → Values → Option ℕ
called m home name vs = if home == m.name then exported_as m name (count vs) else None

module _ (c : Core) (a : ℕ) (here : lives (of c a) ≡ true) where
  by_test : (b : Bool) (x y : Acted) → Steady c a x → Steady c a y → Steady c a (if b then x else y)
  by_test true x y h k = h
  by_test false x y h k = k

  raises : (e : Value) → Steady c a (raising c e)
  raises e = record { here = here; shows = refl; next = tt }

  steady_given : {T : Type 0} (o : Option T) (go : T → Acted) → ((x : T) → Steady c a (go x))
      → Steady c a (given c o go)
  steady_given None go h = raises _
  steady_given (Some x) go h = h x

  steady_if : (b : Bool) (x : Acted) → Steady c a x → Steady c a (only_if c b x)
  steady_if true x h = h
  steady_if false x h = raises _

  -- the process with other ties, or another mailbox
  abbrev Alike : Process → Type 0
  Alike p = p.state ≡ (of c a).state

  alike_lives : (p : Process) → Alike p → lives p ≡ true
  alike_lives p e = ap is_alive e ∙ here

  same_lives : (p : Process) → Alike p → lives_in (with_process c a p) ≡ lives_in c
  same_lives p e = kept c a p here (alike_lives p e)

  on : (p : Process) → Alike p → lives (of (with_process c a p) a) ≡ true
  on p e = lives_on c a p here (alike_lives p e)

  -- a process more, after a process with other ties
  more_here : (p q : Process) → Alike p → lives (process_at a (slice_set c.processes a p ++ q ∷ [])) ≡ true
  more_here p q e =
      ap lives (at_more (slice_set c.processes a p) a q (in_range (slice_set c.processes a p) a (on p e))) ∙ on p e

  more_live : (p q : Process) → Alike p → lives q ≡ true
      → map lives (slice_set c.processes a p ++ q ∷ []) ≡ lives_in c ++ true ∷ []
  more_live p q e l =
      map_more lives (slice_set c.processes a p) q ∙ ap (λ b. map lives (slice_set c.processes a p) ++ b ∷ []) l
      ∙ ap (λ bs. bs ++ true ∷ []) (same_lives p e)

  spawns_steady : (b : Bond) (s : ProcessState) → is_alive s ≡ true → Steady c a (spawned c a b s)
  spawns_steady Unbound s l = by_test (nat_lt (length c.processes) c.most) _ _ (record {
    here = ap lives (at_more c.processes a (fresh s []) (in_range c.processes a here)) ∙ here;
    shows = map_more lives c.processes (fresh s []) ∙ ap (λ b. lives_in c ++ b ∷ []) l;
    next = refl;
  }) (raises _)
  spawns_steady Linking s l = by_test (nat_lt (length c.processes) c.most) _ _ (record {
    here = more_here _ (fresh s (a ∷ [])) refl;
    shows = more_live _ (fresh s (a ∷ [])) refl l;
    next = refl;
  }) (raises _)
  spawns_steady Watching s l = by_test (nat_lt (length c.processes) c.most) _ _ (record {
    here = more_here _ _ refl;
    shows = more_live _ _ refl l;
    next = refl;
  }) (raises _)

  unlinked_steady : (p : ℕ) → Steady c a (unlinked_from c a p)
  unlinked_steady p =
      by_test _ _ _ (record { here = on _ refl; shows = same_lives _ refl; next = tt })
      (record { here = here; shows = refl; next = tt })

  linked_steady : (p : ℕ) → Steady c a (linked_to c a p)
  linked_steady p =
      by_test _ _ _ (record { here = here; shows = refl; next = tt })
      (record { here = on _ refl; shows = same_lives _ refl; next = tt })

  demonitored_steady : (r : ℕ) (o : Option ℕ) → Steady c a (demonitored c a r o)
  demonitored_steady r None = record { here = here; shows = refl; next = tt }
  demonitored_steady r (Some p) = record { here = on _ refl; shows = same_lives _ refl; next = tt }

  -- a flush after an action of which nothing began or ended
  flushed_steady : (r : ℕ) (x : Acted) → lives (of x.left.core a) ≡ true → lives_in x.left.core ≡ lives_in c
      → Steady c a (and_flushed a r x)
  flushed_steady r x h e = record {
    here = lives_on x.left.core a _ h h;
    shows = kept x.left.core a _ h h ∙ e;
    next = tt;
  }

  demonitored_so_steady : (r : ℕ) (flushes : Bool) → Steady c a (demonitored_so c a r flushes)
  demonitored_so_steady r false = demonitored_steady r (got r (of c a).active)
  demonitored_so_steady r true = by (got r (of c a).active)
    where
      by : (o : Option ℕ) → Steady c a (and_flushed a r (demonitored c a r o))
      by None = flushed_steady r (demonitored c a r None) here refl
      by (Some p) = flushed_steady r (demonitored c a r (Some p)) (on _ refl) (same_lives _ refl)

  acted_steady : (m : Module) (x : Act) → Steady c a (acted m c a x)
  acted_steady m (send to v) = steady_given (receiver c to) _ (λ b. record { here = here; shows = refl; next = tt })
  acted_steady m (spawn b w f vs) =
      steady_given (as_atom w) _ (λ home. steady_given (as_atom f)
      (λ name. given c (as_elements vs) (λ arguments. spawned c a b (start_of m home name arguments)))
      (λ name. steady_given (as_elements vs) (λ arguments. spawned c a b (start_of m home name arguments))
      (λ arguments. spawns_steady b (start_of m home name arguments)
      (begun_lives (called m home name arguments) arguments))))
  acted_steady m (link p) = steady_given (as_pid p) (linked_to c a) linked_steady
  acted_steady m (unlink p) = steady_given (as_pid p) (unlinked_from c a) unlinked_steady
  acted_steady m (monitor k p) =
      steady_given (as_pid p) (λ b. only_if c (same k process_atom) (monitored c a b))
      (λ b. steady_if (same k process_atom) (monitored c a b)
      (record { here = on _ refl; shows = same_lives _ refl; next = tt }))
  acted_steady m (demonitor r o) =
      steady_given (as_reference r) (λ x. given c (flushes o) (demonitored_so c a x))
      (λ x. steady_given (flushes o) (demonitored_so c a x) (demonitored_so_steady x))
  acted_steady m (exit_other p r) = steady_given (as_pid p) _ (λ b. record { here = here; shows = refl; next = tt })
  acted_steady m (set_flag k v) =
      steady_given _ (λ b. only_if c (same k trap_exit) (flag_set c a b))
      (λ b. steady_if (same k trap_exit) (flag_set c a b)
      (record { here = on _ refl; shows = same_lives _ refl; next = tt }))
  acted_steady m (register n p) =
      steady_given (as_atom n) (λ x. given c (as_pid p) (registered c x))
      (λ x. steady_given (as_pid p) (registered c x)
      (λ y. steady_if (may_register c x y) _ (record { here = here; shows = refl; next = tt })))
  acted_steady m (unregister n) =
      steady_given (as_atom n) (unregistered c)
      (λ x. steady_if (is_some (got x c.names)) _ (record { here = here; shows = refl; next = tt }))
  acted_steady m (whereis n) = steady_given (as_atom n) _ (λ x. record { here = here; shows = refl; next = tt })
  acted_steady m make_ref = record { here = here; shows = refl; next = tt }

-- ---- turns

-- a deed shows who lives after it
record Shows (x : Actor) (c : Core) (d : Deed) : Type 0 where
  shows : lives_in d.left.core ≡ following x d.label (lives_in c)
  next : IsNext d.label (length c.processes)

module _ (a : ℕ) (c : Core) (here : lives (of c a) ≡ true) where
  abbrev TurnShows : Deed → Type 0
  TurnShows = Shows (actors.Process a) c

  state_kept : (s : ProcessState) → is_alive s ≡ true → lives_in (with_state c a s) ≡ lives_in c
  state_kept s l = kept c a (record (of c a) { state = s }) here l

  answer_lives : (fs : List Frame) (r : Result Value Value) → is_alive (with_answer fs r) ≡ true
  answer_lives fs (Ok v) = refl
  answer_lives fs (Err e) = refl

  received_shows : (fs : List Frame) (ks : Clauses) (o : Option Taken) → TurnShows (received c a fs ks o)
  received_shows fs ks None = record { shows = state_kept _ refl; next = tt }
  received_shows fs ks (Some t) = record { shows = kept c a _ here refl; next = tt }

  act_shows : (fs : List Frame) (x : Acted) → Steady c a x → TurnShows (after_act a fs x)
  act_shows fs x h = record {
    shows = kept x.left.core a (record (of x.left.core a) { state = with_answer fs x.answer }) h.here
        (answer_lives fs x.answer) ∙ h.shows;
    next = h.next;
  }

  ended_shows : (e : End) → TurnShows (ended_so c a e)
  ended_shows e = record { shows = ends_here c a e; next = tt }

  last_shows : (m : Module) (x : Move) (d : Deed) → last_of_turn m c a x ≡ Some d → TurnShows d
  last_shows m (goes_on s) d e = absurd (cc)
  last_shows m (asks fs x) d e =
      let same : after_act a fs (acted m c a x) ≡ d = cc in
      subst TurnShows same (act_shows fs (acted m c a x) (acted_steady c a here m x))
  last_shows m (awaits fs ks) d e =
      let same : received c a fs ks (selected m a ks (of c a).mailbox) ≡ d = cc in
      subst TurnShows same (received_shows fs ks (selected m a ks (of c a).mailbox))
  last_shows m (returns v) d e = let same : ended_so c a (returned v) ≡ d = cc in
      subst TurnShows same (ended_shows (returned v))

  turn_shows : (m : Module) (n : ℕ) (s : ProcessState) (d : Deed) (k : ℕ) → Turn m a c n s d k → TurnShows d
  turn_shows m _ _ _ _ (cut_running t) = record { shows = state_kept (running t) refl; next = tt }
  turn_shows m _ _ _ _ (cut_ending r) = record { shows = state_kept (ending r) refl; next = tt }
  turn_shows m _ _ _ _ (end n r) = ended_shows (failed r)
  turn_shows m _ _ _ _ (contraction n k t s d h rest) = turn_shows m n s d k rest
  turn_shows m _ _ _ _ (act n t x d h e) = last_shows m x d e

-- who has a turn lives
turn_lives : (m : Module) (a : ℕ) (c : Core) (n : ℕ) (s : ProcessState) (d : Deed) (k : ℕ) → Turn m a c n s d k
    → is_alive s ≡ true
turn_lives m a c _ _ _ _ (cut_running t) = refl
turn_lives m a c _ _ _ _ (cut_ending r) = refl
turn_lives m a c _ _ _ _ (end n r) = refl
turn_lives m a c _ _ _ _ (contraction n k t s d h rest) = refl
turn_lives m a c _ _ _ _ (act n t x d h e) = refl

-- ---- deliveries

woken_lives : (s : ProcessState) → is_alive s ≡ true → is_alive (woken s) ≡ true
woken_lives (running t) h = refl
woken_lives (waiting t) h = refl
woken_lives (ending r) h = refl
woken_lives (ended e) h = absurd (cc)

-- a signal from process a that is taken at process b
abbrev Strikes : (from to : ℕ) → Core → Deed → Type 0
Strikes a b c d = Shows (actors.Channel a b) c d

either : (a b : ℕ) (c : Core) (t : Bool) (x y : Deed) → Strikes a b c x → Strikes a b c y
    → Strikes a b c (if t then x else y)
either a b c true x y h k = h
either a b c false x y h k = k

drops_shows : (a b : ℕ) (c : Core) (s : Signal) → Strikes a b c (drops c s)
drops_shows a b c s = record { shows = refl; next = tt }

ends_with_shows : (a b : ℕ) (c : Core) (s : Signal) (r : Value) → Strikes a b c (ends_with c b s r)
ends_with_shows a b c s r = record { shows = ends_here c b (failed r); next = tt }

module _ (c : Core) (b : ℕ) (here : lives (of c b) ≡ true) where
  woken_here : is_alive (woken (of c b).state) ≡ true
  woken_here = woken_lives (of c b).state here

  down_shows : (a r : ℕ) (reason : Value) (o : Option ℕ) → Strikes a b c (down_at c a b r reason o)
  down_shows a r reason None = drops_shows a b c (signal.down r reason)
  down_shows a r reason (Some p) = record { shows = kept c b _ here woken_here; next = tt }

  exit_shows : (a : ℕ) (by_link : Bool) (r : Value) → Strikes a b c (exit_at c a b by_link r)
  exit_shows a by_link r =
      either a b c (not by_link && same r kill) (ends_with c b (signal.exit by_link r) killed) _
      (ends_with_shows a b c (signal.exit by_link r) killed)
      (either a b c (of c b).traps_exits (changes c b (with_message (of c b) (exit_message a r))
      (signal.exit by_link r) as_message) _
      (record { shows = kept c b (with_message (of c b) (exit_message a r)) here woken_here; next = tt })
      (either a b c (same r normal && not (a == b)) (drops c (signal.exit by_link r))
      (ends_with c b (signal.exit by_link r) r)
      (drops_shows a b c (signal.exit by_link r)) (ends_with_shows a b c (signal.exit by_link r) r)))

-- a link is taken away first
exit_by_link_shows : (c : Core) (b : ℕ) → lives (of c b) ≡ true → (a : ℕ) (r : Value)
    → Strikes a b c (exit_by_link_at c a b r)
exit_by_link_shows c b here a r = either a b c (has a (of c b).links) (exit_at d a b true r)
    (drops c (signal.exit true r)) linked (drops_shows a b c _)
  where
    unlinked : Process
    unlinked = record (of c b) { links = without_number a (of c b).links }

    d : Core
    d = with_process c b unlinked

    there : Strikes a b d (exit_at d a b true r)
    there = exit_shows d b (lives_on c b unlinked here here) a true r

    linked : Strikes a b c (exit_at d a b true r)
    linked = record {
      shows = there.shows ∙ ap (following (actors.Channel a b) (exit_at d a b true r).label)
          (kept c b unlinked here here);
      next = subst (IsNext (exit_at d a b true r).label) (set_length b c.processes unlinked) there.next;
    }

living_shows : (c : Core) (a b : ℕ) (s : Signal) → lives (of c b) ≡ true → Strikes a b c (at_living c a b s)
living_shows c a b (signal.message v) h = record { shows = kept c b _ h (woken_here c b h); next = tt }
living_shows c a b signal.link h = record { shows = kept c b _ h h; next = tt }
living_shows c a b signal.unlink h = record { shows = kept c b _ h h; next = tt }
living_shows c a b (signal.monitor r) h = record { shows = kept c b _ h h; next = tt }
living_shows c a b (signal.demonitor r) h = record { shows = kept c b _ h h; next = tt }
living_shows c a b (signal.down r reason) h = down_shows c b h a r reason (got r (of c b).active)
living_shows c a b (signal.exit true r) h = exit_by_link_shows c b h a r
living_shows c a b (signal.exit false r) h = exit_shows c b h a false r

at_ended_shows : (c : Core) (a b : ℕ) (s : Signal) → Strikes a b c (at_ended c a s)
at_ended_shows c a b (signal.message v) = drops_shows a b c _
at_ended_shows c a b signal.link = record { shows = refl; next = tt }
at_ended_shows c a b signal.unlink = drops_shows a b c _
at_ended_shows c a b (signal.monitor r) = record { shows = refl; next = tt }
at_ended_shows c a b (signal.demonitor r) = drops_shows a b c _
at_ended_shows c a b (signal.down r reason) = drops_shows a b c _
at_ended_shows c a b (signal.exit by_link r) = drops_shows a b c _

delivered_shows : (c : Core) (a b : ℕ) (s : Signal) → Strikes a b c (delivered c a b s)
delivered_shows c a b s = by (is_alive (of c b).state) refl
  where
    by : (x : Bool) → is_alive (of c b).state ≡ x → Strikes a b c (if x then at_living c a b s else at_ended c a s)
    by true h = living_shows c a b s h
    by false h = at_ended_shows c a b s

-- ---- transitions

-- who lives after a transition is shown
pub pass_lives : (m : Module) (n : ℕ) (c : Configuration) (x : Actor) (p : Passed) → Passes m n c x p
    → lives_in p.after.core ≡ following x p.label (lives_in c.core)
pass_lives m n c _ _ (turn a k d t) =
    (turn_shows a c.core (turn_lives m a c.core n (of c.core a).state d k t) m n (of c.core a).state d k t).shows
pass_lives m n c _ _ (delivery a b s cs e) = (delivered_shows c.core a b s).shows

-- a process that begins has the next pid
pub pass_begins : (m : Module) (n : ℕ) (c : Configuration) (x : Actor) (p : Passed) → Passes m n c x p
    → IsNext p.label (length c.core.processes)
pass_begins m n c _ _ (turn a k d t) =
    (turn_shows a c.core (turn_lives m a c.core n (of c.core a).state d k t) m n (of c.core a).state d k t).next
pass_begins m n c _ _ (delivery a b s cs e) = (delivered_shows c.core a b s).next

-- ---- what an event shows of who lives

-- if there is one with this pid, it lives
abbrev pub Spared : ℕ → List Bool → Type 0
Spared q bs = (b : Bool) → slice_get bs q ≡ Some b → b ≡ true

spared_more : (q : ℕ) (bs : List Bool) → Spared q bs → Spared q (bs ++ true ∷ [])
spared_more zero [] h b e = sym (same_Some true b e)
spared_more (suc q) [] h b e = absurd (cc)
spared_more zero (x ∷ bs) h b e = h b e
spared_more (suc q) (x ∷ bs) h b e = spared_more q bs h b e

spared_set : (q a : ℕ) (bs : List Bool) → (a ≡ q → ⊥) → Spared q bs → Spared q (slice_set bs a false)
spared_set q a [] n h b e = h b e
spared_set zero zero (x ∷ bs) n h b e = absurd (n refl)
spared_set (suc q) zero (x ∷ bs) n h b e = h b e
spared_set zero (suc a) (x ∷ bs) n h b e = h b e
spared_set (suc q) (suc a) (x ∷ bs) n h b e = spared_set q a bs (λ k. n (ap suc k)) h b e

spared_without : (q : ℕ) (o : Option ℕ) (bs : List Bool) → (o ≡ Some q → ⊥) → Spared q bs → Spared q (without o bs)
spared_without q None bs n h = h
spared_without q (Some a) bs n h = spared_set q a bs (λ k. n (ap (λ z. Some z) k)) h

spared_and_one : (q : ℕ) (o : Option ℕ) (bs : List Bool) → Spared q bs → Spared q (and_one o bs)
spared_and_one q None bs h = h
spared_and_one q (Some p) bs h = spared_more q bs h

-- a process that an event doesn't end lives on
pub spared_after : (q : ℕ) (x : Actor) (l : Label) (bs : List Bool) → (who_ends x l ≡ Some q → ⊥) → Spared q bs
    → Spared q (following x l bs)
spared_after q x l bs n h = spared_and_one q (begun_in l) (without (who_ends x l) bs)
    (spared_without q (who_ends x l) bs n h)

-- ---- how many there are

abbrev pub as_many : Option ℕ → ℕ → ℕ
as_many None n = n
as_many (Some p) n = suc n

length_without : (o : Option ℕ) (bs : List Bool) → length (without o bs) ≡ length bs
length_without None bs = refl
length_without (Some p) bs = set_length p bs false

length_and_one : (o : Option ℕ) (bs : List Bool) → length (and_one o bs) ≡ as_many o (length bs)
length_and_one None bs = refl
length_and_one (Some p) bs = more_length bs true

length_after : (x : Actor) (l : Label) (bs : List Bool) → length (following x l bs) ≡ as_many (begun_in l) (length bs)
length_after x l bs = length_and_one (begun_in l) (without (who_ends x l) bs) ∙ ap (as_many (begun_in l))
    (length_without (who_ends x l) bs)

-- there is one process more after a transition that begins one, and as many after all others
pub pass_count : (m : Module) (n : ℕ) (c : Configuration) (x : Actor) (p : Passed) → Passes m n c x p
    → length p.after.core.processes ≡ as_many (begun_in p.label) (length c.core.processes)
pass_count m n c x p h =
    sym (length-map p.after.core.processes lives) ∙ ap length (pass_lives m n c x p h)
    ∙ length_after x p.label (lives_in c.core) ∙ ap (as_many (begun_in p.label)) (length-map c.core.processes lives)
