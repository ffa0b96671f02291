-- How many processes live, and what an action or the end of one makes of that.
use Rattle.std.proofs.Common.{◌≡◌, ◌+◌, ◌<◌, ℕ, zero, suc, Bool, true, false, cond, List, [], ◌∷◌, ◌++◌, length, Option}
use Rattle.std.proofs.Common.{Some, None, refl, ap, ◌∙◌, arith}
use Rattle.std.specs.Prelude.{count_by, if◌then◌else◌, is_some, nat_lt, slice_set, ◌==◌}
use Rattle.std.specs.List.{sum_by}
use Rattle.std.proofs.lemmas.List.Sums.{sum_by-cons, sum_by_push}
use Rattle.pf_terms.specs.Fixed.{process, trap_exit}
use Rattle.pf_terms.specs.Value.{Value, Values, count, same}
use Rattle.pf_model.specs.Module.{Module, exported_as}
use Rattle.pf_model.specs.Context.{ProcessState}
use Rattle.pf_model.specs.Contraction.{Act, send, spawn, link, unlink, monitor, demonitor, exit_other, set_flag}
use Rattle.pf_model.specs.Contraction.{register, unregister, whereis, make_ref}
use Rattle.pf_model.specs.declared.bond.Bond.{Bond}
use Rattle.pf_model.specs.declared.bond.Bond.TheVariants.{Unbound, Linking, Watching}
use Rattle.pf_model.specs.Configuration.{Core, Process, fresh, is_alive, of, process_at, with_process}
use Rattle.pf_model.specs.Actions.{Acted, acted, and_flushed, as_atom, as_elements, as_pid, as_reference, begun}
use Rattle.pf_model.specs.Actions.{demonitored, demonitored_so, flag_set, given, linked_to, may_register, monitored}
use Rattle.pf_model.specs.Actions.{only_if, raising, receiver, registered, spawned, start_of, unlinked_from}
use Rattle.pf_model.specs.Actions.{unregistered}
use Rattle.pf_model.specs.Flush.{flushes}
use Rattle.pf_ops.specs.Guards.{truth_of}
use Rattle.pf_sorted.specs.Maps.{got}
use Rattle.pf_sched.specs.Waiting.{is_begin, is_end}

abbrev pub lives : Process → Bool
lives p = is_alive p.state

-- how many processes live
abbrev pub alive : Core → ℕ
alive c = count_by lives c.processes

abbrev pub one : Bool → ℕ
one b = cond b 1 0

-- ---- a process in place of another

abbrev weight : Process → ℕ
weight p = one (lives p)

in_range : (ps : List Process) (a : ℕ) → lives (process_at a ps) ≡ true → a < length ps
in_range [] a h = absurd (cc)
in_range (p ∷ ps) zero h = omega arith
in_range (p ∷ ps) (suc a) h = let i = in_range ps a h in omega arith

counts_set : (ps : List Process) (a : ℕ) (p : Process) → a < length ps
    → sum_by weight (slice_set ps a p) + weight (process_at a ps) ≡ sum_by weight ps + weight p
counts_set [] a p h = absurd (omega arith)
counts_set (q ∷ ps) zero p h =
    let x = sum_by-cons weight p ps in
    let y = sum_by-cons weight q ps in
    omega arith
counts_set (q ∷ ps) (suc a) p h =
    let x = sum_by-cons weight q (slice_set ps a p) in
    let y = sum_by-cons weight q ps in
    let i = counts_set ps a p (omega arith) in
    omega arith

at_set : (ps : List Process) (a : ℕ) (p : Process) → a < length ps → process_at a (slice_set ps a p) ≡ p
at_set [] a p h = absurd (omega arith)
at_set (q ∷ ps) zero p h = refl
at_set (q ∷ ps) (suc a) p h = at_set ps a p (omega arith)

at_more : (ps : List Process) (a : ℕ) (q : Process) → a < length ps → process_at a (ps ++ q ∷ []) ≡ process_at a ps
at_more [] a q h = absurd (omega arith)
at_more (p ∷ ps) zero q h = refl
at_more (p ∷ ps) (suc a) q h = at_more ps a q (omega arith)

module _ (c : Core) (a : ℕ) (p : Process) (here : lives (of c a) ≡ true) where
  -- one that lives
  pub counts_kept : lives p ≡ true → alive (with_process c a p) ≡ alive c
  counts_kept l =
      let s = counts_set c.processes a p (in_range c.processes a here) in
      let x : weight (of c a) ≡ 1 = ap one here in
      let y : weight p ≡ 1 = ap one l in
      omega arith

  pub lives_on : lives p ≡ true → lives (of (with_process c a p) a) ≡ true
  lives_on l = ap lives (at_set c.processes a p (in_range c.processes a here)) ∙ l

  -- one that ended
  pub counts_fewer : lives p ≡ false → alive (with_process c a p) + 1 ≡ alive c
  counts_fewer l =
      let s = counts_set c.processes a p (in_range c.processes a here) in
      let x : weight (of c a) ≡ 1 = ap one here in
      let y : weight p ≡ 0 = ap one l in
      omega arith

-- ---- one process more

counts_more : (ps : List Process) (q : Process) → lives q ≡ true → sum_by weight (ps ++ q ∷ []) ≡ sum_by weight ps + 1
counts_more ps q l = sum_by_push weight ps q ∙ ap (λ n. sum_by weight ps + n) (ap one l)

-- ---- actions

-- of what an action of a process makes: the process lives, and as many more do as the label says
pub record Steady (c : Core) (a : ℕ) (x : Acted) : Type 0 where
  pub here : lives (of x.left.core a) ≡ true
  pub counts : alive x.left.core + one (is_end x.label) ≡ alive c + one (is_begin x.label)

-- the function that a process begins with
abbrev called : Module → (home name : ℕ) → Values → Option ℕ
called m home name vs = if home == m.name then exported_as m name (count vs) else None

begun_lives : (o : Option ℕ) (vs : Values) → is_alive (begun o vs) ≡ true
begun_lives None vs = refl
begun_lives (Some f) vs = refl

module _ (c : Core) (a : ℕ) (here : lives (of c a) ≡ true) where
  by_test : (b : Bool) (x y : Acted) → Steady c a x → Steady c a y → Steady c a (if b then x else y)
  by_test true x y h k = h
  by_test false x y h k = k

  raises : (e : Value) → Steady c a (raising c e)
  raises e = record { here = here; counts = refl }

  steady_given : {T : Type 0} (o : Option T) (go : T → Acted) → ((x : T) → Steady c a (go x))
      → Steady c a (given c o go)
  steady_given None go h = record { here = here; counts = refl }
  steady_given (Some x) go h = h x

  steady_if : (b : Bool) (x : Acted) → Steady c a x → Steady c a (only_if c b x)
  steady_if true x h = h
  steady_if false x h = record { here = here; counts = refl }

  -- the process with other ties, or another mailbox
  abbrev Alike : Process → Type 0
  Alike p = p.state ≡ (of c a).state

  alike_lives : (p : Process) → Alike p → lives p ≡ true
  alike_lives p e = ap is_alive e ∙ here

  kept : (p : Process) → Alike p → alive (with_process c a p) + 0 ≡ alive c + 0
  kept p e = ap (λ n. n + 0) (counts_kept c a p here (alike_lives p e))

  on : (p : Process) → Alike p → lives (of (with_process c a p) a) ≡ true
  on p e = lives_on c a p here (alike_lives p e)

  -- a process more, after a process with other ties
  more_here : (p q : Process) → Alike p → lives (process_at a (slice_set c.processes a p ++ q ∷ [])) ≡ true
  more_here p q e =
      ap lives (at_more (slice_set c.processes a p) a q (in_range (slice_set c.processes a p) a (on p e))) ∙ on p e

  more_counts : (p q : Process) → Alike p → lives q ≡ true
      → sum_by weight (slice_set c.processes a p ++ q ∷ []) + 0 ≡ alive c + 1
  more_counts p q e l =
      let m = counts_more (slice_set c.processes a p) q l in
      let k = kept p e in
      omega arith

  spawns_steady : (b : Bond) (s : ProcessState) → is_alive s ≡ true → Steady c a (spawned c a b s)
  spawns_steady Unbound s l = by_test (nat_lt (length c.processes) c.most) _ _ (record {
    here = ap lives (at_more c.processes a (fresh s []) (in_range c.processes a here)) ∙ here;
    counts = let m = counts_more c.processes (fresh s []) l in omega arith;
  }) (raises _)
  spawns_steady Linking s l = by_test (nat_lt (length c.processes) c.most) _ _ (record {
    here = more_here _ (fresh s (a ∷ [])) refl;
    counts = more_counts _ (fresh s (a ∷ [])) refl l;
  }) (raises _)
  spawns_steady Watching s l = by_test (nat_lt (length c.processes) c.most) _ _ (record {
    here = more_here _ _ refl;
    counts = more_counts _ _ refl l;
  }) (raises _)

  unlinked_steady : (p : ℕ) → Steady c a (unlinked_from c a p)
  unlinked_steady p = by_test _ _ _ (record { here = on _ refl; counts = kept _ refl })
      (record { here = here; counts = refl })

  linked_steady : (p : ℕ) → Steady c a (linked_to c a p)
  linked_steady p = by_test _ _ _ (record { here = here; counts = refl })
      (record { here = on _ refl; counts = kept _ refl })

  demonitored_steady : (r : ℕ) (o : Option ℕ) → Steady c a (demonitored c a r o)
  demonitored_steady r None = record { here = here; counts = refl }
  demonitored_steady r (Some p) = record { here = on _ refl; counts = kept _ refl }

  -- a flush after an action of which nothing began or ended
  flushed_steady : (r : ℕ) (x : Acted) → Steady c a x → is_begin x.label ≡ false → is_end x.label ≡ false
      → Steady c a (and_flushed a r x)
  flushed_steady r x h b e = record {
    here = lives_on x.left.core a _ h.here h.here;
    counts =
        let k = counts_kept x.left.core a _ h.here h.here in
        let n = h.counts in
        let y : one (is_begin x.label) ≡ 0 = ap one b in
        let z : one (is_end x.label) ≡ 0 = ap one e in
        ap (λ i. i + 0) (k ∙ (omega (arith, n, y, z)));
  }

  demonitored_so_steady : (r : ℕ) (flushes : Bool) → Steady c a (demonitored_so c a r flushes)
  demonitored_so_steady r false = demonitored_steady r (got r (of c a).active)
  demonitored_so_steady r true = by (got r (of c a).active)
    where
      by : (o : Option ℕ) → Steady c a (and_flushed a r (demonitored c a r o))
      by None = flushed_steady r (demonitored c a r None) (demonitored_steady r None) refl refl
      by (Some p) = flushed_steady r (demonitored c a r (Some p)) (demonitored_steady r (Some p)) refl refl

  pub acted_steady : (m : Module) (x : Act) → Steady c a (acted m c a x)
  acted_steady m (send to v) = steady_given (receiver c to) _ (λ b. record { here = here; counts = refl })
  acted_steady m (spawn b w f vs) =
      steady_given (as_atom w) _ (λ home. steady_given (as_atom f)
      (λ name. given c (as_elements vs) (λ arguments. spawned c a b (start_of m home name arguments)))
      (λ name. steady_given (as_elements vs) (λ arguments. spawned c a b (start_of m home name arguments))
      (λ arguments. spawns_steady b (start_of m home name arguments)
      (begun_lives (called m home name arguments) arguments))))
  acted_steady m (link p) = steady_given (as_pid p) (linked_to c a) linked_steady
  acted_steady m (unlink p) = steady_given (as_pid p) (unlinked_from c a) unlinked_steady
  acted_steady m (monitor k p) =
      steady_given (as_pid p) (λ b. only_if c (same k process) (monitored c a b))
      (λ b. steady_if (same k process) (monitored c a b) (record { here = on _ refl; counts = kept _ refl }))
  acted_steady m (demonitor r o) =
      steady_given (as_reference r) (λ x. given c (flushes o) (demonitored_so c a x))
      (λ x. steady_given (flushes o) (demonitored_so c a x) (demonitored_so_steady x))
  acted_steady m (exit_other p r) = steady_given (as_pid p) _ (λ b. record { here = here; counts = refl })
  acted_steady m (set_flag k v) =
      steady_given (truth_of v) (λ b. only_if c (same k trap_exit) (flag_set c a b))
      (λ b. steady_if (same k trap_exit) (flag_set c a b) (record { here = on _ refl; counts = kept _ refl }))
  acted_steady m (register n p) =
      steady_given (as_atom n) (λ x. given c (as_pid p) (registered c x))
      (λ x. steady_given (as_pid p) (registered c x)
      (λ y. steady_if (may_register c x y) _ (record { here = here; counts = refl })))
  acted_steady m (unregister n) =
      steady_given (as_atom n) (unregistered c)
      (λ x. steady_if (is_some (got x c.names)) _ (record { here = here; counts = refl }))
  acted_steady m (whereis n) = steady_given (as_atom n) _ (λ x. record { here = here; counts = refl })
  acted_steady m make_ref = record { here = here; counts = refl }
