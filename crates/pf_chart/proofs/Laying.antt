-- What one event adds to a layout.
use Rattle.std.proofs.Common.{◌≡◌, ◌≢◌, ◌+◌, ◌<◌, ◌≤◌, ◌⊎◌, inl, inr, ℕ, zero, suc, Bool, List, [], ◌∷◌, Option, Some}
use Rattle.std.proofs.Common.{None, length, get_or, map, refl, sym, ap, ◌∙◌, subst, arith}
use Rattle.std.specs.Prelude.{All, option_map, slice_get}
use Rattle.std.specs.List.{HoldsAt}
use Rattle.std.specs.List.Sorted.{IsNonDecreasingBy}
use Rattle.std.proofs.lemmas.List.{length-map}
use Rattle.std.proofs.lemmas.Option.{same_Some, slice_get-get_or, slice_get-map}
use Rattle.pf_model.specs.Channels.{Signal}
use Rattle.pf_model.specs.Labels.{Label, Suffix, sends, spawns, spawns_watched, links, unlinks, monitors, demonitors}
use Rattle.pf_model.specs.Labels.{exits, sets_flag, registers, unregisters, looks_up, makes_reference, takes, waits}
use Rattle.pf_model.specs.Labels.{raises, ends, cut, delivers}
use Rattle.pf_model.specs.Meaning.{Event}
use Rattle.pf_model.specs.declared.report.Actor.{Actor}
use Rattle.pf_model.specs.declared.report.Actor.TheVariants as actors
use Rattle.pf_chart.specs.Laid.{IsCarried, IsLaid, IsLayout, delivery_in}
use Rattle.pf_chart.specs.Origins.{SameProcesses, process_of}
use Rattle.pf_chart.specs.Processes.{Process}
use Rattle.pf_chart.specs.Signals.{AreArrows, HasPid, IsManner, marked}
use Rattle.pf_chart.specs.Traffic.{AreWaiting, Sends}
use Rattle.pf_chart.specs.declared.arrows.Arrow.{Arrow}
use Rattle.pf_chart.specs.declared.columns.Column.{Column}
use Rattle.pf_chart.specs.declared.layout.Layout.{Layout}
use Rattle.pf_chart.specs.declared.traffic.Traffic.{Traffic}
use Rattle.pf_chart.proofs.Drawing.{arrived_drawn, one_more, sends_drawn}
use Rattle.pf_chart.proofs.Sending.{arrived_wait}
use Rattle.pf_chart.proofs.Spawned.{columns_by_pid}

-- ---- labels

delivery_is : (l : Label) (g : Signal) (x : Suffix) → delivery_in l ≡ Some (g, x) → l ≡ delivers g x
delivery_is (delivers f y) g x h =
    let same : (f, y) ≡ (g, x) = same_Some (f, y) (g, x) h in
    ap (λ (d : Signal × Suffix). delivers d.0 d.1) same
delivery_is (sends to message) g x h = absurd (cc)
delivery_is (spawns linked pid) g x h = absurd (cc)
delivery_is (spawns_watched pid reference) g x h = absurd (cc)
delivery_is (links pid) g x h = absurd (cc)
delivery_is (unlinks pid) g x h = absurd (cc)
delivery_is (monitors reference pid) g x h = absurd (cc)
delivery_is (demonitors flushes reference) g x h = absurd (cc)
delivery_is (exits pid reason) g x h = absurd (cc)
delivery_is (sets_flag b) g x h = absurd (cc)
delivery_is (registers name pid) g x h = absurd (cc)
delivery_is (unregisters name) g x h = absurd (cc)
delivery_is (looks_up name) g x h = absurd (cc)
delivery_is (makes_reference reference) g x h = absurd (cc)
delivery_is (takes message) g x h = absurd (cc)
delivery_is waits g x h = absurd (cc)
delivery_is (raises reason) g x h = absurd (cc)
delivery_is (ends reason) g x h = absurd (cc)
delivery_is cut g x h = absurd (cc)

abbrev actor_pid : Actor → Option ℕ
actor_pid (actors.Process p) = Some p
actor_pid (actors.Channel p q) = None

abbrev sender_in : Actor → ℕ
sender_in (actors.Process p) = p
sender_in (actors.Channel p q) = p

no_channel : (p v w : ℕ) → actors.Process p ≡ actors.Channel v w → ⊥
no_channel p v w h = let never : Some p ≡ None = ap actor_pid h in absurd (cc)

-- ---- columns by their pids

abbrev pub HasColumn : List Column → (pid column : ℕ) → Type 0
HasColumn cs p i = (i < length cs) × HoldsAt (λ c. c.pid ≡ p) cs i

has_pid : (cs : List Column) (i p : ℕ) → HasColumn cs p i → HasPid (map process_of cs) i p
has_pid [] i p (low, at) = absurd (omega arith)
has_pid (c ∷ cs) zero p (low, at) = (process_of c, refl, at c)
has_pid (c ∷ cs) (suc i) p (low, at) = has_pid cs i p (let less : i < length cs = omega (arith, low) in less, λ d. at d)

no_pid : (cs : List Column) (p : ℕ) → All (λ c. c.pid ≢ p) cs → (i : ℕ) → HasPid (map process_of cs) i p → ⊥
no_pid [] p all i (q, at, is) = absurd (cc)
no_pid (c ∷ cs) p all zero (q, at, is) = all 0 c (omega arith)
    (ap (λ (x : Process). x.pid) (same_Some (process_of c) q at) ∙ is)
no_pid (c ∷ cs) p all (suc i) h = no_pid cs p (λ k d low. all (suc k) d (omega arith)) i h

-- who has no column by a search among those that rise
pub lacks : (cs ds : List Column) (p : ℕ) → ds ≡ cs → IsNonDecreasingBy (λ (q : Process). q.pid) (map process_of cs)
    → (IsNonDecreasingBy (λ (c : Column). c.pid) ds → All (λ (c : Column). c.pid ≢ p) ds)
    → All (λ (c : Column). c.pid ≢ p) cs
lacks cs ds p same sorted h =
    subst (λ (xs : List Column). All (λ (c : Column). c.pid ≢ p) xs) same
    (h (subst (λ (xs : List Column). IsNonDecreasingBy (λ (c : Column). c.pid) xs) (sym same)
    (columns_by_pid cs sorted)))

-- a turn delivers nothing
pub no_delivery : (e : Event) (p : ℕ) → e.actor ≡ actors.Process p → (ps : List Process)
    → (v w i j : ℕ) (g : Signal) (x : Suffix) → e.actor ≡ actors.Channel v w → e.label ≡ delivers g x → HasPid ps i v
    → HasPid ps j w → ⊥
no_delivery e p actor ps v w i j g x acts label from into = no_channel p v w (sym actor ∙ acts)

module _ (n : ℕ) (e : Event) (l m : Layout) (same : SameProcesses l.columns.items m.columns.items) (es : List Event)
    (at : slice_get es n ≡ Some e) (laid : IsLaid es n l) where
  abbrev ps : List Process
  ps = map process_of l.columns.items

  onto : AreArrows es ps (n + 1) m.traffic.arrows.items → AreWaiting m.traffic → IsLaid es (n + 1) m
  onto arrows wait = record {
    by_pid = subst (λ qs. IsNonDecreasingBy (λ p. p.pid) qs) (sym same) laid.by_pid;
    wait = wait;
    arrows = subst (λ qs. AreArrows es qs (n + 1) m.traffic.arrows.items) (sym same) arrows;
  }

  -- a turn of a process
  pub turn_laid : (p a : ℕ) → e.actor ≡ actors.Process p → HasColumn l.columns.items p a → Sends n a l.traffic m.traffic
      → IsLaid es (n + 1) m
  turn_laid p a actor column goes =
      let has : HasPid ps a (marked e.actor) = subst (λ x. HasPid ps a (marked x)) (sym actor)
      (has_pid l.columns.items a p column) in
      onto
      (one_more es ps n e m.traffic.arrows.items at (no_delivery e p actor ps)
      (sends_drawn es ps n a n e l.traffic m.traffic at has goes laid.arrows))
      (goes.wait laid.wait)

  -- nothing is drawn
  pub none_laid : m.traffic ≡ l.traffic
      → ((v w i j : ℕ) (g : Signal) (x : Suffix) → e.actor ≡ actors.Channel v w → e.label ≡ delivers g x → HasPid ps i v
      → HasPid ps j w → ⊥) → IsLaid es (n + 1) m
  none_laid traffic never =
      onto (one_more es ps n e m.traffic.arrows.items at never
      (subst (λ (t : Traffic). AreArrows es ps n t.arrows.items) (sym traffic) laid.arrows))
      (subst (λ (t : Traffic). AreWaiting t) (sym traffic) laid.wait)

  -- a delivery
  pub carried_laid : (p q a b : ℕ) → e.actor ≡ actors.Channel p q → HasColumn l.columns.items p a
      → HasColumn l.columns.items q b
      → IsCarried n a b (delivery_in e.label) l.traffic m.traffic → IsLaid es (n + 1) m
  carried_laid p q a b actor sender receiver = by (delivery_in e.label) refl
    where
      to : HasPid ps b (marked e.actor)
      to = subst (λ x. HasPid ps b (marked x)) (sym actor) (has_pid l.columns.items b q receiver)

      by : (d : Option (Signal × Suffix)) → delivery_in e.label ≡ d → IsCarried n a b d l.traffic m.traffic
          → IsLaid es (n + 1) m
      by None is goes =
          onto
          (one_more es ps n e m.traffic.arrows.items at
          (λ v w i j g x acts label from into.
          (let never : None ≡ Some (g, x) = sym is ∙ ap delivery_in label in absurd (cc)))
          (sends_drawn es ps n b n e l.traffic m.traffic at to goes laid.arrows))
          (goes.wait laid.wait)
      by (Some (g, x)) is (t, delivered, goes) =
          let label : e.label ≡ delivers g x = delivery_is e.label g x is in
          let arrived : AreArrows es ps (n + 1) t.arrows.items =
          arrived_drawn es ps n a b p q e g x at actor label (has_pid l.columns.items a p sender)
          (has_pid l.columns.items b q receiver) l.traffic t delivered laid.wait laid.arrows in
          onto (sends_drawn es ps n b (n + 1) e t m.traffic at to goes arrived)
          (goes.wait (arrived_wait _ _ l.traffic t delivered laid.wait))

  -- who isn't there takes part in nothing
  pub missing : (p q : ℕ) → e.actor ≡ actors.Channel p q
      → All (λ c. c.pid ≢ p) l.columns.items ⊎ All (λ c. c.pid ≢ q) l.columns.items
      → (v w i j : ℕ) (g : Signal) (x : Suffix) → e.actor ≡ actors.Channel v w → e.label ≡ delivers g x → HasPid ps i v
      → HasPid ps j w → ⊥
  missing p q actor none v w i j g x acts label from into =
      let same : actors.Channel p q ≡ actors.Channel v w = sym actor ∙ acts in
      elim none [
        | inl h ↦ no_pid l.columns.items p h i (subst (HasPid ps i) (sym (ap sender_in same)) from)
        | inr h ↦ no_pid l.columns.items q h j (subst (HasPid ps j) (sym (ap marked same)) into)
      ]

-- ---- all events

-- before the first there is no arrow
pub none_yet : (es : List Event) (ps : List Process) (xs : List Arrow) → xs ≡ [] → AreArrows es ps 0 xs
none_yet es ps xs none = subst (λ (ys : List Arrow). AreArrows es ps 0 ys) (sym none) (record {
  each = λ i a at. absurd (cc);
  all = λ m f p q i j signal x low is actor label sender receiver. absurd (omega (arith, low));
})

-- the event at a place
pub event_at : {X : Type 0} (g : X → Event) (es : List X) (i : ℕ) (e : X) → i < length es → e ≡ get_or es i e
    → slice_get (map g es) i ≡ Some (g e)
event_at g es i e low read = slice_get-map g es i ∙ ap (option_map g) (slice_get-get_or es i e low ∙ ap Some (sym read))

-- all are laid out
pub all_laid : {X : Type 0} (g : X → Event) (es : List X) (n : ℕ) (compact : Bool) (l m : Layout)
    → IsLaid (map g es) n l → length es ≤ n → m.columns ≡ l.columns
    → IsManner (map g es) compact l.traffic.arrows.items m.traffic.arrows.items → IsLayout (map g es) compact m
all_laid g es n compact l m laid all columns manner = record {
  by_pid = subst (λ cs. IsNonDecreasingBy (λ (p : Process). p.pid) (map process_of cs.items)) (sym columns) laid.by_pid;
  signals = l.traffic.arrows.items;
  are = subst (λ cs. AreArrows (map g es) (map process_of cs.items) (length (map g es)) l.traffic.arrows.items)
      (sym columns) (record {
        each = laid.arrows.each;
        all = λ m f p q i j signal x low is actor label sender receiver.
            laid.arrows.all m f p q i j signal x
            (let less : m < n = omega (arith, low, all, length-map es g) in less) is
            actor label sender receiver;
      });
  manner = manner;
}
