-- How far the hunt of a root is, of whose seeds something is known.
use Rattle.std.proofs.Common.{◌≡◌, ◌≤◌, ◌<◌, ◌-◌, ℕ, Bool, true, Option, Some, None, refl, sym, subst, arith}
use Rattle.std.specs.Prelude.{Result, Ok, Err, OnErr, IfSome, is_some}
use Rattle.pf_model.specs.Meaning.{Report}
use Rattle.pf_sched.specs.Asked.{Asks}
use Rattle.pf_hunt.specs.Hunts.{FirstFailing, NoneIs, SearchedTo, fails, less_far, to_end}
use Rattle.pf_verdicts.specs.Causes.{cause_of}
use Rattle.pf_verdicts.specs.Further.{AreProperties}
use Rattle.pf_hunt.specs.Views.{failures_of, further_of}
use Rattle.pf_hunt.specs.declared.seeded.Hunt.{Hunt}
use Rattle.pf_hunt.proofs.Firsts.{in_first, in_second, none_of}
use Rattle.pf_hunt_suite.specs.Ends.{IsLeastOfRoot, failures_by, hunted, none_fails, request_for, stopped}
use Rattle.pf_hunt_suite.specs.Ends as ends
use Rattle.pf_hunt_suite.specs.Stages.{Ends, IsOpen, asked_of}
use Rattle.pf_hunt_suite.specs.declared.hunt.RootHunt.{RootHunt}
use Rattle.pf_hunt_suite.specs.declared.stage.OpenRoot.{OpenRoot}
use Rattle.pf_hunt_suite.specs.declared.end.RootEnd.TheVariants.{Fails, NoFailure, Stopped}

-- a hunt goes past its first seed
pub goes_past : (may_stop : Bool) (a b c : ℕ) → SearchedTo may_stop a b c → a < b → a < c
goes_past may_stop a b _ to_end l = l
goes_past may_stop a b _ (less_far c may past before) l = past

-- what is so of a number is so of one that is equal to it, if there is one
pub so_if_some : (o : Option ℕ) (P : ℕ → Type 0) (c : ℕ) → IfSome o (λ n. n ≡ c) → P c → IfSome o P
so_if_some None P c is p = tt
so_if_some (Some n) P c is p = subst P (sym is) p

module _ (h : RootHunt) (o : OpenRoot) (known : IsOpen h o) where
  -- what is known of the seeds from the next on is known of all
  pub of_all : (c : ℕ) (x : Option (ℕ × Report))
      → FirstFailing (failures_of o.hunt) o.hunt.strategy o.hunt.job.asked o.next c x
      → IsLeastOfRoot (asked_of h) (further_of o.hunt) o.hunt.job c x
  of_all c x found =
      let a = asked_of h in
      let j = o.hunt.job.asked in
      let f = failures_by a (further_of o.hunt) in
      in_second (fails f) a.strategy j a.seeds.0 o.next c x known.from
      (none_of (fails f) a.strategy j a.seeds.0 o.next known.none)
      (subst (λ b. FirstFailing (record { further = further_of o.hunt; leaks = b }) a.strategy j o.next c x) known.leaks
      (subst (λ w. FirstFailing (failures_of o.hunt) w j o.next c x) known.strategy found))

  pub ends_failing : (c s : ℕ) (r : Report) → c ≤ (asked_of h).seeds.1
      → FirstFailing (failures_of o.hunt) o.hunt.strategy o.hunt.job.asked o.next c (Some (s, r))
      → Ends h (Fails s (cause_of (further_of o.hunt) r))
  ends_failing c s r within found =
      let a = asked_of h in
      let ps = further_of o.hunt in
      hunted o.hunt.job ps (Fails s (cause_of ps r)) known.asked known.properties (ends.fails s r
      (in_first (fails (failures_by a ps)) a.strategy o.hunt.job.asked a.seeds.0 c a.seeds.1 (s, r) within
      (of_all c (Some (s, r)) found)))

  pub ends_whole : (c : ℕ) → c ≡ (asked_of h).seeds.1
      → FirstFailing (failures_of o.hunt) o.hunt.strategy o.hunt.job.asked o.next c None
      → Ends h (NoFailure ((asked_of h).seeds.1 - (asked_of h).seeds.0))
  ends_whole c e found =
      let a = asked_of h in
      let ps = further_of o.hunt in
      hunted o.hunt.job ps (NoFailure (a.seeds.1 - a.seeds.0)) known.asked known.properties
      (none_fails (subst (λ b. IsLeastOfRoot a ps o.hunt.job b None) e (of_all c None found)))

  pub ends_stopped : is_some (asked_of h).time ≡ true → (asked_of h).seeds.0 < o.next
      → Ends h (Stopped (o.next - (asked_of h).seeds.0))
  ends_stopped may past =
      hunted o.hunt.job (further_of o.hunt) (Stopped (o.next - (asked_of h).seeds.0)) known.asked known.properties
      (stopped o.next may past known.left known.none)

  -- it goes on from another seed
  pub still_open : (q : OpenRoot) (c : ℕ) → q.hunted ≡ o.hunted → q.hunt ≡ o.hunt → q.next ≡ c → o.next < c
      → c < (asked_of h).seeds.1
      → FirstFailing (failures_of o.hunt) o.hunt.strategy o.hunt.job.asked o.next c None → IsOpen h q
  still_open q c same hunt next past before found =
      let a = asked_of h in
      let least = of_all c None found in
      record {
        hunted = cc;
        asked = subst (λ (k : Hunt). Asks h.«module».now a.edition (request_for a h.root.now) (Ok k.job)) (sym hunt)
            known.asked;
        strategy = cc;
        properties =
            subst (λ (k : Hunt). AreProperties h.«module».now.code.atoms a.further (further_of k)) (sym hunt)
            known.properties;
        leaks = cc;
        from = omega (arith, known.from, past, next);
        left = omega (arith, before, next);
        none = subst (λ (k : Hunt). IsLeastOfRoot a (further_of k) k.job q.next None) (sym hunt)
            (subst (λ n. IsLeastOfRoot a (further_of o.hunt) o.hunt.job n None) (sym next) least);
      }

-- what is known is so where memory ran out
pub at_err : {T E : Type 0} {P : Type 0} (r : Result T E) → P → OnErr r P
at_err (Ok x) p = tt
at_err (Err e) p = p
