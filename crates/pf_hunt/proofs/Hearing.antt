-- What an observer received, one after another, and how far a hunt got by it.
use Rattle.std.proofs.Common.{◌≡◌, ◌<◌, ◌≤◌, ◌-◌, ◌++◌, ℕ, Bool, true, false, List, [], ◌∷◌, Option, Some, None}
use Rattle.std.proofs.Common.{sym, subst}
use Rattle.std.specs.Prelude.{is_some, option_map}
use Rattle.std.proofs.lemmas.List.{append-nil, append_assoc}
use Rattle.pf_model.specs.Meaning.{Job, Report}
use Rattle.pf_strategy.specs.declared.strategy.Strategy.{Strategy}
use Rattle.pf_hunt.specs.Hunts.{Failures, IsFirstSo, FirstFailing, fails, first}
use Rattle.pf_hunt.specs.Notices.{EndsHunt, HuntGoesOn, Hears, HearsSome, Notice, Searches, has_none, stops}
use Rattle.pf_hunt.specs.Notices.{and_block, at_end, begins, found, found_none, seeds_run, stopped}
use Rattle.pf_hunt.specs.Views.{failure_of}
use Rattle.pf_hunt.specs.declared.failure.FailingSeed.{FailingSeed}
use Rattle.pf_hunt.specs.declared.pace.Pace.{Pace}

module _ {T : Type 0} (Heard : T → List Notice → Type 0) where
  pub hears_none : (o : T) → Hears Heard o [] o
  hears_none o before h = subst (Heard o) (sym (append-nil before)) h

  hears_more : (o p q : T) (ns more : List Notice) → Hears Heard o ns p → Hears Heard p more q
      → Hears Heard o (ns ++ more) q
  hears_more o p q ns more h k before b = subst (Heard q) (append_assoc before ns more) (k (before ++ ns) (h before b))

  -- what is so of the notices so far, and then of those with more
  pub hears_then : (so then : List Notice → Type 0) (o p q : T) (more : List Notice) → HearsSome Heard o so p
      → Hears Heard p more q
      → ((ns : List Notice) → so ns → then (ns ++ more)) → HearsSome Heard o then q
  hears_then so then o p q more h k on = (h.0 ++ more, on h.0 h.1, hears_more o p q h.0 more h.2 k)

  pub hears_weaker : (so weaker : List Notice → Type 0) (o p : T) → ((ns : List Notice) → so ns → weaker ns)
      → HearsSome Heard o so p
      → HearsSome Heard o weaker p
  hears_weaker so weaker o p on h = (h.0, on h.0 h.1, h.2)

  -- ---- how far a hunt got

  module _ (has : (c failures : ℕ) → Type 0) (m : Bool) (a b : ℕ) where
    pub none_run : (o : T) → HearsSome Heard o (HuntGoesOn has m a b a) o
    none_run o = ([], begins, hears_none o)

    pub all_run : (o p : T) (c : ℕ) → HearsSome Heard o (HuntGoesOn has m a b c) p → b ≤ c
        → HearsSome Heard o (EndsHunt has m a b b) p
    all_run o p c h over = hears_weaker (HuntGoesOn has m a b c) (EndsHunt has m a b b) o p
        (λ ns g. at_end c ns g over) h

    module _ (o p q : T) (c d n : ℕ) (answer : Pace) (so_far : HearsSome Heard o (HuntGoesOn has m a b c) p)
        (reported : Hears Heard p (seeds_run (d - a) n answer ∷ []) q) (past : c < d) (is : has d n) where
      pub block_run : d ≤ b → (d < b → stops m answer ≡ false) → HearsSome Heard o (HuntGoesOn has m a b d) q
      block_run within on =
          hears_then (HuntGoesOn has m a b c) (HuntGoesOn has m a b d) o p q _ so_far reported
          (λ ns h. and_block c d n answer ns h past within is on)

      pub stopped_there : d < b → stops m answer ≡ true → HearsSome Heard o (EndsHunt has m a b d) q
      stopped_there before stop =
          hears_then (HuntGoesOn has m a b c) (EndsHunt has m a b d) o p q _ so_far reported
          (λ ns h. stopped c d n answer ns h past before is stop)

  -- ---- the least seed that fails

  module _ (m : Bool) (a b : ℕ) where
    found_at : (so : Report → Bool) (w : Strategy) (j : Job) (o p q : T) (c d : ℕ) (answer : Pace) (f : ℕ × Report)
        → IsFirstSo so w j c d (Some f) → d ≤ b
        → HearsSome Heard o (HuntGoesOn has_none m a b c) p → Hears Heard p (seeds_run (d - a) 1 answer ∷ []) q
        → HearsSome Heard o (Searches m a b b (Some f)) q
    found_at so w j o p q c d answer _ (first s r from to means is before) within so_far reported =
        hears_then (HuntGoesOn has_none m a b c) (Searches m a b b (Some (s, r))) o p q _ so_far reported
        (λ ns h. found c d s r answer ns h from to within)

    -- in its block, which was the last
    pub found_there : (f : Failures) (w : Strategy) (j : Job) (o p q : T) (c d : ℕ) (answer : Pace)
        (x : Option FailingSeed) → is_some x ≡ true
        → FirstFailing f w j c d (option_map failure_of x) → d ≤ b
        → HearsSome Heard o (HuntGoesOn has_none m a b c) p
        → Hears Heard p (seeds_run (d - a) 1 answer ∷ []) q
        → HearsSome Heard o (Searches m a b b (option_map failure_of x)) q
    found_there f w j o p q c d answer None some least within so_far reported = absurd (cc)
    found_there f w j o p q c d answer (Some x) some least within so_far reported =
        found_at (fails f) w j o p q c d answer (failure_of x) least within so_far reported

    pub none_there : (o p : T) (c : ℕ) (x : Option FailingSeed) → is_some x ≡ false
        → HearsSome Heard o (EndsHunt has_none m a b c) p
        → HearsSome Heard o (Searches m a b c (option_map failure_of x)) p
    none_there o p c None none h = hears_weaker (EndsHunt has_none m a b c) (Searches m a b c None) o p
        (λ ns e. found_none c ns e) h
    none_there o p c (Some f) none h = absurd (cc)
