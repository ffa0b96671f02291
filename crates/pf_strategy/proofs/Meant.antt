-- What a job means by a seed and a strategy: the laws of choosers at those of strategies.
use Rattle.std.proofs.Common.{◌≡◌, ℕ, zero, suc, ◌+◌, ◌<◌, Bool, true, false, if◌then◌else◌, List, [], ◌∷◌, length}
use Rattle.std.proofs.Common.{Option, map, refl, ap, ◌∙◌, arith}
use Rattle.std.specs.Prelude.{nat_lt}
use Rattle.rand_pcg.specs.Lcg.{Lcg}
use Rattle.rand_pcg.specs.Pcg.{pcg32}
use Rattle.pf_choice.specs.Chosen.{IsProfile}
use Rattle.pf_model.specs.Choosers.{ChoosesOne, choose_by_picks}
use Rattle.pf_model.specs.Meaning.{Choices, picks_of, profile_of, schedule, seed, weighted_seed}
use Rattle.pf_model.proofs.Meanings as meanings
use Rattle.pf_model.specs.Meaning.{Job, Means, Report, words_of}
use Rattle.pf_model.specs.Shrinking.{by_schedule}
use Rattle.pf_choice.proofs.Indices.{chosen_below}
use Rattle.pf_request.specs.Job.{reseeded}
use Rattle.pf_strategy.specs.Keys.{keys_among}
use Rattle.pf_strategy.specs.Laws.{OneReport, ReplayOfPriorities, ReplayOfSeeds, SomeReport, SomeReportByPriorities}
use Rattle.pf_strategy.specs.Priorities.{PriorityState, all_given, first, given, highest_from}
use Rattle.pf_strategy.specs.Runs.{choose_by_priorities}
use Rattle.pf_strategy.specs.declared.priorities.HeldPriority.{HeldPriority}
use Rattle.pf_strategy.specs.Strategies.{MeansBySampling}
use Rattle.pf_strategy.specs.declared.strategy.Sampling.{Sampling}
use Rattle.pf_strategy.specs.declared.strategy.Sampling.TheVariants.{Uniform, Priorities}
use Rattle.pf_strategy.specs.Last.{keep_named}
use Rattle.pf_strategy.proofs.Lasting.{keeps_choosing_one}
use Rattle.pf_strategy.proofs.Places.{count_of_keys}

-- ---- priorities choose one of those who may go

-- the highest from an index on is one of them, or the highest so far
highest_below : (i best p : ℕ) (hs : List HeldPriority) → best < i + length hs
    → highest_from i best p hs < i + length hs
highest_below i best p [] l = l
highest_below i best p (h ∷ hs) l =
    by (nat_lt p h.priority) (highest_below (suc i) i h.priority hs (omega arith))
    (highest_below (suc i) best p hs (omega arith))
  where
    by : (e : Bool) → highest_from (suc i) i h.priority hs < suc i + length hs
        → highest_from (suc i) best p hs < suc i + length hs
        → (if e then highest_from (suc i) i h.priority hs else highest_from (suc i) best p hs) < i + length (h ∷ hs)
    by true higher same = omega arith
    by false higher same = omega arith

-- each has a priority
all_have : (keys : List ℕ) (g : Lcg) (hs : List HeldPriority) → length (all_given pcg32 keys g hs).held ≡ length keys
all_have [] g hs = refl
all_have (k ∷ ks) g hs = ap suc (all_have ks (given pcg32 k g hs).generator (given pcg32 k g hs).rest)

priorities_choose_one : ChoosesOne choose_by_priorities
priorities_choose_one s pids channels l =
    let given = all_given pcg32 (keys_among pids channels) s.generator s.held in
    let many : length given.held ≡ length pids + length channels =
    all_have (keys_among pids channels) s.generator s.held ∙ count_of_keys pids channels in
    let below = highest_below 0 0 0 given.held (omega arith) in
    omega arith

-- and so do choices by the words of a seed
picks_choose_one : (cs : Choices) → IsProfile (profile_of cs) → ChoosesOne (choose_by_picks (picks_of cs))
picks_choose_one cs h i pids channels l =
    chosen_below (profile_of cs) (words_of cs i) (length pids) (length channels) h l

-- ---- the laws

one_sampled : (w : Sampling) (p : Option ℕ) (j : Job) (s : ℕ) (r t : Report) → MeansBySampling w p j s r
    → MeansBySampling w p j s t → r ≡ t
one_sampled Uniform p j s r t h k = meanings.one_report ℕ
    (keep_named p (choose_by_picks (picks_of (reseeded j.choices s)))) zero j r t h k
one_sampled Priorities p j s r t h k = meanings.one_report (PriorityState Lcg) (keep_named p choose_by_priorities)
    (first s) j r t h k

pub one_report : OneReport
one_report w j s r t h k = one_sampled w.sampling w.last j s r t h k

pub replay_of_priorities : ReplayOfPriorities
replay_of_priorities j s r h = meanings.replay_of_choosers (PriorityState Lcg) choose_by_priorities (first s) j r h

replay_sampled : (w : Sampling) (p : Option ℕ) (j : Job) (s : ℕ) (r : Report) → MeansBySampling w p j s r
    → Means (by_schedule j (map (λ e. e.choice) r.events)) r
replay_sampled Uniform p j s r h = meanings.replay_of_choosers ℕ
    (keep_named p (choose_by_picks (picks_of (reseeded j.choices s)))) zero j r h
replay_sampled Priorities p j s r h = meanings.replay_of_choosers (PriorityState Lcg)
    (keep_named p choose_by_priorities) (first s) j r h

pub replay_of_seeds : ReplayOfSeeds
replay_of_seeds w j s r h = replay_sampled w.sampling w.last j s r h

pub some_report_by_priorities : SomeReportByPriorities
some_report_by_priorities j s = meanings.some_report (PriorityState Lcg) choose_by_priorities
    priorities_choose_one (first s) j

-- the weights of choices stay beside another seed
reseeded_profile : (cs : Choices) (s : ℕ) → IsProfile (profile_of cs) → IsProfile (profile_of (reseeded cs s))
reseeded_profile (seed n) s h = tt
reseeded_profile (schedule ns) s h = tt
reseeded_profile (weighted_seed n process channel) s h = h

some_sampled : (w : Sampling) (p : Option ℕ) (j : Job) (s : ℕ) → IsProfile (profile_of j.choices)
    → (r : Report) × MeansBySampling w p j s r
some_sampled Uniform p j s h =
    let cs = reseeded j.choices s in
    meanings.some_report ℕ (keep_named p (choose_by_picks (picks_of cs)))
    (keeps_choosing_one p (choose_by_picks (picks_of cs))
    (picks_choose_one cs (reseeded_profile j.choices s h))) zero j
some_sampled Priorities p j s h = meanings.some_report (PriorityState Lcg) (keep_named p choose_by_priorities)
    (keeps_choosing_one p choose_by_priorities priorities_choose_one) (first s) j

pub some_report : SomeReport
some_report w j s h = some_sampled w.sampling w.last j s h
