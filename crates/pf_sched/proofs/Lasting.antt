-- What is chosen where a process goes last.
use Rattle.std.proofs.Common.{◌≡◌, ℕ, suc, ◌+◌, Bool, true, false, if◌then◌else◌, List, [], ◌∷◌, ◌++◌, length}
use Rattle.std.proofs.Common.{refl, sym, ap, ◌∙◌}
use Rattle.std.proofs.Common.{subst, arith}
use Rattle.std.specs.Prelude.{filter, nat_lt}
use Rattle.rand_pcg.specs.Lcg.{Lcg}
use Rattle.rand_pcg.specs.Pcg.{pcg32}
use Rattle.pf_choice.specs.Choices.{Chooses, IsAt}
use Rattle.pf_choice.specs.Chosen.{chosen}
use Rattle.pf_choice.specs.declared.choices.Choices.{Choices}
use Rattle.pf_model.specs.Channels.{heads}
use Rattle.pf_model.specs.Configuration.{Configuration}
use Rattle.pf_model.specs.Meaning.{picks_of, words_of}
use Rattle.pf_model.specs.Runs.{ready}
use Rattle.pf_strategy.specs.InOthers.{AreOthers}
use Rattle.pf_strategy.specs.Last.{are_others, choose_other, is_other, is_other_channel, keep_last, place}
use Rattle.pf_strategy.specs.Noted.{point}
use Rattle.pf_strategy.specs.Priorities.{state_of}
use Rattle.pf_strategy.specs.Runs.{choose_by_priorities}
use Rattle.pf_strategy.specs.declared.last.Others.{Others}
use Rattle.pf_strategy.specs.declared.priorities.Priorities.{Priorities}
use Rattle.pf_sched.specs.Choosing.{Choosing, StateOf, chooser_of, choices, last, noted, priorities}
use Rattle.pf_sched.specs.Traces.{ChoosesAmong, ChoosesFor, ChoosesLast, IsSampler, NotesChoice}
use Rattle.pf_sched.specs.declared.chooser.ActorChooser.TheVariants as code
use Rattle.pf_sched.specs.declared.last.LastChooser.{LastChooser}
use Rattle.pf_sched.specs.declared.last.Sampler.{Sampler}
use Rattle.pf_sched.specs.declared.last.Sampler.TheVariants as sampler
use Rattle.pf_sched.specs.declared.noted.NotedChoices.{NotedChoices}

-- what choices choose, whichever they are
pub among_by_choices : (q q' : Choices Lcg) (pids : List ℕ) (channels : List (ℕ × ℕ)) (k : ℕ)
    → Chooses pcg32 q (length pids) (length channels) k q'
    → ChoosesAmong (sampler.Choices q) pids channels k (sampler.Choices q')
among_by_choices q q' pids channels k h (choices cs) i makes =
    let next : i + 1 ≡ suc i = omega arith in
    let same : k ≡ picks_of cs i (length pids) (length channels) =
    h.choice_is (words_of cs) i makes.at
    ∙ ap (λ p. chosen p (words_of cs i) (length pids) (length channels)) makes.profile in (
      suc i,
      ap (λ n. (n, suc i)) (sym same),
      record {
        at = subst (λ n. IsAt pcg32 (words_of cs) n q') next (h.moves (words_of cs) i makes.at);
        profile =
            h.keeps ∙ makes.profile;
      },
    )
among_by_choices q q' pids channels k h (priorities seed) s is = absurd is
among_by_choices q q' pids channels k h (noted cs) s is = absurd is
among_by_choices q q' pids channels k h (last p w) s is = absurd is

-- and what priorities do
pub among_by_priorities : (p p' : Priorities) (pids : List ℕ) (channels : List (ℕ × ℕ)) (k : ℕ)
    → choose_by_priorities (state_of p) pids channels ≡ (k, state_of p')
    → ChoosesAmong (sampler.Priorities p) pids channels k (sampler.Priorities p')
among_by_priorities p p' pids channels k h (choices cs) i is = absurd is
among_by_priorities p p' pids channels k h (priorities seed) s is = (
  state_of p',
  ap (λ z. choose_by_priorities z pids channels) is ∙ h,
  refl,
)
among_by_priorities p p' pids channels k h (noted cs) s is = absurd is
among_by_priorities p p' pids channels k h (last a w) s is = absurd is

-- and what choices choose that are noted
pub among_by_noted : (n n' : NotedChoices) (pids : List ℕ) (channels : List (ℕ × ℕ)) (k : ℕ)
    → NotesChoice n (length pids) (length channels) k n'
    → ChoosesAmong (sampler.Noted n) pids channels k (sampler.Noted n')
among_by_noted n n' pids channels k h (choices cs) i is = absurd is
among_by_noted n n' pids channels k h (priorities seed) s is = absurd is
among_by_noted n n' pids channels k h (noted cs) s is =
    let next : s.0 + 1 ≡ suc s.0 = omega arith in
    let makes = is.0 in
    let same : k ≡ picks_of cs s.0 (length pids) (length channels) =
    h.0.choice_is (words_of cs) s.0 makes.at
    ∙ ap (λ p. chosen p (words_of cs s.0) (length pids) (length channels)) makes.profile in
    let all : s.1 ++ point (picks_of cs s.0 (length pids) (length channels)) (length pids + length channels) ∷ []
    ≡ n'.points.items =
    ap (λ xs. xs ++ point (picks_of cs s.0 (length pids) (length channels)) (length pids + length channels) ∷ []) is.1
    ∙ ap (λ c. n.points.items ++ point c (length pids + length channels) ∷ []) (sym same) ∙ sym h.1 in (
      (suc s.0, n'.points.items),
      ap (λ xs. (picks_of cs s.0 (length pids) (length channels), (suc s.0, xs))) all
          ∙ ap (λ c. (c, (suc s.0, n'.points.items))) (sym same),
      (
        record {
          at = subst (λ x. IsAt pcg32 (words_of cs) x n'.choices) next (h.0.moves (words_of cs) s.0 makes.at);
          profile =
              h.0.keeps ∙ makes.profile;
        },
        refl,
      ),
    )
among_by_noted n n' pids channels k h (last a w) s is = absurd is

module _ (o : Others) (by by' : Sampler) (pids : List ℕ) (channels : List (ℕ × ℕ))
    (are : AreOthers o pids channels) where
  abbrev others : ℕ
  others = length (filter (is_other o.last) pids) + length (filter (is_other_channel o.last) channels)

  -- as many others as are held
  same_count : length o.pids.items + length o.channels.items ≡ others
  same_count = ap (λ xs. length xs + length o.channels.items) are.processes
      ∙ ap (λ xs. length (filter (is_other o.last) pids) + length xs) are.ways

  -- where there are no others one of all is chosen
  pub chosen_of_all : (k : ℕ) (p : ℕ) → o.last ≡ p
      → nat_lt 0 (length o.pids.items + length o.channels.items) ≡ false
      → ChoosesAmong by pids channels k by' → ChoosesLast p by pids channels k by'
  chosen_of_all k p same none h w s is =
      let r = h w s is in
      let e : nat_lt 0 others ≡ false = ap (λ n. nat_lt 0 n) (sym same_count) ∙ none in (
        r.0,
        subst (λ q. keep_last q (chooser_of w) s pids channels ≡ (k, r.0)) same
            (ap (λ b. if b then choose_other o.last (chooser_of w) s pids channels else chooser_of w s pids channels) e
            ∙ r.1),
        r.2,
      )

  -- else one of them, by its place
  pub chosen_of_others : (n k : ℕ) (p : ℕ) → o.last ≡ p
      → nat_lt 0 (length o.pids.items + length o.channels.items) ≡ true
      → ChoosesAmong by o.pids.items o.channels.items n by' → k ≡ place n o.marks.items
      → ChoosesLast p by pids channels k by'
  chosen_of_others n k p same some h at w s is =
      let r = h w s is in
      let e : nat_lt 0 others ≡ true = ap (λ n. nat_lt 0 n) (sym same_count) ∙ some in
      let held : chooser_of w s (filter (is_other o.last) pids) (filter (is_other_channel o.last) channels) ≡ (n, r.0) =
      ap (λ xs. chooser_of w s xs (filter (is_other_channel o.last) channels)) (sym are.processes)
      ∙ ap (λ xs. chooser_of w s o.pids.items xs) (sym are.ways) ∙ r.1 in
      let there : place n (are_others o.last pids channels) ≡ k = ap (place n) (sym are.marks) ∙ sym at in (
        r.0,
        subst (λ q. keep_last q (chooser_of w) s pids channels ≡ (k, r.0)) same
            (ap (λ b. if b then choose_other o.last (chooser_of w) s pids channels else chooser_of w s pids channels) e
            ∙ ap (λ c. (place c.0 (are_others o.last pids channels), c.1)) held ∙ ap (λ i. (i, r.0)) there),
        r.2,
      )

-- what is chosen in a run
pub chosen_by_last : (c : Configuration) (l l' : LastChooser) (k : ℕ) → l'.others.last ≡ l.others.last
    → ChoosesLast l.others.last l.by (ready c) (heads c.channels) k l'.by
    → ChoosesFor (code.Last l) c k (code.Last l')
chosen_by_last c l l' k same h (choices cs) i is = absurd is
chosen_by_last c l l' k same h (priorities seed) s is = absurd is
chosen_by_last c l l' k same h (noted cs) s is = absurd is
chosen_by_last c l l' k same h (last p w) s is =
    let r = h w s is.1 in (
      r.0,
      subst (λ q. keep_last q (chooser_of w) s (ready c) (heads c.channels) ≡ (k, r.0)) (sym is.0) r.1,
      (is.0 ∙ sym same, r.2),
    )
