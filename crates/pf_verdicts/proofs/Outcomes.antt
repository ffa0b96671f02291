-- How the run of the job that is watched judges that of the hunt's job.
use Rattle.std.proofs.Common.{◌≡◌, ◌||◌, Bool, List, [], ◌∷◌, Option, Some, All, refl, sym, ap, ◌∙◌}
use Rattle.std.specs.List.{list_any}
use Rattle.std.proofs.lemmas.List.Elements.{All-head, All-tail}
use Rattle.pf_model.specs.Labels.{Label}
use Rattle.pf_model.specs.Meaning.{Report}
use Rattle.pf_model.specs.Properties.{Outcome, Property, finished, ended, deadlock, limit, memory, holds, verdict}
use Rattle.pf_model.specs.Properties.{returns, returns_true, no_crash, no_deadlock, within_limit, never}
use Rattle.pf_model.specs.Reports.{view_of_outcome}
use Rattle.pf_model.specs.Shrinking.{is_failure}
use Rattle.pf_property.specs.Views.{labels_in}
use Rattle.pf_sched.specs.Judging.{IsJudged}
use Rattle.pf_sched.specs.declared.whole.Judged.{Judged}
use Rattle.pf_verdicts.specs.Causes.{fails_by}
use Rattle.pf_verdicts.specs.Judging.{IsJudgedBy}
use Rattle.pf_verdicts.specs.Watching.{IsSeen, verdict_seen}
use Rattle.pf_verdicts.specs.declared.judged.JudgedSeed.{JudgedSeed}
use Rattle.pf_verdicts.proofs.Repeating.{judged_with}

-- where labels play no part, those of no run give the same verdict
without_labels : (q : Property) (ls : List Label) (o : Outcome) → ((x : Outcome) → holds q [] x ≡ holds q ls x)
    → verdict q [] o ≡ verdict q ls o
without_labels q ls (finished v) same = ap Some (same (finished v))
without_labels q ls (ended v) same = ap Some (same (ended v))
without_labels q ls (deadlock ps) same = ap Some (same (deadlock ps))
without_labels q ls limit same = ap Some (same limit)
without_labels q ls memory same = refl

-- the verdict that is seen is that of the run
seen_so : (p q : Property) (ls : List Label) (o : Outcome) → IsSeen p q
    → verdict_seen (verdict p ls o) o q ≡ verdict q ls o
seen_so p returns ls o seen = without_labels returns ls o (λ x. refl)
seen_so p returns_true ls o seen = without_labels returns_true ls o (λ x. refl)
seen_so p no_crash ls o seen = ap (λ (x : Property). verdict x ls o) (sym (seen refl))
seen_so p no_deadlock ls o seen = without_labels no_deadlock ls o (λ x. refl)
seen_so p within_limit ls o seen = without_labels within_limit ls o (λ x. refl)
seen_so p (never t) ls o seen = ap (λ (x : Property). verdict x ls o) (sym (seen refl))

module _ (p : Property) (r : Report) (seen : Judged) (own : r.verdict ≡ verdict p (labels_in r.events) r.outcome)
    (known : IsJudged r seen) where
  abbrev verdict_of : Property → Option Bool
  verdict_of q = verdict_seen seen.verdict (view_of_outcome seen.outcome) q

  verdict_is : (q : Property) → IsSeen p q → verdict_of q ≡ verdict q (labels_in r.events) r.outcome
  verdict_is q so =
      ap (λ (o : Outcome). verdict_seen seen.verdict o q) (sym known.0)
      ∙ (ap (λ (v : Option Bool). verdict_seen v r.outcome q) (sym known.1 ∙ own)
      ∙ seen_so p q (labels_in r.events) r.outcome so)

  some_fails : (qs : List Property) → All (IsSeen p) qs
      → list_any (λ q. is_failure (verdict_of q)) qs ≡ list_any (fails_by r) qs
  some_fails [] so = refl
  some_fails (q ∷ qs) so =
      ap (λ (v : Option Bool). is_failure v || list_any (λ x. is_failure (verdict_of x)) qs)
      (verdict_is q (All-head (IsSeen p) q qs so))
      ∙ ap (λ b. fails_by r q || b) (some_fails qs (All-tail (IsSeen p) q qs so))

  -- what is judged by them is the run of the job by the first property
  pub judged_so : (first : Property) (qs : List Property) (v : JudgedSeed) → All (IsSeen p) (first ∷ qs)
      → v.judged.outcome ≡ seen.outcome → v.judged.verdict ≡ verdict_of first → v.judged.waiting ≡ seen.waiting
      → v.fails_further ≡ list_any (λ q. is_failure (verdict_of q)) qs → IsJudgedBy qs (judged_with first r) v
  judged_so first qs v so outcome by waiting further =
      record {
        judged = (
          known.0 ∙ ap view_of_outcome (sym outcome),
          sym (by ∙ verdict_is first (All-head (IsSeen p) first qs so)),
          waiting ∙ known.2,
        );
        further = further ∙ some_fails qs (All-tail (IsSeen p) first qs so);
      }
