-- The job of a request by another property.
use Rattle.std.proofs.Common.{◌≡◌, ℕ, Bool, true, false, List, Option, Some, None, Ok, Err, refl, sym, ap, ◌∙◌, subst}
use Rattle.std.specs.Prelude.{Result, if◌then◌else◌}
use Rattle.pf_errors.specs.declared.code.Code.{Code}
use Rattle.pf_errors.specs.declared.code.Code.TheVariants as code
use Rattle.pf_model.specs.Properties.{Property}
use Rattle.pf_check.specs.Module.{ReadModule}
use Rattle.pf_property.specs.Texts.{IsPropertyOf, ReadsProperty}
use Rattle.pf_property.proofs.One.{at_most_one}
use Rattle.pf_request.specs.Request.{Request, choices_in, is_within, may_weigh}
use Rattle.pf_request.specs.Job.{Job, job_from, root_in, with_root}
use Rattle.pf_sched.specs.Asked.{Asks}
use Rattle.pf_verdicts.specs.Watching.{by_property}

-- what is within bounds is the job that was made
abbrev bounded : Job → (within weighs : Bool) → Result Job Code
bounded k within weighs =
    if within then (if weighs then Ok k else Err code.WeightsOutOfRange) else Err code.OutOfRange

within : (k j : Job) (a b : Bool) → bounded k a b ≡ Ok j → k ≡ j
within k j true true h = cc
within k j true false h = absurd cc
within k j false b h = absurd cc

-- a request that isn't refused names a root and a property, and its job is of these
record IsMade (m : ReadModule) (e : ℕ) (o : Option ℕ) (q : Option Property) (r : Request) (j : Job) : Type 0 where
  pub root : ℕ
  pub property : Property
  pub of_root : o ≡ Some root
  pub of_property : q ≡ Some property
  pub job : job_from m e root property r ≡ j

made : (m : ReadModule) (e : ℕ) (o : Option ℕ) (q : Option Property) (r : Request) (j : Job)
    → with_root m e o q r ≡ Ok j → IsMade m e o q r j
made m e None q r j h = absurd cc
made m e (Some i) None r j h = absurd cc
made m e (Some i) (Some p) r j h =
    record {
      root = i;
      property = p;
      of_root = refl;
      of_property = refl;
      job = within (job_from m e i p r) j (is_within r) (may_weigh (choices_in r.kind)) h;
    }

-- the property that was made is the one that is read
made_as : (atoms : List (List ℕ)) (text : List ℕ) (q : Option Property) (p f : Property) → IsPropertyOf atoms text q
    → q ≡ Some p → ReadsProperty atoms text f → f ≡ p
made_as atoms text q p f is same read =
    at_most_one atoms text f p read (subst (λ (o : Option Property). IsPropertyOf atoms text o) same is)

pub by_another : (m : ReadModule) (e : ℕ) (r : Request) (text : List ℕ) (j w : Job) (p f : Property)
    → Asks m e r (Ok j) → Asks m e (record r { property = text }) (Ok w) → ReadsProperty m.code.atoms text p
    → ReadsProperty m.code.atoms r.property f → (w ≡ by_property j p) × (f ≡ j.asked.property)
by_another m e r text j w p f own other read first =
    let by : Request = record r { property = text } in
    let a = made m e (root_in m r.root) own.0 r j own.2 in
    let b = made m e (root_in m r.root) other.0 by w other.2 in
    let roots : b.root ≡ a.root = cc (a.of_root, b.of_root) in
    let other_is : p ≡ b.property = made_as m.code.atoms text other.0 b.property p other.1 b.of_property read in
    let own_is : f ≡ a.property = made_as m.code.atoms r.property own.0 a.property f own.1 a.of_property first in (
      sym b.job ∙ (ap (λ (i : ℕ). job_from m e i b.property by) roots
          ∙ (ap (λ (q : Property). job_from m e a.root q by) (sym other_is) ∙ ap (λ k. by_property k p) a.job)),
      own_is ∙ ap (λ (k : Job). k.asked.property) a.job,
    )
