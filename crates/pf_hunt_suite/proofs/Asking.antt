-- What is asked for of a module, in an edition, by a request, is asked for by what is equal to them.
use Rattle.std.proofs.Common.{◌≡◌, ℕ, Ok, Err, subst}
use Rattle.std.specs.Prelude.{Result, MatchResult}
use Rattle.pf_errors.specs.declared.fault.OrNoMemory.{OrNoMemory}
use Rattle.pf_check.specs.Module.{ReadModule}
use Rattle.pf_request.specs.Request.{Request}
use Rattle.pf_request.specs.Job.{Job}
use Rattle.pf_sched.specs.Asked.{Asks, IsRefusal}
use Rattle.pf_sched.specs.declared.refusal.JobRefusal.{JobRefusal}

abbrev IsAsked : ReadModule → ℕ → Request → Result Job (OrNoMemory JobRefusal) → Type 0
IsAsked m e r x = MatchResult x (λ j. Asks m e r (Ok j)) (IsRefusal (Asks m e r))

pub asked_as : (m k : ReadModule) (n e : ℕ) (r q : Request) (x : Result Job (OrNoMemory JobRefusal)) → k ≡ m
    → n ≡ e → r ≡ q
    → MatchResult x (λ j. Asks k n r (Ok j)) (IsRefusal (Asks k n r))
    → MatchResult x (λ j. Asks m e q (Ok j)) (IsRefusal (Asks m e q))
asked_as m k n e r q x of in_edition by asked =
    subst (λ t. IsAsked m e t x) by (subst (λ t. IsAsked m t r x) in_edition (subst (λ t. IsAsked t n r x) of asked))
