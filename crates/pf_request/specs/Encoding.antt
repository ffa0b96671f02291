-- How the logic stores requests, jobs and calls.
use Rattle.std.specs.Prelude.{◌≡◌, ◌⊎◌, ℕ, ◌==◌, if◌then◌else◌, List, refl}
use Rattle.std.proofs.Common.{inl, inr}
use Rattle.std.specs.Coded.{Coded, code_by, coded×, coded⊎, coded_ℕ, coded_list}
use Rattle.pf_syntax.specs.Pattern.{Pattern}
use Rattle.pf_syntax.specs.Encoding.{coded_pattern}
use Rattle.pf_model.specs.Meaning as model
use Rattle.pf_model.specs.Meaning.{Choices, seed, schedule, weighted_seed}
use Rattle.pf_model.specs.Properties.{Property, returns, returns_true, no_crash, no_deadlock, within_limit, never}
use Rattle.pf_check.specs.Encoding.{coded_module}
use Rattle.pf_request.specs.Request.{RequestKind, run, shrink, Request}
use Rattle.pf_request.specs.Job.{Job}
use Rattle.pf_request.specs.Calls.{Call, submit, order, fetch, status, drop_trial, withdraw, usage, log, edition}

abbrev pub ChoicesParts : Type 0
ChoicesParts = ℕ ⊎ (List ℕ ⊎ (ℕ × (ℕ × ℕ)))

abbrev pub parts_of_choices : Choices → ChoicesParts
parts_of_choices (seed n) = inl n
parts_of_choices (schedule ns) = inr (inl ns)
parts_of_choices (weighted_seed n process channel) = inr (inr (n, (process, channel)))

abbrev pub choices_from : ChoicesParts → Choices
choices_from (inl n) = seed n
choices_from (inr (inl ns)) = schedule ns
choices_from (inr (inr p)) = weighted_seed p.0 p.1.0 p.1.1

pub choices_from-parts_of : (cs : Choices) → choices_from (parts_of_choices cs) ≡ cs
choices_from-parts_of (seed n) = refl
choices_from-parts_of (schedule ns) = refl
choices_from-parts_of (weighted_seed n process channel) = refl

abbrev pub coded_choices : Coded Choices
coded_choices = code_by _ (coded⊎ coded_ℕ (coded⊎ (coded_list coded_ℕ) (coded× coded_ℕ (coded× coded_ℕ coded_ℕ))))
    parts_of_choices choices_from choices_from-parts_of

abbrev pub parts_of_property : Property → ℕ ⊎ Pattern
parts_of_property returns = inl 0
parts_of_property returns_true = inl 1
parts_of_property no_crash = inl 2
parts_of_property no_deadlock = inl 3
parts_of_property within_limit = inl 4
parts_of_property (never q) = inr q

abbrev pub plain_property : ℕ → Property
plain_property n =
    if n == 0 then returns
    else (if n == 1 then returns_true
    else (if n == 2 then no_crash
    else (if n == 3 then no_deadlock else within_limit)))

abbrev pub property_from : ℕ ⊎ Pattern → Property
property_from (inl n) = plain_property n
property_from (inr q) = never q

pub property_from-parts_of : (q : Property) → property_from (parts_of_property q) ≡ q
property_from-parts_of returns = refl
property_from-parts_of returns_true = refl
property_from-parts_of no_crash = refl
property_from-parts_of no_deadlock = refl
property_from-parts_of within_limit = refl
property_from-parts_of (never q) = refl

abbrev pub coded_property : Coded Property
coded_property = code_by _ (coded⊎ coded_ℕ coded_pattern) parts_of_property property_from property_from-parts_of

abbrev pub coded_asked : Coded model.Job
coded_asked =
    code_by _ (coded× (coded× coded_module coded_ℕ)
    (coded× coded_property (coded× coded_choices (coded× coded_ℕ (coded× coded_ℕ coded_ℕ)))))
    (λ j. ((j.code, j.root), (j.property, (j.choices, (j.limit, (j.runs, j.edition))))))
    (λ p. record {
      code = p.0.0;
      root = p.0.1;
      property = p.1.0;
      choices = p.1.1.0;
      limit = p.1.1.1.0;
      runs =
          p.1.1.1.1.0;
      edition = p.1.1.1.1.1;
    }) (λ _. refl)

abbrev pub coded_job : Coded Job
coded_job = code_by _ (coded× (coded_list coded_ℕ) coded_asked) (λ j. (j.source, j.asked))
    (λ p. record { source = p.0; asked = p.1 }) (λ _. refl)

-- ---- requests and calls

abbrev pub parts_of_kind : RequestKind → Choices ⊎ (List ℕ × ℕ)
parts_of_kind (run cs) = inl cs
parts_of_kind (shrink ns k) = inr (ns, k)

abbrev pub kind_from : Choices ⊎ (List ℕ × ℕ) → RequestKind
kind_from (inl cs) = run cs
kind_from (inr p) = shrink p.0 p.1

pub kind_from-parts_of : (k : RequestKind) → kind_from (parts_of_kind k) ≡ k
kind_from-parts_of (run cs) = refl
kind_from-parts_of (shrink ns k) = refl

abbrev pub coded_kind : Coded RequestKind
coded_kind = code_by _ (coded⊎ coded_choices (coded× (coded_list coded_ℕ) coded_ℕ)) parts_of_kind kind_from
    kind_from-parts_of

abbrev pub coded_request : Coded Request
coded_request =
    code_by _ (coded× (coded× (coded_list coded_ℕ) (coded_list coded_ℕ)) (coded× coded_kind coded_ℕ))
    (λ r. ((r.root, r.property), (r.kind, r.limit)))
    (λ p. record { root = p.0.0; property = p.0.1; kind = p.1.0; limit = p.1.1 }) (λ _. refl)

-- the calls that name nothing are 0 and 1, and those that name a number are 0 to 4 with it
abbrev pub CallParts : Type 0
CallParts = List ℕ ⊎ ((ℕ × Request) ⊎ ((ℕ × ℕ) ⊎ ℕ))

abbrev pub parts_of_call : Call → CallParts
parts_of_call (submit text) = inl text
parts_of_call (order n r) = inr (inl (n, r))
parts_of_call (fetch t) = inr (inr (inl (0, t)))
parts_of_call (status t) = inr (inr (inl (1, t)))
parts_of_call (drop_trial t) = inr (inr (inl (2, t)))
parts_of_call (withdraw n) = inr (inr (inl (3, n)))
parts_of_call (edition e) = inr (inr (inl (4, e)))
parts_of_call usage = inr (inr (inr 0))
parts_of_call log = inr (inr (inr 1))

abbrev pub numbered_call : ℕ → ℕ → Call
numbered_call k n =
    if k == 0 then fetch n
    else (if k == 1 then status n
    else (if k == 2 then drop_trial n
    else (if k == 3 then withdraw n else edition n)))

abbrev pub call_from : CallParts → Call
call_from (inl text) = submit text
call_from (inr (inl o)) = order o.0 o.1
call_from (inr (inr (inl x))) = numbered_call x.0 x.1
call_from (inr (inr (inr k))) = if k == 0 then usage else log

pub call_from-parts_of : (c : Call) → call_from (parts_of_call c) ≡ c
call_from-parts_of (submit text) = refl
call_from-parts_of (order n r) = refl
call_from-parts_of (fetch t) = refl
call_from-parts_of (status t) = refl
call_from-parts_of (drop_trial t) = refl
call_from-parts_of (withdraw n) = refl
call_from-parts_of (edition e) = refl
call_from-parts_of usage = refl
call_from-parts_of log = refl

abbrev pub coded_call : Coded Call
coded_call =
    code_by _ (coded⊎ (coded_list coded_ℕ) (coded⊎ (coded× coded_ℕ coded_request)
    (coded⊎ (coded× coded_ℕ coded_ℕ) coded_ℕ)))
    parts_of_call call_from call_from-parts_of
