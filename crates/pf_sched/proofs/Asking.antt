-- Which job a request of a module results in, and what is known of a job.
use Rattle.std.proofs.Common.{◌≡◌, ◌⊎◌, inl, inr, ℕ, zero, ◌≤◌, true, false, if◌then◌else◌, ◌&&◌, List, [], Some, None}
use Rattle.std.proofs.Common.{Result, Ok, Err, refl, sym, ap, ap₂, ◌∙◌, subst, arith}
use Rattle.std.specs.Prelude.{nat_le}
use Rattle.std.proofs.lemmas.Bool.{and_parts, leb-true}
use Rattle.pf_choice.specs.Chosen.{IsProfile}
use Rattle.pf_errors.specs.declared.code.Code.{Code}
use Rattle.pf_errors.specs.declared.code.Code.TheVariants as code
use Rattle.pf_errors.specs.declared.fault.OrNoMemory.{OrNoMemory}
use Rattle.pf_errors.specs.declared.fault.OrNoMemory.TheVariants.{NoMemory, Fault}
use Rattle.pf_model.specs.Limits.{IsEdition, is_in_range}
use Rattle.pf_model.specs.Meaning.{Choices, schedule, seed, weighted_seed, profile_of}
use Rattle.pf_model.specs.Properties.{Property}
use Rattle.pf_check.specs.Reading.{IsReadAs}
use Rattle.pf_property.specs.Texts.{IsPropertyOf, ReadsProperty}
use Rattle.pf_property.proofs.AnyProperty.{any_property}
use Rattle.pf_check.specs.Module.{ReadModule}
use Rattle.pf_request.specs.Request.{RequestKind, run, shrink, Request, choices_in, count_of, is_within, may_shrink}
use Rattle.pf_request.specs.Request.{may_weigh, runs_in}
use Rattle.pf_request.specs.Job.{Job, job_from, reseeded, root_in, with_root, within_bounds as bounded}
use Rattle.pf_sched.specs.declared.refusal.JobRefusal.{JobRefusal}
use Rattle.pf_sched.specs.Asked.{Asks, IsRefusal, IsValid, NoSuch, module_of_job}

-- what is shrunk is a schedule
is_schedule : (k : RequestKind) → (runs_in k ≡ zero) ⊎ ((ns : List ℕ) × (choices_in k ≡ schedule ns))
is_schedule (run cs) = inl refl
is_schedule (shrink ns runs) = inr (ns, refl)

few_runs : (k : RequestKind) → may_shrink k ≡ true → runs_in k ≤ 1000
few_runs (run cs) e = omega arith
few_runs (shrink ns k) e = leb-true k 1000 (and_parts (nat_le 1 k) (nat_le k 1000) e).1

module _ (m : ReadModule) (e : ℕ) (r : Request) where
  -- ---- refusals

  -- where there is no root
  pub no_root : root_in m r.root ≡ None → Asks m e r (Err code.NoRoot)
  no_root none =
      let q = any_property m.code.atoms r.property in
      (q.0, q.1, ap (λ o. with_root m e o q.0 r) none)

  module _ (i : ℕ) (root : root_in m r.root ≡ Some i) where
    -- what is no property is refused so, after its root
    pub no_property : (bytes : List ℕ) → bytes ≡ r.property → (f : OrNoMemory JobRefusal) → NoSuch m.code.atoms bytes f
        → IsRefusal (Asks m e r) f
    no_property bytes same NoMemory h = tt
    no_property bytes same (Fault f) h = (
      None,
      subst (λ b. IsPropertyOf m.code.atoms b None) same h.1,
      ap (λ o. with_root m e o None r) root ∙ ap (λ c. Err c) (sym h.0),
    )

    module _ (q : Property) (reads : ReadsProperty m.code.atoms r.property q) where
      leads_to : (x : Result Job Code) → bounded r (job_from m e i q r) ≡ x → Asks m e r x
      leads_to x is = (Some q, reads, ap (λ o. with_root m e o (Some q) r) root ∙ is)

      -- then what is out of its range
      pub out_of_range : is_within r ≡ false → Asks m e r (Err code.OutOfRange)
      out_of_range unfit =
          leads_to (Err code.OutOfRange)
          (ap (λ b. if b then (if may_weigh (choices_in r.kind) then Ok (job_from m e i q r)
          else Err code.WeightsOutOfRange) else Err code.OutOfRange) unfit)

      within : (x : Result Job Code) → is_within r ≡ true
          → (if may_weigh (choices_in r.kind) then Ok (job_from m e i q r) else Err code.WeightsOutOfRange) ≡ x
          → Asks m e r x
      within x fits is =
          leads_to x
          (ap (λ b. if b then (if may_weigh (choices_in r.kind) then Ok (job_from m e i q r)
          else Err code.WeightsOutOfRange) else Err code.OutOfRange) fits ∙ is)

      -- then weights that are
      pub bad_weights : is_within r ≡ true → may_weigh (choices_in r.kind) ≡ false
          → Asks m e r (Err code.WeightsOutOfRange)
      bad_weights fits unfit = within (Err code.WeightsOutOfRange) fits
          (ap (λ b. if b then Ok (job_from m e i q r) else Err code.WeightsOutOfRange) unfit)

      -- ---- jobs

      -- the job of a request whose kind is shared
      abbrev pub shared : RequestKind → Job
      shared k = job_from m e i q (record r { kind = k })

      pub is_asked : (k : RequestKind) → k ≡ r.kind → is_within r ≡ true → may_weigh (choices_in r.kind) ≡ true
          → Asks m e r (Ok (shared k))
      is_asked k same fits weighs =
          within (Ok (shared k)) fits
          (ap (λ b. if b then Ok (job_from m e i q r) else Err code.WeightsOutOfRange) weighs
          ∙ ap (λ z. Ok (shared z)) (sym same))

      -- and it is valid
      pub is_valid : (name : List ℕ) → root_in m name ≡ Some i → IsReadAs m.source m → (k : RequestKind) → k ≡ r.kind
          → is_within r ≡ true
          → may_weigh (choices_in r.kind) ≡ true → IsEdition e → IsValid (shared k) × (may_shrink k ≡ true)
      is_valid name named read k same fits weighs edition =
          let parts = and_parts (is_in_range r.limit (count_of (choices_in r.kind))) (may_shrink r.kind) fits in
          let shrinks = ap may_shrink same ∙ parts.1 in (
            record {
              read = read;
              name = name;
              root = named;
              limit = ap (λ z. is_in_range r.limit (count_of (choices_in z))) same ∙ parts.0;
              runs = few_runs k shrinks;
              shrinks = is_schedule k;
              weighs = ap (λ z. may_weigh (choices_in z)) same ∙ weighs;
              edition = edition;
            },
            shrinks,
          )

-- a valid job is within bounds
pub within_bounds : (j : Job) → IsValid j → (j.asked.limit ≤ 100000) × (j.asked.runs ≤ 1000)
within_bounds j valid =
    let range = and_parts (nat_le 1 j.asked.limit)
    (nat_le j.asked.limit 100000 && nat_le (count_of j.asked.choices) 100000) valid.limit in
    let limit = (and_parts (nat_le j.asked.limit 100000) (nat_le (count_of j.asked.choices) 100000) range.1).0 in
    (leb-true j.asked.limit 100000 limit, valid.runs)

-- weights that may be given are those of a profile
pub is_profile : (cs : Choices) → may_weigh cs ≡ true → IsProfile (profile_of cs)
is_profile (seed n) e = tt
is_profile (schedule ns) e = tt
is_profile (weighted_seed n process channel) e =
    let a = and_parts (nat_le 1 process) (nat_le process 9 && (nat_le 1 channel && nat_le channel 9)) e in
    let b = and_parts (nat_le process 9) (nat_le 1 channel && nat_le channel 9) a.1 in
    let d = and_parts (nat_le 1 channel) (nat_le channel 9) b.1 in
    record {
      run_least = leb-true 1 process a.0;
      run_most = leb-true process 9 b.0;
      deliver_least = leb-true 1 channel d.0;
      deliver_most = leb-true channel 9 d.1;
    }

-- ---- by a seed

-- the weights of a seed's choices may be given as those of the job's own may
pub weighs_reseeded : (cs : Choices) (s : ℕ) → may_weigh cs ≡ true → may_weigh (reseeded cs s) ≡ true
weighs_reseeded (seed n) s e = refl
weighs_reseeded (schedule ns) s e = refl
weighs_reseeded (weighted_seed n process channel) s e = e
