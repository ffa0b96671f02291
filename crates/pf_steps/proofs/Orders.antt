-- What is reported of a ticket is the result, in the language, of the job that its order asked for.
use Rattle.std.proofs.Common.{◌≡◌, ℕ, zero, suc, ◌≤◌, Bool, true, false, ◌&&◌, List, Option, Some, None, refl, sym, ap}
use Rattle.std.proofs.Common.{subst, arith}
use Rattle.std.specs.Prelude.{Ok, Err, if◌then◌else◌, nat_le}
use Rattle.std.proofs.lemmas.Bool.Decides.{nat_tests}
use Rattle.pf_choice.specs.Chosen.{IsProfile}
use Rattle.pf_errors.specs.declared.code.Code.TheVariants.{OutOfRange, WeightsOutOfRange}
use Rattle.pf_check.specs.Reads.{ReadOutcome, accepted, refused, Reads}
use Rattle.pf_check.proofs.AnyOutcome.{any_outcome}
use Rattle.pf_model.specs.Evaluation.{evaluated}
use Rattle.pf_model.specs.Limits.{is_in_range}
use Rattle.pf_model.specs.Meaning as model
use Rattle.pf_model.specs.Meaning.{Choices, Report, Means, seed, schedule, weighted_seed, profile_of}
use Rattle.pf_model.specs.Module.{Module}
use Rattle.pf_model.specs.Properties.{Property}
use Rattle.pf_model.specs.Shrinking.{Found, IsResult, plain, smaller, no_failure, ReportsFailures, by_schedule}
use Rattle.pf_model.specs.Shrinking.{is_failure, shrunk}
use Rattle.pf_model.proofs.Meanings.{evaluation_is_the_meaning, only_evaluated}
use Rattle.pf_property.specs.Texts.{IsPropertyOf}
use Rattle.pf_property.proofs.AnyProperty.{any_property}
use Rattle.pf_request.specs.Job.{Job, root_in, job_from, within_bounds, with_root, job_of}
use Rattle.pf_check.specs.Module.{ReadModule}
use Rattle.pf_request.specs.Request.{Request, RequestKind, run, shrink, choices_in, runs_in, count_of, may_weigh}
use Rattle.pf_request.specs.Request.{may_shrink, is_within}
use Rattle.pf_desks.specs.Desk.{readable}
use Rattle.pf_book.specs.Profile.{reading_from}
use Rattle.pf_farm_laws.specs.Orders as histories
use Rattle.pf_farm_laws.specs.Orders.{edition_after}
use Rattle.pf_farm_laws.proofs.Orders.{reports_are_of_their_orders}
use Rattle.pf_steps.specs.Profile.{profile, run_profile, fails_by, shrunk_so, job_result}
use Rattle.pf_steps.specs.Orders.{ReportsAreOfTheLanguage}

-- ---- sources and properties

read_from : (bytes : List ℕ) (o : ReadOutcome) (m : Module) → Reads bytes o → reading_from o ≡ readable m
    → Reads bytes (accepted m.name m.atoms m.functions)
read_from bytes (accepted n a f) m reads is =
    let same : record { name = n; atoms = a; functions = f } ≡ m = cc in
    subst (λ (x : Module). Reads bytes (accepted x.name x.atoms x.functions)) same reads
read_from bytes (refused c at) m reads is = absurd (cc)

reads_so : (bytes : List ℕ) (m : Module) → run_profile.profile.reading bytes ≡ readable m
    → Reads bytes (accepted m.name m.atoms m.functions)
unfolding run_profile profile
reads_so bytes m h = let any = any_outcome bytes in read_from bytes any.0 m any.1 h

property_so : (names : List (List ℕ)) (bytes : List ℕ)
    → IsPropertyOf names bytes (run_profile.profile.property names bytes)
unfolding run_profile profile
property_so names bytes = (any_property names bytes).1

-- a job is only of bytes that are a property
some_property : (m : ReadModule) (e : ℕ) (o : Option Property) (q : Request) (j : Job) → job_of m e o q ≡ Ok j
    → (p : Property) × (o ≡ Some p)
some_property m e (Some p) q j h = (p, refl)
some_property m e None q j h = by (root_in m q.root) h
  where
    by : (o : Option ℕ) → with_root m e o None q ≡ Ok j → (p : Property) × (None ≡ Some p)
    by None h = absurd (cc)
    by (Some i) h = absurd (cc)

-- ---- the result of a request's job is the one that it has in the language

both_are : (a b : Bool) → (a && b) ≡ true → (a ≡ true) × (b ≡ true)
both_are true b h = (refl, h)
both_are false b h = absurd (cc)

at_most : (a b : ℕ) → nat_le a b ≡ true → a ≤ b
at_most a b h = grind (arith, nat_tests)

weigh_so : (cs : Choices) → may_weigh cs ≡ true → IsProfile (profile_of cs)
weigh_so (seed n) h = tt
weigh_so (schedule ns) h = tt
weigh_so (weighted_seed n process channel) h =
    let a = both_are (nat_le 1 process) (nat_le process 9 && (nat_le 1 channel && nat_le channel 9)) h in
    let b = both_are (nat_le process 9) (nat_le 1 channel && nat_le channel 9) a.1 in
    let c = both_are (nat_le 1 channel) (nat_le channel 9) b.1 in
    record {
      run_least = at_most 1 process a.0;
      run_most = at_most process 9 b.0;
      deliver_least = at_most 1 channel c.0;
      deliver_most = at_most channel 9 c.1;
    }

reports : (j : model.Job) → ReportsFailures j (fails_by j)
reports j ns r means = ap (λ (s : Report). is_failure s.verdict) (sym (only_evaluated (by_schedule j ns) r means))

shrinks_so : (j : model.Job) (k : ℕ) (ns : List ℕ) → j.runs ≡ suc k → j.choices ≡ schedule ns
    → IsResult j (job_result j (suc k) (schedule ns))
shrinks_so j k ns runs choices = by (shrunk (fails_by j) (suc k) ns) refl
  where
    by : (o : Option Found) → shrunk (fails_by j) (suc k) ns ≡ o → IsResult j (shrunk_so j o)
    by None h = no_failure k ns (fails_by j) runs choices (reports j) h
    by (Some f) h =
        smaller k ns (fails_by j) f (evaluated (by_schedule j f.schedule)) runs choices (reports j) h
        (evaluation_is_the_meaning (by_schedule j f.schedule) tt)

comes_so : (j : model.Job) (kind : RequestKind) → j.runs ≡ runs_in kind → j.choices ≡ choices_in kind
    → may_shrink kind ≡ true → may_weigh (choices_in kind) ≡ true
    → IsResult j (job_result j j.runs j.choices)
comes_so j (run cs) runs choices may weighs =
    subst (λ (n : ℕ). IsResult j (job_result j n j.choices)) (sym runs)
    (plain (evaluated j) runs (evaluation_is_the_meaning j
    (weigh_so j.choices (subst (λ (x : Choices). may_weigh x ≡ true) (sym choices) weighs))))
comes_so j (shrink ns zero) runs choices may weighs = absurd (cc)
comes_so j (shrink ns (suc k)) runs choices may weighs =
    subst (λ (x : ℕ × Choices). IsResult j (job_result j x.0 x.1)) (λ i. (sym runs i, sym choices i))
    (shrinks_so j k ns runs choices)

means_so : (j : model.Job) → IsResult j (job_result j j.runs j.choices) → IsResult j (run_profile.profile.meaning j)
unfolding run_profile profile
means_so j h = h

within_so : (q : Request) (x j : Job) → within_bounds q x ≡ Ok j
    → (is_within q ≡ true) × (may_weigh (choices_in q.kind) ≡ true) × (x ≡ j)
within_so q x j h = by (is_within q) (may_weigh (choices_in q.kind)) refl refl h
  where
    by : (a b : Bool) → is_within q ≡ a → may_weigh (choices_in q.kind) ≡ b
        → (if a then (if b then Ok x else Err WeightsOutOfRange) else Err OutOfRange) ≡ Ok j
        → (is_within q ≡ true) × (may_weigh (choices_in q.kind) ≡ true) × (x ≡ j)
    by true true a b h = (a, b, cc)
    by true false a b h = absurd (cc)
    by false b a b' h = absurd (cc)

job_so : (m : ReadModule) (e : ℕ) (p : Property) (q : Request) (j : Job) → job_of m e (Some p) q ≡ Ok j
    → IsResult j.asked (run_profile.profile.meaning j.asked)
job_so m e p q j h = by (root_in m q.root) h
  where
    by : (o : Option ℕ) → with_root m e o (Some p) q ≡ Ok j → IsResult j.asked (run_profile.profile.meaning j.asked)
    by None h = absurd (cc)
    by (Some i) h =
        let x : Job = job_from m e i p q in
        let may : _ = within_so q x j h in
        let ranged = both_are (is_in_range q.limit (count_of (choices_in q.kind))) (may_shrink q.kind) may.0 in
        subst (λ (y : Job). IsResult y.asked (run_profile.profile.meaning y.asked)) may.2
        (means_so x.asked (comes_so x.asked q.kind refl refl ranged.1 may.1))

-- ---- orders

pub reports_are_of_the_language : ReportsAreOfTheLanguage
reports_are_of_the_language d before between after n q t atoms r legal is none =
    let own : _ = reports_are_of_their_orders run_profile.profile d before between after n q t atoms r legal is none in
    let j : Job = own.0 in
    let asks : histories.AsksFor run_profile.profile before n q j = own.1 in
    let m : ReadModule = record { source = asks.source; code = asks.code } in
    let some : _ = some_property m (edition_after 1 before) (run_profile.profile.property asks.code.atoms q.property)
    q j asks.job in
    let job : job_of m (edition_after 1 before) (Some some.0) q ≡ Ok j =
    subst (λ (o : Option Property). job_of m (edition_after 1 before) o q ≡ Ok j) some.1 asks.job in (
      j,
      record {
        source = asks.source;
        code = asks.code;
        property = some.0;
        submitted = asks.submitted;
        read = reads_so asks.source asks.code asks.read;
        bytes = subst (IsPropertyOf asks.code.atoms q.property) some.1 (property_so asks.code.atoms q.property);
        job = job;
      },
      own.2,
      subst (IsResult j.asked) (sym own.3) (job_so m (edition_after 1 before) some.0 q j job),
    )
