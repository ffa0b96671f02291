-- What a hunt asks for.
use Rattle.std.proofs.Common.{◌≡◌, ℕ, List, Ok, Err, refl, sym, ap, ◌∙◌, subst}
use Rattle.std.specs.Prelude.{Result, MatchResult}
use Rattle.pf_errors.specs.declared.code.Code.{Code}
use Rattle.pf_errors.specs.declared.fault.OrNoMemory.{OrNoMemory}
use Rattle.pf_errors.specs.declared.fault.OrNoMemory.TheVariants.{NoMemory, Fault}
use Rattle.pf_check.specs.Module.{ReadModule}
use Rattle.pf_request.specs.Request.{Request}
use Rattle.pf_request.specs.Job.{Job}
use Rattle.pf_sched.specs.Asked.{Asks, IsRefusal}
use Rattle.pf_sched.specs.Views.{code_of}
use Rattle.pf_sched.specs.declared.refusal.JobRefusal.{JobRefusal}
use Rattle.pf_cli.specs.Args.{HuntArgs}
use Rattle.pf_cli.specs.declared.args.HuntGoal.{HuntGoal}
use Rattle.pf_check.specs.Reading.{IsModuleOf}
use Rattle.pf_verdicts.specs.Further.{AreRefused}
use Rattle.pf_command.specs.Hunts.{HuntAsksFor, IsNotHunted, IsRefusedAs, MayHunt, MayShrink, no_property, run_refused}
use Rattle.pf_command.specs.declared.answer.Output.{Output}
use Rattle.pf_command.proofs.Rows.{row_job_refused}

-- who is refused for one thing is refused for what that implies
pub refusal_weaker : (P Q : Result Job Code → Type 0) → ((code : Code) → P (Err code) → Q (Err code))
    → (e : OrNoMemory JobRefusal) → IsRefusal P e
    → IsRefusal Q e
refusal_weaker P Q w NoMemory h = h
refusal_weaker P Q w (Fault r) h = w (code_of r) h

-- the edition of what is asked for
pub asks_in : (m : ReadModule) (n e : ℕ) (r : Request) (x : Result Job Code) → n ≡ e → Asks m n r x → Asks m e r x
asks_in m n e r x same asks = subst (λ k. Asks m k r x) same asks

asked_of : (h : HuntArgs) (sought : HuntGoal) (m : ReadModule) (x : Result Job (OrNoMemory JobRefusal))
    → MayShrink h sought m
    → MatchResult x (λ j. Asks m h.edition h.request (Ok j)) (IsRefusal (Asks m h.edition h.request))
    → MatchResult x (λ j. MayShrink h sought m × Asks m h.edition h.request (Ok j)) (IsRefusal (HuntAsksFor h sought m))
asked_of h sought m (Ok j) may asks = (may, asks)
asked_of h sought m (Err e) may asks =
    refusal_weaker (Asks m h.edition h.request) (HuntAsksFor h sought m)
    (λ code is. run_refused sought m code may is) e asks

-- the run of a hunt is asked for, once its shrinking may be
pub asked_for : (h : HuntArgs) (sought : HuntGoal) (m k : ReadModule) (n : ℕ) (x : Result Job (OrNoMemory JobRefusal))
    → MayShrink h sought m
    → k ≡ m → n ≡ h.edition → MatchResult x (λ j. Asks k n h.request (Ok j)) (IsRefusal (Asks k n h.request))
    → MatchResult x (λ j. MayShrink h sought m × Asks m h.edition h.request (Ok j)) (IsRefusal (HuntAsksFor h sought m))
asked_for h sought m k n x may same_module same_edition asks =
    let of_module = subst (λ l. MatchResult x (λ j. Asks l n h.request (Ok j)) (IsRefusal (Asks l n h.request)))
    same_module asks in
    asked_of h sought m x may (subst (λ e. MatchResult x (λ j. Asks m e h.request (Ok j))
    (IsRefusal (Asks m e h.request))) same_edition of_module)

-- where a further text is no property, what is asked for is refused
pub further_refused : (h : HuntArgs) (m : ReadModule) (j : Job) (e : OrNoMemory Code) (code : Code) → MayHunt h m j
    → AreRefused m.code.atoms h.further e → e ≡ Fault code → HuntAsksFor h h.sought m (Err code)
further_refused h m j NoMemory code may refused is = absurd cc
further_refused h m j (Fault c) code may refused is =
    let same : c ≡ code = cc in
    subst (λ (k : Code). HuntAsksFor h h.sought m (Err k)) (sym refused.0 ∙ same)
    (no_property h.sought m j may.0 may.1 refused.1)

-- what is refused by a code isn't hunted
pub not_hunted : (h : HuntArgs) (bytes : List ℕ) (m : ReadModule) (e : OrNoMemory Code) (x : OrNoMemory Output)
    → IsModuleOf bytes m → ((code : Code) → e ≡ Fault code → HuntAsksFor h h.sought m (Err code)) → IsRefusedAs e x
    → IsNotHunted h bytes x
not_hunted h bytes m e NoMemory of why is = tt
not_hunted h bytes m NoMemory (Fault a) of why is = absurd is
not_hunted h bytes m (Fault c) (Fault a) of why is =
    row_job_refused (HuntAsksFor h h.sought) (λ j t s. ⊥) m bytes a c of (why c refl) is
