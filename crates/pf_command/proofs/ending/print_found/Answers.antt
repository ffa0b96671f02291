use Rattle.std.proofs.Common.{◌≡◌, ◌++◌, ℕ, List, None, Some, map, ap, sym, ◌∙◌, subst}
use Rattle.std.specs.Prelude.{Option, option_map}
use Rattle.std.specs.Io.KnownBytes.{Appends}
use Rattle.pf_model.specs.Meaning.{Report}
use Rattle.pf_model.specs.Properties.{Property}
use Rattle.pf_model.specs.Reports.{view_of_report}
use Rattle.pf_property.specs.Views.{property_of}
use Rattle.pf_verdicts.specs.Causes.{cause_of}
use Rattle.pf_hunt.specs.Views.{further_of}
use Rattle.pf_verdicts.specs.declared.cause.FailureCause.{FailureCause}
use Rattle.pf_cli.specs.Args.{view_of_hunt_args}
use Rattle.pf_cli.specs.declared.args.HuntGoal.TheVariants.{Failure}
use Rattle.pf_streams.specs.Streams.{AppendsFront}
use Rattle.pf_trace.proofs.Fronts.{front_of_more}
use Rattle.pf_command.specs.Hunts.{PrintsReport, PrintsShrinking, PrintsSought, choices_of, named_property, reported_by}
use Rattle.pf_command.specs.Hunts.{seed_text, shrunk_property}
use Rattle.pf_command.specs.Streams.{PrintsAnswer}
use Rattle.pf_command.proofs.Found.{may_be_reported, prints_report, prints_shrinking}
use Rattle.pf_command.proofs.Streaming.{prints_after, printed_fault}
use Rattle.pf_command.proofs.ending.print_found.Goals as goal

pub returns-in_err-print_seed : goal.returns-in_err-print_seed
returns-in_err-print_seed g c bytes ns of least =
    let h = view_of_hunt_args c.args.found.args.now in
    let f = c.args.found in
    let ps = further_of f.hunt in
    let s = f.failure.seed in
    let r = view_of_report f.failure.report in
    let k = cause_of ps r in
    let why : c.cause_of-cause.result ≡ k =
    c.cause_of-cause.ensures ∙ ap (λ xs. cause_of (map property_of xs) r) c.as_slice.ensures.value in
    let named : option_map (λ s. s.now) c.named_property.result ≡ named_property h k =
    c.named_property.ensures ∙ ap (named_property h) why in
    let head = seed_text s (named_property h k) h.strategy (choices_of r) in
    let m = may_be_reported h bytes f.hunt.job ps ns s r f.runs least in
    let front = subst (λ (n : Option (List ℕ)). AppendsFront
    (g.W.Write.contents c.args.writer.now.inner) (g.W.Write.contents c.print_seed.new.writer.inner)
    (seed_text s n h.strategy (choices_of r))) named
    c.in_err-print_seed.ensures.front in
    printed_fault (PrintsSought h bytes f.hunt.job ps ns (Failure f.runs)) _ _ _ _ c.from_residual.result
    c.in_err-print_seed.field-0.0 c.from_residual.ensures (
      head ++ m.0,
      m.1,
      m.2,
      front_of_more _ _ head m.0 front,
      c.in_err-print_seed.ensures.counted,
    )

pub returns-in-Some : goal.returns-in-Some
returns-in-Some g c bytes ns of least =
    let h = view_of_hunt_args c.args.found.args.now in
    let f = c.args.found in
    let ps = further_of f.hunt in
    let s = f.failure.seed in
    let r = view_of_report f.failure.report in
    let k = cause_of ps r in
    let why : c.cause_of-cause.result ≡ k =
    c.cause_of-cause.ensures ∙ ap (λ xs. cause_of (map property_of xs) r) c.as_slice.ensures.value in
    let named : option_map (λ s. s.now) c.named_property.result ≡ named_property h k =
    c.named_property.ensures ∙ ap (named_property h) why in
    let by : c.shrunk_property-property.result.now ≡ shrunk_property h k =
    c.shrunk_property-property.ensures ∙ ap (shrunk_property h) why in
    let written = subst (λ (n : Option (List ℕ)). Appends
    (g.W.Write.contents c.args.writer.now.inner) (g.W.Write.contents c.print_seed.new.writer.inner)
    (seed_text s n h.strategy (choices_of r))) named
    c.in_ok-print_seed.ensures.written in
    let shrunk = subst (λ (p : List ℕ). PrintsAnswer (PrintsShrinking h p bytes r c.in-Some.runs)
    (g.W.Write.contents c.print_seed.new.writer.inner) (g.W.Write.contents c.print_shrunk.new.writer.inner)
    c.print_seed.new.writer.failures.total c.print_shrunk.new.writer.failures.total c.print_shrunk.result) by
    (c.print_shrunk.ensures bytes of) in
    let printed =
    prints_after (PrintsShrinking h (shrunk_property h k) bytes r c.in-Some.runs)
    (PrintsSought h bytes f.hunt.job ps ns (Failure (Some c.in-Some.runs)))
    (seed_text s (named_property h k) h.strategy (choices_of r)) _ _ _ _ _ _
    c.print_shrunk.result written c.in_ok-print_seed.ensures.kept
    (λ t z reports. prints_shrinking h bytes f.hunt.job ps ns s r c.in-Some.runs t z least reports) shrunk in
    subst
    (λ o.
    PrintsAnswer (PrintsSought h bytes f.hunt.job ps ns (Failure o)) (g.W.Write.contents c.args.writer.now.inner)
    (g.W.Write.contents c.print_shrunk.new.writer.inner)
    c.args.writer.now.failures.total c.print_shrunk.new.writer.failures.total c.print_shrunk.result)
    (sym c.in-Some.is) printed

pub returns : goal.returns
returns g c bytes ns of least =
    let h = view_of_hunt_args c.args.found.args.now in
    let f = c.args.found in
    let ps = further_of f.hunt in
    let s = f.failure.seed in
    let r = view_of_report f.failure.report in
    let k = cause_of ps r in
    let why : c.cause_of-cause.result ≡ k =
    c.cause_of-cause.ensures ∙ ap (λ xs. cause_of (map property_of xs) r) c.as_slice.ensures.value in
    let named : option_map (λ s. s.now) c.named_property.result ≡ named_property h k =
    c.named_property.ensures ∙ ap (named_property h) why in
    let written = subst (λ (n : Option (List ℕ)). Appends
    (g.W.Write.contents c.args.writer.now.inner) (g.W.Write.contents c.print_seed.new.writer.inner)
    (seed_text s n h.strategy (choices_of r))) named
    c.in_ok-print_seed.ensures.written in
    let report : view_of_report c.reported.result ≡ reported_by k r =
    c.reported.ensures ∙ ap (λ (z : FailureCause). reported_by z r) why in
    let said = subst (λ (x : Report). PrintsAnswer (PrintsReport f.hunt.job x)
    (g.W.Write.contents c.print_seed.new.writer.inner) (g.W.Write.contents c.print_failure.new.writer.inner)
    c.print_seed.new.writer.failures.total c.print_failure.new.writer.failures.total c.print_failure.result) report
    c.print_failure.ensures in
    let printed =
    prints_after (PrintsReport f.hunt.job (reported_by k r)) (PrintsSought h bytes f.hunt.job ps ns (Failure None))
    (seed_text s (named_property h k) h.strategy (choices_of r)) _ _ _ _ _ _
    c.print_failure.result written c.in_ok-print_seed.ensures.kept
    (λ t z reports. prints_report h bytes f.hunt.job ps ns s r t z least reports) said in
    subst
    (λ o.
    PrintsAnswer (PrintsSought h bytes f.hunt.job ps ns (Failure o)) (g.W.Write.contents c.args.writer.now.inner)
    (g.W.Write.contents c.print_failure.new.writer.inner)
    c.args.writer.now.failures.total c.print_failure.new.writer.failures.total c.print_failure.result)
    (sym c.in-None.is) printed
