use Rattle.std.proofs.Common.{◌∙◌, arith, inl, length, map, refl}
use Rattle.std.specs.Prelude.{option_map}
use Rattle.std.specs.String.{string_bytes}
use Rattle.std.proofs.lemmas.List.{length-map}
use Rattle.pf_cli.specs.Args.{view_of_farm_args}
use Rattle.pulsefarm.proofs.Farms.{run_over, run_to}
use Rattle.pulsefarm.proofs.Given.{each_count, runs_over}
use Rattle.pulsefarm.proofs.farm.answer.Goals as goal

pub run_by-answered-requires-clause-sources : goal.run_by-answered-requires-clause-sources
run_by-answered-requires-clause-sources g c =
    let each = rw c.in-Some.is at c.in_ok-sources.ensures.sources in
    let count = each_count _ 1 (map (λ w. w.now) c.deref.result.now) c.in-Some.sources.items each
    ∙ length-map c.deref.result.now (λ w. w.now) in
    let len = c.deref.ensures.len in
    let ok = c.in-Some.sources.ok in
    let some = c.args.args.now.some_files in
    λ lives outlive. (omega (arith, count, len, ok, some.0), omega (arith, count, len, ok, some.1))

pub returns-in-Err-Fault-Read : goal.returns-in-Err-Fault-Read
returns-in-Err-Fault-Read g c =
    let opens = g.R.Opens.opens in
    let makes = g.R.Opens.makes in
    let refuses = g.R.Opens.refuses in
    let bars = g.R.Opens.bars in
    let remaining = g.R.Stream.Read.remaining in
    let contents = g.R.Stream.Write.contents in
    let args = view_of_farm_args c.args.args.now in
    let each = rw (c.in-Some.is, c.deref.ensures.value) at c.in_ok-sources.ensures.sources in
    let runs = runs_over opens makes refuses bars remaining contents (λ x. x.name.now) (λ x. x.file)
    (λ x. option_map (λ s. string_bytes s) x.replies) args c.in-Some.sources.items _ _ _ _ c.run_by-answered.result
    each c.run_by-answered.ensures in
    record {
      answers = λ given h.
          run_to opens makes refuses bars remaining contents args _ _ _ _ c.run_by-answered.result _
          c.in-Err-Fault-Read.is runs given (inl h);
      reason = run_over opens makes refuses bars remaining contents _ args _ _ _ _ c.run_by-answered.result _
          c.in-Err-Fault-Read.is runs _ (inl refl);
    }

pub returns-in-Err : goal.returns-in-Err
returns-in-Err g c =
    let opens = g.R.Opens.opens in
    let makes = g.R.Opens.makes in
    let refuses = g.R.Opens.refuses in
    let bars = g.R.Opens.bars in
    let remaining = g.R.Stream.Read.remaining in
    let contents = g.R.Stream.Write.contents in
    let args = view_of_farm_args c.args.args.now in
    let each = rw (c.in-Some.is, c.deref.ensures.value) at c.in_ok-sources.ensures.sources in
    let runs = runs_over opens makes refuses bars remaining contents (λ x. x.name.now) (λ x. x.file)
    (λ x. option_map (λ s. string_bytes s) x.replies) args c.in-Some.sources.items _ _ _ _ c.run_by-answered.result
    each c.run_by-answered.ensures in
    record {
      answers = λ given fails.
          run_to opens makes refuses bars remaining contents args _ _ _ _ c.run_by-answered.result _ c.in-Err.is runs
          given fails;
      reason = tt;
    }

pub returns : goal.returns
returns g c =
    let opens = g.R.Opens.opens in
    let makes = g.R.Opens.makes in
    let refuses = g.R.Opens.refuses in
    let bars = g.R.Opens.bars in
    let remaining = g.R.Stream.Read.remaining in
    let contents = g.R.Stream.Write.contents in
    let args = view_of_farm_args c.args.args.now in
    let each = rw (c.in-Some.is, c.deref.ensures.value) at c.in_ok-sources.ensures.sources in
    let runs = runs_over opens makes refuses bars remaining contents (λ x. x.name.now) (λ x. x.file)
    (λ x. option_map (λ s. string_bytes s) x.replies) args c.in-Some.sources.items _ _ _ _ c.run_by-answered.result
    each c.run_by-answered.ensures in
    record {
      answers = λ given h.
          run_to opens makes refuses bars remaining contents args _ _ _ _ c.run_by-answered.result _ c.in-Ok.is runs
          given h;
      reason = run_over opens makes refuses bars remaining contents _ args _ _ _ _ c.run_by-answered.result _
          c.in-Ok.is runs _ refl;
    }
