use Rattle.std.proofs.Common.{ap}
use Rattle.pf_cli.specs.Args.{steps}
use Rattle.pf_words.proofs.Ends.{opened}
use Rattle.pf_words.proofs.steps.answer_file.Goals as goal

pub returns : goal.returns
returns g c = (
  c.answer_steps-answered.new.reader.failures.total,
  opened steps (g.F.Read.remaining c.args.file) (g.F.Read.remaining c.new-reader.result.inner) _ _ _ _
      c.answer_steps-answered.result
      (ap g.F.Read.remaining c.new-reader.ensures.inner) c.new-reader.ensures.failures
      (c.answer_steps-answered.ensures.ended, c.answer_steps-answered.ensures.taken),
)
