use Rattle.std.proofs.Common.{ap}
use Rattle.pulsefarm.proofs.Beginning.{from_equal}
use Rattle.pulsefarm.proofs.try_all.Goals as goal

pub returns : goal.returns
returns g c = (
  _,
  from_equal g.R.Opens.opens g.R.Opens.makes g.R.Opens.refuses g.R.Opens.bars g.R.Stream.Read.remaining
      g.R.Stream.Write.contents g.R.GivesWords.gives _ _ _ _ _ _ _ _ _ c.answer_words.result
      (ap g.I.Read.remaining c.new-reader.ensures.inner) (ap g.W.Write.contents c.new-writer.ensures.inner)
      c.new-reader.ensures.failures c.new-writer.ensures.failures c.answer_words.ensures,
)
