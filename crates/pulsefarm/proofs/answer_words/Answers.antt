use Rattle.std.proofs.Common.{ap, ◌∙◌, inr, map, subst, sym, Ok}
use Rattle.std.specs.String.{string_bytes}
use Rattle.pf_cli.specs.Args.{view_of_farm_args}
use Rattle.pulsefarm.proofs.Beginning.{for_given}
use Rattle.pulsefarm.proofs.Farms.{from_beginning}
use Rattle.pulsefarm.proofs.answer_words.Goals as goal

pub returns : goal.returns
returns g c =
    let opens = g.R.Opens.opens in
    let makes = g.R.Opens.makes in
    let refuses = g.R.Opens.refuses in
    let bars = g.R.Opens.bars in
    let remaining = g.R.Stream.Read.remaining in
    let contents = g.R.Stream.Write.contents in
    let done = rw (c.in_ok-done.was, c.in-Farm.is) at c.obey.ensures in
    for_given opens makes refuses bars remaining contents g.R.GivesWords.gives
    (map (λ s. string_bytes s) c.deref.result.now) _ _ _ (Ok c.farm.result)
    (subst (λ ws. g.R.GivesWords.gives (map (λ s. string_bytes s) ws)) (sym c.deref.ensures.value)
    c.in_ok-given.ensures)
    (ap (λ ws. map (λ w. w.now) ws) c.deref-2.ensures.value ∙ c.in_ok-words.ensures)
    (inr (
      c.in-Farm.args,
      done.0,
      from_beginning opens makes refuses bars remaining contents (view_of_farm_args c.in-Farm.args) _ _ _ _ _ _ _
          done.1.0 done.1.1 c.farm.ensures,
    ))
