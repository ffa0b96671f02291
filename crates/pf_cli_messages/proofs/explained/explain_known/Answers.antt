use Rattle.std.proofs.Common.{subst}
use Rattle.pf_positions.specs.Placed.{ArePlaces}
use Rattle.pf_process_status.proofs.Survivors.{if_ok}
use Rattle.pf_cli_messages.specs.Explained.{AreStatusLines}
use Rattle.pf_cli_messages.proofs.explained.explain_known.Goals as goal

pub returns : goal.returns
returns c =
    if_ok c.lines_of.result
    (λ text lines. record {
      places = c.in_ok-places.places;
      are_places = subst (λ m. ArePlaces m c.args.source.now c.in_ok-places.places) c.deref.ensures
          c.in_ok-places.ensures;
      standings = c.in_ok-standings.standings.items;
      are_there = c.in_ok-standings.ensures.are_there;
      points = c.in_ok-standings.ensures.points;
      lines = subst (λ xs. AreStatusLines c.args.run.now c.in_ok-places.places xs text.items)
          c.as_slice.ensures.value lines;
    })
    c.lines_of.ensures
