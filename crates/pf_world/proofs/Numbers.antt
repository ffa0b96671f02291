-- The numbers that a project hears count up.
use Rattle.std.proofs.Common.{List, sym, subst}
use Rattle.std.specs.Prelude.{filter_map}
use Rattle.pf_desks.specs.Desk.{no_desk}
use Rattle.pf_desks.specs.Numbers.{ReportEachOnce}
use Rattle.pf_desks.specs.Desks.{DeskStep}
use Rattle.pf_desks.proofs.Numbered.{numbers_along, tickets_along}
use Rattle.pf_world.specs.Steps.{all_responses}
use Rattle.pf_world.specs.Alone.{own_part, at_desk}
use Rattle.pf_world.specs.Laws.{NumbersAmongWorkers}
use Rattle.pf_world.proofs.Isolated.{isolated}

pub numbers : NumbersAmongWorkers
numbers p n q xs =
    let own : List DeskStep = filter_map at_desk (own_part q xs (all_responses p n xs)) in
    subst ReportEachOnce (sym (isolated p n q xs)) (
      numbers_along p.profile no_desk own,
      tickets_along p.profile no_desk own,
    )
