use Rattle.std.proofs.Common.{◌≡◌, ◌+◌, None, length, arith}
use Rattle.pf_shrink.specs.Hunts.{next_of}
use Rattle.pf_sched.specs.Parts.{events_in}
use Rattle.pf_sched.specs.Views.{result_of}
use Rattle.pf_sched.proofs.Hunted.{hunt_comes, hunt_has}
use Rattle.pf_sched.proofs.Shrunk.{opens_next, opens_none}
use Rattle.pf_model.specs.Meaning.{schedule}
use Rattle.pf_sched.specs.Choosing.{choices}
use Rattle.pf_sched.proofs.shrinking.begin.Goals as goal

pub returns-in_ok-new-in-Some : goal.returns-in_ok-new-in-Some
returns-in_ok-new-in-Some c =
    let o = opens_next (next_of c.args.hunt) c.in-Some.choices (rw c.in-Some.is at c.in_ok-choices.ensures) in
    let first : length (events_in c.in_ok-new-in-Some.field-0) ≡ 0 = c.in_ok-new-in-Some.ensures.first in
    let at : c.args.before + length (events_in c.in_ok-new-in-Some.field-0) ≡ c.args.before = omega arith in (
      record {
        hunt = c.requires.hunt;
        report = c.requires.report;
        next = o.0;
        is_next = o.1;
        run =
            c.in_ok-new-in-Some.ensures.run (choices (schedule o.0)) o.2;
      },
      at,
      omega arith,
    )

pub returns-in_ok-found-in-None : goal.returns-in_ok-found-in-None
returns-in_ok-found-in-None c =
    let j = c.args.job.now in
    let e : next_of c.args.hunt ≡ None = opens_none (next_of c.args.hunt)
    (rw c.in-None.is at c.in_ok-choices.ensures) in (
      (
        hunt_comes j.asked c.args.hunt c.args.before c.requires.hunt e (result_of c.in_ok-found-in-None.field-0)
            (c.in_ok-found-in-None.ensures.reported j c.requires.report),
        (c.args.before, hunt_has j.asked c.args.hunt c.args.before c.requires.hunt e, omega arith),
      ),
      c.in_ok-found-in-None.ensures.written j c.requires.report,
    )
