use Rattle.std.proofs.Common.{◌∙◌, sym, ap}
use Rattle.std.specs.Prelude.{is_some}
use Rattle.clap.specs.Words.{found_of, rows_of}
use Rattle.pf_cli.specs.Args.{view_of_hunt_args}
use Rattle.pf_cli.proofs.Reached.{clashing, values_refused, values_taken}
use Rattle.pf_cli.proofs.parse.hunt_args.Goals as goal

pub returns-in-Some-clause-err : goal.returns-in-Some-clause-err
returns-in-Some-clause-err c =
    let rows = rows_of (found_of c.args.rows.now) in
    clashing rows c.refuse_both.result (sym (ap is_some c.in-Some.is) ∙ c.clash.ensures.some) c.refuse_both.ensures

pub returns-in-None-clause-ok : goal.returns-in-None-clause-ok
returns-in-None-clause-ok c =
    let rows = rows_of (found_of c.args.rows.now) in
    values_taken rows c.hunt_values.result view_of_hunt_args (sym (ap is_some c.in-None.is) ∙ c.clash.ensures.some)
    c.hunt_values.ensures.ok

pub returns-in-None-clause-err : goal.returns-in-None-clause-err
returns-in-None-clause-err c =
    let rows = rows_of (found_of c.args.rows.now) in
    values_refused rows c.hunt_values.result (sym (ap is_some c.in-None.is) ∙ c.clash.ensures.some)
    c.hunt_values.ensures.err
