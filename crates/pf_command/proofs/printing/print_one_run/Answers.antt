use Rattle.pf_errors.specs.declared.fault.OrNoMemory.TheVariants.{NoMemory, Fault}
use Rattle.pf_command.proofs.BySeed.{printed_as, stopped_as}
use Rattle.pf_command.proofs.Counting.{run_counted, run_uncounted}
use Rattle.pf_command.proofs.Streaming.{run_printed, run_stopped, run_without_memory}
use Rattle.pf_command.proofs.printing.print_one_run.Goals as goal

pub returns-in-Ok-clause-reported : goal.returns-in-Ok-clause-reported
returns-in-Ok-clause-reported g c =
    let w = g.W.Write.contents c.args.writer.now.inner in
    let k = printed_as c.args.run.now.by_seed c.args.run.now.job c.in-Ok.printed _ _ c.args.run.now.is_run
    c.in-Ok.ensures.printed in (
      k.0,
      k.1,
      run_printed k.0 k.2 w w _ _ 0 _ c.in-Ok.printed c.run_status.result k.3 c.run_status.ensures
          c.in-Ok.ensures.kept,
    )

pub returns-in-Ok-clause-waits : goal.returns-in-Ok-clause-waits
returns-in-Ok-clause-waits g c =
    let w = g.W.Write.contents c.args.writer.now.inner in
    let k = printed_as c.args.run.now.by_seed c.args.run.now.job c.in-Ok.printed _ _ c.args.run.now.is_run
    c.in-Ok.ensures.printed in (
      k.0,
      k.1,
      run_counted k.0 k.2 c.args.waiting.now w w _ 0 0 0 c.in-Ok.printed c.run_status.result k.3 c.run_status.ensures,
    )

pub returns-in-Err-Fault-clause-reported : goal.returns-in-Err-Fault-clause-reported
returns-in-Err-Fault-clause-reported g c =
    let w = g.W.Write.contents c.args.writer.now.inner in
    let f = c.in-Err-Fault.fault in
    let k =
    stopped_as (Fault f) c.args.run.now.by_seed c.args.run.now.job _ _ _ _ c.args.run.now.is_run
    (rw c.in-Err-Fault.field-0-is at c.in-Err-Fault.ensures.fault) in
    (k.0, k.1, run_stopped k.0 k.2 w w _ _ 0 _ f k.3)

pub returns-in-Err-Fault-clause-waits : goal.returns-in-Err-Fault-clause-waits
returns-in-Err-Fault-clause-waits g c =
    let k =
    stopped_as (Fault c.in-Err-Fault.fault) c.args.run.now.by_seed c.args.run.now.job _ _ _ _ c.args.run.now.is_run
    (rw c.in-Err-Fault.field-0-is at c.in-Err-Fault.ensures.fault) in
    (k.0, k.1, tt)

pub returns-clause-reported : goal.returns-clause-reported
returns-clause-reported g c =
    let k =
    stopped_as NoMemory c.args.run.now.by_seed c.args.run.now.job _ _ _ _ c.args.run.now.is_run
    (rw c.in-Err-NoMemory.field-0-is at c.in-Err-NoMemory.ensures.fault) in
    (k.0, k.1, run_without_memory k.0 k.2 _ _ _ _ _ _ c.print_no_memory.result k.3 c.print_no_memory.ensures)

pub returns-clause-waits : goal.returns-clause-waits
returns-clause-waits g c =
    let k =
    stopped_as NoMemory c.args.run.now.by_seed c.args.run.now.job _ _ _ _ c.args.run.now.is_run
    (rw c.in-Err-NoMemory.field-0-is at c.in-Err-NoMemory.ensures.fault) in (
      k.0,
      k.1,
      run_uncounted k.0 k.2 c.args.waiting.now _ _ _ _ _ _ c.print_no_memory.result k.3 c.print_no_memory.ensures,
    )
