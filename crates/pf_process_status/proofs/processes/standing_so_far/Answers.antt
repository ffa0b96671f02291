use Rattle.pf_process_status.proofs.Survivors.{at_end, if_ok}
use Rattle.pf_process_status.proofs.processes.standing_so_far.Goals as goal

pub returns : goal.returns
returns c =
    let k = c.args.run.now in
    let f = c.in_ok-followed.followed in
    if_ok c.standing_in.result
    (λ v so d h. let g = c.in_ok-followed.ensures d h in at_end k d f v.items g (so d g.is_there g.begun.pids))
    c.standing_in.ensures
