use Rattle.std.proofs.Common.{◌≡◌, ◌+◌, ◌*◌, ◌<◌, max, ap, arith}
use Rattle.pf_sched.proofs.Hunted.{past_bound}
use Rattle.pf_sched.proofs.slice.run_to_end.Goals as goal

pub loop-more-smaller : goal.loop-more-smaller
loop-more-smaller g c =
    let p = c.loop-more.parked in
    let within : p.at + 256 < max 1 p.job.asked.runs * p.job.asked.limit =
    past_bound p.job (p.at + 256) c.in-More.ensures.1 in
    let limit : max 1 c.in-More.more.job.asked.runs * c.in-More.more.job.asked.limit ≡ max 1 p.job.asked.runs
    * p.job.asked.limit = ap (λ v. max 1 v.job.asked.runs * v.job.asked.limit) c.in-More.ensures.0 in
    let at : c.in-More.more.at ≡ p.at + 256 = ap (λ v. v.at) c.in-More.ensures.0 in
    omega arith
