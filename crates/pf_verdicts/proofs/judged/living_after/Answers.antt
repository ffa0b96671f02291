use Rattle.std.proofs.Common.{arith}
use Rattle.std.proofs.lemmas.List.Sums.{count_by-le-length}
use Rattle.pf_model.specs.Reports.{label_of}
use Rattle.pf_sched.specs.Waiting.{is_begin, is_end}
use Rattle.pf_verdicts.proofs.Counted.{counted}
use Rattle.pf_verdicts.proofs.judged.living_after.Goals as goal

pub returns : goal.returns
returns c =
    let es = c.args.events.now in
    let begins = counted is_begin es in
    let ends = counted is_end es in
    omega (
      arith,
      begins,
      ends,
      c.begins_in.ensures,
      c.ends_in.ensures,
      c.saturating_sub-living.ensures,
      c.requires,
      count_by-le-length (λ e. is_begin (label_of e.label)) es,
    )
