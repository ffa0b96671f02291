use Rattle.std.proofs.Common.{◌+◌, ap, sym, ◌∙◌, arith}
use Rattle.pf_model.specs.Channels.{with_senders}
use Rattle.pf_system.proofs.Rows.{enough_senders, one_more}
use Rattle.pf_system.proofs.shared.Shared.open_to.Goals as goal

pub loop-alloc-preserved : goal.loop-alloc-preserved
loop-alloc-preserved c =
    let cs = c.loop-alloc.self.channels in
    let n = c.senders.ensures in
    let l = c.loop-alloc-test.true in
    record {
      leads = ap (with_senders (c.args.last + 1)) c.in_ok-open.ensures.opened ∙ one_more c.args.last cs (omega arith)
          ∙ c.loop-alloc.invariant.leads;
      ties = c.loop-alloc.invariant.ties;
    }

pub returns-clause-opened : goal.returns-clause-opened
returns-clause-opened c =
    let cs = c.loop-alloc.self.channels in
    let n = c.senders.ensures in
    let l = c.loop-alloc-test.false in
    sym (enough_senders (c.args.last + 1) cs (omega arith)) ∙ c.loop-alloc.invariant.leads
