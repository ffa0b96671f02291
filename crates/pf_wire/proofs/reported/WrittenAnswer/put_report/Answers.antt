use Rattle.pf_wire.proofs.Adding.{rest_reported}
use Rattle.pf_wire.proofs.reported.WrittenAnswer.put_report.Goals as goal

pub returns : goal.returns
returns c =
    rest_reported c.args.finished.job.asked.code.atoms c.args.finished.result c.args.self.now.text.items _ _
    c.new-end.ensures.items c.in_ok-put_result_end.ensures
