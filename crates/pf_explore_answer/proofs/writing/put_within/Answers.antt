use Rattle.std.proofs.Common.{sym, append-nil}
use Rattle.pf_explore_answer.proofs.writing.put_within.Goals as goal

pub returns-in-None : goal.returns-in-None
returns-in-None c = rw c.in-None.is (sym (append-nil c.args.out.now.items))
