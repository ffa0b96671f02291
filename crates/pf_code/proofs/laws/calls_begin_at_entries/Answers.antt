use Rattle.pf_code.proofs.Many.{calls_begin}
use Rattle.pf_code.proofs.laws.calls_begin_at_entries.Goals as goal

pub returns : goal.returns
returns c = calls_begin
