use Rattle.pf_termtext.proofs.Whole.{found_by, again_by, refused_by}
use Rattle.pf_termtext.proofs.reading.read.Goals as goal

pub returns-clause-found : goal.returns-clause-found
returns-clause-found c = found_by c.args.atoms.now c.args.bytes.now c.read_whole.result c.read_whole.ensures

pub returns-clause-again : goal.returns-clause-again
returns-clause-again c = again_by c.args.atoms.now c.args.bytes.now c.read_whole.result c.len-names.ensures.distinct
    c.read_whole.ensures

pub returns-clause-refused : goal.returns-clause-refused
returns-clause-refused c = refused_by c.args.atoms.now c.args.bytes.now c.read_whole.result c.len-names.ensures.distinct
    c.read_whole.ensures
