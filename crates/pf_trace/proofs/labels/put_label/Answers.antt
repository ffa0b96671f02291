use Rattle.pf_terms.specs.Atoms.{name_of}
use Rattle.pf_trace.proofs.labels.put_label.Goals as goal

pub returns-in-Demonitors : goal.returns-in-Demonitors
returns-in-Demonitors c = rw (c.in-Demonitors.is) (c.put_demonitor.ensures (name_of c.args.atoms.now))

pub returns-in-Unregisters : goal.returns-in-Unregisters
returns-in-Unregisters c = rw (c.in-Unregisters.is) c.put_word_atom-in-Unregisters.ensures
