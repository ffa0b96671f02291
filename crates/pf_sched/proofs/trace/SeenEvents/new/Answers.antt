use Rattle.pf_sched.proofs.trace.SeenEvents.new.Goals as goal

pub returns : goal.returns
returns c j same = ((same, (c.new.ensures j).0.1), (c.new.ensures j).1)
