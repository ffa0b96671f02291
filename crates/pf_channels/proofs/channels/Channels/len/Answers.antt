use Rattle.pf_channels.proofs.channels.Channels.len.Goals as goal

pub returns-clause-few : goal.returns-clause-few
returns-clause-few c = c.self.invariant.within
