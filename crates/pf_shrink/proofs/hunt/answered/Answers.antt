use Rattle.std.proofs.Common.{subst, sym}
use Rattle.pf_shrink.specs.Rounds.{AreSmaller}
use Rattle.pf_shrink.proofs.Hunts.{taken_are_smaller, passed_are_smaller}
use Rattle.pf_shrink.proofs.hunt.answered.Goals as goal

pub returns-then-fails-clause-is_there : goal.returns-then-fails-clause-is_there
returns-then-fails-clause-is_there c = λ k. subst AreSmaller (sym c.take.ensures) (taken_are_smaller c.args.round.now)

pub returns-in-Search-clause-is_there : goal.returns-in-Search-clause-is_there
returns-in-Search-clause-is_there c =
    let held = rw c.in-Search.is at c.requires.is_there in
    λ k. subst AreSmaller (sym c.pass.ensures) (passed_are_smaller c.args.round.now held)
