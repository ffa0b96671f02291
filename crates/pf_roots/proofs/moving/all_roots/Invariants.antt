use Rattle.std.proofs.Common.{◌≡◌, ◌++◌, length}
use Rattle.pf_roots.specs.Kept.{all_words_of}
use Rattle.pf_roots.proofs.moving.all_roots.Given as goal

-- the roots so far and the words of the machines that are left are all
abbrev pub invariant-loop-machine : goal.invariant-loop-machine
invariant-loop-machine l = l.roots.items ++ all_words_of l.rest ≡ l.fn.constants ++ all_words_of l.fn.machines

abbrev pub decreases-loop-machine : goal.decreases-loop-machine
decreases-loop-machine l = length l.rest
