-- The candidates that are left are smaller than their schedule.
use Rattle.std.proofs.Common.{ℕ, false, List, [], ◌∷◌}
use Rattle.std.proofs.lemmas.List.Elements.{All-tail}
use Rattle.pf_model.specs.Laws.{IsSmaller}
use Rattle.pf_model.proofs.Shrinks.{shrinking_is_right}
use Rattle.pf_shrink.specs.Rounds.{Round, round, round_begun, round_passed, round_taken, taken_of, AreSmaller}

-- by the law of shrinking, whichever schedules fail
begun_smaller : (ns : List ℕ) → AreSmaller (round_begun ns)
begun_smaller ns = (shrinking_is_right (λ _. false) 0 ns).candidates_are_smaller

taken_smaller : (ns : List ℕ) (cs : List (List ℕ)) → AreSmaller (taken_of ns cs)
taken_smaller ns [] = begun_smaller ns
taken_smaller ns (c ∷ cs) = begun_smaller c

pub taken_are_smaller : (r : Round) → AreSmaller (round_taken r)
taken_are_smaller r = taken_smaller r.schedule r.left

passed_smaller : (ns : List ℕ) (cs : List (List ℕ)) → AreSmaller (round ns cs) → AreSmaller (round_passed (round ns cs))
passed_smaller ns [] h = h
passed_smaller ns (c ∷ cs) h = All-tail (λ x. IsSmaller x ns) c cs h

pub passed_are_smaller : (r : Round) → AreSmaller r → AreSmaller (round_passed r)
passed_are_smaller r h = passed_smaller r.schedule r.left h
