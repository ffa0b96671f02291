use Rattle.std.proofs.Common.{◌≡◌, ◌++◌, map, take}
use Rattle.std.specs.String.{string_bytes}
use Rattle.pulsefarm.proofs.push_all.Given as goal

-- the words so far
abbrev pub invariant-loop-word : goal.invariant-loop-word
invariant-loop-word l =
    map (λ w. w.now) l.words.items ≡ map (λ w. w.now) l.initial.words.items ++ map (λ s. string_bytes s)
    (take l.word-index l.given)
