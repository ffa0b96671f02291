-- The words of a generator, of a seed and of a schedule, by their number from 0.
use Rattle.std.specs.Prelude.{ℕ, zero, suc, List, slice_index}
use Rattle.rand_core.specs.Pcg32Seed.{pcg32_seed}
use Rattle.rand_pcg.specs.Pcg.{pcg32, pcg32_of_seed}

-- the generator after k words, where each step gives a word and the generator after it
unfoldable pub after : {G : Type 0} → (G → ℕ × G) → ℕ → G → G
after step zero generator = generator
after step (suc k) generator = after step k (step generator).1

-- word k of a generator: what the step after k words gives
unfoldable pub word : {G : Type 0} → (G → ℕ × G) → ℕ → G → ℕ
word step k generator = (step (after step k generator)).0

-- word k of a seed: that of the generator PCG-XSH-RR 64/32 made from the 16 bytes that the seed expands to
unfoldable pub seed_word : ℕ → ℕ → ℕ
seed_word seed k = word pcg32 k (pcg32_of_seed (pcg32_seed 16 seed))

-- word k of a schedule: its number k, and 0 past its end
abbrev pub schedule_word : List ℕ → ℕ → ℕ
schedule_word numbers k = slice_index numbers k
