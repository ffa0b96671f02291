-- Keys: those who may go as numbers, which rise in the order in which they are listed.
use Rattle.std.specs.Prelude.{ℕ, suc, ◌+◌, ◌*◌, ◌%◌, ◌^◌, List, ◌++◌, map}

-- a channel, after all processes: by its sender and then by its receiver. No run has so many processes that it wraps
abbrev pub channel_key : (from to : ℕ) → ℕ
channel_key a b = ((suc a * 2 ^ 32) % 2 ^ 64 + b) % 2 ^ 64

-- processes, each by its pid, and after them channels
abbrev pub keys_among : (pids : List ℕ) → (channels : List (ℕ × ℕ)) → List ℕ
keys_among ps hs = ps ++ map (λ h. channel_key h.0 h.1) hs
