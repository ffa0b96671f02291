-- Indices of weighted things, and that each chooses one of them.
use Rattle.std.proofs.Common.{◌≡◌, ℕ, ◌+◌, ◌-◌, ◌*◌, ◌/◌, ◌%◌, ◌≤◌, ◌<◌, Bool, true, false, nat_lt, if◌then◌else◌, refl}
use Rattle.std.proofs.Common.{ap, ◌∙◌, arith}
use Rattle.std.proofs.Math.Nat.{le-mul_of_pos_right, lt_of_mul-lt-mul_right, div-mul-le_self, mul-one, div-one}
use Rattle.std.proofs.lemmas.Nat.{mod_below}
use Rattle.std.proofs.lemmas.Bool.Decides.{nat_tests}
use Rattle.pf_choice.specs.Chosen.{Weighting, alike, weighted, IsProfile, at_index, chosen, WeightsOne}

-- n things take at least n indices
pub grows : (n k : ℕ) → 1 ≤ k → n ≤ n * k
grows n k h = le-mul_of_pos_right n (omega arith)

-- there is an index where there is a thing
pub has_index : (a b r d : ℕ) → 1 ≤ r → 1 ≤ d → 0 < a + b → 0 < a * r + b * d
has_index a b r d h k l = let x = grows a r h in let y = grows b d k in omega arith

-- an index below those of n things is that of one of them
within : (n k index : ℕ) → index < n * k → index / k < n
within n k index h = lt_of_mul-lt-mul_right k (let x = div-mul-le_self index k in omega arith)

-- an index below those of a processes and b channels is that of one of them
pub at_index_below : (a b r d index : ℕ) → index < a * r + b * d → at_index r d a index < a + b
at_index_below a b r d index h = by (nat_lt index (a * r)) refl
  where
    by : (e : Bool) → nat_lt index (a * r) ≡ e → (if e then index / r else a + (index - a * r) / d) < a + b
    by true e = let l : index < a * r = grind (arith, nat_tests) in let q = within a r index l in omega arith
    by false e =
        let l : a * r ≤ index = grind (arith, nat_tests) in
        let m : index - a * r < b * d = omega arith in
        let q = within b d (index - a * r) m in
        omega arith

-- what a word chooses is one of the things
pub chosen_below : (p : Weighting) (word a b : ℕ) → IsProfile p → 0 < a + b → chosen p word a b < a + b
chosen_below alike word a b h l = mod_below word (a + b) l
chosen_below (weighted r d) word a b h l =
    at_index_below a b r d (word % (a * r + b * d))
    (mod_below word (a * r + b * d) (has_index a b r d h.run_least h.deliver_least l))

at_index_one : (a index : ℕ) → at_index 1 1 a index ≡ index
at_index_one a index = by (nat_lt index (a * 1)) refl
  where
    by : (e : Bool) → nat_lt index (a * 1) ≡ e → (if e then index / 1 else a + (index - a * 1) / 1) ≡ index
    by true e = div-one index
    by false e =
        let l : a * 1 ≤ index = grind (arith, nat_tests) in
        let q = div-one (index - a * 1) in
        omega arith

pub weights_one : WeightsOne
weights_one word a b = at_index_one a (word % (a * 1 + b * 1)) ∙ ap (λ n. word % n) (let x = mul-one a in
    let y = mul-one b in omega arith)
