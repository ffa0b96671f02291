-- A run of bytes at the front of a text that pass a test.
use Rattle.std.proofs.Common.{◌≡◌, ℕ, suc, ◌+◌, ◌<◌, Bool, true, false, cond, not, List, [], ◌∷◌, ◌++◌, length, take}
use Rattle.std.proofs.Common.{drop, refl, ap, ◌∙◌, arith}
use Rattle.std.specs.List.{prefix_len, AllPass, list_all}
use Rattle.std.proofs.lemmas.List.{get_or-take, length-take}
use Rattle.std.proofs.lemmas.List.Sums.{prefix_len_passes}
use Rattle.pf_tokens.specs.Bytes.{ends}
use Rattle.pf_tokens.specs.Rules.{IsRun}
use Rattle.pf_errors.proofs.Bools.{both}

pub not_true : (b : Bool) → not b ≡ true → b ≡ false
not_true true e = absurd cc
not_true false e = refl

-- each byte of the run passes
pub take_passes : (test : ℕ → Bool) (bytes : List ℕ) → AllPass test (take (prefix_len test bytes) bytes)
take_passes test bytes k d lt =
    let within : k < prefix_len test bytes = omega (arith, length-take (prefix_len test bytes) bytes) in
    ap test (get_or-take (prefix_len test bytes) bytes k d within) ∙ prefix_len_passes test bytes k d within

run_each : (test : ℕ → Bool) (bytes : List ℕ) → list_all test (take (prefix_len test bytes) bytes) ≡ true
run_each test [] = refl
run_each test (b ∷ bs) = by (test b) refl (run_each test bs)
  where
    by : (t : Bool) → test b ≡ t → list_all test (take (prefix_len test bs) bs) ≡ true
        → list_all test (take (cond t (1 + prefix_len test bs) 0) (b ∷ bs)) ≡ true
    by true e later = let one : 1 + prefix_len test bs ≡ suc (prefix_len test bs) = omega arith in rw (one, e) later
    by false e later = refl

run_whole : (test : ℕ → Bool) (bytes : List ℕ) → ends test (drop (prefix_len test bytes) bytes) ≡ true
run_whole test [] = refl
run_whole test (b ∷ bs) = by (test b) refl (run_whole test bs)
  where
    by : (t : Bool) → test b ≡ t → ends test (drop (prefix_len test bs) bs) ≡ true
        → ends test (drop (cond t (1 + prefix_len test bs) 0) (b ∷ bs)) ≡ true
    by true e later = let one : 1 + prefix_len test bs ≡ suc (prefix_len test bs) = omega arith in rw one later
    by false e later = rw e refl

-- the bytes before the first that fails are a run
pub run_front : (test : ℕ → Bool) (bytes : List ℕ)
    → IsRun test (take (prefix_len test bytes) bytes) (drop (prefix_len test bytes) bytes)
run_front test bytes = record { each = run_each test bytes; whole = run_whole test bytes }

ends_none : (test : ℕ → Bool) (rest : List ℕ) → ends test rest ≡ true → prefix_len test rest ≡ 0
ends_none test [] e = refl
ends_none test (b ∷ bs) e = rw (not_true (test b) e) refl

-- a run is as long as the bytes before the first that fails
pub prefix_len-run : (test : ℕ → Bool) (bytes rest : List ℕ) → IsRun test bytes rest
    → prefix_len test (bytes ++ rest) ≡ length bytes
prefix_len-run test [] rest run = ends_none test rest run.whole
prefix_len-run test (b ∷ bs) rest run =
    let passes = both (test b) (list_all test bs) run.each in
    let later = prefix_len-run test bs rest (record { each = passes.1; whole = run.whole }) in
    rw (passes.0, later) (omega arith)
