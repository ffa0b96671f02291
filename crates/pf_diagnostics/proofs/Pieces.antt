-- Five pieces that are put in turn are one text.
use Rattle.std.proofs.Common.{◌≡◌, ◌++◌, ℕ, List, ap, append_assoc, ◌∙◌}

pub joined : (b0 b1 b2 b3 b4 b5 p l c s r : List ℕ) → b1 ≡ b0 ++ p → b2 ≡ b1 ++ l → b3 ≡ b2 ++ c → b4 ≡ b3 ++ s
    → b5 ≡ b4 ++ r → b5 ≡ b0 ++ (p ++ l ++ c ++ s ++ r)
joined b0 b1 b2 b3 b4 b5 p l c s r h1 h2 h3 h4 h5 =
    let two : b2 ≡ b0 ++ p ++ l = h2 ∙ ap (λ (t : List ℕ). t ++ l) h1 in
    let three : b3 ≡ b0 ++ p ++ l ++ c = h3 ∙ ap (λ (t : List ℕ). t ++ c) two in
    let four : b4 ≡ b0 ++ p ++ l ++ c ++ s = h4 ∙ ap (λ (t : List ℕ). t ++ s) three in
    let five : b5 ≡ b0 ++ p ++ l ++ c ++ s ++ r = h5 ∙ ap (λ (t : List ℕ). t ++ r) four in
    five ∙ simp append_assoc
