-- One byte more is shown.
use Rattle.std.proofs.Common.{◌≡◌, ◌++◌, ◌+◌, ◌-◌, ℕ, suc, List, get_or, ap, append_assoc, ◌∙◌, sym}
use Rattle.pf_diagnostics.specs.Shown.{shown_byte, shown_up_to}

pub one_more : (old out new bytes : List ℕ) (n m before byte next : ℕ) → m ≡ suc n → before ≡ get_or bytes (n - 1) 0
    → byte ≡ get_or bytes n 0
    → next ≡ get_or bytes (n + 1) 0 → out ≡ old ++ shown_up_to bytes n → new ≡ out ++ shown_byte before byte next
    → new ≡ old ++ shown_up_to bytes m
unfolding shown_up_to
one_more old out new bytes n m before byte next e b1 b2 b3 h k =
    let first : new ≡ out ++ shown_byte (get_or bytes (n - 1) 0) (get_or bytes n 0) (get_or bytes (n + 1) 0) =
    rw (sym b1, sym b2, sym b3) k in
    let second = first ∙ ap (λ (t : List ℕ). t ++ shown_byte (get_or bytes (n - 1) 0) (get_or bytes n 0)
    (get_or bytes (n + 1) 0)) h in
    rw e (second ∙ simp append_assoc)
