-- Texts that are put together.
use Rattle.std.proofs.Common.{◌≡◌, ℕ, List, ◌++◌, Result, Ok, Err, refl, ap, ◌∙◌, append_assoc}
use Rattle.std.specs.Prelude.{OnOk}
use Rattle.pf_process_status.specs.Lines.{IsTextBefore, Puts}

-- a text that is so after these bytes
pub following : (old middle new front : List ℕ) (so : List ℕ → Type 0) → middle ≡ old ++ front → Puts middle new so
    → Puts old new (IsTextBefore front so)
following old middle new front so e p =
    (front ++ p.0, (p.0, p.1, refl), p.2 ∙ ap (λ z. z ++ p.0) e ∙ append_assoc old front p.0)

pub on_ok : {E P Q : Type 0} (r : Result (Unit {0}) E) → (P → Q) → OnOk r P → OnOk r Q
on_ok (Ok x) h p = h p
on_ok (Err e) h p = p
