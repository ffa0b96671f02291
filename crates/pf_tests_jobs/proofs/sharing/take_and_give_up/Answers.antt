use Rattle.std.proofs.Common.{◌≡◌, ◌≤◌, ◌+◌, ℕ, Bool, true, List, if◌then◌else◌, refl, ap, ◌∙◌, arith}
use Rattle.std.specs.Str.{bytes_eq}
use Rattle.std.proofs.lemmas.Slice.Eq.{bytes_eq-Decides}
use Rattle.pf_store.specs.Sources.{Kept, HeldOnceMore, holders}
use Rattle.pf_tests_jobs.proofs.sharing.take_and_give_up.Goals as goal

-- who was counted once more holds the source
held_then : (source : List ℕ) (k k' : Kept) → HeldOnceMore source k k' → 1 ≤ holders k' source
held_then source k k' more =
    let same : bytes_eq source source ≡ true = (bytes_eq-Decides source source).1 refl in
    let one : holders k' source ≡ holders k source + 1 =
    more source ∙ ap (λ (b : Bool). holders k source + (if b then 1 else 0)) same in
    omega arith

pub give_up-requires : goal.give_up-requires
give_up-requires c = held_then _ _ _ c.in_ok-module.ensures.held
