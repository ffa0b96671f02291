-- A source is read as one module.
use Rattle.std.proofs.Common.{◌≡◌, ℕ, List, subst, sym}
use Rattle.pf_check.specs.Reads.{Reads, accepted_as}
use Rattle.pf_check.proofs.Same.{same_outcome}
use Rattle.pf_model.specs.Module.{module_of}
use Rattle.pf_check.specs.Module.{ReadModule}
use Rattle.pf_syntax.specs.Module.{Checked}

abbrev read_module : List ℕ → Checked → ReadModule
read_module source m = record { source = source; code = module_of m }

of_one_source : (source : List ℕ) (m n : Checked) → Reads source (accepted_as m) → Reads source (accepted_as n)
    → module_of m ≡ module_of n
of_one_source source m n h k =
    let e = same_outcome source (accepted_as m) (accepted_as n) h k in
    λ i. record { name = e.0 i; atoms = e.1 i; functions = e.2 i }

pub one_module : (source other : List ℕ) (m n : Checked) → Reads source (accepted_as m) → Reads other (accepted_as n)
    → source ≡ other
    → read_module source m ≡ read_module other n
one_module source other m n h k e =
    let code = of_one_source source m n h (subst (λ s. Reads s (accepted_as n)) (sym e) k) in
    λ i. record { source = e i; code = code i }
