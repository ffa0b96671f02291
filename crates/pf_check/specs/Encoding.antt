-- How the logic stores modules and read modules.
use Rattle.std.specs.Prelude.{ℕ, List, refl}
use Rattle.std.specs.Coded.{Coded, code_by, coded×, coded_ℕ, coded_list}
use Rattle.pf_syntax.specs.Module.{coded_function}
use Rattle.pf_model.specs.Module.{Module}
use Rattle.pf_check.specs.Module.{ReadModule}

abbrev pub coded_names : Coded (List (List ℕ))
coded_names = coded_list (coded_list coded_ℕ)

abbrev pub coded_module : Coded Module
coded_module =
    code_by _ (coded× coded_ℕ (coded× coded_names (coded_list coded_function)))
    (λ m. (m.name, (m.atoms, m.functions))) (λ p. record { name = p.0; atoms = p.1.0; functions = p.1.1 }) (λ _. refl)

abbrev pub coded_read_module : Coded ReadModule
coded_read_module = code_by _ (coded× (coded_list coded_ℕ) coded_module) (λ m. (m.source, m.code))
    (λ p. record { source = p.0; code = p.1 }) (λ _. refl)
