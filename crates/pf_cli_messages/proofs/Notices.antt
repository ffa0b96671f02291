-- One notice more.
use Rattle.std.proofs.Common.{◌≡◌, ℕ, List, [], ◌∷◌, ◌++◌, Option, Some, None, refl, sym, ap, ◌∙◌}
use Rattle.std.specs.Prelude.{option_map}
use Rattle.pf_hunt.specs.Notices.{Notice, leaked, seeds_run}
use Rattle.pf_hunt.specs.Views.{leak_of}
use Rattle.pf_hunt.specs.declared.leak.Leak.{Leak}
use Rattle.pf_hunt.specs.declared.pace.Pace.{Pace}
use Rattle.pf_cli_messages.specs.Notices.{HasHeard, last_leak}

last_leak-append : (known : Option (ℕ × ℕ)) (ns more : List Notice)
    → last_leak known (ns ++ more) ≡ last_leak (last_leak known ns) more
last_leak-append known [] more = refl
last_leak-append known (seeds_run done failures answer ∷ ns) more = last_leak-append known ns more
last_leak-append known (leaked seed processes ∷ ns) more = last_leak-append (Some (seed, processes)) ns more

module _ (old : Option Leak) (ns : List Notice) (heard : HasHeard old ns) where
  pub heard_run : (new : Option Leak) (done failures : ℕ) (answer : Pace) → new ≡ old
      → HasHeard new (ns ++ seeds_run done failures answer ∷ [])
  heard_run new done failures answer same =
      ap (option_map leak_of) same ∙ heard ∙ sym (last_leak-append None ns (seeds_run done failures answer ∷ []))

  pub heard_leak : (leak : Leak) → HasHeard (Some leak) (ns ++ leaked leak.seed leak.processes ∷ [])
  heard_leak leak = sym (last_leak-append None ns (leaked leak.seed leak.processes ∷ []))
