-- What is kept of the notices that a hunt's observer receives.
use Rattle.std.specs.Prelude.{◌≡◌, ℕ, List, [], ◌∷◌, Option, Some, None, option_map}
use Rattle.pf_hunt.specs.Notices.{Notice, leaked, seeds_run}
use Rattle.pf_hunt.specs.Views.{leak_of}
use Rattle.pf_hunt.specs.declared.leak.Leak.{Leak}
use Rattle.pf_cli_messages.specs.declared.waiting.WaitingProcesses.{WaitingProcesses}

-- the last leak that these notices report; else this
abbrev pub last_leak : (known : Option (ℕ × ℕ)) → List Notice → Option (ℕ × ℕ)
last_leak known [] = known
last_leak known (seeds_run done failures answer ∷ notices) = last_leak known notices
last_leak known (leaked seed processes ∷ notices) = last_leak (Some (seed, processes)) notices

-- whoever keeps this has received these notices
abbrev pub HasHeard : (kept : Option Leak) → List Notice → Type 0
HasHeard kept notices = option_map leak_of kept ≡ last_leak None notices

-- by which seed processes still wait, where there are several, and how many do
abbrev pub waiting_view : WaitingProcesses → Option ℕ × ℕ
waiting_view w = (w.seed, w.processes)

-- those of a leak
abbrev pub waiting_by : Leak → Option ℕ × ℕ
waiting_by l = (Some l.seed, l.processes)
