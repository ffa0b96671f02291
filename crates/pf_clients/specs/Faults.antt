-- Why a file, and a farm, end without a status.
use Rattle.std.specs.Prelude.{◌≡◌, ℕ, ◌+◌}
use Rattle.pf_errors.specs.declared.fault.OrNoMemory.{OrNoMemory}
use Rattle.pf_errors.specs.declared.fault.OrNoMemory.TheVariants.{Fault, NoMemory}
use Rattle.pf_streams.specs.declared.stream.StreamFault.{StreamFault}
use Rattle.pf_streams.specs.declared.stream.StreamFault.TheVariants.{Read, Write}
use Rattle.pf_clients.specs.declared.end.FileEnd.{FileEnd}
use Rattle.pf_clients.specs.declared.end.FileEnd.TheVariants.{Unread, NoMemory as OutOfMemory}

-- a write that failed was counted, once; a file that can't be read and running out of memory are no fault of the writer
abbrev pub CountsFault : OrNoMemory StreamFault → (failed_old failed_new : ℕ) → Type 0
CountsFault (Fault (Write e)) m n = n ≡ m + 1
CountsFault (Fault (Read e)) m n = n ≡ m
CountsFault NoMemory m n = n ≡ m

-- how a file ends that can't be read
abbrev pub ended_by : OrNoMemory StreamFault → FileEnd
ended_by (Fault (Read e)) = Unread e
ended_by (Fault (Write e)) = Unread e
ended_by NoMemory = OutOfMemory
