-- Why a source is refused.
use Rattle.std.specs.Prelude.{ℕ, List}
use Rattle.pf_check.specs.Reads.{Reads, refused}
use Rattle.pf_cli_messages.specs.declared.finding.Reason.{Reason}
use Rattle.pf_cli_messages.specs.declared.finding.Reason.TheVariants.{OfSource, OfRequest, Later}

-- a source of these bytes is refused for this; nothing is said of other reasons
abbrev pub IsReason : (bytes : List ℕ) → Reason → Type 0
IsReason bytes (OfSource r) = Reads bytes (refused r.code r.offset)
IsReason bytes (OfRequest m r) = Unit {0}
IsReason bytes Later = Unit {0}
