-- The first of several faults, as it is kept while they are found one by one.
use Rattle.std.specs.Prelude.{◌≡◌, Bool, ◌==◌, ◌&&◌, ◌||◌, nat_lt, if◌then◌else◌, List, [], fold, Option, Some, None}
use Rattle.pf_errors.specs.Codes.{rank_of}
use Rattle.pf_errors.specs.declared.refusal.SourceRefusal.{SourceRefusal}
use Rattle.pf_rules.specs.Static.{IsFirst}
use Rattle.pf_static_check.specs.declared.first.FirstFault.{FirstFault}

-- at a lower offset, or at the same with a code that comes earlier in the table
abbrev pub is_earlier : SourceRefusal → SourceRefusal → Bool
is_earlier f k = nat_lt f.offset k.offset || ((f.offset == k.offset) && nat_lt (rank_of f.code) (rank_of k.code))

-- what is kept once one more fault is found
abbrev pub earlier : Option SourceRefusal → SourceRefusal → Option SourceRefusal
earlier None f = Some f
earlier (Some k) f = Some (if is_earlier f k then f else k)

-- what is kept once these were found in turn
abbrev pub earliest : Option SourceRefusal → List SourceRefusal → Option SourceRefusal
earliest k fs = fold earlier k fs

abbrev pub earliest_kept : FirstFault → Option SourceRefusal
earliest_kept first = first.found

-- nothing is kept of no fault, and else the first
abbrev pub IsLeastFault : List SourceRefusal → Option SourceRefusal → Type 0
IsLeastFault fs None = fs ≡ []
IsLeastFault fs (Some f) = IsFirst fs f
