-- What is said of a word of seeds that has no dot.
use Rattle.std.proofs.Common.{◌≡◌, ℕ, Bool, false, List, Some, None, ap, sym, arith}
use Rattle.std.specs.Prelude.{if◌then◌else◌}
use Rattle.std.specs.List.{after_first, before_first, list_any}
use Rattle.std.proofs.lemmas.Str.Pattern.{IsSplitOnceResult, split_once_first}
use Rattle.std.proofs.lemmas.List.Folds.{list_any_none}
use Rattle.std.proofs.lemmas.List.Sums.{fails_before_first}
use Rattle.pf_text.specs.Numbers.{long_number_of}
use Rattle.pf_cli.specs.Seeds.{after_dot, is_dot_byte, seeds_between, seeds_of}

undotted : (text : List ℕ) → IsSplitOnceResult 46 text None → list_any is_dot_byte text ≡ false
undotted text h =
    let whole = split_once_first 46 text None h (omega arith) in
    list_any_none is_dot_byte text (λ k d lt. fails_before_first is_dot_byte text k d (omega (arith, whole)))

-- it is the number of the seeds
pub counted : (text : List ℕ) → IsSplitOnceResult 46 text None
    → seeds_between (Some 0) (long_number_of text) ≡ seeds_of text
counted text h =
    sym (ap
    (λ (dotted : Bool). if dotted then seeds_between (long_number_of (before_first is_dot_byte text))
    (after_dot (after_first is_dot_byte text))
    else seeds_between (Some 0) (long_number_of text)) (undotted text h))
