-- What is reported after names of less than so many bytes.
use Rattle.std.proofs.Common.{◌≡◌, ℕ, suc, List, Option, ap, sym, ◌∙◌}
use Rattle.pf_json.specs.Facts.{Fact, or_else}
use Rattle.pf_json.specs.Names.{named_at, named_below}

-- what is reported after the longest of them, or after a shorter one
pub longest : (line : List ℕ) (n k : ℕ) (o : Option (List Fact)) → n ≡ suc k → o ≡ named_at line k
    → named_below line n ≡ or_else o (named_below line k)
longest line n k o next at =
    ap (named_below line) next ∙ ap (λ (x : Option (List Fact)). or_else x (named_below line k)) (sym at)
