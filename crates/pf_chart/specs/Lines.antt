-- What is in a document where it is drawn.
use Rattle.std.specs.Prelude.{◌≡◌, ◌<◌, ◌++◌, ℕ, true, List, Some, slice_get}
use Rattle.pf_chart.specs.Sheets.{Page, is_here, line_of}
use Rattle.pf_chart.specs.declared.arrows.Arrow.{Arrow}

-- among what comes after what was there is this text
pub record Holds (text before after : List ℕ) : Type 0 where
  pub front : List ℕ
  pub back : List ℕ
  pub is : after ≡ before ++ (front ++ (text ++ back))

-- each arrow between two of so many columns of which something is on the page has its line, from where it begins to
-- where it ends
abbrev pub HaveLines : Page → (columns : ℕ) → List Arrow → (before after : List ℕ) → Type 0
HaveLines p n arrows before after =
    (i : ℕ) (a : Arrow) → slice_get arrows i ≡ Some a → a.from < n → a.to < n → is_here p a ≡ true
    → Holds (line_of p a) before after
