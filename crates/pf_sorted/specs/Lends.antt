-- What a map ends as where one of its values is lent.
use Rattle.std.specs.Prelude.{ℕ, List}
use Rattle.std.specs.Borrow.{Lends, Fml, RattleType, MutBor}
use Rattle.pf_sorted.specs.Values.{with_value}
use Rattle.pf_sorted.specs.contracts.map.SortedMap.{the_row}

-- once the borrow r ends, the index has the last value written through r
abbrev pub lends_value : (V : RattleType) → MutBor (List (ℕ × V.Denot)) → ℕ → MutBor V.Denot → Fml
lends_value V m i r = Lends (the_row V) V m r (with_value m.now i)
