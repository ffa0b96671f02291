-- Whether two patterns are the same.
use Rattle.std.specs.Prelude.{Bool, true, false, ◌&&◌, ◌==◌}
use Rattle.pf_terms.specs.Value.{same}
use Rattle.pf_syntax.specs.Pattern.{Pattern, Patterns, any, new, slot, known, tuple_of, cons_of, never, no_patterns}
use Rattle.pf_syntax.specs.Pattern.{pattern}

abbrev mutual
  pub same_pattern : Pattern → Pattern → Bool
  same_pattern any q = elim q [ any ↦ true | _ ↦ false ]
  same_pattern new q = elim q [ new ↦ true | _ ↦ false ]
  same_pattern (slot x) q = elim q [ slot y ↦ x == y | _ ↦ false ]
  same_pattern (known v) q = elim q [ known w ↦ same v w | _ ↦ false ]
  same_pattern (tuple_of ps) q = elim q [ tuple_of qs ↦ same_each ps qs | _ ↦ false ]
  same_pattern (cons_of p ps) q = elim q [ cons_of r rs ↦ same_pattern p r && same_pattern ps rs | _ ↦ false ]
  same_pattern never q = elim q [ never ↦ true | _ ↦ false ]

  -- whether as many patterns are the same, one by one
  pub same_each : Patterns → Patterns → Bool
  same_each no_patterns qs = elim qs [ no_patterns ↦ true | pattern q qs ↦ false ]
  same_each (pattern p ps) qs = elim qs [ no_patterns ↦ false | pattern q qs ↦ same_pattern p q && same_each ps qs ]
