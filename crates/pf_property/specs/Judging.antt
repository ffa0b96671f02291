-- Which labels decide a verdict by themselves.
use Rattle.std.specs.Prelude.{Bool, false}
use Rattle.pf_model.specs.Labels.{Label}
use Rattle.pf_model.specs.Properties.{Property, returns, returns_true, no_crash, no_deadlock, within_limit, never}
use Rattle.pf_model.specs.Properties.{is_crash, is_sent_as}

-- a label alone says that the property doesn't hold, whatever else a run shows
abbrev pub rules_out : Property → Label → Bool
rules_out returns l = false
rules_out returns_true l = false
rules_out no_crash l = is_crash l
rules_out no_deadlock l = false
rules_out within_limit l = false
rules_out (never p) l = is_sent_as p l
