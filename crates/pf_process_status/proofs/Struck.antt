-- What a delivery shows that ends its receiver.
use Rattle.std.proofs.Common.{◌≡◌, true, refl}
use Rattle.pf_terms.specs.Value.{Value}
use Rattle.pf_model.specs.Channels.{Signal}
use Rattle.pf_model.specs.Labels as label
use Rattle.pf_model.specs.Labels.{Label}
use Rattle.pf_process_status.specs.Fates.{is_struck}

pub struck_by : (l : Label) → is_struck l ≡ true
    → (s : Signal) × (r : Value) × (l ≡ label.delivers s (label.ending_with r))
struck_by (label.sends to v) h = absurd (cc)
struck_by (label.spawns k p) h = absurd (cc)
struck_by (label.spawns_watched p r) h = absurd (cc)
struck_by (label.links p) h = absurd (cc)
struck_by (label.unlinks p) h = absurd (cc)
struck_by (label.monitors r p) h = absurd (cc)
struck_by (label.demonitors f r) h = absurd (cc)
struck_by (label.exits p r) h = absurd (cc)
struck_by (label.sets_flag b) h = absurd (cc)
struck_by (label.registers n p) h = absurd (cc)
struck_by (label.unregisters n) h = absurd (cc)
struck_by (label.looks_up n) h = absurd (cc)
struck_by (label.makes_reference r) h = absurd (cc)
struck_by (label.takes v) h = absurd (cc)
struck_by (label.waits) h = absurd (cc)
struck_by (label.raises r) h = absurd (cc)
struck_by (label.ends r) h = absurd (cc)
struck_by (label.cut) h = absurd (cc)
struck_by (label.delivers s label.took_effect) h = absurd (cc)
struck_by (label.delivers s label.no_process) h = absurd (cc)
struck_by (label.delivers s label.dropped) h = absurd (cc)
struck_by (label.delivers s label.as_message) h = absurd (cc)
struck_by (label.delivers s (label.ending_with r)) h = (s, r, refl)
