-- What a list of terms represents.
use Rattle.std.specs.Prelude.{ℕ, map}
use Rattle.pf_terms.specs.Term.{value_of}
use Rattle.pf_terms.specs.declared.term.Term.{Term}
use Rattle.pf_nodes.specs.Mail.{Mail}
use Rattle.pf_inbox.specs.InboxView.{InboxView, inbox_of}

-- an inbox over this list
abbrev pub inbox_seen : Mail Term → ℕ → InboxView
inbox_seen m tests = inbox_of (map value_of m.items) m.mark tests
