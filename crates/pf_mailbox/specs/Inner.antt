-- What a list of terms stands for.
use Rattle.std.specs.Prelude.{ℕ, List, map}
use Rattle.pf_terms.specs.Term.{value_of}
use Rattle.pf_terms.specs.declared.term.Term.{Term}
use Rattle.pf_nodes.specs.Mail.{Mail}
use Rattle.pf_mailbox.specs.MailView.{MailView, view_of_mailbox}

-- a mailbox of these messages
abbrev pub plain_mailbox : List Term → ℕ → ℕ → MailView
plain_mailbox messages mark tests = view_of_mailbox (map value_of messages) mark tests

-- a mailbox over this list
abbrev pub mailbox_seen : Mail Term → ℕ → MailView
mailbox_seen m tests = plain_mailbox m.items m.mark tests
