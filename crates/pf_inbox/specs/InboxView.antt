-- What a contract sees of an inbox.
use Rattle.std.specs.Prelude.{ℕ, List, [], ◌∷◌, ◌++◌, refl}
use Rattle.std.specs.Coded.{Coded, code_by, coded×, coded_ℕ, coded_list}
use Rattle.pf_terms.specs.Value.{Value}
use Rattle.pf_terms.specs.Encoding.{coded_value}
use Rattle.pf_model.specs.Flush.{flushed}

-- the messages, the oldest first; how many of them the `receive` at which the process waits has tested; how many tests
-- there were in all
pub record InboxView : Type 0 where
  pub messages : List Value
  pub mark : ℕ
  pub tests : ℕ

abbrev pub inbox_of : List Value → ℕ → ℕ → InboxView
inbox_of messages mark tests = record { messages = messages; mark = mark; tests = tests }

-- no message, and no test
abbrev pub empty : InboxView
empty = inbox_of [] 0 0

-- with a message after the others
abbrev pub delivered : Value → InboxView → InboxView
delivered v b = record b { messages = b.messages ++ v ∷ [] }

-- with the mark at the front
abbrev pub unmarked : InboxView → InboxView
unmarked b = record b { mark = 0 }

-- without the oldest message about a reference
abbrev pub flushed_of : (reference : ℕ) → InboxView → InboxView
flushed_of r b = record b { messages = flushed r b.messages }

abbrev pub coded_inbox_view : Coded InboxView
coded_inbox_view =
    code_by _ (coded× (coded_list coded_value) (coded× coded_ℕ coded_ℕ)) (λ b. (b.messages, (b.mark, b.tests)))
    (λ p. inbox_of p.0 p.1.0 p.1.1) (λ _. refl)
