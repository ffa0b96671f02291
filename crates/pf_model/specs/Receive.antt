-- `receive`: the oldest message that some clause fits with its guard, by the first such clause.
use Rattle.std.specs.Prelude.{◌≡◌, ℕ, List, [], ◌∷◌, ◌++◌, Option, Some, None}
use Rattle.pf_terms.specs.Value.{Value}
use Rattle.pf_syntax.specs.Tree.{Tree, Clauses}
use Rattle.pf_model.specs.Module.{Module}
use Rattle.pf_model.specs.Contraction.{picked}

-- the message that is taken, the body of its clause, and the other messages in order
pub record Taken : Type 0 where
  pub body : Tree
  pub message : Value
  pub others : List Value

abbrev pub taking : Tree → Value → List Value → Taken
taking t v vs = record { body = t; message = v; others = vs }

abbrev pub and_before : Value → Option Taken → Option Taken
and_before v None = None
and_before v (Some t) = Some (record t { others = v ∷ t.others })

abbrev pub taken_or_later : Option Tree → Value → List Value → Option Taken → Option Taken
taken_or_later None v vs later = and_before v later
taken_or_later (Some body) v vs later = Some (taking body v vs)

abbrev pub selected : Module → ℕ → Clauses → List Value → Option Taken
selected m own ks [] = None
selected m own ks (v ∷ vs) = taken_or_later (picked m own ks v) v vs (selected m own ks vs)

-- ---- the same as a relation

-- no clause picks any of these messages
abbrev pub FitsNone : Module → ℕ → Clauses → List Value → Type 0
FitsNone m own ks [] = Unit {0}
FitsNone m own ks (v ∷ vs) = (picked m own ks v ≡ None) × FitsNone m own ks vs

-- the mailbox is `front`, the message and `back`; no clause picks any of `front`, and a clause picks the message
pub record ReceiveTakes (m : Module) (own : ℕ) (ks : Clauses) (mailbox : List Value) (t : Taken) : Type 0 where
  pub front : List Value
  pub back : List Value
  pub mailbox_is : mailbox ≡ front ++ t.message ∷ back
  pub others_are : t.others ≡ front ++ back
  pub none_before : FitsNone m own ks front
  pub picks : picked m own ks t.message ≡ Some t.body

-- function and relation agree: what is selected is what `receive` takes, and where nothing is selected no message fits
pub record SelectsAsTakes (m : Module) (own : ℕ) (ks : Clauses) (mailbox : List Value) : Type 0 where
  pub some : (t : Taken) → selected m own ks mailbox ≡ Some t → ReceiveTakes m own ks mailbox t
  pub only : (t : Taken) → ReceiveTakes m own ks mailbox t → selected m own ks mailbox ≡ Some t
  pub nothing : selected m own ks mailbox ≡ None → FitsNone m own ks mailbox

abbrev pub ReceiveIsRelation : Type 0
ReceiveIsRelation = (m : Module) (own : ℕ) (ks : Clauses) (mailbox : List Value) → SelectsAsTakes m own ks mailbox
