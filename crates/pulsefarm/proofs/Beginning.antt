-- What is done between streams that equal others.
use Rattle.std.proofs.Common.{◌≡◌, subst, ℕ, List, Option, Result, Ok, Err}
use Rattle.pf_errors.specs.declared.memory.NoMemory.{NoMemory}
use Rattle.pf_command.specs.Streams.{Streams, streams}
use Rattle.pulsefarm.specs.Program.{Does, DoesGiven}
use Rattle.pulsefarm.specs.Words.{words_of}

module _ {F : Type 0} (opens makes : (path : List ℕ) → F → Type 0) (refuses bars : (path : List ℕ) → Type 0)
    (remaining contents : F → Option (List ℕ)) where
  module _ (gives : List (List ℕ) → Type 0) (x y x' y' : Option (List ℕ)) (m n m' n' : ℕ) (after : Streams)
      (r : Result ℕ NoMemory) where
    pub from_equal : x ≡ x' → y ≡ y' → m ≡ m' → n ≡ n'
        → DoesGiven opens makes refuses bars remaining contents gives (streams x y m n) after r
        → DoesGiven opens makes refuses bars remaining contents gives (streams x' y' m' n') after r
    from_equal e f g h done =
        let At : Streams → Type 0 =
        λ old. DoesGiven opens makes refuses bars remaining contents gives old after r in
        subst (λ (it : Option (List ℕ)). At (streams it y' m' n')) e
        (subst (λ (it : Option (List ℕ)). At (streams x it m' n')) f
        (subst (λ (it : ℕ). At (streams x y it n')) g
        (subst (λ (it : ℕ). At (streams x y m it)) h done)))

  -- what is done for the words that were given is what such words ask for
  pub for_given : (gives : List (List ℕ) → Type 0) (given ws : List (List ℕ)) (old new : Streams)
      (r : Result ℕ NoMemory) → gives given → ws ≡ words_of given
      → Does opens makes refuses bars remaining contents ws old new r
      → DoesGiven opens makes refuses bars remaining contents gives old new r
  for_given gives given ws old new (Ok status) is same done = (
    given,
    is,
    subst (λ (x : List (List ℕ)). Does opens makes refuses bars remaining contents x old new (Ok status)) same done,
  )
  for_given gives given ws old new (Err e) is same done = done
