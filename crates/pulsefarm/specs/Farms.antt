-- What a farm that words ask for does, between its files and the standard output.
use Rattle.std.specs.Prelude.{◌≡◌, ◌⊎◌, ℕ, Bool, false, List, Option, Ok, Err}
use Rattle.pf_streams.specs.declared.stream.StreamFault.{StreamFault}
use Rattle.pf_cli.specs.Args.{FarmArgs}
use Rattle.pf_cli_messages.specs.Texts.{HasStatus, IsFailure}
use Rattle.pf_clients.specs.Farms.{FarmLeaves, FarmPrints}
use Rattle.pf_clients.specs.declared.streams.ClientStreams.{ClientStreams}
use Rattle.pf_words.specs.Words.{End}
use Rattle.pulsefarm.specs.Sources.{LacksFile, MayLack, StreamsOf}

-- X is what clients are given, which may give streams to the client of project k, or lack one
module _ {X F V : Type 0} (gives : ℕ → X → ClientStreams F V → Type 0) (lacks : ℕ → X → StreamFault → Type 0)
    (remaining : F → Option (List ℕ)) (contents : V → Option (List ℕ)) where
  -- a farm of clients that were given this ended: what it kept of its clients was written; or a stream failed or memory
  -- ran out, before the farm began or after
  abbrev pub FarmEnds : List X → (written_old written_new : Option (List ℕ)) → (failed_old failed_new : ℕ) → End
      → Type 0
  FarmEnds xs w0 w1 n0 n1 (Ok status) =
      ((left : List (Option V)) × FarmPrints gives lacks remaining contents xs left status w0 w1) × (n1 ≡ n0)
  FarmEnds xs w0 w1 n0 n1 (Err e) =
      ((w1 ≡ w0) × (n1 ≡ n0))
      ⊎ ((left : List (Option V)) × FarmLeaves gives lacks remaining contents xs left e w0 w1 n0 n1)

-- F is what files are to the system, which says which of them a path may open or make and at which paths it may not,
-- what each still holds and what was written to it
module _ {F : Type 0} (opens makes : (path : List ℕ) → F → Type 0) (refuses bars : (path : List ℕ) → Type 0)
    (remaining contents : F → Option (List ℕ)) where
  -- a farm was run whose clients have their streams where words say, and it ended so
  abbrev pub FarmRuns : FarmArgs → (written_old written_new : Option (List ℕ)) → (failed_old failed_new : ℕ) → End
      → Type 0
  FarmRuns args w0 w1 n0 n1 end =
      FarmEnds (StreamsOf opens makes args.replies) (MayLack refuses bars args.replies) remaining contents args.files
      w0 w1 n0 n1 end

  -- the program has the status of the end of such a farm; or it wasn't begun, which is a failure, and nothing was
  -- written
  abbrev pub FarmIsDone : FarmArgs → (written_old written_new : Option (List ℕ)) → (failed_old failed_new : ℕ) → ℕ
      → Type 0
  FarmIsDone args w0 w1 n0 n1 given =
      ((w1 ≡ w0) × (n1 ≡ n0) × IsFailure given) ⊎ ((end : End) × FarmRuns args w0 w1 n0 n1 end × HasStatus end given)

  -- it is done, whatever status this end of it has
  abbrev pub FarmAnswers : FarmArgs → (written_old written_new : Option (List ℕ)) → (failed_old failed_new : ℕ) → End
      → Type 0
  FarmAnswers args w0 w1 n0 n1 end = (given : ℕ) → HasStatus end given → FarmIsDone args w0 w1 n0 n1 given

  -- a farm that has this status was run; or it wasn't begun, since its threads have too little stack, or one of its
  -- words has no file
  abbrev pub HasReason : (has_stack : Bool) → FarmArgs → (written_old written_new : Option (List ℕ))
      → (failed_old failed_new : ℕ) → ℕ → Type 0
  HasReason has_stack args w0 w1 n0 n1 status =
      (has_stack ≡ false) ⊎ LacksFile refuses args.files
      ⊎ ((end : End) × FarmRuns args w0 w1 n0 n1 end × HasStatus end status)
