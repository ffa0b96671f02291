-- Receipts of calls.
use Rattle.std.specs.Prelude.{⊤, ℕ, suc, ◌≡◌, ◌+◌, ◌<◌, ◌≤◌, ◌==◌, if◌then◌else◌, Bool, false, List, [], ◌∷◌, length}
use Rattle.std.specs.Prelude.{All}
use Rattle.std.specs.declared.snapshot.Snapshot.{Snapshot}
use Rattle.std.specs.Coded.{×_prop, Unit-prop, le_prop}
use Rattle.pf_farm_accounts.specs.Places.{standing_at, AreBelow}
use Rattle.pf_farm_accounts.specs.declared.receipt.Receipt.{Receipt}

abbrev pub remembered : {T : Type 0} → T → Snapshot T
remembered x = record { marker = record {}; value = x }

-- what a seat shows: its project and receipts, all receipts that it has seen, and whether there is room for one more
pub record SeatView (C A : Type 0) : Type 0 where
  pub project : ℕ
  pub receipts : List (Receipt C A)
  pub seen : List (Receipt C A)
  pub has_room : Bool

-- all calls that were logged, the receipts of the seats that were gathered so far, and the parts of the ledger of calls
-- that are there
pub record GatheringView (C A : Type 0) : Type 0 where
  pub log : List (Receipt C A)
  pub receipts : List (Receipt C A)
  pub parts : ℕ

module _ {C A : Type 0} where
  -- the receipt of a project's call of this number, and of its reply
  abbrev pub receipt_of : (project number : ℕ) → C → A → Receipt C A
  receipt_of project number call reply =
      record { project = project; number = number; call = remembered call; reply = remembered reply }

  abbrev pub put_if : Bool → Receipt C A → List (Receipt C A) → List (Receipt C A)
  put_if b r rs = if b then r ∷ rs else rs

  -- those of a project
  abbrev pub of_project : ℕ → List (Receipt C A) → List (Receipt C A)
  of_project q [] = []
  of_project q (r ∷ rs) = put_if (r.project == q) r (of_project q rs)

  -- their numbers go up by one, from k
  abbrev pub AreCounted : ℕ → List (Receipt C A) → Type 0
  AreCounted k [] = ⊤
  AreCounted k (r ∷ rs) = (r.number ≡ k) × AreCounted (suc k) rs

  -- those of each project are counted from 1
  abbrev pub AreNumbered : List (Receipt C A) → Type 0
  AreNumbered rs = (q : ℕ) → AreCounted 1 (of_project q rs)

  -- these are the same receipts, each as often: however receipts are weighed, both weigh the same
  abbrev pub weigh : (Receipt C A → ℕ) → List (Receipt C A) → ℕ
  weigh h [] = 0
  weigh h (r ∷ rs) = h r + weigh h rs

  abbrev pub EachOnce : List (Receipt C A) → List (Receipt C A) → Type 0
  EachOnce rs log = (h : Receipt C A → ℕ) → weigh h rs ≡ weigh h log

  -- ---- seats

  -- all are of a project
  abbrev pub AreOf : ℕ → List (Receipt C A) → Type 0
  AreOf q rs = All (λ r. r.project ≡ q) rs

  -- each number is above the one before it, and the first above k
  abbrev pub AreRising : ℕ → List (Receipt C A) → Type 0
  AreRising k [] = ⊤
  AreRising k (r ∷ rs) = (k < r.number) × AreRising r.number rs

  pub AreRising-prop : (k : ℕ) (rs : List (Receipt C A)) → IsProp (AreRising k rs)
  AreRising-prop k [] = Unit-prop
  AreRising-prop k (r ∷ rs) = ×_prop le_prop (AreRising-prop r.number rs)

  abbrev pub seat_of : (project : ℕ) → (receipts seen : List (Receipt C A)) → SeatView C A
  seat_of q rs seen = record { project = q; receipts = rs; seen = seen; has_room = false }

  abbrev pub empty_seat : (project : ℕ) → SeatView C A
  empty_seat q = seat_of q [] []

  -- ---- what is kept

  -- a seat's receipts are at the places that it bears, and of its project; their numbers rise, up to the number of
  -- calls of the project that it has seen
  pub record IsSeat (places : List ℕ) (seen : List (Receipt C A)) (project : ℕ)
      (receipts : List (Receipt C A)) : Type 0 where
    pub below : AreBelow places (length seen)
    pub standing : receipts ≡ standing_at places seen
    pub own : AreOf project receipts
    pub rising : AreRising 0 receipts
    pub counted : All (λ r. r.number ≤ length (of_project project seen)) receipts

  abbrev pub gathering_of : (log receipts : List (Receipt C A)) → ℕ → GatheringView C A
  gathering_of log rs parts = record { log = log; receipts = rs; parts = parts }
