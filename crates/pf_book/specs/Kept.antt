-- What the fields of a desk and of a book stand for, and what is true of them.
use Rattle.std.specs.Prelude.{◌≡◌, ◌≤◌, ◌+◌, ℕ, suc, List, length, map, All, IfSome, IsSome, slice_get, sum_by}
use Rattle.std.specs.Prelude.{count_by}
use Rattle.std.specs.Str.{bytes_eq}
use Rattle.std.specs.Vec.{vec_len, vec_capacity}
use Rattle.pf_store.specs.Sources.{Kept, holders}
use Rattle.pf_model.specs.Limits.{IsEdition}
use Rattle.pf_desks.specs.Desk.{Desk, held_at, all_held}
use Rattle.pf_desks.specs.Calls.{usage_in, users_of}
use Rattle.pf_desks.specs.Desks.{Desks}
use Rattle.pf_desks.specs.History.{IsLegalDesk}
use Rattle.pf_book.specs.Profile.{ForRight}
use Rattle.pf_book.specs.Running.{running_in}
use Rattle.pf_book.specs.View.{view_of_entry}
use Rattle.pf_book.specs.declared.desk.Desk.TheInside.{Inside}

abbrev pub desk_in : Inside → Desk
desk_in b = record {
  edition = b.edition;
  modules = b.modules.items;
  trials = b.trials.items;
  history =
      map view_of_entry b.history.items;
}

-- the desk is what its history makes of an empty one, in an edition that there is; its sums are those over what it
-- holds; it counts for each module number the held trials that use it, and each held trial uses a module that is held;
-- it counts the trials that run, and its history has room for one note more of each of them
pub record IsValid (b : Inside) : Type 0 where
  pub legal : ForRight (λ p. IsLegalDesk p (desk_in b))
  pub edition : IsEdition b.edition
  pub sums : b.usage ≡ usage_in (desk_in b)
  pub counted : length b.users.items ≡ length b.modules.items
  pub users : (i : ℕ) → IfSome (slice_get b.users.items i) (λ k. k ≡ users_of (desk_in b) (suc i))
  pub used : All (λ t. IsSome (held_at b.modules.items t.module_number)) (all_held b.trials.items)
  pub running : b.running ≡ running_in (desk_in b)
  pub room : vec_len b.history + b.running ≤ vec_capacity b.history

-- ---- the store beside the desks

-- how many modules of a desk have a source
abbrev pub modules_of : List ℕ → Desk → ℕ
modules_of source d = count_by (λ m. bytes_eq source m.source) (all_held d.modules)

-- of each source the store counts as many holders as there are modules of it at all desks
abbrev pub CountsAll : Kept → Desks → Type 0
CountsAll kept w = (source : List ℕ) → holders kept source ≡ sum_by (λ e. modules_of source e.1) w

-- the store counts at least the modules of a desk
abbrev pub Counts : Kept → Desk → Type 0
Counts kept d = (source : List ℕ) → modules_of source d ≤ holders kept source

-- FollowsDesk k d k' d': from one desk to the next the holders of each source change as the desk's modules of it do
abbrev pub FollowsDesk : Kept → Desk → Kept → Desk → Type 0
FollowsDesk k d k' d' = (source : List ℕ) → holders k' source + modules_of source d ≡ holders k source
    + modules_of source d'
