-- How many hold a source, where a desk's modules change.
use Rattle.std.proofs.Common.{◌≡◌, ◌≤◌, ℕ, ◌+◌, Bool, true, cond, List, [], ◌∷◌, ◌++◌, Option, Some, None, refl, sym}
use Rattle.std.proofs.Common.{ap, arith}
use Rattle.std.specs.Prelude.{if◌then◌else◌, sum_by}
use Rattle.std.specs.Str.{bytes_eq}
use Rattle.std.proofs.lemmas.Bool.Decides.{same_from_decides}
use Rattle.std.proofs.lemmas.List.Sums.{sum_by-append, sum_by-cons}
use Rattle.std.proofs.lemmas.Slice.Eq.{bytes_eq-Decides}
use Rattle.pf_check.specs.Module.{ReadModule}
use Rattle.pf_store.specs.Sources.{Kept, holders, HeldOnceMore, HeldOnceLess}
use Rattle.pf_desks.specs.Desk.{Desk, held_at, with_held}
use Rattle.pf_book.specs.Kept.{modules_of, Counts, FollowsDesk}
use Rattle.pf_book.specs.Plans.{with_change, KeepsModules}
use Rattle.pf_book.specs.declared.plan.DeskChange.{DeskChange}
use Rattle.pf_book.specs.declared.plan.DeskChange.TheVariants as change
use Rattle.pf_desks.proofs.Held.{OneMore, one_pushed, one_gone}

bytes_eq_turned : (a b : List ℕ) → bytes_eq a b ≡ bytes_eq b a
bytes_eq_turned a b =
    let there = bytes_eq-Decides a b in
    let back = bytes_eq-Decides b a in
    same_from_decides (bytes_eq a b) (bytes_eq b a) there ((λ e. sym (back.0 e)), (λ e. back.1 (sym e)))

bytes_eq_same : (a : List ℕ) → bytes_eq a a ≡ true
bytes_eq_same a = (bytes_eq-Decides a a).1 refl

-- one module more of its source, and as many of each other
one_of : (d : Desk) (ms : List (Option ReadModule)) (m : ReadModule) → OneMore d.modules ms m → (source : List ℕ)
    → modules_of source (record d { modules = ms }) ≡ modules_of source d + cond (bytes_eq source m.source) 1 0
one_of d ms m one source =
    let f : ReadModule → ℕ = λ m. cond (bytes_eq source m.source) 1 0 in
    let more = ap (λ (l : List ReadModule). sum_by f l) one.more in
    let less = ap (λ (l : List ReadModule). sum_by f l) one.less in
    omega (
      arith,
      more,
      less,
      sum_by-append f one.before (m ∷ one.after),
      sum_by-cons f m one.after,
      sum_by-append f one.before one.after,
    )

turned : (source s : List ℕ) → ◌≡◌ {A = ℕ} (if bytes_eq source s then 1 else 0) (cond (bytes_eq s source) 1 0)
turned source s = ap (λ (b : Bool). cond b 1 0) (bytes_eq_turned source s)

module _ (d : Desk) where
  -- nothing changes
  pub follows_none : (k k' : Kept) → k' ≡ k → FollowsDesk k d k' d
  follows_none k k' same source = ap (λ (x : Kept). holders x source + modules_of source d) same

  -- one holds a source more, and one gives it up
  pub follows_back : (k k' k'' : Kept) (source : List ℕ) → HeldOnceMore source k k' → HeldOnceLess source k' k''
      → FollowsDesk k d k'' d
  follows_back k k' k'' source more less s = omega (arith, more s, less s)

  -- a module more
  pub follows_module : (k k' : Kept) (m : ReadModule) → HeldOnceMore m.source k k'
      → FollowsDesk k d k' (record d { modules = d.modules ++ Some m ∷ [] })
  follows_module k k' m more s =
      omega (arith, more s, turned m.source s, one_of d (d.modules ++ Some m ∷ []) m (one_pushed d.modules m) s)

  module _ (n : ℕ) (m : ReadModule) (h : held_at d.modules n ≡ Some m) where
    abbrev d' : Desk
    d' = record d { modules = with_held d.modules n None }

    one_less : (s : List ℕ) → modules_of s d ≡ modules_of s d' + cond (bytes_eq s m.source) 1 0
    one_less s = one_of d' d.modules m (one_gone d.modules n m h) s

    -- the store counts a module that a desk holds
    pub counts_held : (k : Kept) → Counts k d → 1 ≤ holders k m.source
    counts_held k counts =
        let own : ◌≡◌ {A = ℕ} (cond (bytes_eq m.source m.source) 1 0) 1 =
        ap (λ (b : Bool). cond b 1 0) (bytes_eq_same m.source) in
        omega (arith, counts m.source, one_less m.source, own)

    -- a module less
    pub follows_withdrawal : (k k' : Kept) → HeldOnceLess m.source k k'
        → FollowsDesk k d k' (record d { modules = with_held d.modules n None })
    follows_withdrawal k k' less s = omega (arith, less s, turned m.source s, one_less s)

  -- a change that keeps the modules
  pub follows_kept : (k k' : Kept) (c : DeskChange) → KeepsModules c → k' ≡ k → FollowsDesk k d k' (with_change d c)
  follows_kept k k' change.Nothing h same = follows_none k k' same
  follows_kept k k' (change.Module m) h same = absurd h
  follows_kept k k' (change.Trial n j) h same = follows_none k k' same
  follows_kept k k' (change.DropTrial t) h same = follows_none k k' same
  follows_kept k k' (change.Withdraw n) h same = absurd h
  follows_kept k k' (change.Edition e) h same = follows_none k k' same
