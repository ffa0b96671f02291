-- All rows: what the definitions say of one row that is at its index, and of a change of it.
use Rattle.std.proofs.Common.{◌≡◌, ℕ, zero, suc, ◌+◌, ◌<◌, ◌≤◌, [], ◌∷◌, ◌++◌, Option, Some, None, IfSome, IfNone, refl}
use Rattle.std.proofs.Common.{sym, ap, ◌∙◌, arith, add-one, length, slice_index_or, slice_set}
use Rattle.pf_model.specs.Channels.{Signal, Queue, SenderRow, Channels, row_of, with_row, with_last, sent}
use Rattle.pf_model.specs.Channels.{row_with_left, taken_from, taken, with_senders}
use Rattle.pf_sorted.specs.Maps.{got, put}
use Rattle.pf_model.specs.Signals.{signal_of}
use Rattle.pf_model.specs.declared.signal.Signal.{Signal as Program}
use Rattle.pf_channels.specs.Rows.{taken_in}

row_at : (n : ℕ) (rs : Channels) (d : SenderRow) → n < length rs → row_of n rs ≡ slice_index_or rs n d
row_at n [] d l = absurd (omega arith)
row_at zero (r ∷ rs) d l = refl
row_at (suc n) (r ∷ rs) d l = row_at n rs d (omega arith)

row_past : (n : ℕ) (rs : Channels) → length rs ≤ n → row_of n rs ≡ []
row_past n [] l = refl
row_past zero (r ∷ rs) l = absurd (omega arith)
row_past (suc n) (r ∷ rs) l = row_past n rs (omega arith)

with_row_at : (n : ℕ) (r : SenderRow) (rs : Channels) → n < length rs → with_row n r rs ≡ slice_set rs n r
with_row_at n r [] l = absurd (omega arith)
with_row_at zero r (x ∷ rs) l = refl
with_row_at (suc n) r (x ∷ rs) l = ap (λ xs. x ∷ xs) (with_row_at n r rs (omega arith))

pub opened : (rs : Channels) → with_senders (length rs + 1) rs ≡ rs ++ [] ∷ []
opened rs = rw add-one (by rs)
  where
    by : (rs : Channels) → with_senders (suc (length rs)) rs ≡ rs ++ [] ∷ []
    by [] = refl
    by (r ∷ rs) = ap (λ xs. r ∷ xs) (by rs)

pub sent_at : (a b : ℕ) (s : Signal) (rs : Channels) (old r : SenderRow) → a < length rs → old ≡ slice_index_or rs a old
    → r ≡ put b (with_last (got b old) s) old → slice_set rs a r ≡ sent a b s rs
sent_at a b s rs old r l read e =
    let here : row_of a rs ≡ old = row_at a rs old l ∙ sym read in
    sym (with_row_at a r rs l) ∙ ap (λ x. with_row a x rs) (e ∙ ap (λ x. put b (with_last (got b x) s) x) (sym here))

abbrev given : Signal → Channels → Option (Signal × Channels)
given s cs = Some (s, cs)

-- taking from all rows is taking from the sender's, whatever is there
taken_by : (a b : ℕ) (s : Signal) (rs : Channels) (r : SenderRow) (o : Option Queue) → a < length rs
    → taken_in b (row_of a rs) o ≡ Some (s, r) → taken_from a b rs o ≡ Some (s, slice_set rs a r)
taken_by a b s rs r None l e = absurd (cc)
taken_by a b s rs r (Some q) l e =
    let both : ◌≡◌ {A = Signal × SenderRow} (q.first, row_with_left b q.rest (row_of a rs)) (s, r) = cc in
    ap (λ p. given p.0 (with_row a p.1 rs)) both ∙ ap (given s) (with_row_at a r rs l)

none_by : (a b : ℕ) (rs : Channels) (r : SenderRow) (o : Option Queue) → taken_in b r o ≡ None
    → taken_from a b rs o ≡ None
none_by a b rs r None e = refl
none_by a b rs r (Some q) e = absurd (cc)

pub taken_at : (a b : ℕ) (rs : Channels) (old r : SenderRow) (o : Option Program) → a < length rs
    → old ≡ slice_index_or rs a old
    → IfSome o (λ s. taken_in b old (got b old) ≡ Some (signal_of s, r))
    → IfSome o (λ s. taken a b rs ≡ Some (signal_of s, slice_set rs a r))
taken_at a b rs old r None l read e = tt
taken_at a b rs old r (Some s) l read e =
    let here : row_of a rs ≡ old = row_at a rs old l ∙ sym read in
    taken_by a b (signal_of s) rs r (got b (row_of a rs)) l (ap (λ x. taken_in b x (got b x)) here ∙ e)

pub nothing_at : (a b : ℕ) (rs : Channels) (old : SenderRow) (o : Option Program) → a < length rs
    → old ≡ slice_index_or rs a old
    → IfNone o (taken_in b old (got b old) ≡ None) → IfNone o (taken a b rs ≡ None)
nothing_at a b rs old (Some s) l read e = tt
nothing_at a b rs old None l read e =
    let here : row_of a rs ≡ old = row_at a rs old l ∙ sym read in
    none_by a b rs (row_of a rs) (got b (row_of a rs)) (ap (λ x. taken_in b x (got b x)) here ∙ e)

pub nothing_past : (a b : ℕ) (rs : Channels) → length rs ≤ a → taken a b rs ≡ None
nothing_past a b rs l = ap (λ r. taken_from a b rs (got b r)) (row_past a rs l)
