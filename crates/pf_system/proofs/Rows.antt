-- The rows of channels, as signals are sent and as senders come.
use Rattle.std.proofs.Common.{◌≡◌, ℕ, zero, suc, ◌+◌, ◌≤◌, List, [], ◌∷◌, ◌++◌, refl, ap, ◌∙◌, arith, add-one, length}
use Rattle.pf_sorted.specs.Maps.{got, put}
use Rattle.pf_model.specs.Channels.{Signal, SenderRow, Channels, row_of, with_row, with_last, sent, with_senders}
use Rattle.pf_model.specs.Configuration.{posted}

-- ---- a row for each of n senders

pub enough_senders : (n : ℕ) (cs : Channels) → n ≤ length cs → with_senders n cs ≡ cs
enough_senders zero cs l = refl
enough_senders (suc n) [] l = absurd (omega arith)
enough_senders (suc n) (r ∷ rs) l = ap (λ z. r ∷ z) (enough_senders n rs (omega arith))

pub senders_length : (n : ℕ) (cs : Channels) → (length cs ≤ length (with_senders n cs))
    × (n ≤ length (with_senders n cs))
senders_length zero cs = (omega arith, omega arith)
senders_length (suc n) [] = let h = senders_length n [] in let k = h.1 in (omega arith, omega arith)
senders_length (suc n) (r ∷ rs) = let h = senders_length n rs in let j = h.0 in let k = h.1 in
    (omega arith, omega arith)

-- one sender more, and then up to another
pub one_more : (n : ℕ) (cs : Channels) → length cs ≤ n
    → with_senders (n + 1) (with_senders (length cs + 1) cs) ≡ with_senders (n + 1) cs
one_more n cs l = simp add-one (by n cs l)
  where
    by : (n : ℕ) (cs : Channels) → length cs ≤ n
        → with_senders (suc n) (with_senders (suc (length cs)) cs) ≡ with_senders (suc n) cs
    by n [] l = refl
    by zero (r ∷ rs) l = absurd (omega arith)
    by (suc n) (r ∷ rs) l = ap (λ z. r ∷ z) (by n rs (omega arith))

-- ---- sending

row_padded : (a n : ℕ) (cs : Channels) → row_of a (with_senders n cs) ≡ row_of a cs
row_padded a zero cs = refl
row_padded zero (suc n) [] = refl
row_padded (suc a) (suc n) [] = row_padded a n []
row_padded zero (suc n) (r ∷ rs) = refl
row_padded (suc a) (suc n) (r ∷ rs) = row_padded a n rs

with_row_padded : (a : ℕ) (r : SenderRow) (cs : Channels) → with_row a r (with_senders (suc a) cs) ≡ with_row a r cs
with_row_padded zero r [] = refl
with_row_padded zero r (x ∷ rs) = refl
with_row_padded (suc a) r [] = ap (λ z. [] ∷ z) (with_row_padded a r [])
with_row_padded (suc a) r (x ∷ rs) = ap (λ z. x ∷ z) (with_row_padded a r rs)

-- a row of nothing for the sender makes no difference
pub sent_padded : (a b : ℕ) (s : Signal) (cs : Channels) → sent a b s (with_senders (a + 1) cs) ≡ sent a b s cs
sent_padded a b s cs =
    rw add-one
    (ap (λ r. with_row a (put b (with_last (got b r) s) r) (with_senders (suc a) cs)) (row_padded a (suc a) cs)
    ∙ with_row_padded a (put b (with_last (got b (row_of a cs)) s) (row_of a cs)) cs)

row_length : (a : ℕ) (r : SenderRow) (cs : Channels) → length cs ≤ length (with_row a r cs)
row_length a r [] = omega arith
row_length zero r (x ∷ rs) = omega arith
row_length (suc a) r (x ∷ rs) = omega (arith, row_length a r rs)

pub sent_length : (a b : ℕ) (s : Signal) (cs : Channels) → length cs ≤ length (sent a b s cs)
sent_length a b s cs = row_length a (put b (with_last (got b (row_of a cs)) s) (row_of a cs)) cs

pub posted_length : (a : ℕ) (ss : List (ℕ × Signal)) (cs : Channels) → length cs ≤ length (posted a ss cs)
posted_length a [] cs = omega arith
posted_length a (x ∷ ss) cs = omega (arith, sent_length a x.0 x.1 cs, posted_length a ss (sent a x.0 x.1 cs))

-- one signal more is posted last
pub posted_more : (a : ℕ) (ss : List (ℕ × Signal)) (x : ℕ × Signal) (cs : Channels)
    → posted a (ss ++ x ∷ []) cs ≡ sent a x.0 x.1 (posted a ss cs)
posted_more a [] x cs = refl
posted_more a (y ∷ ss) x cs = posted_more a ss x (sent a y.0 y.1 cs)
