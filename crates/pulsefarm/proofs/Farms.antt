-- Farms that were run, and words that have no file.
use Rattle.std.proofs.Common.{◌≡◌, ◌<◌, ◌+◌, ◌||◌, ◌⊎◌, ℕ, Bool, true, false, List, [], ◌∷◌, ◌++◌, map, take, drop}
use Rattle.std.proofs.Common.{arith, get_or, length, Option, inr, ◌∙◌, refl, ap, subst, sym}
use Rattle.std.specs.List.{list_any}
use Rattle.std.proofs.lemmas.List.{drop_more, length-map, length-take-le, map-append, map_more, take-append-drop}
use Rattle.std.proofs.lemmas.List.Folds.{list_any-append}
use Rattle.pf_cli_messages.specs.Texts.{HasStatus}
use Rattle.pf_clients.specs.Pairs.{EachTwo}
use Rattle.pf_clients.proofs.Pairs.{two_more}
use Rattle.pf_words.specs.Words.{End}
use Rattle.pf_cli.specs.Args.{FarmArgs}
use Rattle.pulsefarm.specs.Farms.{FarmIsDone, FarmRuns, HasReason}
use Rattle.pulsefarm.specs.Sources.{is_input, path_of, LacksFile}

-- a list is what is before a place, what is there, and the rest
parted : {X Y : Type 0} (f : X → Y) (xs : List X) (i : ℕ) (d : X) → i < length xs
    → map f xs ≡ map f (take i xs) ++ f (get_or xs i d) ∷ map f (drop (i + 1) xs)
parted f xs i d lt =
    ap (map f) (sym (take-append-drop i xs) ∙ ap (λ r. take i xs ++ r) (drop_more xs i d lt))
    ∙ map-append f (take i xs) (get_or xs i d ∷ drop (i + 1) xs)

-- the word at a place has no file
pub lacks_at : {X : Type 0} (refuses : (path : List ℕ) → Type 0) (f : X → List ℕ) (xs : List X) (i : ℕ) (d : X)
    → i < length xs
    → refuses (path_of (f (get_or xs i d)))
    ⊎ ((is_input (f (get_or xs i d)) ≡ true) × (list_any is_input (map f (take i xs)) ≡ true))
    → LacksFile refuses (map f xs)
lacks_at refuses f xs i d lt why =
    (map f (take i xs), f (get_or xs i d), map f (drop (i + 1) xs), parted f xs i d lt, why)

-- one word more has one source more
pub source_more : {X Y : Type 0} (P : ℕ → List ℕ → Y → Type 0) (f : X → List ℕ) (xs : List X) (i : ℕ) (d : X)
    (ys zs : List Y) (y : Y) (n : ℕ) → i < length xs → n ≡ i → zs ≡ ys ++ y ∷ []
    → EachTwo P 1 (map f (take i xs)) ys → P (n + 1) (f (get_or xs i d)) y → EachTwo P 1 (map f (take (i + 1) xs)) zs
source_more P f xs i d ys zs y n lt same items all one =
    let words = map f (take i xs) in
    let count : length words ≡ i = length-map (take i xs) f ∙ length-take-le i xs (omega (arith, lt)) in
    let place : n + 1 ≡ 1 + length words = omega (arith, same, count) in
    subst (λ vs. EachTwo P 1 (map f (take (i + 1) xs)) vs) (sym items)
    (subst (λ ws. EachTwo P 1 ws (ys ++ y ∷ [])) (sym (map_more f xs i d lt))
    (two_more P 1 words ys (f (get_or xs i d)) y all (subst (λ k. P k (f (get_or xs i d)) y) place one)))

or_false : (b : Bool) → (b || false) ≡ b
or_false true = refl
or_false false = refl

-- whether one word more is among those that name the standard input
pub input_more : (ws : List (List ℕ)) (w : List ℕ) (b : Bool) → b ≡ list_any is_input ws
    → (b || is_input w) ≡ list_any is_input (ws ++ w ∷ [])
input_more ws w b same =
    ap (λ c. c || is_input w) same
    ∙ (ap (λ c. list_any is_input ws || c) (sym (or_false (is_input w)))
    ∙ sym (list_any-append is_input ws (w ∷ [])))

-- the same of the word at a place, after those before it
pub input_at : {X : Type 0} (f : X → List ℕ) (xs : List X) (i : ℕ) (d : X) (b r : Bool) → i < length xs
    → r ≡ is_input (f (get_or xs i d)) → b ≡ list_any is_input (map f (take i xs))
    → (b || r) ≡ list_any is_input (map f (take (i + 1) xs))
input_at f xs i d b r lt one same =
    ap (λ x. b || x) one
    ∙ (input_more (map f (take i xs)) (f (get_or xs i d)) b same
    ∙ ap (λ ws. list_any is_input ws) (sym (map_more f xs i d lt)))

-- ---- a farm that was run

module _ {F : Type 0} (opens makes : (path : List ℕ) → F → Type 0) (refuses bars : (path : List ℕ) → Type 0)
    (remaining contents : F → Option (List ℕ)) where
  -- it has a reason for its status
  pub run_over : (s : Bool) (args : FarmArgs) (w0 w1 : Option (List ℕ)) (n0 n1 : ℕ) (r end : End) → r ≡ end
      → FarmRuns opens makes refuses bars remaining contents args w0 w1 n0 n1 r
      → (status : ℕ) → HasStatus end status
      → HasReason opens makes refuses bars remaining contents s args w0 w1 n0 n1 status
  run_over s args w0 w1 n0 n1 r end is runs status has =
      inr (inr (end, subst (FarmRuns opens makes refuses bars remaining contents args w0 w1 n0 n1) is runs, has))

  -- it is done, with a status of its end
  pub run_to : (args : FarmArgs) (w0 w1 : Option (List ℕ)) (n0 n1 : ℕ) (r end : End) → r ≡ end
      → FarmRuns opens makes refuses bars remaining contents args w0 w1 n0 n1 r → (given : ℕ) → HasStatus end given
      → FarmIsDone opens makes refuses bars remaining contents args w0 w1 n0 n1 given
  run_to args w0 w1 n0 n1 r end is runs given has =
      inr (end, subst (FarmRuns opens makes refuses bars remaining contents args w0 w1 n0 n1) is runs, has)

  -- one that is done from where nothing was written is done from the beginning
  pub from_beginning : (args : FarmArgs) (w w0 w1 : Option (List ℕ)) (k n0 n1 given : ℕ) → w ≡ w0 → k ≡ n0
      → FarmIsDone opens makes refuses bars remaining contents args w w1 k n1 given
      → FarmIsDone opens makes refuses bars remaining contents args w0 w1 n0 n1 given
  from_beginning args w w0 w1 k n0 n1 given written failed done =
      subst (λ i. FarmIsDone opens makes refuses bars remaining contents args w0 w1 i n1 given) failed
      (subst (λ (x : Option (List ℕ)). FarmIsDone opens makes refuses bars remaining contents args x w1 k n1 given)
      written done)
