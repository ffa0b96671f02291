-- What clients are given by sources is what they are given by words.
use Rattle.std.proofs.Common.{◌≡◌, ◌⊎◌, ℕ, suc, List, [], ◌∷◌, Option, Some, None, Ok, Err, inl, inr, length, refl}
use Rattle.std.proofs.Common.{◌∙◌, ap, sym, subst}
use Rattle.pf_streams.specs.declared.stream.StreamFault.{StreamFault}
use Rattle.pf_streams.specs.declared.stream.StreamFault.TheVariants.{Read, Write}
use Rattle.pf_farm_state.specs.declared.client.ClosedSeat.{ClosedSeat}
use Rattle.pf_clients.specs.Farms.{ClientText, AreAnswered, FarmOf, IsAnswered, IsUnopened}
use Rattle.pf_clients.specs.Pairs.{EachTwo}
use Rattle.pf_clients.specs.declared.streams.ClientStreams.{ClientStreams}
use Rattle.pf_cli.specs.Args.{FarmArgs}
use Rattle.pf_words.specs.Words.{End}
use Rattle.pulsefarm.specs.Farms.{FarmEnds, FarmRuns}
use Rattle.pulsefarm.specs.Sources.{path_of, reply_path, AreRepliesAt, GivesStreams, IsFileOf, IsSource}
use Rattle.pulsefarm.specs.Sources.{LacksStream, MayLack, StreamsOf}

-- ---- one client

module _ {F : Type 0} (opens makes : (path : List ℕ) → F → Type 0) (k : ℕ) (word name : List ℕ) (opened : Option F)
    (replies : Option (List ℕ)) where
  pub gives_as : (folder : Option (List ℕ)) (s : ClientStreams F F) → IsSource opens folder k word name opened replies
      → GivesStreams opens makes name opened replies s → StreamsOf opens makes folder k word s
  gives_as None s h given =
      let same : s.file ≡ h.1.0 = subst (λ o. IsFileOf opens name o s.file) h.1.1 given.0 in (
        subst (λ f. opens (path_of word) f) (sym same) h.1.2,
        subst (λ r. AreRepliesAt makes r s.replies) h.2 given.1,
      )
  gives_as (Some folder) s h given =
      let file : opens (path_of name) s.file = subst (λ o. IsFileOf opens name o s.file) h.1 given.0 in (
        subst (λ w. opens (path_of w) s.file) h.0 file,
        subst (λ r. AreRepliesAt makes r s.replies) h.2 given.1,
      )

  pub lacks_as : (refuses bars : (path : List ℕ) → Type 0) (folder : Option (List ℕ)) (e : StreamFault)
      → IsSource opens folder k word name opened replies → LacksStream refuses bars name opened replies e
      → MayLack refuses bars folder k word e
  lacks_as refuses bars None (Read e) h lacks = let both : Some h.1.0 ≡ None = sym h.1.1 ∙ lacks.0 in absurd (cc)
  lacks_as refuses bars None (Write e) h lacks = let both : None ≡ Some lacks.0 = sym h.2 ∙ lacks.1 in absurd (cc)
  lacks_as refuses bars (Some folder) (Read e) h lacks = subst (λ w. refuses (path_of w)) h.0 lacks.1
  lacks_as refuses bars (Some folder) (Write e) h lacks =
      let both : Some lacks.0 ≡ Some (reply_path folder k) = sym lacks.1 ∙ h.2 in
      let same : lacks.0 ≡ reply_path folder k = cc in
      subst (λ p. bars p) same lacks.2

-- ---- a farm

module _ {X Y : Type 0} (P Q : ℕ → Y → X → Type 0) (more : (k : ℕ) (y : Y) (x : X) → P k y x → Q k y x) where
  pub each_as : (k : ℕ) (ys : List Y) (xs : List X) → EachTwo P k ys xs → EachTwo Q k ys xs
  each_as k [] [] h = tt
  each_as k [] (x ∷ xs) h = absurd h
  each_as k (y ∷ ys) [] h = absurd h
  each_as k (y ∷ ys) (x ∷ xs) h = (more k y x h.0, each_as (suc k) ys xs h.1)

-- there are as many of both
pub each_count : {X Y : Type 0} (P : ℕ → Y → X → Type 0) (k : ℕ) (ys : List Y) (xs : List X) → EachTwo P k ys xs
    → length xs ≡ length ys
each_count P k [] [] h = refl
each_count P k [] (x ∷ xs) h = absurd h
each_count P k (y ∷ ys) [] h = absurd h
each_count P k (y ∷ ys) (x ∷ xs) h = ap suc (each_count P (suc k) ys xs h.1)

module _ {X Y F V : Type 0} (gives : ℕ → X → ClientStreams F V → Type 0) (lacks : ℕ → X → StreamFault → Type 0)
    (gives' : ℕ → Y → ClientStreams F V → Type 0) (lacks' : ℕ → Y → StreamFault → Type 0)
    (remaining : F → Option (List ℕ)) (contents : V → Option (List ℕ)) where
  -- what the one may give or lack, the other may
  abbrev pub IsWithin : ℕ → Y → X → Type 0
  IsWithin k y x =
      ((s : ClientStreams F V) → gives k x s → gives' k y s) × ((e : StreamFault) → lacks k x e → lacks' k y e)

  one_as : (k : ℕ) (y : Y) (x : X) (w : Option V) (s : ClosedSeat) (c : ClientText) → IsWithin k y x
      → IsAnswered gives lacks remaining contents k x w s c ⊎ IsUnopened gives lacks remaining contents k x w s c
      → IsAnswered gives' lacks' remaining contents k y w s c ⊎ IsUnopened gives' lacks' remaining contents k y w s c
  one_as k y x w s c within (inl h) = inl (h.0, h.1, within.0 h.0 h.2, h.3, h.4)
  one_as k y x w s c within (inr h) = inr (h.0, within.1 h.0 h.1, h.2, h.3, h.4, h.5)

  answered_as : (k : ℕ) (ys : List Y) (xs : List X) (ws : List (Option V)) (ss : List ClosedSeat)
      (cs : List ClientText) → EachTwo IsWithin k ys xs → AreAnswered gives lacks remaining contents k xs ws ss cs
      → AreAnswered gives' lacks' remaining contents k ys ws ss cs
  answered_as k [] [] [] [] [] each a = tt
  answered_as k [] [] [] [] (c ∷ cs) each a = absurd a
  answered_as k [] [] [] (s ∷ ss) cs each a = absurd a
  answered_as k [] [] (w ∷ ws) ss cs each a = absurd a
  answered_as k [] (x ∷ xs) ws ss cs each a = absurd each
  answered_as k (y ∷ ys) [] ws ss cs each a = absurd each
  answered_as k (y ∷ ys) (x ∷ xs) [] ss cs each a = absurd a
  answered_as k (y ∷ ys) (x ∷ xs) (w ∷ ws) [] cs each a = absurd a
  answered_as k (y ∷ ys) (x ∷ xs) (w ∷ ws) (s ∷ ss) [] each a = absurd a
  answered_as k (y ∷ ys) (x ∷ xs) (w ∷ ws) (s ∷ ss) (c ∷ cs) each a =
      (one_as k y x w s c each.0 a.0, answered_as (suc k) ys xs ws ss cs each.1 a.1)

  farm_as : (ys : List Y) (xs : List X) (left : List (Option V)) (cs : List ClientText) → EachTwo IsWithin 1 ys xs
      → FarmOf gives lacks remaining contents xs left cs → FarmOf gives' lacks' remaining contents ys left cs
  farm_as ys xs left cs each f = record {
    closing = f.closing;
    answered = answered_as 1 ys xs left f.closing.seats.items cs each f.answered;
    receipts = f.receipts;
    legal = f.legal;
    full = f.full;
    looks = f.looks;
    ended = f.ended;
    reported = f.reported;
  }

  pub ends_as : (ys : List Y) (xs : List X) (w0 w1 : Option (List ℕ)) (n0 n1 : ℕ) (r : End)
      → EachTwo IsWithin 1 ys xs → FarmEnds gives lacks remaining contents xs w0 w1 n0 n1 r
      → FarmEnds gives' lacks' remaining contents ys w0 w1 n0 n1 r
  ends_as ys xs w0 w1 n0 n1 (Ok s) each ((left, (cs, farm, prints)), same) =
      ((left, (cs, farm_as ys xs left cs each farm, prints)), same)
  ends_as ys xs w0 w1 n0 n1 (Err e) each (inl h) = inl h
  ends_as ys xs w0 w1 n0 n1 (Err e) each (inr (left, inl h)) = inr (left, inl h)
  ends_as ys xs w0 w1 n0 n1 (Err e) each (inr (left, inr (cs, farm, prints))) =
      inr (left, inr (cs, farm_as ys xs left cs each farm, prints))

-- ---- clients whose streams are where words say

module _ {F S : Type 0} (opens makes : (path : List ℕ) → F → Type 0) (refuses bars : (path : List ℕ) → Type 0)
    (remaining contents : F → Option (List ℕ)) (name : S → List ℕ) (file : S → Option F)
    (replies : S → Option (List ℕ)) where
  abbrev pub AreAt : (folder : Option (List ℕ)) → ℕ → List ℕ → S → Type 0
  AreAt folder k w x = IsSource opens folder k w (name x) (file x) (replies x)

  pub runs_over : (args : FarmArgs) (xs : List S) (w0 w1 : Option (List ℕ)) (n0 n1 : ℕ) (r : End)
      → EachTwo (AreAt args.replies) 1 args.files xs
      → FarmEnds (λ k x. GivesStreams opens makes (name x) (file x) (replies x))
      (λ k x. LacksStream refuses bars (name x) (file x) (replies x)) remaining contents xs w0 w1 n0 n1 r
      → FarmRuns opens makes refuses bars remaining contents args w0 w1 n0 n1 r
  runs_over args xs w0 w1 n0 n1 r each ends =
      let gives : ℕ → S → ClientStreams F F → Type 0 = λ k x. GivesStreams opens makes (name x) (file x) (replies x) in
      let lacks : ℕ → S → StreamFault → Type 0 = λ k x. LacksStream refuses bars (name x) (file x) (replies x) in
      let gives' = StreamsOf opens makes args.replies in
      let lacks' = MayLack refuses bars args.replies in
      let within = each_as (AreAt args.replies) (IsWithin gives lacks gives' lacks' remaining contents)
      (λ k w x h. (
        λ s. gives_as opens makes k w (name x) (file x) (replies x) args.replies s h,
        λ e. lacks_as opens makes k w (name x) (file x) (replies x) refuses bars args.replies e h,
      )) 1 args.files xs each in
      ends_as gives lacks gives' lacks' remaining contents args.files xs w0 w1 n0 n1 r within ends
