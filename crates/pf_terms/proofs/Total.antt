-- The order of values is total.
use Rattle.std.proofs.Common.{◌≡◌, ℕ, ◌<◌, ◌≤◌, List, Bool, true, false, ◌&&◌, nat_eq, refl, sym, ap, ◌∙◌, arith}
use Rattle.std.specs.declared.cmp.Ordering.{Ordering}
use Rattle.std.specs.declared.cmp.Ordering.TheVariants.{Less, Equal, Greater}
use Rattle.std.specs.Ordering.{nat_cmp, ordering_then, ordering_reverse}
use Rattle.std.specs.Cmp.{IsTotalOrder, then_flip, nat_cmp_is}
use Rattle.std.proofs.lemmas.Cmp.{nat_cmp_total, int_cmp_total, nat_list_cmp_total, ranked}
use Rattle.std.proofs.lemmas.Bool.Decides.{nat_tests}
use Rattle.pf_terms.specs.Value.{Value, Values, int, atom, ref, pid, tuple, list, none, more, count}
use Rattle.pf_terms.specs.Order.{rank, compare, compare_all}

-- whether two values are of one kind
abbrev pub alike : Value → Value → Bool
alike v w = nat_eq (rank v) (rank w)

-- a first comparison, and where it is equal a second: what holds of both holds of them together
then_congr : (a p b c q r : Ordering) → (a ≡ Equal → c ≡ b) → (p ≡ Equal → r ≡ q) → ordering_then a p ≡ Equal
    → ordering_then c r ≡ ordering_then b q
then_congr Less p b c q r f g e = absurd (cc)
then_congr Equal p b c q r f g e = ap (λ o. ordering_then o r) (f refl) ∙ ap (ordering_then b) (g e)
then_congr Greater p b c q r f g e = absurd (cc)

then_trans : (a b c p q r : Ordering) → (a ≡ Less → b ≡ Less → c ≡ Less) → (a ≡ Equal → c ≡ b) → (b ≡ Equal → c ≡ a)
    → (p ≡ Less → q ≡ Less → r ≡ Less)
    → ordering_then a p ≡ Less → ordering_then b q ≡ Less → ordering_then c r ≡ Less
then_trans Less Less c p q r t f g s d e = ap (λ o. ordering_then o r) (t refl refl)
then_trans Less Equal c p q r t f g s d e = ap (λ o. ordering_then o r) (g refl)
then_trans Less Greater c p q r t f g s d e = absurd (cc)
then_trans Equal Less c p q r t f g s d e = ap (λ o. ordering_then o r) (f refl)
then_trans Equal Equal c p q r t f g s d e = ap (λ o. ordering_then o r) (f refl) ∙ s d e
then_trans Equal Greater c p q r t f g s d e = absurd (cc)
then_trans Greater b c p q r t f g s d e = absurd (cc)

module _ (name : ℕ → List ℕ) where
  -- values of different kinds are ordered by kind
  pub apart : (v w : Value) → alike v w ≡ false → compare name v w ≡ nat_cmp (rank v) (rank w)
  apart (int x) (int y) h = absurd (cc)
  apart (int x) w h = refl
  apart (atom a) (atom b) h = absurd (cc)
  apart (atom a) w h = refl
  apart (ref r) (ref s) h = absurd (cc)
  apart (ref r) w h = refl
  apart (pid p) (pid q) h = absurd (cc)
  apart (pid p) w h = refl
  apart (tuple vs) (tuple ws) h = absurd (cc)
  apart (tuple vs) w h = refl
  apart (list vs) (list ws) h = absurd (cc)
  apart (list vs) w h = refl

  -- a value that is less is of no later kind
  rank_le : (v w : Value) (b : Bool) → alike v w ≡ b → compare name v w ≡ Less → rank v ≤ rank w
  rank_le v w true h e = grind (arith, nat_tests)
  rank_le v w false h e =
      let r = ranked (rank v) (rank w) Less (sym e ∙ apart v w h) in omega arith

  -- where two of three values are of different kinds, the kinds decide
  mixed : (u v w : Value) → (alike u v && alike v w) ≡ false → compare name u v ≡ Less → compare name v w ≡ Less
      → compare name u w ≡ Less
  mixed u v w h p q =
      let a = rank_le u v (alike u v) refl p in
      let b = rank_le v w (alike v w) refl q in
      let below : rank u < rank w = grind (arith, nat_tests) in
      let unlike : alike u w ≡ false = grind (arith, nat_tests) in
      apart u w unlike ∙ sym (nat_cmp_is (rank u) (rank w) Less below)

  rank_same : (v w : Value) (b : Bool) → alike v w ≡ b → compare name v w ≡ Equal → rank v ≡ rank w
  rank_same v w true h e = grind (arith, nat_tests)
  rank_same v w false h e = ranked (rank v) (rank w) Equal (sym e ∙ apart v w h)

  mixed_congr : (u v w : Value) → (alike u v && alike v w) ≡ false → compare name u v ≡ Equal
      → compare name u w ≡ compare name v w
  mixed_congr u v w h p =
      let r = rank_same u v (alike u v) refl p in
      let left : alike u w ≡ false = grind (arith, nat_tests) in
      let right : alike v w ≡ false = grind (arith, nat_tests) in
      apart u w left ∙ ap (λ n. nat_cmp n (rank w)) r ∙ sym (apart v w right)

  mutual
    pub antisymm : (v w : Value) → compare name v w ≡ ordering_reverse (compare name w v)
    antisymm (int x) (int y) = int_cmp_total.antisymm x y
    antisymm (atom a) (atom b) = nat_list_cmp_total.antisymm (name a) (name b)
    antisymm (ref r) (ref s) = nat_cmp_total.antisymm r s
    antisymm (pid p) (pid q) = nat_cmp_total.antisymm p q
    antisymm (tuple vs) (tuple ws) =
        ap (λ o. ordering_then o (compare_all name vs ws)) (nat_cmp_total.antisymm (count vs) (count ws))
        ∙ ap (ordering_then (ordering_reverse (nat_cmp (count ws) (count vs)))) (antisymm_all vs ws)
        ∙ then_flip (nat_cmp (count ws) (count vs)) (compare_all name ws vs)
    antisymm (list vs) (list ws) = antisymm_all vs ws
    antisymm v w = refl

    antisymm_all : (vs ws : Values) → compare_all name vs ws ≡ ordering_reverse (compare_all name ws vs)
    antisymm_all none none = refl
    antisymm_all none (more w ws) = refl
    antisymm_all (more v vs) none = refl
    antisymm_all (more v vs) (more w ws) =
        ap (λ o. ordering_then o (compare_all name vs ws)) (antisymm v w)
        ∙ ap (ordering_then (ordering_reverse (compare name w v))) (antisymm_all vs ws)
        ∙ then_flip (compare name w v) (compare_all name ws vs)

  mutual
    pub congr : (u v w : Value) → compare name u v ≡ Equal → compare name u w ≡ compare name v w
    congr (int x) (int y) (int z) e = int_cmp_total.congr x y z e
    congr (atom a) (atom b) (atom c) e = nat_list_cmp_total.congr (name a) (name b) (name c) e
    congr (ref r) (ref s) (ref t) e = nat_cmp_total.congr r s t e
    congr (pid p) (pid q) (pid r) e = nat_cmp_total.congr p q r e
    congr (tuple us) (tuple vs) (tuple ws) e =
        then_congr (nat_cmp (count us) (count vs)) (compare_all name us vs) _ _ _ _
        (nat_cmp_total.congr (count us) (count vs) (count ws)) (congr_all us vs ws) e
    congr (list us) (list vs) (list ws) e = congr_all us vs ws e
    congr u v w e = mixed_congr u v w refl e

    congr_all : (us vs ws : Values) → compare_all name us vs ≡ Equal → compare_all name us ws ≡ compare_all name vs ws
    congr_all none none ws e = refl
    congr_all none (more v vs) ws e = absurd (cc)
    congr_all (more u us) none ws e = absurd (cc)
    congr_all (more u us) (more v vs) none e = refl
    congr_all (more u us) (more v vs) (more w ws) e =
        then_congr (compare name u v) (compare_all name us vs) _ _ _ _ (congr u v w) (congr_all us vs ws) e

  turned : (u v w : Value) → compare name v w ≡ Equal → compare name u w ≡ compare name u v
  turned u v w e =
      antisymm u w ∙ ap ordering_reverse (congr w v u (antisymm w v ∙ ap ordering_reverse e)) ∙ sym (antisymm u v)

  nat_turned : (l m n : ℕ) → nat_cmp m n ≡ Equal → nat_cmp l n ≡ nat_cmp l m
  nat_turned l m n e =
      nat_cmp_total.antisymm l n ∙ ap ordering_reverse
      (nat_cmp_total.congr n m l (nat_cmp_total.antisymm n m ∙ ap ordering_reverse e))
      ∙ sym (nat_cmp_total.antisymm l m)

  mutual
    pub trans : (u v w : Value) → compare name u v ≡ Less → compare name v w ≡ Less → compare name u w ≡ Less
    trans (int x) (int y) (int z) p q = int_cmp_total.trans x y z p q
    trans (atom a) (atom b) (atom c) p q = nat_list_cmp_total.trans (name a) (name b) (name c) p q
    trans (ref r) (ref s) (ref t) p q = nat_cmp_total.trans r s t p q
    trans (pid x) (pid y) (pid z) p q = nat_cmp_total.trans x y z p q
    trans (tuple us) (tuple vs) (tuple ws) p q =
        then_trans (nat_cmp (count us) (count vs)) (nat_cmp (count vs) (count ws)) (nat_cmp (count us) (count ws))
        (compare_all name us vs) (compare_all name vs ws) (compare_all name us ws)
        (nat_cmp_total.trans (count us) (count vs) (count ws)) (nat_cmp_total.congr (count us) (count vs) (count ws))
        (nat_turned (count us) (count vs) (count ws)) (trans_all us vs ws) p q
    trans (list us) (list vs) (list ws) p q = trans_all us vs ws p q
    trans u v w p q = mixed u v w refl p q

    trans_all : (us vs ws : Values) → compare_all name us vs ≡ Less → compare_all name vs ws ≡ Less
        → compare_all name us ws ≡ Less
    trans_all none none ws p q = absurd (cc)
    trans_all none (more v vs) none p q = absurd (cc)
    trans_all none (more v vs) (more w ws) p q = refl
    trans_all (more u us) none ws p q = absurd (cc)
    trans_all (more u us) (more v vs) none p q = absurd (cc)
    trans_all (more u us) (more v vs) (more w ws) p q =
        then_trans (compare name u v) (compare name v w) (compare name u w) (compare_all name us vs)
        (compare_all name vs ws) (compare_all name us ws)
        (trans u v w) (congr u v w) (turned u v w) (trans_all us vs ws) p q

  pub compare_total : IsTotalOrder (compare name)
  compare_total = record { antisymm = antisymm; trans = trans; congr = congr }
