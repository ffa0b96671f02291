-- What is selected of a mailbox is what `receive` takes.
use Rattle.std.proofs.Common.{◌≡◌, ℕ, List, [], ◌∷◌, ◌++◌, Option, Some, None, refl, sym, ap, ◌∙◌, subst}
use Rattle.pf_terms.specs.Value.{Value}
use Rattle.pf_syntax.specs.Tree.{Tree, Clauses}
use Rattle.pf_model.specs.Module.{Module}
use Rattle.pf_model.specs.Contraction.{picked}
use Rattle.pf_model.specs.Receive.{Taken, taking, and_before, taken_or_later, selected, FitsNone, ReceiveTakes}
use Rattle.pf_model.specs.Receive.{ReceiveIsRelation}

module _ (m : Module) (own : ℕ) (ks : Clauses) where
  -- a message that no clause picks is before what is taken of the others
  takes_after : (v : Value) (vs : List Value) (t : Taken) → picked m own ks v ≡ None → ReceiveTakes m own ks vs t
      → ReceiveTakes m own ks (v ∷ vs) (record t { others = v ∷ t.others })
  takes_after v vs t h k =
      record {
        front = v ∷ k.front;
        back = k.back;
        mailbox_is = ap (λ x. v ∷ x) k.mailbox_is;
        others_are = ap (λ x. v ∷ x) k.others_are;
        none_before = (h, k.none_before);
        picks = k.picks;
      }

  takes_first : (v : Value) (vs : List Value) (body : Tree) → picked m own ks v ≡ Some body
      → ReceiveTakes m own ks (v ∷ vs) (taking body v vs)
  takes_first v vs body h = record {
    front = [];
    back = vs;
    mailbox_is = refl;
    others_are = refl;
    none_before =
        tt;
    picks = h;
  }

  -- ---- from the function to the relation

  after_is : (v : Value) (o : Option Taken) (t : Taken) → and_before v o ≡ Some t
      → (u : Taken) × (o ≡ Some u) × (t ≡ record u { others = v ∷ u.others })
  after_is v None t e = absurd (cc)
  after_is v (Some u) t e = (u, refl, cc)

  takes_some : (vs : List Value) (t : Taken) → selected m own ks vs ≡ Some t → ReceiveTakes m own ks vs t
  takes_some [] t e = absurd (cc)
  takes_some (v ∷ vs) t e = by (picked m own ks v) refl (takes_some vs) e
    where
      by : (o : Option Tree) → picked m own ks v ≡ o
          → ((u : Taken) → selected m own ks vs ≡ Some u → ReceiveTakes m own ks vs u)
          → taken_or_later o v vs (selected m own ks vs) ≡ Some t → ReceiveTakes m own ks (v ∷ vs) t
      by (Some body) h next d = let q : taking body v vs ≡ t = cc in
          subst (ReceiveTakes m own ks (v ∷ vs)) q (takes_first v vs body h)
      by None h next d =
          let k = after_is v (selected m own ks vs) t d in
          subst (ReceiveTakes m own ks (v ∷ vs)) (sym k.2) (takes_after v vs k.0 h (next k.0 k.1))

  after_none : (v : Value) (o : Option Taken) → and_before v o ≡ None → o ≡ None
  after_none v None e = refl
  after_none v (Some u) e = absurd (cc)

  fits_none : (vs : List Value) → selected m own ks vs ≡ None → FitsNone m own ks vs
  fits_none [] e = tt
  fits_none (v ∷ vs) e = by (picked m own ks v) refl (fits_none vs) e
    where
      by : (o : Option Tree) → picked m own ks v ≡ o → (selected m own ks vs ≡ None → FitsNone m own ks vs)
          → taken_or_later o v vs (selected m own ks vs) ≡ None → FitsNone m own ks (v ∷ vs)
      by (Some body) h next d = absurd (cc)
      by None h next d = (h, next (after_none v (selected m own ks vs) d))

  -- ---- from the relation to the function

  selected_after : (front back : List Value) (body : Tree) (v : Value) → FitsNone m own ks front
      → picked m own ks v ≡ Some body
      → selected m own ks (front ++ v ∷ back) ≡ Some (taking body v (front ++ back))
  selected_after [] back body v h p = ap (λ o. taken_or_later o v back (selected m own ks back)) p
  selected_after (w ∷ ws) back body v h p =
      ap (λ o. taken_or_later o w (ws ++ v ∷ back) (selected m own ks (ws ++ v ∷ back))) h.0
      ∙ ap (and_before w) (selected_after ws back body v h.1 p)

  takes_only : (vs : List Value) (t : Taken) → ReceiveTakes m own ks vs t → selected m own ks vs ≡ Some t
  takes_only vs t k =
      ap (selected m own ks) k.mailbox_is ∙ selected_after k.front k.back t.body t.message k.none_before k.picks
      ∙ ap (λ x. Some (taking t.body t.message x)) (sym k.others_are)

pub receive_is_a_relation : ReceiveIsRelation
receive_is_a_relation m own ks mailbox =
    record {
      some = takes_some m own ks mailbox;
      only = takes_only m own ks mailbox;
      nothing =
          fits_none m own ks mailbox;
    }
