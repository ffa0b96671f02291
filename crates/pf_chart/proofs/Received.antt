-- Mailboxes while the events of a run are read.
use Rattle.std.proofs.Common.{◌≡◌, ◌+◌, ◌<◌, inl, inr, ℕ, zero, suc, true, List, [], ◌∷◌, Option, Some, None}
use Rattle.std.proofs.Common.{IfSome, is_some, length, remove, set, sym, ap, ◌∙◌, subst, arith}
use Rattle.std.specs.Prelude.{slice_get}
use Rattle.std.specs.Global.{Vec}
use Rattle.std.proofs.lemmas.Bool.Decides.{eqb_tells}
use Rattle.std.proofs.lemmas.Option.{same_Some, slice_get_within}
use Rattle.pf_terms.specs.Value.{Value}
use Rattle.pf_model.specs.Meaning.{Event}
use Rattle.pf_chart.specs.Origins.{IsColumnOf}
use Rattle.pf_chart.specs.Receipts.{AreInMailboxes, AreMailboxes, IsOfValue, IsTakenBy, IsWaiting}
use Rattle.pf_chart.specs.Signals.{AreReceipts, IsReceipt, marked}
use Rattle.pf_chart.specs.declared.columns.Column.{Column}
use Rattle.pf_chart.specs.declared.receipts.Mailboxes.{Mailboxes}
use Rattle.pf_chart.proofs.Joined.{set_besides, set_there}
use Rattle.pf_chart.proofs.Sending.{Reports}

-- ---- lists

-- what is in a list after one was removed was in it
pub in_removed : {X : Type 0} (xs : List X) (n i : ℕ) (x : X) → slice_get (remove xs n) i ≡ Some x
    → (k : ℕ) × (slice_get xs k ≡ Some x)
in_removed [] zero i x is = (i, is)
in_removed [] (suc n) i x is = (i, is)
in_removed (y ∷ ys) zero i x is = (suc i, is)
in_removed (y ∷ ys) (suc n) zero x is = (zero, is)
in_removed (y ∷ ys) (suc n) (suc i) x is = let r = in_removed ys n i x is in (suc r.0, r.1)

-- what an option has where it has something
pub what_is_there : {X : Type 0} (P : X → Type 0) (o : Option X) → true ≡ is_some o → IfSome o P → (x : X) × P x
what_is_there P (Some x) there h = (x, h)
what_is_there P None there h = absurd (cc)

-- ---- mailboxes

-- more events were read
pub one_read : (es : List Event) (cs : List Column) (n : ℕ) (m : Mailboxes) → AreMailboxes es cs n m
    → AreMailboxes es cs (n + 1) m
one_read es cs n m h = record {
  waiting = λ i k d q is in_it.
      let w = h.waiting i k d q is in_it in
      (w.0, w.1, w.2, w.3, (let less : d < n = w.4 in omega (arith, less)));
  taken = h.taken;
}

-- one of the mailboxes changed
pub one_changed : (es : List Event) (cs : List Column) (n : ℕ) (qs : List (Vec ℕ)) (i : ℕ) (q : Vec ℕ)
    → i < length qs → ((k d : ℕ) → slice_get q.items k ≡ Some d → IsWaiting es cs n i d)
    → AreInMailboxes es cs n qs → AreInMailboxes es cs n (set qs i q)
one_changed es cs n qs i q low each all = λ j k d p is in_it. from j k d p is in_it (eqb_tells j i)
  where
    from : (j k d : ℕ) (p : Vec ℕ) → slice_get (set qs i q) j ≡ Some p → slice_get p.items k ≡ Some d → Reports j i
        → IsWaiting es cs n j d
    from j k d p is in_it (inl same) =
        let one : q ≡ p = same_Some q p (sym (set_there qs i q low) ∙ ap (slice_get (set qs i q)) (sym same.1) ∙ is) in
        subst (λ l. IsWaiting es cs n l d) (sym same.1)
        (each k d (ap (λ (v : Vec ℕ). slice_get v.items k) one ∙ in_it))
    from j k d p is in_it (inr other) = all j k d p (sym (set_besides qs i j q other.1) ∙ is) in_it

-- a message leaves one
pub one_goes : (es : List Event) (cs : List Column) (n : ℕ) (qs : List (Vec ℕ)) (i k : ℕ) (p q : Vec ℕ)
    → slice_get qs i ≡ Some p → q.items ≡ remove p.items k
    → AreInMailboxes es cs n qs → AreInMailboxes es cs n (set qs i q)
one_goes es cs n qs i k p q is items all =
    one_changed es cs n qs i q (slice_get_within qs i p is)
    (λ j x in_it.
    let r = in_removed p.items k j x (sym (ap (λ xs. slice_get xs j) items) ∙ in_it) in all i r.0 x p is r.1) all

-- a column is that of one process
one_pid : (cs : List Column) (i p q : ℕ) → IsColumnOf cs p i → IsColumnOf cs q i → p ≡ q
one_pid cs i p q a b = from cs a b
  where
    from : (xs : List Column) → IsColumnOf xs p i → IsColumnOf xs q i → p ≡ q
    from [] a b = absurd (let no : i < 0 = a.0 in omega (arith, no))
    from (c ∷ xs) a b = sym (a.1 c) ∙ b.1 c

-- who takes this value out of its mailbox takes the message that was brought so
pub is_receipt : (es : List Event) (cs : List Column) (n i d : ℕ) (v : Value) → IsTakenBy es cs i v n
    → IsOfValue es v d → IsWaiting es cs n i d → IsReceipt es d n
is_receipt es cs n i d v takes of_value waits =
    record {
      delivered = waits.1;
      taken = takes.0;
      brought = of_value.0;
      value = v;
      brings =
          let one : waits.1 ≡ of_value.1 = same_Some waits.1 of_value.1 (sym waits.2.0 ∙ of_value.2.0) in
          (waits.2.0, ap (λ (e : Event). e.label) one ∙ of_value.2.1);
      takes = (takes.1, takes.2);
      later = waits.4;
      one_value = of_value.3;
      one_process = one_pid cs i (marked takes.0.actor) (marked waits.1.actor) takes.3 waits.3;
    }

-- and its event is noted
pub one_noted : (es : List Event) (rs : List (Option ℕ)) (d n : ℕ) → d < length rs → IsReceipt es d n
    → AreReceipts es rs → AreReceipts es (set rs d (Some n))
one_noted es rs d n low receipt all = λ e r is. from e r is (eqb_tells e d)
  where
    from : (e r : ℕ) → slice_get (set rs d (Some n)) e ≡ Some (Some r) → Reports e d → IsReceipt es e r
    from e r is (inl same) =
        let one : Some n ≡ Some r = same_Some (Some n) (Some r)
        (sym (set_there rs d (Some n) low) ∙ ap (slice_get (set rs d (Some n))) (sym same.1) ∙ is) in
        subst (λ l. IsReceipt es l r) (sym same.1) (subst (λ l. IsReceipt es d l) (same_Some n r one) receipt)
    from e r is (inr other) = all e r (sym (set_besides rs d e (Some n) other.1) ∙ is)
