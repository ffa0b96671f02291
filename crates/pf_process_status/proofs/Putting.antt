-- Statuses are put together, event by event.
use Rattle.std.proofs.Common.{◌≡◌, ◌⊎◌, inl, inr, ◌<◌, ◌==◌, ℕ, suc, Bool, true, false, if◌then◌else◌, nat_lt, List}
use Rattle.std.proofs.Common.{Some, None, refl, sym, ap, ◌∙◌, subst, arith}
use Rattle.std.specs.Prelude.{slice_get}
use Rattle.std.proofs.lemmas.Bool.{eqb-true}
use Rattle.std.proofs.lemmas.Bool.Decides.{nat_tests}
use Rattle.std.proofs.lemmas.Option.{same_Some}
use Rattle.pf_model.specs.Meaning.{Event}
use Rattle.pf_process_status.specs.Fates.{HasEnded, who_ends}
use Rattle.pf_process_status.specs.Put.{IsStatusOf, IsPut, NoneBelow, ReportsEnds}
use Rattle.pf_process_status.specs.declared.standing.ProcessFate.{ProcessFate}
use Rattle.pf_process_status.specs.declared.standing.ProcessStatus.{ProcessStatus}

not_below : (j i : ℕ) → j < suc i → nat_lt j i ≡ false → j ≡ i
not_below j i l h = grind (arith, nat_tests)

is_below : (j i : ℕ) → nat_lt j i ≡ true → j < i
is_below j i h = grind (arith, nat_tests)

other_pid : (p q : ℕ) → (p == q) ≡ false → q ≡ p → ⊥
other_pid p q h e = grind (arith, nat_tests)

module _ (es : List Event) (i : ℕ) (e : Event) (at : slice_get es i ≡ Some e) where
  below_next : (p : ℕ) → (who_ends e.actor e.label ≡ Some p → ⊥) → NoneBelow es i p → NoneBelow es (suc i) p
  below_next p not none j f l g ends = by (nat_lt j i) refl
    where
      by : (t : Bool) → nat_lt j i ≡ t → ⊥
      by true k = none j f (is_below j i k) g ends
      by false k =
          let same : f ≡ e = same_Some f e (sym g ∙ ap (slice_get es) (not_below j i l k) ∙ at) in
          not (ap (λ z. who_ends z.actor z.label) (sym same) ∙ ends)

  abbrev Reports : ℕ → ℕ → ProcessFate → ProcessFate → Type 0
  Reports n p x y = HasEnded es p y ⊎ ((y ≡ x) × NoneBelow es n p)

  reports_next : (p : ℕ) (x y : ProcessFate) → (who_ends e.actor e.label ≡ Some p → ⊥) → Reports i p x y
      → Reports (suc i) p x y
  reports_next p x y not (inl h) = inl h
  reports_next p x y not (inr h) = inr (h.0, below_next p not h.1)

  module _ (xs ys : List ProcessStatus) (h : ReportsEnds es i xs ys) where
    -- where it ends nobody
    pub none_ended : who_ends e.actor e.label ≡ None → ReportsEnds es (suc i) xs ys
    none_ended n = record {
      count = h.count;
      each = λ p y s.
          let q = h.each p y s in (
            q.0,
            q.1,
            q.2,
            q.3,
            reports_next p q.0.fate y.fate (λ k. let never : None ≡ Some p = sym n ∙ k in
                absurd (cc)) q.4,
          );
    }

    -- where it ends a process, which has this fate then
    pub one_ended : (zs : List ProcessStatus) (pid : ℕ) (f : ProcessFate) → who_ends e.actor e.label ≡ Some pid
        → HasEnded es pid f → IsPut pid f ys zs
        → ReportsEnds es (suc i) xs zs
    one_ended zs pid f ends has put = record { count = put.count ∙ h.count; each = λ p z s. over p z (put.each p z s) }
      where
        over : (p : ℕ) (z : ProcessStatus) → IsStatusOf (λ x y. y ≡ (if p == pid then f else x)) (slice_get ys p) z
            → IsStatusOf (Reports (suc i) p) (slice_get xs p) z
        over p z q =
            let r = h.each p q.0 q.1 in
            (r.0, r.1, q.2 ∙ r.2, q.3 ∙ r.3, by (p == pid) refl q.4 r.4)
          where
            by : (t : Bool) → (p == pid) ≡ t → z.fate ≡ (if t then f else q.0.fate)
                → Reports i p (h.each p q.0 q.1).0.fate q.0.fate
                → Reports (suc i) p (h.each p q.0 q.1).0.fate z.fate
            by true k g t = inl (subst (HasEnded es p) (sym g)
                (subst (λ n. HasEnded es n f) (sym (eqb-true p pid k)) has))
            by false k g t =
                subst (Reports (suc i) p (h.each p q.0 q.1).0.fate) (sym g)
                (reports_next p (h.each p q.0 q.1).0.fate q.0.fate
                (λ n. other_pid p pid k (same_Some pid p (sym ends ∙ n))) t)
