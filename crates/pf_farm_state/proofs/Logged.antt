-- Receipts and the histories that they are of.
use Rattle.std.proofs.Common.{◌≡◌, ℕ, ◌+◌, ◌==◌, Bool, true, false, List, [], ◌∷◌, ◌++◌, length, map, refl, sym, ap}
use Rattle.std.proofs.Common.{◌∙◌, subst, append-nil}
use Rattle.std.specs.Prelude.{if◌then◌else◌}
use Rattle.std.proofs.lemmas.List.{map-append, length-map}
use Rattle.pf_desks.specs.Calls.{calls_in}
use Rattle.pf_desks.specs.Desk.{Desk}
use Rattle.pf_request.specs.declared.call.Call as call_code
use Rattle.pf_desks.specs.Desks.{Desks, desk_at, put_desk}
use Rattle.pf_desks.proofs.Isolated.{desk_placed}
use Rattle.pf_farm_accounts.specs.Receipts.{receipt_of, of_project, put_if}
use Rattle.pf_farm_accounts.proofs.Numbers.{of_append, numbered_push}
use Rattle.pf_book.specs.declared.reply.Reply.{Reply}
use Rattle.pf_farm_laws.proofs.Lists.{same_by, self_is}
use Rattle.pf_farm_state.specs.Clients.{ClientReplies, noted_by, calls_noted, IsLogged}
use Rattle.pf_farm_state.proofs.Noted.{as_many_noted}

pub logged_none : IsLogged [] []
logged_none = (λ q. tt, λ q. refl)

module _ (log : List ClientReplies) (w : Desks) (s : IsLogged log w) where
  pub as_many_logged : (q : ℕ) → length (of_project q log) ≡ calls_in (desk_at q w).history
  as_many_logged q = sym (length-map (of_project q log) noted_by) ∙ ap (λ l. length l) (s.1 q)
      ∙ as_many_noted (desk_at q w).history

  -- what is logged of each project, where the desk of one is another
  placed : (more : List ClientReplies) (q : ℕ) (d : Desk) → map noted_by (of_project q more) ≡ calls_noted d.history
      → ((r : ℕ) → (q == r) ≡ false → of_project r more ≡ of_project r log) → (r : ℕ)
      → map noted_by (of_project r more) ≡ calls_noted (desk_at r (put_desk q d w)).history
  placed more q d own others r = subst (λ (k : Desk). map noted_by (of_project r more) ≡ calls_noted k.history)
      (sym (desk_placed r q d w)) (by (q == r) refl)
    where
      by : (b : Bool) → (q == r) ≡ b → map noted_by (of_project r more) ≡ calls_noted
          (if b then d else desk_at r w).history
      by true e = subst (λ k. map noted_by (of_project k more) ≡ calls_noted d.history) (same_by q r e) own
      by false e = ap (map noted_by) (others r e) ∙ s.1 r

  -- a step that notes no call
  pub logged_same : (q : ℕ) (d : Desk) → calls_noted d.history ≡ calls_noted (desk_at q w).history
      → IsLogged log (put_desk q d w)
  logged_same q d same = (s.0, placed log q d (s.1 q ∙ sym same) (λ r apart. refl))

  -- a call that is noted, and its receipt
  pub logged_more : (q n : ℕ) (c : call_code.Call) (a : Reply) (d : Desk) → n ≡ length (of_project q log) + 1
      → calls_noted d.history ≡ calls_noted (desk_at q w).history ++ noted_by (receipt_of q n c a) ∷ []
      → IsLogged (log ++ receipt_of q n c a ∷ []) (put_desk q d w)
  logged_more q n c a d next noted = (numbered_push log r s.0 next, placed (log ++ r ∷ []) q d own others)
    where
      r : ClientReplies
      r = receipt_of q n c a

      own : map noted_by (of_project q (log ++ r ∷ [])) ≡ calls_noted d.history
      own = ap (map noted_by) (of_append q log (r ∷ [])
          ∙ ap (λ (b : Bool). of_project q log ++ put_if b r []) (self_is q))
          ∙ map-append noted_by (of_project q log) (r ∷ []) ∙ ap (λ l. l ++ noted_by r ∷ []) (s.1 q) ∙ sym noted

      others : (x : ℕ) → (q == x) ≡ false → of_project x (log ++ r ∷ []) ≡ of_project x log
      others x apart = of_append x log (r ∷ []) ∙ ap (λ (b : Bool). of_project x log ++ put_if b r []) apart
          ∙ append-nil (of_project x log)
