-- What a project hears where it is settled depends on its own calls alone.
use Rattle.std.proofs.Common.{◌≡◌, ℕ, ◌==◌, Bool, true, false, List, [], ◌∷◌, refl, sym, ◌∙◌, ap, subst}
use Rattle.std.specs.Prelude.{if◌then◌else◌, filter_map}
use Rattle.std.proofs.lemmas.List.Elements.{All-nil}
use Rattle.pf_request.specs.Calls.{Call}
use Rattle.pf_desks.specs.Desk.{Desk, no_desk, Reply}
use Rattle.pf_desks.specs.Calls.{after_call}
use Rattle.pf_desks.specs.Desks.{replies_along}
use Rattle.pf_world.specs.World.{RunProfile, World, new_world}
use Rattle.pf_request.specs.declared.step.Chore.{Chore}
use Rattle.pf_request.specs.declared.step.Chore.TheVariants.{Claim, Slice, Park, TakeUp, Steal, File, HandBack}
use Rattle.pf_world.specs.Steps.{WorldStep, client_calls, worker_does, take_step, responses, all_responses}
use Rattle.pf_world.specs.Alone.{is_own, own_part, heard, at_desk, heard_alone}
use Rattle.pf_world.specs.Laws.{calls_of, Settles, AgreeWhereSettled, SettledReplies}
use Rattle.pf_world.proofs.Final.{IsLike, final, like_call, like_chore}
use Rattle.pf_world.proofs.Isolated.{desk_done, isolated}

module _ (p : RunProfile) where
  -- the replies that settle some calls
  abbrev finals : Desk → List Call → List Reply
  finals e [] = []
  finals e (c ∷ cs) = final p.profile e c ∷ finals (after_call p.profile e c) cs

  abbrev AreFinal : List Call → List Reply → List Reply → Type 0
  AreFinal [] [] [] = Unit {0}
  AreFinal (c ∷ cs) (r ∷ rs) (f ∷ fs) = (Settles c r → r ≡ f) × AreFinal cs rs fs
  AreFinal cs rs fs = ⊥

  -- all calls among some steps
  abbrev all_calls : List WorldStep → List Call
  all_calls [] = []
  all_calls (client_calls r c ∷ xs) = c ∷ all_calls xs
  all_calls (worker_does w r t k ∷ xs) = all_calls xs

  -- ---- one desk along some steps

  no_reply : (w r t : ℕ) (k : Chore) (d : Desk) (xs : List WorldStep)
      → replies_along p.profile (desk_done p.profile (at_desk (worker_does w r t k)) d) (filter_map at_desk xs)
      ≡ replies_along p.profile d (filter_map at_desk (worker_does w r t k ∷ xs))
  no_reply w r t Claim d xs = refl
  no_reply w r t (Slice n) d xs = refl
  no_reply w r t Park d xs = refl
  no_reply w r t TakeUp d xs = refl
  no_reply w r t (Steal v) d xs = refl
  no_reply w r t File d xs = refl
  no_reply w r t HandBack d xs = refl

  final_along : (d e : Desk) (xs : List WorldStep) → IsLike p.profile d e
      → AreFinal (all_calls xs) (replies_along p.profile d (filter_map at_desk xs)) (finals e (all_calls xs))
  final_along d e [] l = tt
  final_along d e (client_calls r c ∷ xs) l =
      (let m : _ = like_call p.profile d e c l in
      (m.1, final_along (after_call p.profile d c) (after_call p.profile e c) xs m.0))
  final_along d e (worker_does w r t k ∷ xs) l =
      subst (λ (rs : List Reply). AreFinal (all_calls xs) rs (finals e (all_calls xs))) (no_reply w r t k d xs) (
      final_along (desk_done p.profile (at_desk (worker_does w r t k)) d) e xs (like_chore p.profile d e w r t k l)
      )

  -- ---- a project's own calls are those of the steps that belong to it

  own_calls : (q : ℕ) (s : World) (xs : List WorldStep) → all_calls (own_part q xs (responses p s xs)) ≡ calls_of q xs
  own_calls q s [] = refl
  own_calls q s (client_calls r c ∷ xs) = by (r == q) (own_calls q (take_step p s (client_calls r c)).0 xs)
    where
      own : List WorldStep
      own = own_part q xs (responses p (take_step p s (client_calls r c)).0 xs)

      by : (b : Bool) → all_calls own ≡ calls_of q xs
          → all_calls (if b then client_calls r c ∷ own else own) ≡ (if b then c ∷ calls_of q xs else calls_of q xs)
      by true rest = ap (λ (cs : List Call). c ∷ cs) rest
      by false rest = rest
  own_calls q s (worker_does w r t k ∷ xs) =
      by (is_own q (worker_does w r t k) (take_step p s (worker_does w r t k)).1)
      (own_calls q (take_step p s (worker_does w r t k)).0 xs)
    where
      own : List WorldStep
      own = own_part q xs (responses p (take_step p s (worker_does w r t k)).0 xs)

      by : (b : Bool) → all_calls own ≡ calls_of q xs
          → all_calls (if b then worker_does w r t k ∷ own else own) ≡ calls_of q xs
      by true rest = rest
      by false rest = rest

  heard_final : (n q : ℕ) (xs : List WorldStep)
      → AreFinal (calls_of q xs) (heard q xs (all_responses p n xs)) (finals no_desk (calls_of q xs))
  heard_final n q xs =
      subst (λ (rs : List Reply). AreFinal (calls_of q xs) rs (finals no_desk (calls_of q xs)))
      (sym (isolated p n q xs)) (
      subst (λ (cs : List Call). AreFinal cs (heard_alone p n q xs) (finals no_desk cs))
      (own_calls q (new_world n) xs) (
      final_along no_desk no_desk (own_part q xs (all_responses p n xs)) (refl, refl, All-nil _)
      )
      )

  -- two lists of replies of which both are final agree
  agree : (cs : List Call) (rs ks fs : List Reply) → AreFinal cs rs fs → AreFinal cs ks fs → AgreeWhereSettled cs rs ks
  agree [] [] [] [] a b = tt
  agree (c ∷ cs) (r ∷ rs) (k ∷ ks) (f ∷ fs) a b = (λ s z. a.0 s ∙ sym (b.0 z), agree cs rs ks fs a.1 b.1)
  agree [] [] [] (f ∷ fs) a b = absurd a
  agree [] [] (k ∷ ks) [] a b = absurd b
  agree [] [] (k ∷ ks) (f ∷ fs) a b = absurd b
  agree [] (r ∷ rs) ks [] a b = absurd a
  agree [] (r ∷ rs) ks (f ∷ fs) a b = absurd a
  agree (c ∷ cs) [] ks [] a b = absurd a
  agree (c ∷ cs) [] ks (f ∷ fs) a b = absurd a
  agree (c ∷ cs) (r ∷ rs) ks [] a b = absurd a
  agree (c ∷ cs) (r ∷ rs) [] (f ∷ fs) a b = absurd b

pub settled : SettledReplies
settled p n m q xs ys h =
    agree p (calls_of q xs) (heard q xs (all_responses p n xs)) (heard q ys (all_responses p m ys))
    (finals p no_desk (calls_of q xs)) (heard_final p n q xs) (
    subst (λ (cs : List Call). AreFinal p cs (heard q ys (all_responses p m ys)) (finals p no_desk cs)) (sym h)
    (heard_final p m q ys)
    )
