-- A history with no file marked for memory leads to a desk that is as its calls alone make it.
use Rattle.std.proofs.Common.{◌≡◌, ℕ, List, [], ◌∷◌, Option, refl, sym, ap, ◌∙◌, subst}
use Rattle.std.specs.Prelude.{unwrap_or}
use Rattle.std.proofs.lemmas.List.Elements.{All-nil, All-head, All-tail}
use Rattle.pf_request.specs.Calls.{Call}
use Rattle.pf_desks.specs.Desk.{Profile, Desk, no_desk, Reply, Entry, called, claimed, filed, handed_back}
use Rattle.pf_desks.specs.declared.mark.FileMark.TheVariants.{Whole, Memory}
use Rattle.pf_desks.specs.Calls.{after_call}
use Rattle.pf_desks.specs.History.{IsLegal, replies_noted}
use Rattle.pf_request.specs.declared.step.Chore.{Chore}
use Rattle.pf_request.specs.declared.step.Chore.TheVariants.{Claim, File, HandBack}
use Rattle.pf_world.specs.Steps.{worker_does}
use Rattle.pf_world.specs.Alone.{at_desk}
use Rattle.pf_world.specs.Laws.{Settles}
use Rattle.pf_world.proofs.Isolated.{desk_done}
use Rattle.pf_world.proofs.Final.{IsLike, final, like_call, like_chore}
use Rattle.pf_farm_laws.specs.Notes.{NotForMemory, NoneForMemory, calls_of}

module _ (p : Profile) where
  -- the desk after some calls, where no worker does anything
  abbrev pub after_calls : Desk → List Call → Desk
  after_calls e [] = e
  after_calls e (c ∷ cs) = after_calls (after_call p e c) cs

  -- the replies that settle some calls
  abbrev pub finals : Desk → List Call → List Reply
  finals e [] = []
  finals e (c ∷ cs) = final p e c ∷ finals (after_call p e c) cs

  -- each reply that settles its call is the one that does
  abbrev pub AreFinal : List Call → List Reply → List Reply → Type 0
  AreFinal [] [] [] = Unit {0}
  AreFinal (c ∷ cs) (r ∷ rs) (f ∷ fs) = (Settles c r → r ≡ f) × AreFinal cs rs fs
  AreFinal cs rs fs = ⊥

  -- a worker's note leaves a desk alike
  like_work : (d k e : Desk) (t : ℕ) (w : Chore) → desk_done p (at_desk (worker_does 0 0 t w)) d ≡ k
      → IsLike p d e → IsLike p k e
  like_work d k e t w h l = subst (λ (x : Desk). IsLike p x e) h (like_chore p d e 0 0 t w l)

  abbrev pub IsAlong : Desk → Desk → List Entry → Type 0
  IsAlong d e es = IsLike p d (after_calls e (calls_of es)) × AreFinal (calls_of es) (replies_noted es)
      (finals e (calls_of es))

  like_along : (d e : Desk) (es : List Entry) (d' : Desk) → NoneForMemory es → IsLegal p d es d' → IsLike p d e
      → IsAlong d' e es
  like_along d e [] d' m h l = (subst (λ (x : Desk). IsLike p x e) h l, tt)
  like_along d e (called c r ∷ es) d' m h l =
      let one : _ = like_call p d e c l in
      let next : IsLike p h.0 (after_call p e c) = subst (λ (x : Desk). IsLike p x (after_call p e c))
      (sym h.1.2) one.0 in
      let rest : IsAlong d' (after_call p e c) es =
      like_along h.0 (after_call p e c) es d' (All-tail NotForMemory _ es m) h.2 next in
      (rest.0, (λ s. h.1.1 ∙ one.1 (subst (Settles c) h.1.1 s), rest.1))
  like_along d e (claimed t ∷ es) d' m h l =
      like_along h.0 e es d' (All-tail NotForMemory _ es m) h.2
      (like_work d h.0 e t Claim (ap (λ (o : Option Desk). unwrap_or o d) h.1) l)
  like_along d e (filed t Whole ∷ es) d' m h l =
      like_along h.0 e es d' (All-tail NotForMemory _ es m) h.2
      (like_work d h.0 e t File (ap (λ (o : Option Desk). unwrap_or o d) h.1) l)
  like_along d e (filed t Memory ∷ es) d' m h l = absurd (All-head NotForMemory _ es m t refl)
  like_along d e (handed_back t ∷ es) d' m h l =
      like_along h.0 e es d' (All-tail NotForMemory _ es m) h.2
      (like_work d h.0 e t HandBack (ap (λ (o : Option Desk). unwrap_or o d) h.1) l)

  -- so it is of what a legal history makes of an empty desk
  pub along : (es : List Entry) (d : Desk) → NoneForMemory es → IsLegal p no_desk es d → IsAlong d no_desk es
  along es d m h = like_along no_desk no_desk es d m h (refl, refl, All-nil _)
