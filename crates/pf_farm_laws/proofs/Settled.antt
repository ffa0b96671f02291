-- What a history notes of settled calls depends on its calls alone.
use Rattle.std.proofs.Common.{List, [], ◌∷◌, sym, ◌∙◌, subst}
use Rattle.pf_request.specs.Calls.{Call}
use Rattle.pf_desks.specs.Desk.{Profile, no_desk, Reply}
use Rattle.pf_desks.specs.History.{replies_noted}
use Rattle.pf_world.specs.Laws.{AgreeWhereSettled}
use Rattle.pf_farm_laws.specs.Notes.{calls_of}
use Rattle.pf_farm_laws.specs.Laws.{SettledHistories}
use Rattle.pf_farm_laws.proofs.Alike.{finals, AreFinal, along}

module _ (p : Profile) where
  -- two lists of replies of which both are final agree
  agree : (cs : List Call) (rs ks fs : List Reply) → AreFinal p cs rs fs → AreFinal p cs ks fs
      → AgreeWhereSettled cs rs ks
  agree [] [] [] [] a b = tt
  agree (c ∷ cs) (r ∷ rs) (k ∷ ks) (f ∷ fs) a b = (λ s z. a.0 s ∙ sym (b.0 z), agree cs rs ks fs a.1 b.1)
  agree [] [] [] (f ∷ fs) a b = absurd a
  agree [] [] (k ∷ ks) [] a b = absurd b
  agree [] [] (k ∷ ks) (f ∷ fs) a b = absurd b
  agree [] (r ∷ rs) ks [] a b = absurd a
  agree [] (r ∷ rs) ks (f ∷ fs) a b = absurd a
  agree (c ∷ cs) [] ks [] a b = absurd a
  agree (c ∷ cs) [] ks (f ∷ fs) a b = absurd a
  agree (c ∷ cs) (r ∷ rs) ks [] a b = absurd a
  agree (c ∷ cs) (r ∷ rs) [] (f ∷ fs) a b = absurd b

pub settled_histories : SettledHistories
settled_histories p d e legal legal_too m m_too h =
    agree p (calls_of d.history) (replies_noted d.history) (replies_noted e.history)
    (finals p no_desk (calls_of d.history)) (along p d.history d m legal).1 (
    subst (λ (cs : List Call). AreFinal p cs (replies_noted e.history) (finals p no_desk cs)) (sym h)
    (along p e.history e m_too legal_too).1
    )
