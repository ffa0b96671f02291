-- The texts of several properties, one after another.
use Rattle.std.proofs.Common.{◌≡◌, ℕ, zero, suc, List, [], ◌∷◌, ◌++◌, Some, subst}
use Rattle.std.specs.Prelude.{slice_get}
use Rattle.pf_model.specs.Properties.{Property}
use Rattle.pf_errors.specs.declared.code.Code.{Code}
use Rattle.pf_errors.specs.declared.fault.OrNoMemory.{OrNoMemory}
use Rattle.pf_errors.specs.declared.fault.OrNoMemory.TheVariants.{NoMemory, Fault}
use Rattle.pf_property.specs.Texts.{IsNoPropertyText, ReadsProperty}
use Rattle.pf_verdicts.specs.Further.{AreProperties, AreRefused}

-- one text more
pub one_text_more : (atoms ts : List (List ℕ)) (ps : List Property) (t : List ℕ)
    (p : Property) → AreProperties atoms ts ps
    → ReadsProperty atoms t p → AreProperties atoms (ts ++ t ∷ []) (ps ++ p ∷ [])
one_text_more atoms [] [] t p all read = (read, tt)
one_text_more atoms [] (q ∷ qs) t p all read = absurd all
one_text_more atoms (s ∷ ts) [] t p all read = absurd all
one_text_more atoms (s ∷ ts) (q ∷ qs) t p all read = (all.0, one_text_more atoms ts qs t p all.1 read)

-- each of them is a property
pub each_is_one : (atoms ts : List (List ℕ)) (ps : List Property) (i : ℕ) (t : List ℕ) → AreProperties atoms ts ps
    → slice_get ts i ≡ Some t → (p : Property) × ReadsProperty atoms t p
each_is_one atoms [] ps i t all at = absurd cc
each_is_one atoms (s ∷ ts) [] i t all at = absurd all
each_is_one atoms (s ∷ ts) (q ∷ qs) zero t all at =
    let same : s ≡ t = cc in
    (q, subst (λ x. ReadsProperty atoms x q) same all.0)
each_is_one atoms (s ∷ ts) (q ∷ qs) (suc i) t all at = each_is_one atoms ts qs i t all.1 at

-- one of them is refused as a property, so all are
pub refused_by : (atoms ts : List (List ℕ)) (i : ℕ) (t : List ℕ) (e : OrNoMemory Code) → slice_get ts i ≡ Some t
    → IsNoPropertyText atoms t e → AreRefused atoms ts e
refused_by atoms ts i t NoMemory at isnt = tt
refused_by atoms ts i t (Fault c) at isnt = (
  isnt.0,
  λ ps all.
      let found = each_is_one atoms ts ps i t all at in
      isnt.1 found.0 found.1,
)
