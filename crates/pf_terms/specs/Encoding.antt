-- How the logic stores a value: a number for its kind, and then its parts.
use Rattle.std.specs.Prelude.{◌≡◌, ℕ, zero, suc, pos, negsuc, refl}
use Rattle.std.proofs.Common.{sym, ap, ◌∙◌}
use base.Stored.{Gv, gnil, gnum, gcons, num, Coded}
use Rattle.pf_terms.specs.Value.{Value, Values, int, atom, ref, pid, tuple, list, none, more}

abbrev mutual
  pub code_value : Value → Gv
  code_value (int (pos n)) = gcons (gnum 0) (gnum n)
  code_value (int (negsuc n)) = gcons (gnum 1) (gnum n)
  code_value (atom a) = gcons (gnum 2) (gnum a)
  code_value (ref r) = gcons (gnum 3) (gnum r)
  code_value (pid p) = gcons (gnum 4) (gnum p)
  code_value (tuple vs) = gcons (gnum 5) (code_values vs)
  code_value (list vs) = gcons (gnum 6) (code_values vs)

  pub code_values : Values → Gv
  code_values none = gnil
  code_values (more v vs) = gcons (code_value v) (code_values vs)

-- the value of kind number k with this number or these elements
abbrev pub value_of_kind : ℕ → ℕ → Values → Value
value_of_kind zero n vs = int (pos n)
value_of_kind (suc zero) n vs = int (negsuc n)
value_of_kind (suc (suc zero)) n vs = atom n
value_of_kind (suc (suc (suc zero))) n vs = ref n
value_of_kind (suc (suc (suc (suc zero)))) n vs = pid n
value_of_kind (suc (suc (suc (suc (suc zero))))) n vs = tuple vs
value_of_kind (suc (suc (suc (suc (suc (suc k)))))) n vs = list vs

abbrev mutual
  pub decoded : Gv → Value
  decoded gnil = int (pos 0)
  decoded (gnum n) = int (pos 0)
  decoded (gcons a b) = value_of_kind (num a) (num b) (all_decoded b)

  pub all_decoded : Gv → Values
  all_decoded gnil = none
  all_decoded (gnum n) = none
  all_decoded (gcons a b) = more (decoded a) (all_decoded b)

mutual
  pub decoded-code_value : (v : Value) → decoded (code_value v) ≡ v
  decoded-code_value (int (pos n)) = refl
  decoded-code_value (int (negsuc n)) = refl
  decoded-code_value (atom a) = refl
  decoded-code_value (ref r) = refl
  decoded-code_value (pid p) = refl
  decoded-code_value (tuple vs) = ap tuple (all_decoded-code_values vs)
  decoded-code_value (list vs) = ap list (all_decoded-code_values vs)

  pub all_decoded-code_values : (vs : Values) → all_decoded (code_values vs) ≡ vs
  all_decoded-code_values none = refl
  all_decoded-code_values (more v vs) =
      ap (λ x. more x (all_decoded (code_values vs))) (decoded-code_value v) ∙ ap (λ xs. more v xs)
      (all_decoded-code_values vs)

abbrev pub coded_value : Coded Value
coded_value =
    record { code = code_value; inj = λ x y e. sym (decoded-code_value x) ∙ ap decoded e ∙ decoded-code_value y }

abbrev pub coded_values : Coded Values
coded_values =
    record {
      code = code_values;
      inj = λ x y e. sym (all_decoded-code_values x) ∙ ap all_decoded e
          ∙ all_decoded-code_values y;
    }
