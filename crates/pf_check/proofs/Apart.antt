-- Without a fault no function of a module has the name and the number of arguments of a built-in one.
use Rattle.std.proofs.Common.{◌≡◌, ◌<◌, ℕ, zero, suc, Bool, true, false, ◌==◌, ◌||◌, List, [], ◌∷◌, ◌++◌, length}
use Rattle.std.proofs.Common.{Option, Some, None, refl, subst, arith}
use Rattle.std.specs.Prelude.{is_some, get_or}
use Rattle.std.proofs.lemmas.Bool.{and_parts, eqb-true}
use Rattle.std.proofs.lemmas.List.Quantifiers.{position-Some}
use Rattle.pf_errors.specs.declared.code.Code.TheVariants.{DefinedTwice}
use Rattle.pf_terms.specs.Atoms.{name_of}
use Rattle.pf_syntax.specs.declared.operator.Builtin.{Builtin}
use Rattle.pf_syntax.specs.SyntaxTree.{Head}
use Rattle.pf_syntax.specs.ExprModule.{Tree}
use Rattle.pf_syntax.specs.Forms.{builtin_named}
use Rattle.pf_rules.specs.Static.{fault_if, parameters_of, is_named_by_head, own_in, is_builtin, defined_faults}
use Rattle.pf_rules.specs.Static.{names_of_module, faults_of}
use Rattle.pf_lower.proofs.Exists.{left_empty, right_empty}
use Rattle.pf_check.proofs.NoFaults.{none_defined_twice}

-- ---- names

none_second : (a b : Bool) (offset : ℕ) → fault_if (a || b) DefinedTwice offset ≡ [] → b ≡ false
none_second true b offset e = cc
none_second false true offset e = cc
none_second false false offset e = refl

-- the name of a function isn't that of a built-in one
not_built_in : (atoms : List (List ℕ)) (earlier : List (List Head)) (h : Head) (hs : List Head) (f k : ℕ)
    → fault_if (is_some (own_in earlier h.name (parameters_of h.parameters)) || is_builtin atoms h.name
    (parameters_of h.parameters)) DefinedTwice h.offset ≡ []
    → is_named_by_head f k (h ∷ hs) ≡ true → is_builtin atoms f k ≡ false
not_built_in atoms earlier h hs f k none named =
    let both = and_parts (h.name == f) (parameters_of h.parameters == k) named in
    let arity = parameters_of h.parameters in
    let not = none_second (is_some (own_in earlier h.name arity)) (is_builtin atoms h.name arity) h.offset none in
    subst (λ j. is_builtin atoms f j ≡ false) (eqb-true arity k both.1)
    (subst (λ g. is_builtin atoms g arity ≡ false) (eqb-true h.name f both.0) not)

none_built_in : (atoms : List (List ℕ)) (earlier fs : List (List Head)) (f k i : ℕ)
    → defined_faults atoms earlier fs ≡ [] → i < length fs
    → is_named_by_head f k (get_or fs i []) ≡ true → is_builtin atoms f k ≡ false
none_built_in atoms earlier [] f k i none within named = absurd (omega (arith, within))
none_built_in atoms earlier ([] ∷ fs) f k zero none within named = absurd (cc)
none_built_in atoms earlier ([] ∷ fs) f k (suc i) none within named =
    none_built_in atoms (earlier ++ [] ∷ []) fs f k i none (omega (arith, within)) named
none_built_in atoms earlier ((h ∷ hs) ∷ fs) f k zero none within named =
    not_built_in atoms earlier h hs f k (left_empty _ _ none) named
none_built_in atoms earlier ((h ∷ hs) ∷ fs) f k (suc i) none within named =
    none_built_in atoms (earlier ++ (h ∷ hs) ∷ []) fs f k i (right_empty _ _ none) (omega (arith, within)) named

-- there is none
none_named : (o : Option Builtin) (b : Builtin) → is_some o ≡ false → o ≡ Some b → ⊥
none_named None b e h = cc
none_named (Some c) b e h = cc

-- an own function isn't a built-in one
pub apart : (atoms : List (List ℕ)) (m : Tree) → faults_of atoms m ≡ [] → (f k i : ℕ) (b : Builtin)
    → (names_of_module atoms m.functions).own_of f k ≡ Some i
    → (names_of_module atoms m.functions).builtin_of f k ≡ Some b → ⊥
apart atoms m e f k i b own built_in =
    let there = position-Some (is_named_by_head f k) m.functions i [] own in
    none_named (builtin_named (name_of atoms f) k) b
    (none_built_in atoms [] m.functions f k i (none_defined_twice atoms m e) there.0 there.1) built_in
