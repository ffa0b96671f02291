-- Each module that is read is closed.
use Rattle.std.proofs.Common.{◌≡◌, ℕ, zero, suc, Bool, true, false, ◌==◌, List, [], ◌∷◌, Option, Some, None, flat_map}
use Rattle.std.proofs.Common.{refl, sym, ap, ◌∙◌, subst, arith, option_map}
use Rattle.std.specs.Prelude.{◌&&◌, if◌then◌else◌, slice_get, position}
use Rattle.std.specs.Str.{bytes_eq}
use Rattle.std.specs.List.{All}
use Rattle.std.proofs.lemmas.Bool.{eqb-true}
use Rattle.std.proofs.lemmas.Grind.{common_steps}
use Rattle.std.proofs.lemmas.List.Elements.{All-nil, All-cons}
use Rattle.std.proofs.lemmas.List.Quantifiers.{position-Some}
use Rattle.std.proofs.lemmas.Option.{slice_get-get_or}
use Rattle.pf_errors.specs.declared.code.Code.TheVariants.{HeadsDiffer}
use Rattle.pf_terms.specs.Atoms.{name_of}
use Rattle.pf_syntax.specs.Tree.{Function, FunctionClause, Program}
use Rattle.pf_syntax.specs.Module.{Checked}
use Rattle.pf_syntax.specs.Root.{root_of, root_at}
use Rattle.pf_syntax.specs.SyntaxTree.{Head}
use Rattle.pf_syntax.specs.Naming.{Names, HeadIs}
use Rattle.pf_syntax.specs.ExprModule.{Tree}
use Rattle.pf_rules.specs.Static.{fault_if, parameters_of, is_named_by_head, own_in, unlike_fault, unlike_faults}
use Rattle.pf_rules.specs.Static.{names_of_module, faults_of}
use Rattle.pf_rules.specs.Checks.{Pairwise, FunctionIs, IsModule}
use Rattle.pf_check.specs.Reads.{ReadOutcome, accepted, refused, Reads, token_fault, no_head, no_tree, static, checked}
use Rattle.pf_model.specs.Closed.{HasArity, FunctionClauseIsClosed, ModuleIsClosed}
use Rattle.pf_model.proofs.Spawned.{exported_has}
use Rattle.pf_model.proofs.Closed.{closed_states_stay_closed}
use Rattle.pf_laws.specs.ReadModules.{ReadModulesAreClosed}
use Rattle.pf_lower.proofs.Exists.{left_empty, right_empty}
use Rattle.pf_check.proofs.NoFaults.{none_unlike}
use Rattle.pf_laws.proofs.Builtins.{named_is_right}
use Rattle.pf_laws.proofs.Closing.{AreRight, head_closes}

-- what is at an index of a list has its like at the same index of the other
like : {A B : Type 0} (R : A → B → Type 0) (xs : List A) (ys : List B) (i : ℕ) (x : A) → Pairwise R xs ys
    → slice_get xs i ≡ Some x
    → (y : B) × (slice_get ys i ≡ Some y) × R x y
like R [] ys i x h e = absurd (cc)
like R (a ∷ xs) [] i x h e = absurd h
like R (a ∷ xs) (b ∷ ys) zero x h e = let d : a ≡ x = cc in (b, refl, subst (λ z. R z b) d h.0)
like R (a ∷ xs) (b ∷ ys) (suc i) x h e = like R xs ys i x h.1 e

-- ---- the clauses of a function take as many arguments as its first

abbrev AsMany : Head → Head → Type 0
AsMany h x = parameters_of x.parameters ≡ parameters_of h.parameters

as_many : (h x : Head) → unlike_fault h x ≡ [] → AsMany h x
as_many h x = by (x.name == h.name) (parameters_of x.parameters == parameters_of h.parameters) refl
  where
    by : (a b : Bool) → (parameters_of x.parameters == parameters_of h.parameters) ≡ b
        → (if a && b then [] else fault_if true HeadsDiffer x.offset) ≡ []
        → AsMany h x
    by true true e d = eqb-true (parameters_of x.parameters) (parameters_of h.parameters) e
    by true false e d = cc
    by false b e d = cc

others_as_many : (h : Head) (hs : List Head) → flat_map (unlike_fault h) hs ≡ [] → All (AsMany h) hs
others_as_many h [] d = All-nil (AsMany h)
others_as_many h (x ∷ hs) d =
    All-cons (AsMany h) x hs (as_many h x (left_empty (unlike_fault h x) (flat_map (unlike_fault h) hs) d))
    (others_as_many h hs (right_empty (unlike_fault h x) (flat_map (unlike_fault h) hs) d))

same_parameters : (h : Head) (hs : List Head) → unlike_faults (h ∷ hs) ≡ [] → All (AsMany h) (h ∷ hs)
same_parameters h hs d = All-cons (AsMany h) h hs refl (others_as_many h hs d)

-- a function that is named so has that number of parameters
module _ (atoms : List (List ℕ)) (m : Tree) (fs : Program)
    (all : Pairwise (FunctionIs (names_of_module atoms m.functions) m.exports) m.functions fs) where
  abbrev names : Names
  names = names_of_module atoms m.functions

  named_takes : (f k : ℕ) (hs : List Head) (g : Function) → is_named_by_head f k hs ≡ true
      → FunctionIs names m.exports hs g → g.arity ≡ k
  named_takes f k [] g e h = absurd h
  named_takes f k (x ∷ hs) g e h = let d = h.1 in grind (arith, common_steps)

  own_has : (f k i : ℕ) → own_in m.functions f k ≡ Some i → HasArity fs i k
  own_has f k i e =
      let p = position-Some (is_named_by_head f k) m.functions i [] e in
      let r = like (FunctionIs names m.exports) m.functions fs i _ all (slice_get-get_or m.functions i [] p.0) in
      ap (option_map (λ g. g.arity)) r.1 ∙ ap (λ j. Some j) (named_takes f k _ r.0 p.1 r.2)

  are_right : AreRight fs names
  are_right = record { own = own_has; built_in = λ f k b e. named_is_right (name_of atoms f) k b e }

  -- ---- functions

  clauses_closed : (k : ℕ) (hs : List Head) (cs : List FunctionClause) → Pairwise (HeadIs names) hs cs
      → All (λ x. parameters_of x.parameters ≡ k) hs → All (FunctionClauseIsClosed fs k) cs
  clauses_closed k [] [] h d = All-nil (FunctionClauseIsClosed fs k)
  clauses_closed k [] (c ∷ cs) h d = absurd h
  clauses_closed k (x ∷ hs) [] h d = absurd h
  clauses_closed k (x ∷ hs) (c ∷ cs) h d =
      All-cons (FunctionClauseIsClosed fs k) c cs
      (subst (λ j. FunctionClauseIsClosed fs j c) (d zero x (omega arith)) (head_closes fs names are_right x c h.0))
      (clauses_closed k hs cs h.1 (λ i y l. d (suc i) y (omega arith)))

  abbrev IsClosedFunction : Function → Type 0
  IsClosedFunction g = All (FunctionClauseIsClosed fs g.arity) g.clauses

  function_closed : (hs : List Head) (g : Function) → FunctionIs names m.exports hs g → unlike_faults hs ≡ []
      → IsClosedFunction g
  function_closed [] g h d = absurd h
  function_closed (x ∷ hs) g h d =
      subst (λ k. All (FunctionClauseIsClosed fs k) g.clauses) (sym h.1)
      (clauses_closed (parameters_of x.parameters) (x ∷ hs) g.clauses h.3 (same_parameters x hs d))

  functions_closed : (us : List (List Head)) (gs : List Function) → Pairwise (FunctionIs names m.exports) us gs
      → flat_map unlike_faults us ≡ [] → All IsClosedFunction gs
  functions_closed [] [] h d = All-nil IsClosedFunction
  functions_closed [] (g ∷ gs) h d = absurd h
  functions_closed (u ∷ us) [] h d = absurd h
  functions_closed (u ∷ us) (g ∷ gs) h d =
      All-cons IsClosedFunction g gs (function_closed u g h.0
      (left_empty (unlike_faults u) (flat_map unlike_faults us) d))
      (functions_closed us gs h.1 (right_empty (unlike_faults u) (flat_map unlike_faults us) d))

-- ---- modules

module_closed : (atoms : List (List ℕ)) (m : Tree) (c : Checked) → faults_of atoms m ≡ [] → IsModule atoms m c
    → ModuleIsClosed c.functions
module_closed atoms m c none h = functions_closed atoms m c.functions h.functions m.functions c.functions h.functions
    (none_unlike atoms m none)

abbrev OutcomeIsClosed : ReadOutcome → Type 0
OutcomeIsClosed (accepted name atoms functions) = ModuleIsClosed functions
OutcomeIsClosed (refused code at) = Unit {0}

read_is_closed : (bytes : List ℕ) (o : ReadOutcome) → Reads bytes o → OutcomeIsClosed o
read_is_closed bytes _ (token_fault code at h) = tt
read_is_closed bytes _ (no_head ts h k) = tt
read_is_closed bytes _ (no_tree ts at h k l i) = tt
read_is_closed bytes _ (static ts m f h d i) = tt
read_is_closed bytes _ (checked ts m c h d f i) = module_closed _ m c f i

root_has : (word : List ℕ) (atoms : List (List ℕ)) (functions : Program) (root : ℕ)
    → root_of word atoms functions ≡ Some root
    → HasArity functions root 0
root_has word atoms functions root = by (position (bytes_eq word) atoms)
  where
    by : (o : Option ℕ) → root_at functions o ≡ Some root → HasArity functions root 0
    by None e = absurd (cc)
    by (Some a) e = exported_has functions a 0 root e

pub read_modules_are_closed : (S : Type 0) → ReadModulesAreClosed S
read_modules_are_closed S bytes name atoms functions h =
    let code = read_is_closed bytes (accepted name atoms functions) h in
    record {
      code = code;
      runs = closed_states_stay_closed S (record { name = name; atoms = atoms; functions = functions }) code;
      roots = λ word root e. root_has word atoms functions root e;
    }
