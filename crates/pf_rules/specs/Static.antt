-- The static rules: all faults of a module, each a code and an offset.
use Rattle.std.specs.Prelude.{◌≡◌, ◌⊎◌, ℕ, suc, ◌<◌, ◌≤◌, Bool, true, false, ◌==◌, ◌&&◌, ◌||◌, is_some, if◌then◌else◌}
use Rattle.std.specs.Prelude.{List, [], ◌∷◌, ◌++◌, flat_map, position, Contains, Option}
use Rattle.pf_errors.specs.Codes.{rank_of}
use Rattle.pf_errors.specs.declared.code.Code.{Code}
use Rattle.pf_errors.specs.declared.code.Code.TheVariants.{Unbound, Unsafe, Undefined, DefinedTwice, ExportOfNothing}
use Rattle.pf_errors.specs.declared.code.Code.TheVariants.{HeadsDiffer}
use Rattle.pf_errors.specs.declared.refusal.SourceRefusal.{SourceRefusal}
use Rattle.pf_terms.specs.Atoms.{name_of}
use Rattle.pf_syntax.specs.ExprPattern as s
use Rattle.pf_syntax.specs.ExprPattern.{ExprPattern, ExprPatterns, no_expr_patterns, expr_pattern}
use Rattle.pf_syntax.specs.Expr as p
use Rattle.pf_syntax.specs.Expr.{Expr, Exprs, Condition, Branches, no_exprs, expr, no_tests, tests, no_branches, branch}
use Rattle.pf_syntax.specs.SyntaxTree.{Export, Head}
use Rattle.pf_syntax.specs.Scope.{Scope, no_scope, is_unsafe, is_new, after_expr_pattern, after_expr_patterns, after}
use Rattle.pf_syntax.specs.Scope.{after_all}
use Rattle.pf_syntax.specs.Naming.{Names, arity_of}
use Rattle.pf_syntax.specs.Forms.{builtin_named}
use Rattle.pf_syntax.specs.ExprModule.{Tree}

-- the fault, where the test says so
abbrev pub fault_if : Bool → Code → ℕ → List SourceRefusal
fault_if b code offset = if b then record { code = code; offset = offset } ∷ [] else []

-- ---- names of functions

-- how many arguments a head takes
abbrev pub parameters_of : ExprPatterns → ℕ
parameters_of no_expr_patterns = 0
parameters_of (expr_pattern q qs) = suc (parameters_of qs)

-- a function is named by its first head, with the number of its arguments
abbrev pub is_named_by_head : ℕ → ℕ → List Head → Bool
is_named_by_head f arity [] = false
is_named_by_head f arity (h ∷ hs) = (h.name == f) && (parameters_of h.parameters == arity)

-- the first function of this name with this number of arguments
abbrev pub own_in : List (List Head) → ℕ → ℕ → Option ℕ
own_in fs f arity = position (is_named_by_head f arity) fs

-- the names of a module with these atoms: atoms keep their numbers, and a call finds an own function, or a built-in one
abbrev pub names_of_module : List (List ℕ) → List (List Head) → Names
names_of_module atoms fs = record {
  atom_of = λ a. a;
  own_of = own_in fs;
  builtin_of = λ f arity.
      builtin_named (name_of atoms f) arity;
}

-- whether a built-in function has this name and number of arguments
abbrev pub is_builtin : List (List ℕ) → ℕ → ℕ → Bool
is_builtin atoms f arity = is_some (builtin_named (name_of atoms f) arity)

-- ---- patterns: an unsafe variable

abbrev mutual
  pub expr_pattern_faults : Scope → ExprPattern → List SourceRefusal
  expr_pattern_faults g (s.variable x at) = fault_if (is_unsafe g x) Unsafe at
  expr_pattern_faults g (s.tuple qs) = expr_patterns_faults g qs
  expr_pattern_faults g (s.list qs) = expr_patterns_faults g qs
  expr_pattern_faults g (s.list_on qs q) = expr_patterns_faults g qs ++ expr_pattern_faults (after_expr_patterns g qs) q
  expr_pattern_faults g (s.integer z) = []
  expr_pattern_faults g (s.atom a) = []
  expr_pattern_faults g (s.text cs) = []
  expr_pattern_faults g s.anything = []

  pub expr_patterns_faults : Scope → ExprPatterns → List SourceRefusal
  expr_patterns_faults g no_expr_patterns = []
  expr_patterns_faults g (expr_pattern q qs) = expr_pattern_faults g q ++ expr_patterns_faults
      (after_expr_pattern g q) qs

-- ---- expressions

-- whether a name with this number of arguments can be called
abbrev pub is_defined : Names → ℕ → ℕ → Bool
is_defined n f arity = is_some (n.own_of f arity) || is_some (n.builtin_of f arity)

abbrev mutual
  pub expr_faults : Names → Scope → Expr → List SourceRefusal
  expr_faults n g (p.integer z) = []
  expr_faults n g (p.atom a) = []
  expr_faults n g (p.text cs) = []
  expr_faults n g (p.variable x at) = fault_if (is_unsafe g x) Unsafe at ++ fault_if (is_new g x) Unbound at
  expr_faults n g (p.anonymous at) = fault_if true Unbound at
  expr_faults n g (p.parentheses a) = expr_faults n g a
  expr_faults n g (p.tuple es) = exprs_faults n g es
  expr_faults n g (p.list es) = exprs_faults n g es
  expr_faults n g (p.list_on es e) = exprs_faults n g es ++ expr_faults n (after_all g es) e
  expr_faults n g (p.call f at es) = (if is_defined n f (arity_of es) then [] else fault_if true Undefined at)
      ++ exprs_faults n g es
  expr_faults n g (p.binary o a b) = expr_faults n g a ++ expr_faults n (after g a) b
  expr_faults n g (p.negate a) = expr_faults n g a
  expr_faults n g (p.and_also a b) = expr_faults n g a ++ expr_faults n (after g a) b
  expr_faults n g (p.or_else a b) = expr_faults n g a ++ expr_faults n (after g a) b
  expr_faults n g (p.send a b) = expr_faults n g a ++ expr_faults n (after g a) b
  expr_faults n g (p.match q a) = expr_faults n g a ++ expr_pattern_faults (after g a) q
  expr_faults n g (p.case a bs) = expr_faults n g a ++ branches_faults n (after g a) bs
  expr_faults n g (p.if_expression bs) = branches_faults n g bs
  expr_faults n g (p.receive bs) = branches_faults n g bs

  pub exprs_faults : Names → Scope → Exprs → List SourceRefusal
  exprs_faults n g no_exprs = []
  exprs_faults n g (expr e es) = expr_faults n g e ++ exprs_faults n (after g e) es

  pub condition_faults : Names → Scope → Condition → List SourceRefusal
  condition_faults n g no_tests = []
  condition_faults n g (tests es c) = exprs_faults n g es ++ condition_faults n g c

  -- each clause begins with what is seen at its construct
  pub branches_faults : Names → Scope → Branches → List SourceRefusal
  branches_faults n g no_branches = []
  branches_faults n g (branch q c es bs) =
      expr_pattern_faults g q ++ condition_faults n (after_expr_pattern g q) c
      ++ exprs_faults n (after_expr_pattern g q) es ++ branches_faults n g bs

-- ---- modules

-- a clause of a function begins with no variable
abbrev pub head_faults : Names → Head → List SourceRefusal
head_faults n h =
    expr_patterns_faults no_scope h.parameters
    ++ condition_faults n (after_expr_patterns no_scope h.parameters) h.condition
    ++ exprs_faults n (after_expr_patterns no_scope h.parameters) h.body

-- a function whose name and number of arguments an earlier one or a built-in has
abbrev pub defined_faults : List (List ℕ) → List (List Head) → List (List Head) → List SourceRefusal
defined_faults atoms earlier [] = []
defined_faults atoms earlier ([] ∷ fs) = defined_faults atoms (earlier ++ [] ∷ []) fs
defined_faults atoms earlier ((h ∷ hs) ∷ fs) =
    fault_if (is_some (own_in earlier h.name (parameters_of h.parameters)) || is_builtin atoms h.name
    (parameters_of h.parameters)) DefinedTwice h.offset
    ++ defined_faults atoms (earlier ++ (h ∷ hs) ∷ []) fs

-- a clause whose name or number of arguments isn't that of the function's first
abbrev pub is_alike : Head → Head → Bool
is_alike h k = (k.name == h.name) && (parameters_of k.parameters == parameters_of h.parameters)

abbrev pub unlike_fault : Head → Head → List SourceRefusal
unlike_fault h k = if is_alike h k then [] else fault_if true HeadsDiffer k.offset

abbrev pub unlike_faults : List Head → List SourceRefusal
unlike_faults [] = []
unlike_faults (h ∷ hs) = flat_map (unlike_fault h) hs

-- an export of no function
abbrev pub export_fault : List (List Head) → Export → List SourceRefusal
export_fault fs e = if is_some (own_in fs e.name e.arity) then [] else fault_if true ExportOfNothing e.offset

-- all faults of a module with these atoms
abbrev pub faults_of : List (List ℕ) → Tree → List SourceRefusal
faults_of atoms m =
    flat_map (export_fault m.functions) m.exports
    ++ defined_faults atoms [] m.functions
    ++ flat_map unlike_faults m.functions
    ++ flat_map (flat_map (head_faults (names_of_module atoms m.functions))) m.functions

-- ---- the first fault

-- at a lower offset, or at the same with a code that isn't later in the table
abbrev pub NotAfter : SourceRefusal → SourceRefusal → Type 0
NotAfter a b = (a.offset < b.offset) ⊎ ((a.offset ≡ b.offset) × (rank_of a.code ≤ rank_of b.code))

-- the fault of the least offset, and of several there the one whose code is the first in the table
abbrev pub IsFirst : List SourceRefusal → SourceRefusal → Type 0
IsFirst faults f = Contains faults f × ((other : SourceRefusal) → Contains faults other → NotAfter f other)
