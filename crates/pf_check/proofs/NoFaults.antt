-- Where a module has no fault, it has none of each kind.
use Rattle.std.proofs.Common.{◌≡◌, ℕ, List, [], ◌++◌, flat_map}
use Rattle.pf_errors.specs.declared.refusal.SourceRefusal.{SourceRefusal}
use Rattle.pf_syntax.specs.ExprModule.{Tree}
use Rattle.pf_rules.specs.Static.{export_fault, defined_faults, unlike_faults, head_faults, names_of_module, faults_of}
use Rattle.pf_lower.proofs.Exists.{left_empty, right_empty}

-- the faults of its exports and of its functions' names, and those of its clauses
abbrev names_faults : List (List ℕ) → Tree → List SourceRefusal
names_faults atoms m = flat_map (export_fault m.functions) m.exports ++ defined_faults atoms [] m.functions

abbrev clauses_faults : List (List ℕ) → Tree → List SourceRefusal
clauses_faults atoms m = flat_map (flat_map (head_faults (names_of_module atoms m.functions))) m.functions

pub none_in_clauses : (atoms : List (List ℕ)) (m : Tree) → faults_of atoms m ≡ [] → clauses_faults atoms m ≡ []
none_in_clauses atoms m e = right_empty (names_faults atoms m ++ flat_map unlike_faults m.functions)
    (clauses_faults atoms m) e

pub none_unlike : (atoms : List (List ℕ)) (m : Tree) → faults_of atoms m ≡ [] → flat_map unlike_faults m.functions ≡ []
none_unlike atoms m e =
    right_empty (names_faults atoms m) (flat_map unlike_faults m.functions)
    (left_empty (names_faults atoms m ++ flat_map unlike_faults m.functions) (clauses_faults atoms m) e)

pub none_defined_twice : (atoms : List (List ℕ)) (m : Tree) → faults_of atoms m ≡ []
    → defined_faults atoms [] m.functions ≡ []
none_defined_twice atoms m e =
    right_empty (flat_map (export_fault m.functions) m.exports) (defined_faults atoms [] m.functions)
    (left_empty (names_faults atoms m) (flat_map unlike_faults m.functions)
    (left_empty (names_faults atoms m ++ flat_map unlike_faults m.functions) (clauses_faults atoms m) e))
