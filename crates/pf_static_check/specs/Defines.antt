-- What entering the functions of a module does: to those that are kept, and to the first fault.
use Rattle.std.specs.Prelude.{◌≡◌, ℕ, ◌||◌, is_some, List, [], ◌∷◌, ◌++◌}
use Rattle.pf_errors.specs.declared.refusal.SourceRefusal.{SourceRefusal}
use Rattle.pf_errors.specs.declared.code.Code.TheVariants.{DefinedTwice}
use Rattle.pf_syntax.specs.SyntaxTree.{Head}
use Rattle.pf_rules.specs.Static.{fault_if, own_in, is_builtin, parameters_of}
use Rattle.pf_rules.specs.Listing.{ListsFunctions}
use Rattle.pf_rules.specs.declared.signatures.Signatures.{Signatures}
use Rattle.pf_static_check.specs.Earliest.{earliest, earliest_kept}
use Rattle.pf_static_check.specs.declared.first.FirstFault.{FirstFault}

-- the fault of a function that is defined after these
abbrev pub defined_fault : List (List ℕ) → List (List Head) → List Head → List SourceRefusal
defined_fault atoms earlier [] = []
defined_fault atoms earlier (h ∷ hs) =
    fault_if (is_some (own_in earlier h.name (parameters_of h.parameters)) || is_builtin atoms h.name
    (parameters_of h.parameters)) DefinedTwice h.offset

-- a function is kept after those that were, and its fault is found
pub record Defines (atoms : List (List ℕ)) (f : List Head) (old new : Signatures)
    (before after : FirstFault) : Type 0 where
  pub lists : (fs : List (List Head)) → ListsFunctions old fs → ListsFunctions new (fs ++ f ∷ [])
  pub found : (fs : List (List Head)) → ListsFunctions old fs
      → earliest_kept after ≡ earliest (earliest_kept before) (defined_fault atoms fs f)
