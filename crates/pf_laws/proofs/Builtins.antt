-- Each built-in function takes as many arguments as its row says.
use Rattle.std.proofs.Common.{◌≡◌, ℕ, Bool, true, false, ◌==◌, List, [], ◌∷◌, Some, refl, sym, ap, ◌∙◌}
use Rattle.std.specs.Prelude.{◌&&◌, if◌then◌else◌}
use Rattle.std.specs.Str.{bytes_eq}
use Rattle.std.proofs.lemmas.Bool.{and_parts, eqb-true}
use Rattle.pf_syntax.specs.declared.operator.Builtin.{Builtin}
use Rattle.pf_syntax.specs.Forms.{BuiltinRow, builtins, named_in, builtin_named}
use Rattle.pf_model.specs.Closed.{builtin_arity}

-- ---- numbers of arguments

-- each row has the number of arguments that its function takes
abbrev are_right : List BuiltinRow → Bool
are_right [] = true
are_right (r ∷ rows) = (builtin_arity r.builtin == r.arity) && are_right rows

rows_right : are_right builtins ≡ true
rows_right = refl

named_takes : (name : List ℕ) (k : ℕ) (rows : List BuiltinRow) (f : Builtin) → are_right rows ≡ true
    → named_in name k rows ≡ Some f → builtin_arity f ≡ k
named_takes name k [] f right e = cc
named_takes name k (r ∷ rows) f right e = by (bytes_eq r.name name && (r.arity == k)) refl e
    (λ h. named_takes name k rows f both.1 h)
  where
    both : (builtin_arity r.builtin == r.arity ≡ true) × (are_right rows ≡ true)
    both = and_parts (builtin_arity r.builtin == r.arity) (are_right rows) right

    by : (here : Bool) → bytes_eq r.name name && (r.arity == k) ≡ here
        → (if here then Some r.builtin else named_in name k rows) ≡ Some f
        → (named_in name k rows ≡ Some f → builtin_arity f ≡ k) → builtin_arity f ≡ k
    by true d h further =
        let same : r.builtin ≡ f = cc in
        let here = and_parts (bytes_eq r.name name) (r.arity == k) d in
        ap builtin_arity (sym same) ∙ eqb-true (builtin_arity r.builtin) r.arity both.0 ∙ eqb-true r.arity k here.1
    by false d h further = further h

pub named_is_right : (name : List ℕ) (k : ℕ) (f : Builtin) → builtin_named name k ≡ Some f → builtin_arity f ≡ k
named_is_right name k f e = named_takes name k builtins f rows_right e
