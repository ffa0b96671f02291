-- The first of a slice and those after it.
use Rattle.std.proofs.Common.{◌≡◌, ◌≤◌, ◌+◌, ◌-◌, ℕ, List, [], ◌∷◌, length, take, drop, get_or, refl, sym, subst}
use Rattle.std.proofs.Common.{arith}
use Rattle.pf_syntax.specs.Over.{part_over, parts_over, alternatives_over}
use Rattle.pf_syntax.specs.declared.node.Operand.{Operand}
use Rattle.pf_syntax.specs.declared.node.Alternative.{Alternative}
use Rattle.pf_code.specs.Sound.{Code}
use Rattle.pf_compile_patterns.specs.declared.scope.Scope.{Scope}
use Rattle.pf_compile_patterns.specs.declared.scope.Exits.{Exits}
use Rattle.pf_compile_patterns.specs.Scopes.{model_in, slots_in, tables_in, AreExits}
use Rattle.pf_compile_patterns.specs.Growth.{Made}
use Rattle.pf_compile_patterns.specs.Planned.{AreBelow}
use Rattle.pf_compile_patterns.specs.Guarded.{Worths, WorthsAll, AsksBelow, holds_at, is_true_at, all_true_at}
use Rattle.pf_compile_patterns.proofs.Grown.{rest_of}
use Rattle.pf_compile_patterns.proofs.Guarded.{exits_to, worths_none, worths_more, asks_all, asks_none, asks_one}
use Rattle.pf_compile_patterns.proofs.Guarded.{asks_no_alternative}

abbrev rest : {A : Type 0} → List A → List A
rest xs = take (length xs - 1) (drop 1 xs)

-- a slice with nothing in it
none_there : {A : Type 0} (xs : List A) → length xs ≡ 0 → xs ≡ []
none_there [] h = refl
none_there (x ∷ xs) h = absurd (omega arith)

pub worths_none_at : (s : Scope) (ps : List Operand) (to : Exits) (old : Code) → length ps ≡ 0 → AreExits old to
    → Made old old to.next (WorthsAll s (parts_over (tables_in s) ps) (length ps) to to.next)
worths_none_at s ps to old l exits =
    subst (λ qs. Made old old to.next (WorthsAll s (parts_over (tables_in s) qs) (length qs) to to.next))
    (sym (none_there ps l)) (worths_none s to old exits)

pub worths_at : (s : Scope) (ps : List Operand) (d : Operand) (free : ℕ) (to : Exits) (old mid new : Code)
    (next pc : ℕ) → 1 ≤ length ps → AreBelow to.free (slots_in s) → free ≡ to.free + 1
    → Made old mid next (WorthsAll s (parts_over (tables_in s) (rest ps)) (length (rest ps))
    (exits_to free to.next to.otherwise) next)
    → Made mid new pc (Worths s (part_over (tables_in s) (get_or ps 0 d)) (exits_to to.free next to.otherwise) pc)
    → Made old new pc (WorthsAll s (parts_over (tables_in s) ps) (length ps) to pc)
worths_at s [] d free to old mid new next pc l below e h k = absurd (omega arith)
worths_at s (p ∷ ps) d free to old mid new next pc l below e h k =
    worths_more s (part_over (tables_in s) p) (parts_over (tables_in s) ps) (length ps) free to old mid new next pc
    below e
    (subst (λ qs. Made old mid next (WorthsAll s (parts_over (tables_in s) qs) (length qs)
    (exits_to free to.next to.otherwise) next)) (rest_of p ps) h) k

pub asks_none_at : (s : Scope) (ps : List Operand) (to : Exits) (old : Code) → length ps ≡ 0 → AreExits old to
    → Made old old to.next (AsksBelow (model_in s) to to.next (all_true_at s (parts_over (tables_in s) ps)))
asks_none_at s ps to old l exits =
    subst (λ qs. Made old old to.next (AsksBelow (model_in s) to to.next (all_true_at s (parts_over (tables_in s) qs))))
    (sym (none_there ps l)) (asks_none s to old _ exits (λ own r. refl))

pub asks_all_at : (s : Scope) (ps : List Operand) (d : Operand) (to : Exits) (old mid new : Code) (next pc : ℕ)
    → 1 ≤ length ps → AreBelow to.free (slots_in s)
    → Made old mid next (AsksBelow (model_in s) to next (all_true_at s (parts_over (tables_in s) (rest ps))))
    → Made mid new pc (AsksBelow (model_in s) (exits_to to.free next to.otherwise) pc
    (is_true_at s (part_over (tables_in s) (get_or ps 0 d))))
    → Made old new pc (AsksBelow (model_in s) to pc (all_true_at s (parts_over (tables_in s) ps)))
asks_all_at s [] d to old mid new next pc l below h k = absurd (omega arith)
asks_all_at s (p ∷ ps) d to old mid new next pc l below h k =
    asks_all s (part_over (tables_in s) p) (parts_over (tables_in s) ps) to old mid new next pc below
    (subst (λ qs. Made old mid next (AsksBelow (model_in s) to next (all_true_at s (parts_over (tables_in s) qs))))
    (rest_of p ps) h) k

pub no_alternative_at : (s : Scope) (gs : List Alternative) (to : Exits) (old : Code) → length gs ≡ 0
    → AreExits old to
    → Made old old to.otherwise (AsksBelow (model_in s) to to.otherwise
    (holds_at s (alternatives_over (tables_in s) gs)))
no_alternative_at s gs to old l exits =
    subst (λ hs. Made old old to.otherwise (AsksBelow (model_in s) to to.otherwise
    (holds_at s (alternatives_over (tables_in s) hs)))) (sym (none_there gs l)) (asks_no_alternative s to old exits)

pub asks_one_at : (s : Scope) (gs : List Alternative) (d : Alternative) (ps : List Operand) (to : Exits)
    (old mid new : Code) (otherwise pc : ℕ) → 1 ≤ length gs → ps ≡ (get_or gs 0 d).tests.items
    → AreBelow to.free (slots_in s)
    → Made old mid otherwise (AsksBelow (model_in s) to otherwise
    (holds_at s (alternatives_over (tables_in s) (rest gs))))
    → Made mid new pc (AsksBelow (model_in s) (exits_to to.free to.next otherwise) pc
    (all_true_at s (parts_over (tables_in s) ps)))
    → Made old new pc (AsksBelow (model_in s) to pc (holds_at s (alternatives_over (tables_in s) gs)))
asks_one_at s [] d ps to old mid new otherwise pc l e below h k = absurd (omega arith)
asks_one_at s (g ∷ gs) d ps to old mid new otherwise pc l e below h k =
    asks_one s (parts_over (tables_in s) g.tests.items) (alternatives_over (tables_in s) gs) to old mid new otherwise pc
    below
    (subst (λ hs. Made old mid otherwise (AsksBelow (model_in s) to otherwise
    (holds_at s (alternatives_over (tables_in s) hs)))) (rest_of g gs) h)
    (subst (λ qs. Made mid new pc (AsksBelow (model_in s) (exits_to to.free to.next otherwise) pc
    (all_true_at s (parts_over (tables_in s) qs)))) e k)
