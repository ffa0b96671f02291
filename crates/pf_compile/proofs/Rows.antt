-- The first of the operands, patterns and clauses of an expression, and those after it.
use Rattle.std.proofs.Common.{◌≡◌, ◌<◌, ◌≤◌, ◌+◌, ◌-◌, ℕ, List, [], ◌∷◌, length, take, drop, get_or, refl, sym}
use Rattle.std.proofs.Common.{subst, arith, ◌==◌, true, false}
use Rattle.std.proofs.lemmas.Bool.{eqb-true, false≢true}
use Rattle.pf_syntax.specs.Module.{Tables, pattern_at}
use Rattle.pf_syntax.specs.Tree.{Tree}
use Rattle.pf_syntax.specs.Over.{part_over, parts_over, patterns_at, clauses_over, guard_over}
use Rattle.pf_syntax.specs.declared.node.Operand.{Operand}
use Rattle.pf_syntax.specs.declared.node.PatternId.{PatternId}
use Rattle.pf_syntax.specs.declared.node.Clause.{Clause}
use Rattle.pf_code.specs.Registers.{reg}
use Rattle.pf_code.specs.Sound.{Code}
use Rattle.pf_code.specs.declared.instruction.Operation.TheVariants as ops
use Rattle.pf_compile_patterns.specs.declared.plan.Plan.{Plan}
use Rattle.pf_compile_patterns.specs.declared.scope.Scope.{Scope}
use Rattle.pf_compile.specs.declared.target.Target.{Target}
use Rattle.pf_compile_patterns.specs.Maker.{IsPlace}
use Rattle.pf_compile_patterns.specs.Scopes.{model_in, slots_in, tables_in}
use Rattle.pf_compile_patterns.specs.Growth.{Put, Made}
use Rattle.pf_compile_patterns.specs.Tests.{Lays}
use Rattle.pf_compile_patterns.specs.Planned.{AreBelow, fit_at, Planned}
use Rattle.pf_compile_patterns.specs.Guarded.{AsksBelow, holds_at}
use Rattle.pf_compile.specs.Evaluated.{Begins, Evaluates, EvaluatesAll, GivesValue, Matches, Binds, Picks, RaisesWith}
use Rattle.pf_compile.specs.Evaluated.{step_of}
use Rattle.pf_compile.specs.Scopes.{register_of}
use Rattle.pf_compile.specs.declared.target.Subject.{Subject}
use Rattle.pf_compile.specs.Evaluated.{tree_count, MatchesFree}
use Rattle.pf_compile.proofs.Parts.{match_of_none}
use Rattle.pf_compile_patterns.proofs.Grown.{rest_of}
use Rattle.pf_compile_patterns.proofs.Guarded.{exits_to}
use Rattle.pf_compile.proofs.Evaluated.{target_at, evaluates_none, evaluates_more}
use Rattle.pf_compile.proofs.Clauses.{Begun, inner_target, picks_none, picks_more, matches_none, matches_more}
use Rattle.pf_compile.proofs.Clauses.{binds_none}
use Rattle.pf_compile.proofs.Clauses.{binds_more}

abbrev pub rest : {A : Type 0} → List A → List A
rest xs = take (length xs - 1) (drop 1 xs)

none_there : {A : Type 0} (xs : List A) → length xs ≡ 0 → xs ≡ []
none_there [] h = refl
none_there (x ∷ xs) h = absurd (omega arith)

pub parts_count : (t : Tables) (ps : List Operand) → tree_count (parts_over t ps) ≡ length ps
parts_count t [] = refl
parts_count t (p ∷ ps) = let h = parts_count t ps in omega arith

pub evaluates_none_at : (s : Scope) (ps : List Operand) (free next : ℕ) (old : Code) → length ps ≡ 0
    → IsPlace old next
    → Made old old next (EvaluatesAll s (parts_over (tables_in s) ps) (length ps) free next next)
evaluates_none_at s ps free next old l place =
    subst (λ qs. Made old old next (EvaluatesAll s (parts_over (tables_in s) qs) (length qs) free next next))
    (sym (none_there ps l)) (evaluates_none s free next old place)

pub evaluates_at : (s : Scope) (ps : List Operand) (d : Operand) (free after next : ℕ) (old mid new : Code) (k pc : ℕ)
    → 1 ≤ length ps → AreBelow free (slots_in s) → after ≡ free + 1
    → Made old mid k (EvaluatesAll s (parts_over (tables_in s) (rest ps)) (length (rest ps)) after next k)
    → Made mid new pc (Evaluates s (part_over (tables_in s) (get_or ps 0 d)) (target_at free k) pc)
    → Made old new pc (EvaluatesAll s (parts_over (tables_in s) ps) (length ps) free next pc)
evaluates_at s [] d free after next old mid new k pc l below e h j = absurd (omega arith)
evaluates_at s (p ∷ ps) d free after next old mid new k pc l below e h j =
    evaluates_more s (part_over (tables_in s) p) (parts_over (tables_in s) ps) (length ps) free after next old mid
    new k pc (parts_count (tables_in s) ps) below e
    (subst (λ qs. Made old mid k (EvaluatesAll s (parts_over (tables_in s) qs) (length qs) after next k))
    (rest_of p ps) h)
    j

pub picks_none_at : (s : Scope) (ks : List Clause) (subject : Subject) (to : Target) (old : Code) (otherwise : ℕ)
    → length ks ≡ 0 → IsPlace old otherwise
    → Made old old otherwise (Picks s (clauses_over (tables_in s) ks) subject to otherwise otherwise)
picks_none_at s ks subject to old otherwise l place =
    subst (λ js. Made old old otherwise (Picks s (clauses_over (tables_in s) js) subject to otherwise otherwise))
    (sym (none_there ks l)) (picks_none s subject to old otherwise place)

pub picks_at : (s inner : Scope) (ks : List Clause) (d : Clause) (subject : Subject) (to : Target) (before after : Plan)
    (old one two three begins four new : Code) (otherwise next body start guard pc : ℕ) → 1 ≤ length ks
    → to.into ≤ to.free
    → register_of subject < to.free → AreBelow to.free (slots_in s) → Begun s inner to before after
    → tables_in inner ≡ tables_in s
    → Made old one next (Picks s (clauses_over (tables_in s) (rest ks)) subject to otherwise next)
    → Planned one two before after
    (fit_at (pattern_at (tables_in s) (get_or ks 0 d).pattern.0) (register_of subject))
    → Made two three body (Evaluates inner (part_over (tables_in inner) (get_or ks 0 d).body)
    (inner_target to after.free) body)
    → Made three begins start (Begins subject body start)
    → Made begins four guard (AsksBelow (model_in inner) (exits_to after.free start next) guard
    (holds_at inner (guard_over (tables_in inner) (get_or ks 0 d).guard)))
    → Made four new pc (Lays after.tests.items guard next pc)
    → Made old new pc (Picks s (clauses_over (tables_in s) ks) subject to otherwise pc)
picks_at s inner [] d subject to before after old one two three begins four new otherwise next body start guard pc l low
    sub below opens same hk hp hb hs hg hl = absurd (omega arith)
picks_at s inner (k ∷ ks) d subject to before after old one two three begins four new otherwise next body start guard pc
    l low sub below opens same hk hp hb hs hg hl =
    picks_more s inner (pattern_at (tables_in s) k.pattern.0) (guard_over (tables_in s) k.guard)
    (part_over (tables_in s) k.body) (clauses_over (tables_in s) ks) subject to before after old one two three begins
    four new otherwise next body start guard pc low sub below opens
    (subst (λ js. Made old one next (Picks s (clauses_over (tables_in s) js) subject to otherwise next))
    (rest_of k ks) hk)
    hp (subst (λ t. Made two three body (Evaluates inner (part_over t k.body) (inner_target to after.free) body))
    same hb) hs
    (subst (λ t. Made begins four guard (AsksBelow (model_in inner) (exits_to after.free start next) guard
    (holds_at inner (guard_over t k.guard)))) same hg) hl

pub matches_none_at : (s : Scope) (ids : List PatternId) (subject : ℕ) (to : Target) (old new : Code) (pc : ℕ)
    → length ids ≡ 0 → Made old new pc (GivesValue to.into to.after (λ r. reg r subject) pc)
    → Made old new pc (Matches s (patterns_at (tables_in s) ids) subject to pc)
matches_none_at s ids subject to old new pc l h =
    subst (λ js. Made old new pc (Matches s (patterns_at (tables_in s) js) subject to pc)) (sym (none_there ids l))
    (matches_none s subject to old new pc h)

pub matches_at : (s inner : Scope) (ids : List PatternId) (d : PatternId) (subject : ℕ) (to : Target)
    (before after : Plan) (old one two three four new : Code) (next raise first pc : ℕ) → 1 ≤ length ids
    → to.into ≤ to.free → subject < to.free → AreBelow to.free (slots_in s) → Begun s inner to before after
    → tables_in inner ≡ tables_in s
    → Planned old one before after (fit_at (pattern_at (tables_in s) (get_or ids 0 d).0) subject)
    → Made one two next (Matches inner (patterns_at (tables_in inner) (rest ids)) subject
    (inner_target to after.free) next)
    → Made two three raise (RaisesWith 12 subject raise)
    → Made three four first (Lays after.tests.items next raise first)
    → Put four new (step_of ops.Step) first pc
    → Made old new pc (Matches s (patterns_at (tables_in s) ids) subject to pc)
matches_at s inner [] d subject to before after old one two three four new next raise first pc l low sub below begun
    same hp hn hr hl hs = absurd (omega arith)
matches_at s inner (i ∷ ids) d subject to before after old one two three four new next raise first pc l low sub below
    begun same hp hn hr hl hs =
    matches_more s inner (pattern_at (tables_in s) i.0) (patterns_at (tables_in s) ids) subject to before after old
    one two three four new next raise first pc low sub below begun hp
    (subst (λ t. Made one two next (Matches inner (patterns_at t ids) subject (inner_target to after.free) next)) same
    (subst (λ js. Made one two next (Matches inner (patterns_at (tables_in inner) js) subject
    (inner_target to after.free) next)) (rest_of i ids) hn)) hr hl hs

pub binds_none_at : (s : Scope) (ids : List PatternId) (t : Tree) (subject : ℕ) (to : Target) (old mid new : Code)
    (next pc : ℕ) → length ids ≡ 0 → Made old mid next (Evaluates s t to next)
    → Put mid new (step_of ops.Step) next pc
    → Made old new pc (Binds s (patterns_at (tables_in s) ids) t subject to pc)
binds_none_at s ids t subject to old mid new next pc l h k =
    subst (λ js. Made old new pc (Binds s (patterns_at (tables_in s) js) t subject to pc)) (sym (none_there ids l))
    (binds_none s t subject to old mid new next pc h k)

pub binds_at : (s inner : Scope) (ids : List PatternId) (d : PatternId) (x : Operand) (subject : ℕ) (to : Target)
    (before after : Plan) (old one two three four new : Code) (next raise first pc : ℕ) → 1 ≤ length ids
    → to.into ≤ to.free → subject < to.free → AreBelow to.free (slots_in s) → Begun s inner to before after
    → tables_in inner ≡ tables_in s
    → Planned old one before after (fit_at (pattern_at (tables_in s) (get_or ids 0 d).0) subject)
    → Made one two next (Binds inner (patterns_at (tables_in inner) (rest ids)) (part_over (tables_in inner) x) subject
    (inner_target to after.free) next)
    → Made two three raise (RaisesWith 12 subject raise)
    → Made three four first (Lays after.tests.items next raise first)
    → Put four new (step_of ops.Step) first pc
    → Made old new pc (Binds s (patterns_at (tables_in s) ids) (part_over (tables_in s) x) subject to pc)
binds_at s inner [] d x subject to before after old one two three four new next raise first pc l low sub below begun
    same hp hn hr hl hs = absurd (omega arith)
binds_at s inner (i ∷ ids) d x subject to before after old one two three four new next raise first pc l low sub below
    begun same hp hn hr hl hs =
    binds_more s inner (pattern_at (tables_in s) i.0) (patterns_at (tables_in s) ids) (part_over (tables_in s) x)
    subject to before after old one two three four new next raise first pc low sub below begun hp
    (subst (λ t. Made one two next (Binds inner (patterns_at t ids) (part_over t x) subject
    (inner_target to after.free) next)) same
    (subst (λ js. Made one two next (Binds inner (patterns_at (tables_in inner) js) (part_over (tables_in inner) x)
    subject (inner_target to after.free) next)) (rest_of i ids) hn)) hr hl hs

-- a match of what is in the free register
pub match_free_none : (s : Scope) (ids : List PatternId) (to : Target) (old mid new : Code) (next pc : ℕ)
    → (length ids == 0) ≡ true → Made old mid next (GivesValue to.into to.after (λ r. reg r to.free) next)
    → Put mid new (step_of ops.Step) next pc → Made old new pc (MatchesFree s (patterns_at (tables_in s) ids) to pc)
match_free_none s [] to old mid new next pc l h k = match_of_none s to old mid new next pc h k
match_free_none s (i ∷ ids) to old mid new next pc l h k =
    let z = eqb-true (length (i ∷ ids)) 0 l in absurd (omega arith)

pub match_free_more : (s : Scope) (ids : List PatternId) (to : Target) (free : ℕ) (old new : Code) (pc : ℕ)
    → (length ids == 0) ≡ false
    → Made old new pc (Matches s (patterns_at (tables_in s) ids) to.free (inner_target to free) pc)
    → Made old new pc (MatchesFree s (patterns_at (tables_in s) ids) to pc)
match_free_more s [] to free old new pc l h = absurd (false≢true (sym l))
match_free_more s (i ∷ ids) to free old new pc l h = h
