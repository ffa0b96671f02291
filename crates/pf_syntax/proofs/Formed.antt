-- The tree at a node's number is over the trees of the node's parts, and so for patterns.
use Rattle.std.proofs.Common.{◌≡◌, ℕ, zero, suc, ◌+◌, ◌<◌, ◌≤◌, List, [], ◌∷◌, length, get_or, Some, None, sym, ap, ◌∙◌}
use Rattle.std.proofs.Common.{subst, arith, length-append}
use Rattle.std.specs.Prelude.{fold, map, slice_get, Option, option_map, MatchOption, IfNone}
use Rattle.std.proofs.Common.{Bor}
use Rattle.std.proofs.lemmas.List.{get_or_past, length-map}
use Rattle.std.proofs.lemmas.Option.{get_or_from_slice_get, slice_get-map}
use Rattle.pf_terms.specs.Value.{Value, list, none}
use Rattle.pf_terms.specs.Term.{value_of}
use Rattle.pf_terms.specs.declared.term.Term.{Term}
use Rattle.pf_syntax.specs.Pattern.{Pattern, any}
use Rattle.pf_syntax.specs.Tree.{Tree}
use Rattle.pf_syntax.specs.Module.{Tables, literal_at, pattern_at, tree_at}
use Rattle.pf_syntax.specs.Over.{pattern_over, tree_over, with_pattern, with_tree}
use Rattle.pf_syntax.specs.Within.{PatternPartsAreThere, PartsAreThere, InTurn}
use Rattle.pf_syntax.proofs.Extends.{Extends, extends_on, extends_pattern, extends_tree, pattern_kept, tree_kept}
use Rattle.pf_syntax.proofs.Extends.{pattern_last, tree_last}
use Rattle.pf_syntax.proofs.Folds.{fold_extends, patterns_leave, trees_leave, length-patterns, length-trees}
use Rattle.pf_syntax.specs.View.{literals_of, patterns_of, tables_of, Sound}
use Rattle.pf_syntax.specs.declared.module.Module.TheInside.{Inside}
use Rattle.pf_syntax.specs.declared.node.PatternNode.{PatternNode}
use Rattle.pf_syntax.specs.declared.node.Node.{Node}

patterns_extend : (t : Tables) (ps : List PatternNode) → Extends t (fold with_pattern t ps)
patterns_extend t ps = fold_extends with_pattern (λ u p. extends_pattern u (pattern_over u p)) t ps

pub trees_extend : (t : Tables) (ns : List Node) → Extends t (fold with_tree t ns)
trees_extend t ns = fold_extends with_tree extends_tree t ns

pub tree_formed : (t : Tables) (ns : List Node) (k : ℕ) (n : Node) → InTurn PartsAreThere with_tree t ns
    → slice_get ns k ≡ Some n → tree_over (fold with_tree t ns) n ≡ tree_at (fold with_tree t ns) (length t.trees + k)
tree_formed t [] k n a e = absurd (cc)
tree_formed t (m ∷ ns) zero n a e =
    let h : m ≡ n = cc in
    let u = with_tree t m in
    let w = fold with_tree u ns in
    let z : length t.trees + 0 ≡ length t.trees = omega arith in
    let l : length t.trees < length u.trees = omega (arith, length-append t.trees (tree_over t m ∷ [])) in
    let over = tree_kept t w (extends_on t u w (extends_tree t m) (trees_extend u ns)) m a.0 in
    let at = (trees_extend u ns).trees (length t.trees) l ∙ tree_last t m in
    rw (← h, z) (over ∙ sym at)
tree_formed t (m ∷ ns) (suc k) n a e =
    let u = with_tree t m in
    let z : length u.trees + k ≡ length t.trees + suc k = omega (arith, length-append t.trees (tree_over t m ∷ [])) in
    subst (λ (j : ℕ). tree_over (fold with_tree u ns) n ≡ tree_at (fold with_tree u ns) j) z
    (tree_formed u ns k n a.1 e)

pub pattern_formed : (t : Tables) (ps : List PatternNode) (k : ℕ) (p : PatternNode)
    → InTurn PatternPartsAreThere with_pattern t ps → slice_get ps k ≡ Some p
    → pattern_over (fold with_pattern t ps) p ≡ pattern_at (fold with_pattern t ps) (length t.patterns + k)
pattern_formed t [] k p a e = absurd (cc)
pattern_formed t (q ∷ ps) zero p a e =
    let h : q ≡ p = cc in
    let u = with_pattern t q in
    let w = fold with_pattern u ps in
    let z : length t.patterns + 0 ≡ length t.patterns = omega arith in
    let l : length t.patterns < length u.patterns = omega (arith, length-append t.patterns (pattern_over t q ∷ [])) in
    let over = pattern_kept t w (extends_on t u w (extends_pattern t (pattern_over t q)) (patterns_extend u ps)) q
    a.0 in
    let at = (patterns_extend u ps).patterns (length t.patterns) l ∙ pattern_last t q in
    rw (← h, z) (over ∙ sym at)
pattern_formed t (q ∷ ps) (suc k) p a e =
    let u = with_pattern t q in
    let z : length u.patterns + k ≡ length t.patterns + suc k =
    omega (arith, length-append t.patterns (pattern_over t q ∷ [])) in
    subst (λ (j : ℕ). pattern_over (fold with_pattern u ps) p ≡ pattern_at (fold with_pattern u ps) j) z
    (pattern_formed u ps k p a.1 e)

-- ---- the fields of a module

-- there are as many patterns and trees as nodes for them
pub count-patterns : (a : Inside) → length (tables_of a).patterns ≡ length a.patterns.items
count-patterns a =
    let e = ap (λ (ps : List Pattern). length ps) (trees_leave (patterns_of a) a.nodes.items).1 in
    omega (arith, e, length-patterns (literals_of a) a.patterns.items)

pub count-trees : (a : Inside) → length (tables_of a).trees ≡ length a.nodes.items
count-trees a =
    let e = ap (λ (ts : List Tree). length ts) (patterns_leave (literals_of a) a.patterns.items).1 in
    omega (arith, e, length-trees (patterns_of a) a.nodes.items)

pub same_literals : (a : Inside) → (tables_of a).literals ≡ map value_of a.literals.items
same_literals a = (trees_leave (patterns_of a) a.nodes.items).0 ∙ (patterns_leave (literals_of a) a.patterns.items).0

pub count-literals : (a : Inside) → length (tables_of a).literals ≡ length a.literals.items
count-literals a = ap (λ (vs : List Value). length vs) (same_literals a) ∙ length-map a.literals.items value_of

pub literal_of_term : (a : Inside) (k : ℕ) (x : Term) → slice_get a.literals.items k ≡ Some x
    → value_of x ≡ literal_at (tables_of a) k
literal_of_term a k x e =
    let at : slice_get (map value_of a.literals.items) k ≡ Some (value_of x) = slice_get-map value_of a.literals.items k
    ∙ ap (option_map value_of) e in
    sym (get_or_from_slice_get (map value_of a.literals.items) k (value_of x) (list none) at)
    ∙ ap (λ (vs : List Value). get_or vs k (list none)) (sym (same_literals a))

pub literal_past : (a : Inside) (k : ℕ) → length a.literals.items ≤ k → literal_at (tables_of a) k ≡ list none
literal_past a k h = let n = count-literals a in get_or_past (tables_of a).literals k (list none) (omega arith)

-- a pattern's meaning depends on no tree
pub pattern_alike : (t u : Tables) (p : PatternNode) → t.literals ≡ u.literals → t.patterns ≡ u.patterns
    → pattern_over t p ≡ pattern_over u p
pattern_alike t u p e f =
    ap (λ (vs : List Value). let w : Tables = record { literals = vs; patterns = t.patterns; trees = t.trees } in
    pattern_over w p) e
    ∙ ap (λ (ps : List Pattern). let w : Tables = record { literals = u.literals; patterns = ps; trees = u.trees } in
    pattern_over w p) f

-- the tree at a number is over the trees of its node's parts
pub tree_of_node : (a : Inside) → Sound a → (k : ℕ) (n : Node) → slice_get a.nodes.items k ≡ Some n
    → tree_over (tables_of a) n ≡ tree_at (tables_of a) k
tree_of_node a s k n e =
    let l = ap (λ (ts : List Tree). length ts) (patterns_leave (literals_of a) a.patterns.items).1 in
    let z : length (patterns_of a).trees + k ≡ k = omega (arith, l) in
    subst (λ (j : ℕ). tree_over (tables_of a) n ≡ tree_at (tables_of a) j) z
    (tree_formed (patterns_of a) a.nodes.items k n s.nodes e)

-- the pattern at a number is over the patterns of its node's parts
pub pattern_of_node : (a : Inside) → Sound a → (k : ℕ) (p : PatternNode) → slice_get a.patterns.items k ≡ Some p
    → pattern_over (tables_of a) p ≡ pattern_at (tables_of a) k
pattern_of_node a s k p e =
    let left = trees_leave (patterns_of a) a.nodes.items in
    let z : 0 + k ≡ k = omega arith in
    let formed = subst (λ (j : ℕ). pattern_over (patterns_of a) p ≡ pattern_at (patterns_of a) j) z
    (pattern_formed (literals_of a) a.patterns.items k p s.patterns e) in
    pattern_alike (tables_of a) (patterns_of a) p left.0 left.1 ∙ formed
    ∙ ap (λ (ps : List Pattern). get_or ps k any) (sym left.1)

pub get_none : {X : Type 0} (xs : List X) (i : ℕ) → slice_get xs i ≡ None → length xs ≤ i
get_none [] i e = omega arith
get_none (x ∷ xs) zero e = absurd (cc)
get_none (x ∷ xs) (suc i) e = omega (arith, get_none xs i e)

-- what follows from what an entry is, where ys are the entries that were read
pub by_entry : {X : Type 0} (r : Option (Bor X)) (ys xs : List X) (i : ℕ) (P : Type 0) (Q : X → Type 0) → ys ≡ xs
    → MatchOption r (slice_get ys i ≡ None) (λ x. slice_get ys i ≡ Some x.now) → (length xs ≤ i → P)
    → ((x : X) → slice_get xs i ≡ Some x → Q x) → MatchOption r P (λ x. Q x.now)
by_entry None ys xs i P Q e h absent found = let l = ap length e in let k = get_none ys i h in absent (omega arith)
by_entry (Some x) ys xs i P Q e h absent found = found x.now (ap (λ (zs : List _). slice_get zs i) (sym e) ∙ h)

pub past_entry : {X : Type 0} (r : Option (Bor X)) (ys xs : List X) (i : ℕ) → ys ≡ xs
    → MatchOption r (slice_get ys i ≡ None) (λ x. slice_get ys i ≡ Some x.now) → IfNone r (length xs ≤ i)
past_entry None ys xs i e h = let l = ap length e in let k = get_none ys i h in omega arith
past_entry (Some x) ys xs i e h = tt
