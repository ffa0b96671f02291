-- Walks one after another.
use Rattle.std.proofs.Common.{◌≡◌, ℕ, ◌+◌, ◌<◌, List, get_or, [], ◌∷◌, ◌++◌, length, drop, take, Bool, true, false}
use Rattle.std.proofs.Common.{refl, sym, ap, ◌∙◌, subst, append_assoc}
use Rattle.std.specs.Prelude.{if◌then◌else◌, ◌&&◌, ◌||◌}
use Rattle.std.proofs.lemmas.List.Sums.{fold-append}
use Rattle.std.proofs.lemmas.List.{append-nil, at_drop_more}
use Rattle.std.proofs.Math.Seq.{drop-append_seam}
use Rattle.pf_errors.specs.declared.refusal.SourceRefusal.{SourceRefusal}
use Rattle.pf_errors.specs.declared.code.Code.TheVariants.{Undefined}
use Rattle.pf_syntax.specs.ExprPattern.{ExprPattern, ExprPatterns, no_expr_patterns, expr_pattern, variable}
use Rattle.pf_syntax.specs.Expr.{Expr, Exprs, Condition, Branches, no_exprs, expr, no_tests, tests, no_branches, branch}
use Rattle.pf_syntax.specs.Expr.{call}
use Rattle.pf_syntax.specs.Scope.{Scope, no_scope, has, is_new, after_expr_pattern, after_expr_patterns, after}
use Rattle.pf_syntax.specs.Scope.{after_all, ends_of}
use Rattle.pf_syntax.specs.Scope.{names_in_scope as seen_names}
use Rattle.pf_syntax.specs.Naming.{Names, arity_of}
use Rattle.pf_syntax.specs.SyntaxTree.{NodeTable, Head}
use Rattle.pf_syntax.specs.SyntaxTreeOver.{exprs_at}
use Rattle.pf_syntax.specs.declared.expr.ExprId.{ExprId}
use Rattle.pf_rules.specs.Static.{fault_if, is_builtin, head_faults, names_of_module, is_defined, expr_pattern_faults}
use Rattle.pf_rules.specs.Static.{expr_patterns_faults, expr_faults, exprs_faults, condition_faults, branches_faults}
use Rattle.pf_static_check.specs.Earliest.{earlier, earliest, earliest_kept}
use Rattle.pf_static_check.specs.Marks.{KnowsScope, Trails, Binds, status_of, trail_of, is_marked}
use Rattle.pf_static_check.specs.Walking.{Walks, BeginsAnew, ClausesWalked, SafeWalked, CallWalked, ExprPatternWalked}
use Rattle.pf_static_check.specs.Walking.{ExprPatternsWalked, ExprWalked, ExprsWalked, TestsWalked, ConditionWalked}
use Rattle.pf_static_check.specs.Walking.{BranchesWalked, BranchWalked}
use Rattle.pf_static_check.specs.declared.variable_states.Status.{Status}
use Rattle.pf_static_check.specs.declared.variable_states.Status.TheVariants.{New, Unsafe}
use Rattle.pf_static_check.specs.declared.walk.ClauseWalk.{ClauseWalk}
use Rattle.pf_rules.specs.Listing.{ListsFunctions, lists}
use Rattle.pf_rules.specs.declared.signatures.Signatures.{Signatures}
use Rattle.pf_rules.proofs.Counts.{arity_length}
use Rattle.pf_static_check.proofs.Marking.{moved_named, moved_fresh, moved_unsafe}
use Rattle.pf_static_check.proofs.Trailing.{Same, same_is_there, trails_same, trails_nothing, trails_then, back}
use Rattle.pf_static_check.proofs.Trailing.{left_before, has_append, new_is, named_is, is_there_leaving}

-- ---- the next of a list

pub next_item : {X Y : Type 0} (F : List X → Y) (xs : List X) (i : ℕ) (x : X) → i < length xs → x ≡ get_or xs i x
    → F (drop i xs) ≡ F (x ∷ drop (i + 1) xs)
next_item F xs i x h e = at_drop_more F xs i x h ∙ ap (λ y. F (y ∷ drop (i + 1) xs)) (sym e)

-- ---- nothing, and two walks in turn

pub walks_nothing : (w : ClauseWalk) → Walks w w (λ g. g) (λ g. [])
walks_nothing w = record { trails = trails_nothing w.variables; is_there = λ g st. st; found = λ g st. refl }

pub walks_then : (a b c : ClauseWalk) (f h : Scope → Scope) (s t : Scope → List SourceRefusal) → Walks a b f s
    → Walks b c h t → Walks a c (λ g. h (f g)) (λ g. s g ++ t (f g))
walks_then a b c f h s t x y = record {
  trails = trails_then a.variables b.variables c.variables x.trails y.trails;
  is_there = λ g st. y.is_there (f g) (x.is_there g st);
  found = λ g st.
      y.found (f g) (x.is_there g st)
      ∙ ap (λ k. earliest k (t (f g))) (x.found g st)
      ∙ sym (fold-append earlier (earliest_kept a.first) (s g) (t (f g)));
}

-- ---- a walk that is underway

-- what was walked and what is left are the whole
pub record Underway (old now : ClauseWalk) (whole rest : Scope → Scope) (all left : Scope
    → List SourceRefusal) : Type 0 where
  pub trails : Trails old.variables now.variables
  pub here : (g : Scope) → KnowsScope old.variables g → Scope
  pub is_there : (g : Scope) (st : KnowsScope old.variables g) → KnowsScope now.variables (here g st)
  pub onward : (g : Scope) (st : KnowsScope old.variables g) → rest (here g st) ≡ whole g
  pub found : (g : Scope) (st : KnowsScope old.variables g)
      → earliest (earliest_kept now.first) (left (here g st)) ≡ earliest (earliest_kept old.first) (all g)

pub underway_first : (w : ClauseWalk) (whole : Scope → Scope) (all : Scope → List SourceRefusal)
    → Underway w w whole whole all all
underway_first w whole all = record {
  trails = trails_nothing w.variables;
  here = λ g st. g;
  is_there = λ g st. st;
  onward = λ g st. refl;
  found = λ g st. refl;
}

pub underway_more : (old now next : ClauseWalk) (whole rest f : Scope → Scope) (all left s : Scope → List SourceRefusal)
    → Underway old now whole (λ g. rest (f g)) all (λ g. s g ++ left (f g)) → Walks now next f s
    → Underway old next whole rest all left
underway_more old now next whole rest f all left s u w = record {
  trails = trails_then old.variables now.variables next.variables u.trails w.trails;
  here = λ g st. f (u.here g st);
  is_there = λ g st. w.is_there (u.here g st) (u.is_there g st);
  onward = λ g st. u.onward g st;
  found = λ g st.
      let h = u.here g st in
      ap (λ k. earliest k (left (f h))) (w.found h (u.is_there g st))
      ∙ sym (fold-append earlier (earliest_kept now.first) (s h) (left (f h)))
      ∙ u.found g st;
}

pub underway_all : (old now : ClauseWalk) (whole : Scope → Scope) (all : Scope → List SourceRefusal)
    → Underway old now whole (λ g. g) all (λ g. []) → Walks old now whole all
underway_all old now whole all u = record {
  trails = u.trails;
  is_there = λ g st. subst (KnowsScope now.variables) (u.onward g st) (u.is_there g st);
  found = λ g st. u.found g st;
}

-- ---- patterns

abbrev pub ExprPatternsUnderway : ClauseWalk → ClauseWalk → ExprPatterns → ExprPatterns → Type 0
ExprPatternsUnderway old now qs left = Underway old now (λ g. after_expr_patterns g qs)
    (λ g. after_expr_patterns g left) (λ g. expr_patterns_faults g qs) (λ g. expr_patterns_faults g left)

pub expr_patterns_more : (old now next : ClauseWalk) (qs left rest : ExprPatterns) (q : ExprPattern)
    → left ≡ expr_pattern q rest → ExprPatternsUnderway old now qs left → ExprPatternWalked now next q
    → ExprPatternsUnderway old next qs rest
expr_patterns_more old now next qs left rest q e u w =
    underway_more old now next (λ g. after_expr_patterns g qs) (λ g. after_expr_patterns g rest)
    (λ g. after_expr_pattern g q) (λ g. expr_patterns_faults g qs) (λ g. expr_patterns_faults g rest)
    (λ g. expr_pattern_faults g q) (subst (ExprPatternsUnderway old now qs) e u) w

pub expr_patterns_all : (old now : ClauseWalk) (qs left : ExprPatterns) → left ≡ no_expr_patterns
    → ExprPatternsUnderway old now qs left → ExprPatternsWalked old now qs
expr_patterns_all old now qs left e u = underway_all old now (λ g. after_expr_patterns g qs)
    (λ g. expr_patterns_faults g qs) (subst (ExprPatternsUnderway old now qs) e u)

pub expr_pattern_after : (a b c : ClauseWalk) (qs : ExprPatterns) (q : ExprPattern) → ExprPatternsWalked a b qs
    → ExprPatternWalked b c q → Walks a c (λ g. after_expr_pattern (after_expr_patterns g qs) q)
    (λ g. expr_patterns_faults g qs ++ expr_pattern_faults (after_expr_patterns g qs) q)
expr_pattern_after a b c qs q x y =
    walks_then a b c (λ g. after_expr_patterns g qs) (λ g. after_expr_pattern g q) (λ g. expr_patterns_faults g qs)
    (λ g. expr_pattern_faults g q) x y

-- ---- expressions

abbrev pub ExprsUnderway : Names → ClauseWalk → ClauseWalk → Exprs → Exprs → Type 0
ExprsUnderway n old now es left = Underway old now (λ g. after_all g es) (λ g. after_all g left)
    (λ g. exprs_faults n g es) (λ g. exprs_faults n g left)

pub exprs_more : (n : Names) (old now next : ClauseWalk) (es left rest : Exprs) (e : Expr) → left ≡ expr e rest
    → ExprsUnderway n old now es left → ExprWalked n now next e → ExprsUnderway n old next es rest
exprs_more n old now next es left rest e p u w =
    underway_more old now next (λ g. after_all g es) (λ g. after_all g rest) (λ g. after g e) (λ g. exprs_faults n g es)
    (λ g. exprs_faults n g rest) (λ g. expr_faults n g e) (subst (ExprsUnderway n old now es) p u) w

pub exprs_all : (n : Names) (old now : ClauseWalk) (es left : Exprs) → left ≡ no_exprs → ExprsUnderway n old now es left
    → ExprsWalked n old now es
exprs_all n old now es left p u = underway_all old now (λ g. after_all g es) (λ g. exprs_faults n g es)
    (subst (ExprsUnderway n old now es) p u)

-- a name is found among the functions of the module or among the built-in ones, or in vain
defined_is : (atoms : List (List ℕ)) (fs : List (List Head)) (o : Signatures) (f k : ℕ) → ListsFunctions o fs
    → (lists o f k || is_builtin atoms f k) ≡ is_defined (names_of_module atoms fs) f k
defined_is atoms fs o f k l = ap (λ (v : Bool). v || is_builtin atoms f k) (l.same f k)

pub called : (atoms : List (List ℕ)) (fs : List (List Head)) (o : Signatures) (node_table : NodeTable)
    (a b c : ClauseWalk) (f at k : ℕ) (ids args : List ExprId) → ListsFunctions o fs → k ≡ length ids → args ≡ ids
    → CallWalked atoms o a b f at k
    → ExprsWalked (names_of_module atoms fs) b c (exprs_at node_table args)
    → ExprWalked (names_of_module atoms fs) a c (call f at (exprs_at node_table ids))
called atoms fs o node_table a b c f at k ids args l e d x y =
    let n = names_of_module atoms fs in
    let es = exprs_at node_table ids in
    let z : ExprsWalked n b c es = subst (λ (is : List ExprId). ExprsWalked n b c (exprs_at node_table is)) d y in
    let same : (lists o f k || is_builtin atoms f k) ≡ is_defined n f (arity_of es) = defined_is atoms fs o f k l
    ∙ ap (is_defined n f) (e ∙ sym (arity_length node_table ids)) in
    let w : Walks a b (λ g. g) (λ g. if is_defined n f (arity_of es) then [] else fault_if true Undefined at) =
    subst (λ (v : Bool). Walks a b (λ g. g) (λ g. if v then [] else fault_if true Undefined at)) same x in
    walks_then a b c (λ g. g) (λ g. after_all g es) (λ g. if is_defined n f (arity_of es) then []
    else fault_if true Undefined at) (λ g. exprs_faults n g es) w z

-- ---- guards

abbrev pub ConditionUnderway : Names → ClauseWalk → ClauseWalk → Condition → Condition → Type 0
ConditionUnderway n old now c left = Underway old now (λ g. g) (λ g. g) (λ g. condition_faults n g c)
    (λ g. condition_faults n g left)

pub condition_more : (n : Names) (old now next : ClauseWalk) (c left rest : Condition) (es : Exprs)
    → left ≡ tests es rest → ConditionUnderway n old now c left → TestsWalked n now next es
    → ConditionUnderway n old next c rest
condition_more n old now next c left rest es e u w =
    underway_more old now next (λ g. g) (λ g. g) (λ g. g) (λ g. condition_faults n g c) (λ g. condition_faults n g rest)
    (λ g. exprs_faults n g es) (subst (ConditionUnderway n old now c) e u) w

pub condition_all : (n : Names) (old now : ClauseWalk) (c left : Condition) → left ≡ no_tests
    → ConditionUnderway n old now c left → ConditionWalked n old now c
condition_all n old now c left e u = underway_all old now (λ g. g) (λ g. condition_faults n g c)
    (subst (ConditionUnderway n old now c) e u)

-- the tests of an alternative are walked, and what they left is forgotten
pub walks_back : (a b c : ClauseWalk) (f : Scope → Scope) (s : Scope → List SourceRefusal) → Walks a b f s
    → earliest_kept c.first ≡ earliest_kept b.first
    → ((x : ℕ) → status_of c.variables x ≡ (if has (drop (length (trail_of a.variables)) (trail_of b.variables)) x then
    New else status_of b.variables x))
    → trail_of c.variables ≡ take (length (trail_of a.variables)) (trail_of b.variables) → Walks a c (λ g. g) s
walks_back a b c f s w k set trail =
    let same = back a.variables b.variables c.variables w.trails set in
    record {
      trails = trails_same a.variables c.variables same (trail ∙ left_before a.variables b.variables w.trails);
      is_there = λ g st. same_is_there a.variables c.variables g same st;
      found = λ g st. k ∙ w.found g st;
    }

-- a clause of a function is walked, and after it no variable is known, as before it
pub begins_again : (n : Names) (a b d e c : ClauseWalk) (h : Head) → ExprPatternsWalked a b h.parameters
    → ConditionWalked n b d h.condition → ExprsWalked n d e h.body → earliest_kept c.first ≡ earliest_kept e.first
    → ((x : ℕ) → status_of c.variables x ≡ (if has (drop (length (trail_of a.variables)) (trail_of e.variables)) x then
    New else status_of e.variables x))
    → trail_of c.variables ≡ take (length (trail_of a.variables)) (trail_of e.variables)
    → BeginsAnew a c (head_faults n h)
begins_again n a b d e c h p g w k set trail =
    let f : Scope → Scope = λ s. after_expr_patterns s h.parameters in
    let all : Scope → List SourceRefusal = λ s. expr_patterns_faults s h.parameters ++ condition_faults n
    (f s) h.condition in
    let front : Walks a d f all = walks_then a b d f (λ s. s) (λ s. expr_patterns_faults s h.parameters)
    (λ s. condition_faults n s h.condition) p g in
    let whole = walks_then a d e f (λ s. after_all s h.body) all (λ s. exprs_faults n s h.body) front w in
    let closed = walks_back a e c (λ s. after_all (f s) h.body) (λ s. all s ++ exprs_faults n (f s) h.body)
    whole k set trail in
    record { is_there = closed.is_there no_scope; found = closed.found no_scope }

-- ---- clauses

-- a clause is walked, and what it left is new again
pub clause_closed : (a b c : ClauseWalk) (f : Scope → Scope) (s : Scope → List SourceRefusal) → Walks a b f s
    → earliest_kept c.first ≡ earliest_kept b.first
    → ((x : ℕ) → status_of c.variables x ≡ (if has (drop (length (trail_of a.variables)) (trail_of b.variables)) x then
    New else status_of b.variables x))
    → trail_of c.variables ≡ trail_of b.variables → ClausesWalked a c (λ g. seen_names (f g)) s
clause_closed a b c f s w k set trail =
    let same = back a.variables b.variables c.variables w.trails set in
    let names = w.trails.names in
    let A = a.variables in
    let B = b.variables in
    record {
      names = names;
      longer = trail ∙ w.trails.longer;
      same = same.same;
      fresh = λ x e. moved_fresh (has names x) (status_of A x) (status_of B x) (w.trails.moved x) e;
      named = λ g st x.
          moved_named (has names x) (status_of A x) (status_of B x) (w.trails.moved x)
          ∙ ap (λ (v : Bool). v && is_marked (status_of B x)) (sym (new_is A g st x))
          ∙ ap (λ (v : Bool). is_new g x && v) (sym (named_is B (f g) (w.is_there g st) x));
      found = λ g st. k ∙ w.found g st;
    }

-- ---- a variable of a pattern

pub binds : (a b c : ClauseWalk) (y at : ℕ) → SafeWalked a b y at → Binds b.variables c.variables y → c.first ≡ b.first
    → ExprPatternWalked a c (variable y at)
binds a b c y at w d e = record {
  trails = trails_then a.variables b.variables c.variables w.trails d.trails;
  is_there = λ g st. d.is_there g (w.is_there g st);
  found = λ g st. ap earliest_kept e ∙ w.found g st;
}

-- ---- clauses that are underway

-- what was walked and what is left are the whole
pub record ClausesUnderway (old now : ClauseWalk) (ends rest : Scope → List ℕ) (all left : Scope
    → List SourceRefusal) : Type 0 where
  pub names : List ℕ
  pub longer : trail_of now.variables ≡ trail_of old.variables ++ names
  pub same : Same old.variables now.variables
  pub fresh : (x : ℕ) → has names x ≡ true → is_marked (status_of old.variables x) ≡ false
  pub named : (g : Scope) → KnowsScope old.variables g → (x : ℕ)
      → (has names x || (is_new g x && has (rest g) x)) ≡ (is_new g x && has (ends g) x)
  pub found : (g : Scope) → KnowsScope old.variables g
      → earliest (earliest_kept now.first) (left g) ≡ earliest (earliest_kept old.first) (all g)

pub clauses_first : (w : ClauseWalk) (ends : Scope → List ℕ) (all : Scope → List SourceRefusal)
    → ClausesUnderway w w ends ends all all
clauses_first w ends all = record {
  names = [];
  longer = sym (append-nil (trail_of w.variables));
  same = record { same = λ x. refl };
  fresh = λ x e. absurd (cc);
  named = λ g st x. refl;
  found = λ g st. refl;
}

either_fresh : (h k : Bool) (P : Type 0) → (h ≡ true → P) → (k ≡ true → P) → (h || k) ≡ true → P
either_fresh true k P f d e = f refl
either_fresh false k P f d e = d e

one_more : (h k n s r : Bool) → k ≡ (n && s) → ((h || k) || (n && r)) ≡ (h || (n && (s || r)))
one_more true k n s r e = refl
one_more false k true s r e = ap (λ (v : Bool). v || r) e
one_more false k false s r e = ap (λ (v : Bool). v || false) e

pub clauses_more : (old now next : ClauseWalk) (ends rest some : Scope → List ℕ) (all left s : Scope
    → List SourceRefusal) → ClausesUnderway old now ends (λ g. some g ++ rest g) all (λ g. s g ++ left g)
    → ClausesWalked now next some s → ClausesUnderway old next ends rest all left
clauses_more old now next ends rest some all left s u c = record {
  names = u.names ++ c.names;
  longer = c.longer ∙ ap (λ (l : List ℕ). l ++ c.names) u.longer ∙ append_assoc (trail_of old.variables)
      u.names c.names;
  same = record { same = λ x. c.same x ∙ u.same.same x };
  fresh = λ x e.
      either_fresh (has u.names x) (has c.names x) (is_marked (status_of old.variables x) ≡ false) (u.fresh x)
      (λ k. ap is_marked (sym (u.same.same x)) ∙ c.fresh x k) (sym (has_append u.names c.names x) ∙ e);
  named = λ g st x.
      let here = same_is_there old.variables now.variables g u.same st in
      ap (λ (v : Bool). v || (is_new g x && has (rest g) x)) (has_append u.names c.names x)
      ∙ one_more (has u.names x) (has c.names x) (is_new g x) (has (some g) x) (has (rest g) x) (c.named g here x)
      ∙ ap (λ (v : Bool). has u.names x || (is_new g x && v)) (sym (has_append (some g) (rest g) x))
      ∙ u.named g st x;
  found = λ g st.
      ap (λ k. earliest k (left g)) (c.found g (same_is_there old.variables now.variables g u.same st))
      ∙ sym (fold-append earlier (earliest_kept now.first) (s g) (left g))
      ∙ u.found g st;
}

abbrev pub BranchesUnderway : Names → ClauseWalk → ClauseWalk → Branches → Branches → Type 0
BranchesUnderway n old now bs left = ClausesUnderway old now (λ g. ends_of g bs) (λ g. ends_of g left)
    (λ g. branches_faults n g bs) (λ g. branches_faults n g left)

none_left : (h n : Bool) → (h || (n && false)) ≡ h
none_left true n = refl
none_left false true = refl
none_left false false = refl

-- out of a construct
pub branches_all : (n : Names) (old now new : ClauseWalk) (bs left : Branches) → left ≡ no_branches
    → BranchesUnderway n old now bs left → new.first ≡ now.first
    → ((x : ℕ) → status_of new.variables x ≡ (if has (drop (length (trail_of old.variables)) (trail_of now.variables)) x
    then Unsafe else status_of now.variables x))
    → trail_of new.variables ≡ trail_of now.variables → BranchesWalked n old new bs
branches_all n old now new bs left e v k set trail =
    let u = subst (BranchesUnderway n old now bs) e v in
    let names = u.names in
    let since : drop (length (trail_of old.variables)) (trail_of now.variables) ≡ names =
    ap (drop (length (trail_of old.variables))) u.longer ∙ drop-append_seam (trail_of old.variables) names in
    let all : (x : ℕ) → status_of new.variables x ≡ (if has names x then Unsafe else status_of old.variables x) = λ x.
    set x ∙ ap (λ (ns : List ℕ). if has ns x then Unsafe else status_of now.variables x) since
    ∙ ap (λ (a : Status). if has names x then Unsafe else a) (u.same.same x) in
    record {
      trails = record {
        names = names;
        longer = trail ∙ u.longer;
        moved =
            λ x. moved_unsafe (has names x) (status_of old.variables x) (status_of new.variables x) (u.fresh x) (all x);
      };
      is_there = λ g st. is_there_leaving old.variables new.variables g names (ends_of g bs) st u.fresh
          (λ x. sym (none_left (has names x) (is_new g x)) ∙ u.named g st x) all;
      found = λ g st. ap earliest_kept k ∙ u.found g st;
    }

-- ---- a clause

abbrev pub Inside : Names → ClauseWalk → ClauseWalk → ExprPattern → Condition → Exprs → Type 0
Inside n a b q c es = Walks a b (λ g. after_all (after_expr_pattern g q) es)
    (λ g. expr_pattern_faults g q ++ condition_faults n (after_expr_pattern g q) c
    ++ exprs_faults n (after_expr_pattern g q) es)

pub inside : (n : Names) (a b d e : ClauseWalk) (q : ExprPattern) (c : Condition) (es : Exprs) → ExprPatternWalked a b q
    → ConditionWalked n b d c → ExprsWalked n d e es → Inside n a e q c es
inside n a b d e q c es x y z =
    walks_then a d e (λ g. after_expr_pattern g q) (λ g. after_all g es)
    (λ g. expr_pattern_faults g q ++ condition_faults n (after_expr_pattern g q) c) (λ g. exprs_faults n g es)
    (walks_then a b d (λ g. after_expr_pattern g q) (λ g. g) (λ g. expr_pattern_faults g q)
    (λ g. condition_faults n g c) x y) z

-- a clause among clauses
pub branch_closed : (n : Names) (a b d e new : ClauseWalk) (q : ExprPattern) (c : Condition) (es : Exprs)
    → ExprPatternWalked a b q → ConditionWalked n b d c → ExprsWalked n d e es → new.first ≡ e.first
    → ((x : ℕ) → status_of new.variables x ≡ (if has (drop (length (trail_of a.variables)) (trail_of e.variables)) x
    then New else status_of e.variables x))
    → trail_of new.variables ≡ trail_of e.variables → BranchWalked n a new (branch q c es no_branches)
branch_closed n a b d e new q c es x y z k set trail =
    let f : Scope → Scope = λ g. after_all (after_expr_pattern g q) es in
    let s : Scope → List SourceRefusal = λ g. expr_pattern_faults g q ++ condition_faults n (after_expr_pattern g q) c
    ++ exprs_faults n (after_expr_pattern g q) es in
    let w = clause_closed a e new f s (inside n a b d e q c es x y z) (ap earliest_kept k) set trail in
    record {
      names = w.names;
      longer = w.longer;
      same = w.same;
      fresh = w.fresh;
      named = λ g st v. w.named g st v ∙ ap (λ (ns : List ℕ). is_new g v && has ns v)
          (sym (append-nil (seen_names (f g))));
      found = λ g st. w.found g st ∙ ap (earliest (earliest_kept a.first)) (sym (append-nil (s g)));
    }

pub branches_more : (n : Names) (old now next : ClauseWalk) (bs left rest : Branches) (q : ExprPattern) (c : Condition)
    (es : Exprs) → left ≡ branch q c es rest → BranchesUnderway n old now bs left
    → BranchWalked n now next (branch q c es no_branches) → BranchesUnderway n old next bs rest
branches_more n old now next bs left rest q c es e v b =
    let f : Scope → List ℕ = λ g. seen_names (after_all (after_expr_pattern g q) es) in
    let s : Scope → List SourceRefusal = λ g. expr_pattern_faults g q ++ condition_faults n (after_expr_pattern g q) c
    ++ exprs_faults n (after_expr_pattern g q) es in
    let w : ClausesWalked now next f s = record {
      names = b.names;
      longer = b.longer;
      same = b.same;
      fresh = b.fresh;
      named = λ g st x. b.named g st x ∙ ap (λ (ns : List ℕ). is_new g x && has ns x) (append-nil (f g));
      found = λ g st. b.found g st ∙ ap (earliest (earliest_kept now.first)) (append-nil (s g));
    } in
    clauses_more old now next (λ g. ends_of g bs) (λ g. ends_of g rest) f (λ g. branches_faults n g bs)
    (λ g. branches_faults n g rest) s (subst (BranchesUnderway n old now bs) e v) w
