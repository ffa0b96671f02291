-- Code of expressions.
use Rattle.std.proofs.Common.{◌≡◌, ◌≤◌, ◌+◌, ℕ, suc, Bool, true, false, List, ◌∷◌, Option, Some, None}
use Rattle.std.proofs.Common.{Result, length, refl, sym, ap, ◌∙◌, subst, arith}
use Rattle.std.specs.Prelude.{slice_get, option_map, if◌then◌else◌, ℤ, ◌-◌}
use Rattle.std.proofs.lemmas.Option.{slice_get-map}
use Rattle.pf_terms.specs.Value.{Value, Values, atom, list, none, more, count}
use Rattle.pf_terms.specs.Value as value
use Rattle.pf_syntax.specs.Tree.{Tree, Trees, lit, var, tuple, cons, op, neg, call, builtin, send}
use Rattle.pf_syntax.specs.Tree.{no_trees, tree}
use Rattle.pf_syntax.specs.Forms.{is_pure}
use Rattle.pf_syntax.specs.declared.operator.Operator.{Operator}
use Rattle.pf_syntax.specs.declared.operator.Builtin.{Builtin}
use Rattle.pf_syntax.specs.declared.operator.Builtin.TheVariants as builtins
use Rattle.pf_patterns.specs.Substitution.{sub, sub_trees, value_or_var}
use Rattle.pf_ops.specs.Arithmetic.{negated}
use Rattle.pf_ops.specs.Operations.{limited, operated, consed, computed, values_before}
use Rattle.pf_model.specs.Module.{Module, name_in}
use Rattle.pf_model.specs.Contraction.{Change, Becomes, Raises, Asks, contract, worked_out, called}
use Rattle.pf_model.specs.Contraction as contraction
use Rattle.pf_model.specs.Context.{Frame, around, after_values, literals, element_of, first_of, tail_of, left_of}
use Rattle.pf_model.specs.Context.{right_of, negation, argument_of, builtin_argument_of, receiver_of, message_of}
use Rattle.pf_code.specs.Registers.{Registers, reg, row, scope_in, DependsBelow}
use Rattle.pf_code.specs.Points.{Point, inside}
use Rattle.pf_code.specs.Sound.{Code, Charged, Carries, IsSoundAt, Computes, Answers, or_undefined}
use Rattle.pf_code.specs.declared.instruction.Instruction.{Instruction}
use Rattle.pf_code.specs.declared.instruction.Operation.{Operation}
use Rattle.pf_code.specs.declared.instruction.Operation.TheVariants as ops
use Rattle.pf_code.specs.declared.instruction.Source.TheVariants as source
use Rattle.pf_code.proofs.Charges.{charged_none, charged_one, values_are}
use Rattle.pf_code.proofs.Followed.{count_row}
use Rattle.pf_compile.specs.declared.target.After.{After}
use Rattle.pf_compile.specs.declared.target.After.TheVariants as way
use Rattle.pf_compile_patterns.specs.declared.scope.Scope.{Scope}
use Rattle.pf_compile.specs.declared.target.Target.{Target}
use Rattle.pf_compile_patterns.specs.Maker.{IsPlace}
use Rattle.pf_compile_patterns.specs.Scopes.{model_in, slots_in}
use Rattle.pf_compile.specs.Scopes.{IsTarget}
use Rattle.pf_compile_patterns.specs.Growth.{Pushed, Put, Made}
use Rattle.pf_compile_patterns.specs.Planned.{AreBelow}
use Rattle.pf_compile_patterns.specs.Guarded.{Loads}
use Rattle.pf_compile.specs.Evaluated.{Evaluates, Lands, GivesValue, StepsToRaise, step_of}
use Rattle.pf_compile.specs.Evaluated.{tree_count, Holder, EvaluatesAll, Operates}
use Rattle.pf_compile_patterns.proofs.Grown.{extends_itself, extends_on, end_sound, put_sound, nowhere}
use Rattle.pf_compile_patterns.proofs.Laid.{sound_same}
use Rattle.pf_compile_patterns.proofs.Dependent.{depends_more, scope_same}

-- ---- where values go

pub place_lands : (old : Code) (into k : ℕ) → IsPlace old k → Made old old k (Lands into (way.Place k) k)
place_lands old into k place = record {
  grown = extends_itself old;
  place = place;
  meant = λ own outer later e m frames d s. s;
}

abbrev pub return_of : ℕ → Instruction
return_of into = record { operation = ops.Return (source.Register into); contractions = 0; otherwise = 0 }

pub return_lands : (old new : Code) (into pc : ℕ) → 1 ≤ length old.instructions → Pushed old new (return_of into) pc
    → Made old new pc (Lands into way.Return pc)
return_lands old new into pc l h = record {
  grown = h.grown;
  place = (let a = h.last in let b = h.count in (omega arith, omega arith));
  meant = λ own outer later e m frames d s.
      let p : Point = λ r. inside (frames r) (Becomes (lit (reg r into))) in
      end_sound m own outer later old new (return_of into) pc p p p p h e (charged_none m own p)
      (λ r. ap (λ fs. inside fs (Becomes (lit (reg r into)))) (s r)) (λ g. g) (nowhere m own outer old later p);
}

pub value_given : (old mid new : Code) (into next pc : ℕ) (after : After) (value : Registers → Value)
    → Made old mid next (Lands into after next) → Made mid new pc (Loads value into next pc)
    → Made old new pc (GivesValue into after value pc)
value_given old mid new into next pc after value h k = record {
  grown = extends_on old mid new h.grown k.grown;
  place = k.place;
  meant = λ own outer later e m frames d s.
      k.meant own outer later e m (λ v r. inside (frames r) (Becomes (lit v)))
      (λ v r q i. ap (λ fs. inside fs (Becomes (lit v))) (d r q i))
      (h.meant own outer later (extends_on mid new later k.grown e) m frames d s);
}

pub value_evaluates : (s : Scope) (t : Tree) (to : Target) (old new : Code) (pc : ℕ) (value : Registers → Value)
    → ((r : Registers) → sub (scope_in (slots_in s) r) t ≡ lit (value r))
    → Made old new pc (GivesValue to.into to.after value pc) → Made old new pc (Evaluates s t to pc)
value_evaluates s t to old new pc value is h = record {
  grown = h.grown;
  place = h.place;
  meant = λ own outer later e frames d c.
      sound_same (model_in s) own outer later pc (λ r. inside (frames r) (Becomes (lit (value r)))) _
      (λ r. ap (λ x. inside (frames r) (Becomes x)) (is r)) (h.meant own outer later e (model_in s) frames d c);
}

abbrev pub raise_of : ℕ → Instruction
raise_of a = record { operation = ops.Raise (record { 0 = a }); contractions = 1; otherwise = 0 }

pub steps_to_raise : (old new : Code) (a pc : ℕ) → 1 ≤ length old.instructions → Pushed old new (raise_of a) pc
    → Made old new pc (StepsToRaise a pc)
steps_to_raise old new a pc l h = record {
  grown = h.grown;
  place = (let x = h.last in let y = h.count in (omega arith, omega arith));
  meant = λ own outer later e m frames t is.
      let c : Point = λ r. inside (frames r) (Raises (atom a)) in
      end_sound m own outer later old new (raise_of a) pc _ c c c h e
      (charged_one m own frames t (λ r. Raises (atom a)) is) (λ r. refl) (λ g. g) (nowhere m own outer old later c);
}

-- ---- rows

values_then : (vs ws us : Values) → values_before (values_before vs ws) us ≡ values_before vs (values_before ws us)
values_then none ws us = refl
values_then (more v vs) ws us = ap (more v) (values_then vs ws us)

after_then : (vs ws : Values) (ts : Trees) → after_values (values_before vs ws) ts
    ≡ after_values vs (after_values ws ts)
after_then none ws ts = refl
after_then (more v vs) ws ts = ap (tree (lit v)) (after_then vs ws ts)

count_before : (vs ws : Values) → count (values_before vs ws) ≡ count vs + count ws
count_before none ws = omega arith
count_before (more v vs) ws = omega (arith, count_before vs ws)

sub_count : (e : List Value) (ts : Trees) → tree_count (sub_trees e ts) ≡ tree_count ts
sub_count e no_trees = refl
sub_count e (tree t ts) = ap (λ n. 1 + n) (sub_count e ts)

before_none : (vs : Values) → values_before vs none ≡ vs
before_none none = refl
before_none (more v vs) = ap (more v) (before_none vs)

pub evaluates_none : (s : Scope) (free next : ℕ) (old : Code) → IsPlace old next
    → Made old old next (EvaluatesAll s no_trees 0 free next next)
evaluates_none s free next old place = record {
  grown = extends_itself old;
  place = place;
  meant = λ own outer later e h frames done d g size x.
      sound_same (model_in s) own outer later next _ _
      (λ r. ap (λ vs. inside (frames r) (Becomes (h.whole (literals vs)))) (sym (before_none (done r)))) x;
}

abbrev pub target_at : ℕ → ℕ → Target
target_at free k = record { into = free; free = free; after = way.Place k }

evaluates_next : (s : Scope) (t : Tree) (ts : Trees) (n free next : ℕ) (old mid new : Code) (k pc : ℕ)
    → tree_count ts ≡ n → AreBelow free (slots_in s)
    → Made old mid k (EvaluatesAll s ts n (free + 1) next k)
    → Made mid new pc (Evaluates s t (target_at free k) pc)
    → Made old new pc (EvaluatesAll s (tree t ts) (suc n) free next pc)
evaluates_next s t ts n free next old mid new k pc c below h l = record {
  grown = extends_on old mid new h.grown l.grown;
  place = l.place;
  meant = λ own outer later e hold frames done d g size x.
      let m = model_in s in
      let up : free ≤ free + 1 = omega arith in
      let one : Registers → Values = λ r. more (reg r free) none in
      let done' : Registers → Values = λ r. values_before (done r) (one r) in
      let done_below : DependsBelow (free + 1) done' = λ r q i.
      ap (λ vs. values_before vs (one q)) (g r q (λ j u. i j (omega arith)))
      ∙ ap (λ v. values_before (done r) (more v none)) (i free (omega arith)) in
      let size' : (r : Registers) → count (done' r) + n ≡ hold.size =
      λ r. let a = count_before (done r) (one r) in let b = size r in omega arith in
      let end : IsSoundAt m own outer later next
      (λ r. inside (frames r) (Becomes (hold.whole (literals (values_before (done' r) (row r (free + 1) n)))))) =
      sound_same m own outer later next _ _
      (λ r. ap (λ vs. inside (frames r) (Becomes (hold.whole (literals vs))))
      (values_then (done r) (one r) (row r (free + 1) n))) x in
      let rest = h.meant own outer later (extends_on mid new later l.grown e) hold frames done'
      (depends_more free (free + 1) frames up d) done_below size' end in
      let scoped : Registers → Trees = λ r. sub_trees (scope_in (slots_in s) r) ts in
      let inner : Registers → List Frame = λ r. hold.frame (done r) (scoped r) ∷ frames r in
      let inner_below : DependsBelow free inner = λ r q i.
      ap (λ vs. hold.frame vs (scoped q) ∷ frames q) (g r q i)
      ∙ ap (λ z. hold.frame (done r) (sub_trees z ts) ∷ frames q) (scope_same free (slots_in s) r q below i)
      ∙ ap (λ fs. hold.frame (done r) (scoped r) ∷ fs) (d r q i) in
      let fits : (r : Registers) → count (done r) + (1 + tree_count (scoped r)) ≡ hold.size =
      λ r. let a = sub_count (scope_in (slots_in s) r) ts in let b = size r in omega arith in
      let there : IsSoundAt m own outer later k (λ r. inside (inner r) (Becomes (lit (reg r free)))) =
      sound_same m own outer later k _ _
      (λ r. ap (λ z. inside (frames r) (Becomes z)) (hold.holds (done r) (lit (reg r free)) (scoped r) (fits r)
      ∙ ap hold.whole (sym (after_then (done r) (one r) (scoped r))))) rest in
      sound_same m own outer later pc _ _
      (λ r. ap (λ z. inside (frames r) (Becomes z))
      (sym (hold.holds (done r) (sub (scope_in (slots_in s) r) t) (scoped r) (fits r))))
      (l.meant own outer later e inner inner_below there);
}

pub evaluates_more : (s : Scope) (t : Tree) (ts : Trees) (n free after next : ℕ) (old mid new : Code) (k pc : ℕ)
    → tree_count ts ≡ n → AreBelow free (slots_in s) → after ≡ free + 1
    → Made old mid k (EvaluatesAll s ts n after next k)
    → Made mid new pc (Evaluates s t (target_at free k) pc)
    → Made old new pc (EvaluatesAll s (tree t ts) (suc n) free next pc)
evaluates_more s t ts n free after next old mid new k pc c below e h l =
    evaluates_next s t ts n free next old mid new k pc c below
    (subst (λ d. Made old mid k (EvaluatesAll s ts n d next k)) e h) l

-- ---- operations

pub operates : (s : Scope) (ts : Trees) (n : ℕ) (i : Operation) (to : Target) (old one two new : Code)
    (end next pc : ℕ) → IsPlace one end → IsTarget old (slots_in s) to
    → Made old one end (Lands to.into to.after end) → Put one two (step_of i) end next
    → Made two new pc (EvaluatesAll s ts n to.free next pc)
    → Made old new pc (Operates s ts n i to pc)
operates s ts n i to old one two new end next pc place target h k l = record {
  grown = extends_on old one new h.grown (extends_on one two new k.grown l.grown);
  place = l.place;
  meant = λ own outer later e hold change size contracts frames d c carries.
      let m = model_in s in
      let e' = extends_on two new later l.grown e in
      let landed = h.meant own outer later (extends_on one two later k.grown e') m frames d c in
      let charged : Charged m own 1 (λ r. inside (frames r) (Becomes (hold.whole (literals (row r to.free n)))))
      (λ r. inside (frames r) (change (row r to.free n))) =
      charged_one m own frames (λ r. hold.whole (literals (row r to.free n))) (λ r. change (row r to.free n))
      (λ r. contracts (row r to.free n) (count_row r to.free n)) in
      let operated_at = put_sound m own outer later one two (step_of i) end next _ _ _ _ k e' charged
      (carries (λ r. inside (frames r) (Becomes (lit (reg r to.into))))) landed (nowhere m own outer one later _) in
      l.meant own outer later e hold frames (λ r. none) (depends_more to.into to.free frames target.0 d)
      (λ r q x. refl) (λ r. (let z = size in omega arith)) operated_at;
}

-- what is worked out goes into a register, in any frames
pub computes_into : (work : Registers → Result Value Value) (change : Registers → Change) (into : ℕ)
    (frames : Registers → List Frame) (o : Point) → DependsBelow into frames
    → ((r : Registers) → change r ≡ worked_out (work r))
    → Computes work into 0 (λ r. inside (frames r) (change r)) (λ r. inside (frames r) (Becomes (lit (reg r into)))) o
computes_into work change into frames o d is = record {
  ok = λ r q v e k.
      ap (inside (frames r)) (is r ∙ ap worked_out e) ∙ ap (λ fs. inside fs (Becomes (lit v))) (sym (d r q k.1))
      ∙ ap (λ u. inside (frames q) (Becomes (lit u))) (sym k.0);
  err = λ r e h. ap (inside (frames r)) (is r ∙ ap worked_out h);
}

pub answers_into : (change : Registers → Change) (into : ℕ) (frames : Registers → List Frame) → DependsBelow into frames
    → Answers change into (λ r. inside (frames r) (change r)) (λ r. inside (frames r) (Becomes (lit (reg r into))))
answers_into change into frames d = record {
  frames = frames;
  below = d;
  asked = λ r. refl;
  answered = λ r. refl;
}

-- ---- what holds trees

abbrev pub op_whole : Operator → Trees → Tree
op_whole o (tree a (tree b no_trees)) = op o a b
op_whole o ts = lit (list none)

abbrev pub op_frame : Operator → Values → Trees → Frame
op_frame o none (tree b ts) = left_of o b
op_frame o (more v vs) ts = right_of o v
op_frame o none no_trees = negation

pub op_holds : (o : Operator) (vs : Values) (t : Tree) (ts : Trees) → count vs + (1 + tree_count ts) ≡ 2
    → around (op_frame o vs ts) t ≡ op_whole o (after_values vs (tree t ts))
op_holds o none t no_trees h = absurd (omega arith)
op_holds o none t (tree b no_trees) h = refl
op_holds o none t (tree b (tree c ts)) h = absurd (omega arith)
op_holds o (more v none) t no_trees h = refl
op_holds o (more v none) t (tree b ts) h = absurd (omega arith)
op_holds o (more v (more w vs)) t ts h = absurd (omega arith)

abbrev pub op_holder : Operator → Holder
op_holder o = record { size = 2; whole = op_whole o; frame = op_frame o; holds = op_holds o }

abbrev pub cons_whole : Trees → Tree
cons_whole (tree a (tree b no_trees)) = cons a b
cons_whole ts = lit (list none)

abbrev pub cons_frame : Values → Trees → Frame
cons_frame none (tree b ts) = first_of b
cons_frame (more v vs) ts = tail_of v
cons_frame none no_trees = negation

pub cons_holds : (vs : Values) (t : Tree) (ts : Trees) → count vs + (1 + tree_count ts) ≡ 2
    → around (cons_frame vs ts) t ≡ cons_whole (after_values vs (tree t ts))
cons_holds none t no_trees h = absurd (omega arith)
cons_holds none t (tree b no_trees) h = refl
cons_holds none t (tree b (tree c ts)) h = absurd (omega arith)
cons_holds (more v none) t no_trees h = refl
cons_holds (more v none) t (tree b ts) h = absurd (omega arith)
cons_holds (more v (more w vs)) t ts h = absurd (omega arith)

abbrev pub cons_holder : Holder
cons_holder = record { size = 2; whole = cons_whole; frame = cons_frame; holds = cons_holds }

abbrev pub send_whole : Trees → Tree
send_whole (tree a (tree b no_trees)) = send a b
send_whole ts = lit (list none)

abbrev pub send_frame : Values → Trees → Frame
send_frame none (tree b ts) = receiver_of b
send_frame (more v vs) ts = message_of v
send_frame none no_trees = negation

pub send_holds : (vs : Values) (t : Tree) (ts : Trees) → count vs + (1 + tree_count ts) ≡ 2
    → around (send_frame vs ts) t ≡ send_whole (after_values vs (tree t ts))
send_holds none t no_trees h = absurd (omega arith)
send_holds none t (tree b no_trees) h = refl
send_holds none t (tree b (tree c ts)) h = absurd (omega arith)
send_holds (more v none) t no_trees h = refl
send_holds (more v none) t (tree b ts) h = absurd (omega arith)
send_holds (more v (more w vs)) t ts h = absurd (omega arith)

abbrev pub send_holder : Holder
send_holder = record { size = 2; whole = send_whole; frame = send_frame; holds = send_holds }

abbrev pub neg_whole : Trees → Tree
neg_whole (tree a no_trees) = neg a
neg_whole ts = lit (list none)

pub neg_holds : (vs : Values) (t : Tree) (ts : Trees) → count vs + (1 + tree_count ts) ≡ 1
    → around negation t ≡ neg_whole (after_values vs (tree t ts))
neg_holds none t no_trees h = refl
neg_holds none t (tree b ts) h = absurd (omega arith)
neg_holds (more v vs) t ts h = absurd (omega arith)

abbrev pub neg_holder : Holder
neg_holder = record { size = 1; whole = neg_whole; frame = λ vs ts. negation; holds = neg_holds }

abbrev pub tuple_holder : ℕ → Holder
tuple_holder n = record { size = n; whole = tuple; frame = element_of; holds = λ vs t ts h. refl }

abbrev pub call_holder : ℕ → ℕ → Holder
call_holder f n = record { size = n; whole = call f; frame = argument_of f; holds = λ vs t ts h. refl }

abbrev pub builtin_holder : Builtin → ℕ → Holder
builtin_holder f n = record {
  size = n;
  whole = builtin f;
  frame = builtin_argument_of f;
  holds = λ vs t ts h. refl;
}

-- ---- each operation

-- an operation that works a value out
pub evaluates_worked : (s : Scope) (t : Tree) (ts : Trees) (n : ℕ) (i : Operation) (to : Target) (old new : Code)
    (pc : ℕ) (h : Holder) (work : ℕ → Registers → Result Value Value) (change : ℕ → Values → Change) → h.size ≡ n
    → ((r : Registers) → h.whole (sub_trees (scope_in (slots_in s) r) ts) ≡ sub (scope_in (slots_in s) r) t)
    → ((own : ℕ) (vs : Values) → count vs ≡ n → contract (model_in s) own (h.whole (literals vs)) ≡ Some
    (change own vs))
    → ((own : ℕ) (r : Registers) → change own (row r to.free n) ≡ worked_out (work own r))
    → ((own : ℕ) (outer : List Frame) (ks : List Value) (c x o : Point)
    → Computes (work own) to.into 0 c x o → Carries (model_in s) own outer ks i 0 c x o)
    → Made old new pc (Operates s ts n i to pc) → Made old new pc (Evaluates s t to pc)
evaluates_worked s t ts n i to old new pc h work change size whole contracts is carries made = record {
  grown = made.grown;
  place = made.place;
  meant = λ own outer later e frames d c.
      sound_same (model_in s) own outer later pc _ _
      (λ r. ap (λ z. inside (frames r) (Becomes z)) (sym (whole r)))
      (made.meant own outer later e h (change own) size (contracts own) frames d c
      (λ o. carries own outer later.constants _ _ o
      (computes_into (work own) (λ r. change own (row r to.free n)) to.into frames o d (is own))));
}

-- an operation that asks for a value
pub evaluates_asked : (s : Scope) (t : Tree) (ts : Trees) (n : ℕ) (i : Operation) (to : Target) (old new : Code)
    (pc : ℕ) (h : Holder) (change : ℕ → Values → Change) → h.size ≡ n
    → ((r : Registers) → h.whole (sub_trees (scope_in (slots_in s) r) ts) ≡ sub (scope_in (slots_in s) r) t)
    → ((own : ℕ) (vs : Values) → count vs ≡ n → contract (model_in s) own (h.whole (literals vs)) ≡ Some
    (change own vs))
    → ((own : ℕ) (outer : List Frame) (ks : List Value) (c x o : Point)
    → Answers (λ r. change own (row r to.free n)) to.into c x → Carries (model_in s) own outer ks i 0 c x o)
    → Made old new pc (Operates s ts n i to pc) → Made old new pc (Evaluates s t to pc)
evaluates_asked s t ts n i to old new pc h change size whole contracts carries made = record {
  grown = made.grown;
  place = made.place;
  meant = λ own outer later e frames d c.
      sound_same (model_in s) own outer later pc _ _
      (λ r. ap (λ z. inside (frames r) (Becomes z)) (sym (whole r)))
      (made.meant own outer later e h (change own) size (contracts own) frames d c
      (λ o. carries own outer later.constants _ _ o
      (answers_into (λ r. change own (row r to.free n)) to.into frames d)));
}

-- what two values give
abbrev pub two_change : (Value → Value → Change) → Values → Change
two_change f (more v (more w none)) = f v w
two_change f vs = Raises (list none)

two_contracts : (m : Module) (own : ℕ) (whole : Trees → Tree) (f : Value → Value → Change)
    → ((v w : Value) → contract m own (whole (tree (lit v) (tree (lit w) no_trees))) ≡ Some (f v w))
    → (vs : Values) → count vs ≡ 2 → contract m own (whole (literals vs)) ≡ Some (two_change f vs)
two_contracts m own whole f is none h = absurd (omega arith)
two_contracts m own whole f is (more v none) h = absurd (omega arith)
two_contracts m own whole f is (more v (more w none)) h = is v w
two_contracts m own whole f is (more v (more w (more u vs))) h = absurd (omega arith)

abbrev pub one_change : (Value → Change) → Values → Change
one_change f (more v none) = f v
one_change f vs = Raises (list none)

one_contracts : (m : Module) (own : ℕ) (whole : Trees → Tree) (f : Value → Change)
    → ((v : Value) → contract m own (whole (tree (lit v) no_trees)) ≡ Some (f v))
    → (vs : Values) → count vs ≡ 1 → contract m own (whole (literals vs)) ≡ Some (one_change f vs)
one_contracts m own whole f is none h = absurd (omega arith)
one_contracts m own whole f is (more v none) h = is v
one_contracts m own whole f is (more v (more w vs)) h = absurd (omega arith)

by_computed : (x : Option (Result Value Value))
    → contraction.computed_or_undefined x ≡ worked_out (or_undefined x)
by_computed None = refl
by_computed (Some y) = refl

pub called_purely : (own : ℕ) (f : Builtin) (vs : Values) → is_pure f ≡ true
    → called own f vs ≡ worked_out (or_undefined (computed own f vs))
called_purely own builtins.SelfPid vs h = by_computed (computed own builtins.SelfPid vs)
called_purely own builtins.Hd vs h = by_computed (computed own builtins.Hd vs)
called_purely own builtins.Tl vs h = by_computed (computed own builtins.Tl vs)
called_purely own builtins.Length vs h = by_computed (computed own builtins.Length vs)
called_purely own builtins.Element vs h = by_computed (computed own builtins.Element vs)
called_purely own builtins.TupleSize vs h = by_computed (computed own builtins.TupleSize vs)
called_purely own builtins.IsInteger vs h = by_computed (computed own builtins.IsInteger vs)
called_purely own builtins.IsAtom vs h = by_computed (computed own builtins.IsAtom vs)
called_purely own builtins.IsTuple vs h = by_computed (computed own builtins.IsTuple vs)
called_purely own builtins.IsList vs h = by_computed (computed own builtins.IsList vs)
called_purely own builtins.IsPid vs h = by_computed (computed own builtins.IsPid vs)
called_purely own builtins.IsReference vs h = by_computed (computed own builtins.IsReference vs)
called_purely own f vs h = absurd (cc)

abbrev pub two : Tree → Tree → Trees
two a b = tree a (tree b no_trees)

module _ (s : Scope) (to : Target) (old new : Code) (pc : ℕ) (i : Operation) where
  pub evaluates_op : (o : Operator) (a b : Tree)
      → i ≡ ops.Binary o to.into (source.Register to.free) (source.Register (to.free + 1))
      → Made old new pc (Operates s (two a b) 2 i to pc) → Made old new pc (Evaluates s (op o a b) to pc)
  evaluates_op o a b e =
      evaluates_worked s (op o a b) (two a b) 2 i to old new pc (op_holder o)
      (λ own r. operated (name_in (model_in s)) o (reg r to.free) (reg r (to.free + 1)))
      (λ own. two_change (λ v w. worked_out (operated (name_in (model_in s)) o v w))) refl (λ r. refl)
      (λ own. two_contracts (model_in s) own (op_whole o)
      (λ v w. worked_out (operated (name_in (model_in s)) o v w)) (λ v w. refl)) (λ own r. refl)
      (λ own outer ks c x u h. subst (λ j. Carries (model_in s) own outer ks j 0 c x u) (sym e) h)

  pub evaluates_cons : (a b : Tree)
      → i ≡ ops.Cons to.into (source.Register to.free) (source.Register (to.free + 1))
      → Made old new pc (Operates s (two a b) 2 i to pc) → Made old new pc (Evaluates s (cons a b) to pc)
  evaluates_cons a b e =
      evaluates_worked s (cons a b) (two a b) 2 i to old new pc cons_holder
      (λ own r. consed (reg r to.free) (reg r (to.free + 1))) (λ own. two_change (λ v w. worked_out (consed v w))) refl
      (λ r. refl)
      (λ own. two_contracts (model_in s) own cons_whole (λ v w. worked_out (consed v w)) (λ v w. refl)) (λ own r. refl)
      (λ own outer ks c x u h. subst (λ j. Carries (model_in s) own outer ks j 0 c x u) (sym e) h)

  pub evaluates_send : (a b : Tree)
      → i ≡ ops.Send to.into (source.Register to.free) (source.Register (to.free + 1))
      → Made old new pc (Operates s (two a b) 2 i to pc) → Made old new pc (Evaluates s (send a b) to pc)
  evaluates_send a b e =
      evaluates_asked s (send a b) (two a b) 2 i to old new pc send_holder
      (λ own. two_change (λ v w. Asks (contraction.send v w))) refl (λ r. refl)
      (λ own. two_contracts (model_in s) own send_whole (λ v w. Asks (contraction.send v w)) (λ v w. refl))
      (λ own outer ks c x u h. subst (λ j. Carries (model_in s) own outer ks j 0 c x u) (sym e) h)

  pub evaluates_neg : (a : Tree) → i ≡ ops.Negate to.into (source.Register to.free)
      → Made old new pc (Operates s (tree a no_trees) 1 i to pc) → Made old new pc (Evaluates s (neg a) to pc)
  evaluates_neg a e =
      evaluates_worked s (neg a) (tree a no_trees) 1 i to old new pc neg_holder (λ own r. negated (reg r to.free))
      (λ own. one_change (λ v. worked_out (negated v))) refl (λ r. refl)
      (λ own. one_contracts (model_in s) own neg_whole (λ v. worked_out (negated v)) (λ v. refl)) (λ own r. refl)
      (λ own outer ks c x u h. subst (λ j. Carries (model_in s) own outer ks j 0 c x u) (sym e) h)

  pub evaluates_tuple : (ts : Trees) (n : ℕ) → i ≡ ops.Tuple to.into to.free n
      → Made old new pc (Operates s ts n i to pc) → Made old new pc (Evaluates s (tuple ts) to pc)
  evaluates_tuple ts n e =
      evaluates_worked s (tuple ts) ts n i to old new pc (tuple_holder n)
      (λ own r. limited (value.tuple (row r to.free n))) (λ own vs. worked_out (limited (value.tuple vs))) refl
      (λ r. refl)
      (λ own vs h. ap (option_map (λ us. worked_out (limited (value.tuple us)))) (values_are vs)) (λ own r. refl)
      (λ own outer ks c x u h. subst (λ j. Carries (model_in s) own outer ks j 0 c x u) (sym e) h)

  evaluates_asking : (f : Builtin) (ts : Trees) (n : ℕ) → i ≡ ops.Ask f to.into to.free n
      → Made old new pc (Operates s ts n i to pc) → Made old new pc (Evaluates s (builtin f ts) to pc)
  evaluates_asking f ts n e =
      evaluates_asked s (builtin f ts) ts n i to old new pc (builtin_holder f n) (λ own. called own f) refl (λ r. refl)
      (λ own vs h. ap (option_map (called own f)) (values_are vs))
      (λ own outer ks c x u h. subst (λ j. Carries (model_in s) own outer ks j 0 c x u) (sym e) h)

  evaluates_pure : (f : Builtin) (ts : Trees) (n : ℕ) → i ≡ ops.Pure f to.into to.free n → is_pure f ≡ true
      → Made old new pc (Operates s ts n i to pc) → Made old new pc (Evaluates s (builtin f ts) to pc)
  evaluates_pure f ts n e pure =
      evaluates_worked s (builtin f ts) ts n i to old new pc (builtin_holder f n)
      (λ own r. or_undefined (computed own f (row r to.free n))) (λ own. called own f) refl (λ r. refl)
      (λ own vs h. ap (option_map (called own f)) (values_are vs))
      (λ own r. called_purely own f (row r to.free n) pure)
      (λ own outer ks c x u h. subst (λ j. Carries (model_in s) own outer ks j 0 c x u) (sym e) h)

  -- a built-in function looks at its arguments, or asks
  builtin_by : (b : Bool) (f : Builtin) (ts : Trees) (n : ℕ) → is_pure f ≡ b
      → i ≡ (if b then ops.Pure f to.into to.free n else ops.Ask f to.into to.free n)
      → Made old new pc (Operates s ts n i to pc) → Made old new pc (Evaluates s (builtin f ts) to pc)
  builtin_by true f ts n p e h = evaluates_pure f ts n e p h
  builtin_by false f ts n p e h = evaluates_asking f ts n e h

  pub evaluates_builtin : (f : Builtin) (ts : Trees) (n : ℕ)
      → i ≡ (if is_pure f then ops.Pure f to.into to.free n else ops.Ask f to.into to.free n)
      → Made old new pc (Operates s ts n i to pc) → Made old new pc (Evaluates s (builtin f ts) to pc)
  evaluates_builtin f ts n e h = builtin_by (is_pure f) f ts n refl e h

-- ---- leaves

pub given_value : (s : Scope) (t : Tree) (to : Target) (old new : Code) (pc : ℕ) (v : Value) → t ≡ lit v
    → Made old new pc (GivesValue to.into to.after (λ r. v) pc) → Made old new pc (Evaluates s t to pc)
given_value s t to old new pc v e h =
    value_evaluates s t to old new pc (λ r. v) (λ r. ap (sub (scope_in (slots_in s) r)) e) h

pub given_int : (s : Scope) (t : Tree) (to : Target) (old new : Code) (pc : ℕ) (y z : ℤ) → t ≡ lit (value.int z)
    → Made old new pc (GivesValue to.into to.after (λ r. value.int y) pc) → y ≡ z
    → Made old new pc (Evaluates s t to pc)
given_int s t to old new pc y z e h same =
    given_value s t to old new pc (value.int y) (e ∙ ap (λ n. lit (value.int n)) (sym same)) h

-- the value of a variable in its place
pub slot_is : (s : Scope) (x k : ℕ) → slice_get (slots_in s) x ≡ Some k → (r : Registers)
    → sub (scope_in (slots_in s) r) (var x) ≡ lit (reg r k)
slot_is s x k there r =
    ap (λ o. value_or_var o (x - length (scope_in (slots_in s) r)))
    (slice_get-map (reg r) (slots_in s) x ∙ ap (option_map (reg r)) there)

pub given_slot : (s : Scope) (t : Tree) (to : Target) (old new : Code) (pc x k : ℕ) → t ≡ var x
    → slice_get (slots_in s) x ≡ Some k → Made old new pc (GivesValue to.into to.after (λ r. reg r k) pc)
    → Made old new pc (Evaluates s t to pc)
given_slot s t to old new pc x k e there h =
    value_evaluates s t to old new pc (λ r. reg r k)
    (λ r. ap (sub (scope_in (slots_in s) r)) e ∙ slot_is s x k there r) h

pub raised_slot : (s : Scope) (t : Tree) (to : Target) (old new : Code) (pc x : ℕ) → t ≡ var x
    → slice_get (slots_in s) x ≡ None → Made old new pc (StepsToRaise 17 pc) → Made old new pc (Evaluates s t to pc)
raised_slot s t to old new pc x e absent h = record {
  grown = h.grown;
  place = h.place;
  meant = λ own outer later g frames d c.
      h.meant own outer later g (model_in s) frames (λ r. sub (scope_in (slots_in s) r) t)
      (λ r. ap (contract (model_in s) own) (ap (sub (scope_in (slots_in s) r)) e
      ∙ ap (λ o. value_or_var o (x - length (scope_in (slots_in s) r)))
      (slice_get-map (reg r) (slots_in s) x ∙ ap (option_map (reg r)) absent)));
}
