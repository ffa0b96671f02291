-- Code of guards.
use Rattle.std.proofs.Common.{◌≡◌, ◌≤◌, ◌+◌, ℕ, zero, suc, Bool, true, false, ◌&&◌, ◌||◌, List, Option}
use Rattle.std.proofs.Common.{Some, None, Result, length, refl, sym, ap, ◌∙◌, subst, arith}
use Rattle.std.specs.Prelude.{if◌then◌else◌, option_and_then, option_map, slice_get, ◌-◌, ℤ}
use Rattle.std.proofs.lemmas.Option.{slice_get-map}
use Rattle.pf_terms.specs.Value.{Value, Values, atom, none, more, same}
use Rattle.pf_terms.specs.Value as value
use Rattle.pf_terms.specs.Fixed.{true_atom, false_atom}
use Rattle.pf_syntax.specs.Tree as trees
use Rattle.pf_syntax.specs.declared.operator.Operator.{Operator}
use Rattle.pf_syntax.specs.declared.operator.Builtin.{Builtin}
use Rattle.pf_syntax.specs.Tree.{Tree, Trees, Guard, no_trees, tree, no_alternatives, alternative}
use Rattle.pf_patterns.specs.Substitution.{sub, sub_trees, sub_guard, value_or_var}
use Rattle.pf_ops.specs.Arithmetic.{negated}
use Rattle.pf_ops.specs.Operations.{limited, operated, consed, computed}
use Rattle.pf_ops.specs.Guards.{value_in, worth, all_worth, is_true, all_true, guard_holds, unless_decided, truth_of}
use Rattle.pf_model.specs.Module.{Module, name_in}
use Rattle.pf_model.specs.Context.{Frame, Move}
use Rattle.pf_code.specs.Registers.{Registers, reg, row, read, scope_in, DependsBelow}
use Rattle.pf_code.specs.Points.{Point}
use Rattle.pf_code.specs.Sound.{Code, Carries, IsSoundAt, Fails, Computes, or_undefined}
use Rattle.pf_code.specs.declared.instruction.Instruction.{Instruction}
use Rattle.pf_code.specs.declared.instruction.Operation.{Operation}
use Rattle.pf_code.specs.declared.instruction.Operation.TheVariants as op
use Rattle.pf_code.specs.declared.instruction.Source.{Source}
use Rattle.pf_code.specs.declared.instruction.Source.TheVariants as source
use Rattle.pf_code.proofs.Charges.{charged_none}
use Rattle.pf_compile_patterns.specs.declared.scope.Scope.{Scope}
use Rattle.pf_compile_patterns.specs.declared.scope.Exits.{Exits}
use Rattle.pf_compile_patterns.specs.Maker.{IsPlace}
use Rattle.pf_compile_patterns.specs.Scopes.{model_in, slots_in, AreExits}
use Rattle.pf_compile_patterns.specs.Growth.{Extends, ConstantPut, Put, Made}
use Rattle.pf_compile_patterns.specs.Tests.{chosen}
use Rattle.pf_compile_patterns.specs.Planned.{AreBelow}
use Rattle.pf_compile_patterns.specs.Guarded.{Loads, worth_at, all_worth_at, Worths, WorthsAll, Applies}
use Rattle.pf_compile_patterns.specs.Guarded.{decided_at, Decides, by_truth, Tests, Asks, AsksBelow, holds_at}
use Rattle.pf_compile_patterns.specs.Guarded.{is_true_at, all_true_at, has_at}
use Rattle.pf_compile_patterns.specs.Guarded.{TellsTruth}
use Rattle.pf_compile_patterns.proofs.Grown.{extends_itself, extends_on, put_sound, nowhere}
use Rattle.pf_compile_patterns.proofs.Laid.{sound_same, test_of}
use Rattle.pf_compile_patterns.proofs.Dependent.{depends_more, scope_same, chosen_same, chosen_depends}
use Rattle.pf_compile_patterns.proofs.Plans.{constant_is}

-- ---- places

-- where an instruction is
pub put_there : (old mid new : Code) (i : Instruction) (next pc : ℕ) → IsPlace old next → Extends old mid
    → Put mid new i next pc → IsPlace new pc
put_there old mid new i next pc place e h =
    let a = place in let b = e.longer in let c = h.above in let d = h.there in (omega arith, d)

pub exits_on : (a b : Code) (to : Exits) → Extends a b → AreExits a to → AreExits b to
exits_on a b to e h =
    let l = e.longer in let x = h.0 in let y = h.1 in ((x.0, omega arith), (y.0, omega arith))

-- ---- copies

abbrev pub move_to : ℕ → Source → Instruction
move_to free from = record { operation = op.Move free from; contractions = 0; otherwise = 0 }

pub loads_from : (old mid new : Code) (value : Registers → Value) (from : Source) (free next pc : ℕ) → IsPlace old next
    → Extends old mid → Put mid new (move_to free from) next pc
    → ((later : Code) → Extends new later → (r : Registers) → read later.constants r from ≡ value r)
    → Made old new pc (Loads value free next pc)
loads_from old mid new value from free next pc place x h is = record {
  grown = extends_on old mid new x h.grown;
  place = put_there old mid new (move_to free from) next pc place x h;
  meant = λ own outer later e m go g s.
      let p : Point = λ r. go (value r) r in
      let n : Point = λ r. go (reg r free) r in
      put_sound m own outer later mid new (move_to free from) next pc p p n p h e (charged_none m own p)
      (λ r q k. ap (λ v. go v r) (sym (is later e r)) ∙ sym (g (read later.constants r from) r q k.1)
      ∙ ap (λ v. go v q) (sym k.0)) s (nowhere m own outer mid later p);
}

pub loads_register : (old new : Code) (register free next pc : ℕ) → IsPlace old next
    → Put old new (move_to free (source.Register register)) next pc
    → Made old new pc (Loads (λ r. reg r register) free next pc)
loads_register old new register free next pc place h =
    loads_from old old new (λ r. reg r register) (source.Register register) free next pc place (extends_itself old) h
    (λ later e r. refl)

pub loads_constant : (old mid new : Code) (v : Value) (k free next pc : ℕ) → IsPlace old next → ConstantPut old mid v k
    → Put mid new (move_to free (source.Constant k)) next pc → Made old new pc (Loads (λ r. v) free next pc)
loads_constant old mid new v k free next pc place c h =
    loads_from old mid new (λ r. v) (source.Constant k) free next pc place c.grown h
    (λ later e r. constant_is later.constants k v r (e.constants k v (h.grown.constants k v c.is)))

-- ---- tests

pub tests : (old new : Code) (t : Operation) (to : Exits) (pc : ℕ) → AreExits old to
    → Put old new (test_of t to.otherwise) to.next pc → Made old new pc (Tests t to pc)
tests old new t to pc exits h = record {
  grown = h.grown;
  place = put_there old old new (test_of t to.otherwise) to.next pc exits.0 (extends_itself old) h;
  meant = λ own outer later e m p n o c s f.
      put_sound m own outer later old new (test_of t to.otherwise) to.next pc p p n o h e (charged_none m own p) c s
      (λ l. (exits.1.1, f));
}

pub asks_atom : (old mid new : Code) (register a k : ℕ) (to : Exits) (pc : ℕ) → AreExits old to
    → ConstantPut old mid (atom a) k
    → Made mid new pc (Tests (op.Same (source.Register register) (source.Constant k)) to pc)
    → Made old new pc (Asks to pc (has_at register (atom a)))
asks_atom old mid new register a k to pc exits c h = record {
  grown = extends_on old mid new c.grown h.grown;
  place = h.place;
  meant = λ own outer later e m n o s f.
      let is : (r : Registers) → read later.constants r (source.Constant k) ≡ atom a =
      λ r. constant_is later.constants k (atom a) r (e.constants k (atom a) (h.grown.constants k (atom a) c.is)) in
      h.meant own outer later e m (λ r. if same (reg r register) (atom a) then n r else o r) n o
      (exits.1.0, λ r. ap (λ v. if same (reg r register) v then n r else o r) (sym (is r))) s f;
}

-- ---- the value of a test

pub loads_worth : (s : Scope) (t : Tree) (to : Exits) (old new : Code) (value : Registers → Value) (pc : ℕ)
    → ((own : ℕ) (r : Registers) → worth_at s t own r ≡ Some (value r))
    → Made old new pc (Loads value to.free to.next pc) → Made old new pc (Worths s t to pc)
loads_worth s t to old new value pc is h = record {
  grown = h.grown;
  place = h.place;
  meant = λ own outer later e go o g d n f.
      sound_same (model_in s) own outer later pc (λ r. go (value r) r)
      (λ r. chosen (worth_at s t own r) (λ v. go v r) (o r))
      (λ r. ap (λ x. chosen x (λ v. go v r) (o r)) (is own r))
      (h.meant own outer later e (model_in s) go g n);
}

pub no_worth : (s : Scope) (t : Tree) (to : Exits) (old : Code) → AreExits old to
    → ((own : ℕ) (r : Registers) → worth_at s t own r ≡ None)
    → Made old old to.otherwise (Worths s t to to.otherwise)
no_worth s t to old exits is = record {
  grown = extends_itself old;
  place = exits.1;
  meant = λ own outer later e go o g d n f.
      sound_same (model_in s) own outer later to.otherwise o (λ r. chosen (worth_at s t own r) (λ v. go v r) (o r))
      (λ r. ap (λ x. chosen x (λ v. go v r) (o r)) (is own r)) f;
}

-- ---- the values of several

chosen_and : {X Y : Type 0} (x : Option X) (f : X → Option Y) (go : Y → Move) (o : Move)
    → chosen (option_and_then f x) go o ≡ chosen x (λ v. chosen (f v) go o) o
chosen_and None f go o = refl
chosen_and (Some v) f go o = refl

pub worth_depends : (s : Scope) (t : Tree) (own n : ℕ) → AreBelow n (slots_in s) → DependsBelow n (worth_at s t own)
worth_depends s t own n b r q h =
    ap (λ e. worth (name_in (model_in s)) own (sub e t)) (scope_same n (slots_in s) r q b h)

pub all_worth_depends : (s : Scope) (ts : Trees) (own n : ℕ) → AreBelow n (slots_in s)
    → DependsBelow n (all_worth_at s ts own)
all_worth_depends s ts own n b r q h =
    ap (λ e. all_worth (name_in (model_in s)) own (sub_trees e ts)) (scope_same n (slots_in s) r q b h)

pub worths_none : (s : Scope) (to : Exits) (old : Code) → AreExits old to
    → Made old old to.next (WorthsAll s no_trees 0 to to.next)
worths_none s to old exits = record {
  grown = extends_itself old;
  place = exits.0;
  meant = λ own outer later e go o g d n f. n;
}

abbrev pub exits_to : ℕ → ℕ → ℕ → Exits
exits_to free next otherwise = record { free = free; next = next; otherwise = otherwise }

worths_next : (s : Scope) (t : Tree) (ts : Trees) (n : ℕ) (to : Exits) (old mid new : Code) (next pc : ℕ)
    → AreBelow to.free (slots_in s)
    → Made old mid next (WorthsAll s ts n (exits_to (to.free + 1) to.next to.otherwise) next)
    → Made mid new pc (Worths s t (exits_to to.free next to.otherwise) pc)
    → Made old new pc (WorthsAll s (tree t ts) (suc n) to pc)
worths_next s t ts n to old mid new next pc below h k = record {
  grown = extends_on old mid new h.grown k.grown;
  place = k.place;
  meant = λ own outer later e go o g d x f.
      let m = model_in s in
      let up : to.free ≤ to.free + 1 = omega arith in
      let rest : Values → Point = λ vs r. go (more (reg r to.free) vs) r in
      let rest_below : (vs : Values) → DependsBelow (to.free + 1) (rest vs) =
      λ vs r q i.
      g (more (reg q to.free) vs) r q (λ j l. i j (omega arith))
      ∙ ap (λ v. go (more v vs) r) (i to.free (omega arith)) in
      let others = h.meant own outer later (extends_on mid new later k.grown e) rest o rest_below
      (depends_more to.free (to.free + 1) o up d) x f in
      let first : Value → Point = λ v r. chosen (all_worth_at s ts own r) (λ vs. go (more v vs) r) (o r) in
      let first_below : (v : Value) → DependsBelow to.free (first v) =
      λ v. chosen_depends to.free (all_worth_at s ts own) (λ vs. go (more v vs)) o
      (all_worth_depends s ts own to.free below) (λ vs. g (more v vs)) d in
      sound_same m own outer later pc (λ r. chosen (worth_at s t own r) (λ v. first v r) (o r))
      (λ r. chosen (all_worth_at s (tree t ts) own r) (λ vs. go vs r) (o r))
      (λ r. chosen_and (worth_at s t own r) (λ v. option_and_then (λ vs. Some (more v vs)) (all_worth_at s ts own r))
      (λ vs. go vs r) (o r)
      ∙ chosen_same (worth_at s t own r) (worth_at s t own r) _ (λ v. first v r) (o r) (o r) refl
      (λ v. chosen_and (all_worth_at s ts own r) (λ vs. Some (more v vs)) (λ vs. go vs r) (o r)) refl)
      (k.meant own outer later e first o first_below d others f);
}

pub worths_more : (s : Scope) (t : Tree) (ts : Trees) (n free : ℕ) (to : Exits) (old mid new : Code) (next pc : ℕ)
    → AreBelow to.free (slots_in s) → free ≡ to.free + 1
    → Made old mid next (WorthsAll s ts n (exits_to free to.next to.otherwise) next)
    → Made mid new pc (Worths s t (exits_to to.free next to.otherwise) pc)
    → Made old new pc (WorthsAll s (tree t ts) (suc n) to pc)
worths_more s t ts n free to old mid new next pc below e h k =
    worths_next s t ts n to old mid new next pc below
    (subst (λ d. Made old mid next (WorthsAll s ts n (exits_to d to.next to.otherwise) next)) e h) k

-- ---- operations on tests

pub applies : (s : Scope) (ts : Trees) (n : ℕ) (t : Operation) (to : Exits) (old mid new : Code) (next pc : ℕ)
    → Made old mid next (Tests t to next)
    → Made mid new pc (WorthsAll s ts n (exits_to to.free next to.otherwise) pc)
    → Made old new pc (Applies s ts n t to pc)
applies s ts n t to old mid new next pc h k = record {
  grown = extends_on old mid new h.grown k.grown;
  place = k.place;
  meant = λ own outer later e result go o g d c x f.
      let m = model_in s in
      let go_on : Values → Point = λ vs r. chosen (result vs) (λ v. go v r) (o r) in
      let tested = h.meant own outer later (extends_on mid new later k.grown e) m
      (λ r. go_on (row r to.free n) r) (λ r. go (reg r to.free) r) o c x f in
      sound_same m own outer later pc (λ r. chosen (all_worth_at s ts own r) (λ vs. go_on vs r) (o r))
      (λ r. chosen (option_and_then result (all_worth_at s ts own r)) (λ v. go v r) (o r))
      (λ r. chosen_and (all_worth_at s ts own r) result (λ v. go v r) (o r))
      (k.meant own outer later e go_on o
      (λ vs. chosen_depends to.free (λ r. result vs) go o (λ r q i. refl) g d) d tested f);
}

fails_elsewhere : (w : ℕ) (e : Value) (c o : Move) → 1 ≤ w → c ≡ o → Fails w e c o
fails_elsewhere zero e c o l h = absurd (omega arith)
fails_elsewhere (suc w) e c o l h = h

-- what is worked out leads on with its value, and elsewhere where there is none
computes_value : (work : Registers → Result Value Value) (x : Registers → Option Value) (free w : ℕ)
    (go : Value → Point) (o : Point) → 1 ≤ w → ((v : Value) → DependsBelow free (go v))
    → ((r : Registers) → x r ≡ value_in (work r))
    → Computes work free w (λ r. chosen (x r) (λ v. go v r) (o r)) (λ r. go (reg r free) r) o
computes_value work x free w go o l g is = record {
  ok = λ r q v e k.
      ap (λ y. chosen y (λ v. go v r) (o r)) (is r ∙ ap value_in e) ∙ sym (g v r q k.1)
      ∙ ap (λ u. go u q) (sym k.0);
  err = λ r e h. fails_elsewhere w e _ _ l (ap (λ y. chosen y (λ v. go v r) (o r)) (is r ∙ ap value_in h));
}

pub computed_worth : (s : Scope) (ts : Trees) (n : ℕ) (i : Operation) (to : Exits) (old new : Code) (pc : ℕ) (t : Tree)
    (work : ℕ → Registers → Result Value Value) (result : ℕ → Values → Option Value) → AreExits old to
    → ((own : ℕ) (r : Registers) → worth_at s t own r ≡ option_and_then (result own) (all_worth_at s ts own r))
    → ((own : ℕ) (r : Registers) → result own (row r to.free n) ≡ value_in (work own r))
    → ((own : ℕ) (outer : List Frame) (ks : List Value) (c x o : Point)
    → Computes (work own) to.free to.otherwise c x o → Carries (model_in s) own outer ks i to.otherwise c x o)
    → Made old new pc (Applies s ts n i to pc) → Made old new pc (Worths s t to pc)
computed_worth s ts n i to old new pc t work result exits is by carries h = record {
  grown = h.grown;
  place = h.place;
  meant = λ own outer later e go o g d x f.
      sound_same (model_in s) own outer later pc
      (λ r. chosen (option_and_then (result own) (all_worth_at s ts own r)) (λ v. go v r) (o r))
      (λ r. chosen (worth_at s t own r) (λ v. go v r) (o r))
      (λ r. ap (λ y. chosen y (λ v. go v r) (o r)) (is own r))
      (h.meant own outer later e (result own) go o g d
      (carries own outer later.constants _ _ o
      (computes_value (work own) (λ r. result own (row r to.free n)) to.free to.otherwise go o exits.1.0 g (by own)))
      x f);
}

-- what two values give, and nothing for another number of them
abbrev pub of_two : (Value → Value → Option Value) → Values → Option Value
of_two f (more v (more w none)) = f v w
of_two f vs = None

pub two_worths : (x y : Option Value) (f : Value → Value → Option Value)
    → option_and_then (λ v. option_and_then (f v) y) x
    ≡ option_and_then (of_two f) (option_and_then (λ v. option_and_then (λ vs. Some (more v vs))
    (option_and_then (λ w. option_and_then (λ vs. Some (more w vs)) (Some none)) y)) x)
two_worths None y f = refl
two_worths (Some v) None f = refl
two_worths (Some v) (Some w) f = refl

abbrev pub of_one : (Value → Option Value) → Values → Option Value
of_one f (more v none) = f v
of_one f vs = None

pub one_worth : (x : Option Value) (f : Value → Option Value)
    → option_and_then f x
    ≡ option_and_then (of_one f) (option_and_then (λ v. option_and_then (λ vs. Some (more v vs)) (Some none)) x)
one_worth None f = refl
one_worth (Some v) f = refl

-- ---- `andalso` and `orelse`

chosen_by_truth : (b : Bool) (v : Value) (x : Option Bool) (y : Option Value) (go : Value → Move) (o : Move)
    → chosen (unless_decided b v x y) go o ≡ by_truth b x (go v) (chosen y go o) o
chosen_by_truth b v None y go o = refl
chosen_by_truth true v (Some true) y go o = refl
chosen_by_truth true v (Some false) y go o = refl
chosen_by_truth false v (Some true) y go o = refl
chosen_by_truth false v (Some false) y go o = refl

pub decides : (s : Scope) (b : Bool) (t u : Tree) (to : Exits) (old one two new : Code) (other truth pc : ℕ)
    → AreBelow to.free (slots_in s) → Made old one other (Worths s u to other)
    → Made one two truth (TellsTruth b other to truth)
    → Made two new pc (Worths s t (exits_to to.free truth to.otherwise) pc)
    → Made old new pc (Decides s b t u to pc)
decides s b t u to old one two new other truth pc below h k l = record {
  grown = extends_on old one new h.grown (extends_on one two new k.grown l.grown);
  place = l.place;
  meant = λ own outer later e go o g d x f.
      let m = model_in s in
      let e' = extends_on two new later l.grown e in
      let right = h.meant own outer later (extends_on one two later k.grown e') go o g d x f in
      let left = k.meant own outer later e' m (λ r. go (reg r to.free) r)
      (λ r. chosen (worth_at s u own r) (λ v. go v r) (o r)) o x right f in
      let first : Value → Point =
      λ v r. chosen (unless_decided b v (truth_of v) (worth_at s u own r)) (λ z. go z r) (o r) in
      let first_below : (v : Value) → DependsBelow to.free (first v) =
      λ v. chosen_depends to.free (λ r. unless_decided b v (truth_of v) (worth_at s u own r)) go o
      (λ r q i. ap (unless_decided b v (truth_of v)) (worth_depends s u own to.free below r q i)) g d in
      sound_same m own outer later pc (λ r. chosen (worth_at s t own r) (λ v. first v r) (o r))
      (λ r. chosen (decided_at s b t u own r) (λ v. go v r) (o r))
      (λ r. chosen_and (worth_at s t own r) (λ v. unless_decided b v (truth_of v) (worth_at s u own r)) (λ v. go v r)
      (o r))
      (l.meant own outer later e first o first_below d
      (sound_same m own outer later truth _ (λ r. first (reg r to.free) r)
      (λ r. chosen_by_truth b (reg r to.free) (truth_of (reg r to.free)) (worth_at s u own r) (λ v. go v r) (o r))
      left) f);
}

truths : (b : Bool) (v : Value) (left right o : Move) → (x y : Bool) → same v true_atom ≡ x → same v false_atom ≡ y
    → by_truth b (truth_of v) left right o
    ≡ (if x then (if b then left else right) else (if y then (if b then right else left) else o))
truths true v left right o true y e h = rw e refl
truths false v left right o true y e h = rw e refl
truths true v left right o false true e h = rw (e, h) refl
truths false v left right o false true e h = rw (e, h) refl
truths true v left right o false false e h = rw (e, h) refl
truths false v left right o false false e h = rw (e, h) refl

abbrev pub one_of : Bool → ℕ → ℕ → ℕ
one_of b one other = if b then one else other

either_sound : (m : Module) (own : ℕ) (outer : List Frame) (code : Code) (b : Bool) (one other : ℕ) (p q : Point)
    → IsSoundAt m own outer code one p → IsSoundAt m own outer code other q
    → IsSoundAt m own outer code (one_of b one other) (λ r. if b then p r else q r)
either_sound m own outer code true one other p q h k = h
either_sound m own outer code false one other p q h k = k

pub either_place : (code : Code) (b : Bool) (one other : ℕ) → IsPlace code one → IsPlace code other
    → IsPlace code (one_of b one other)
either_place code true one other h k = h
either_place code false one other h k = k

pub tells_truth : (b : Bool) (other : ℕ) (to : Exits) (old mid new : Code) (is_false pc : ℕ)
    → Made old mid is_false (Asks (exits_to to.free (one_of b other to.next) to.otherwise) is_false
    (has_at to.free false_atom))
    → Made mid new pc (Asks (exits_to to.free (one_of b to.next other) is_false) pc (has_at to.free true_atom))
    → Made old new pc (TellsTruth b other to pc)
tells_truth b other to old mid new is_false pc h k = record {
  grown = extends_on old mid new h.grown k.grown;
  place = k.place;
  meant = λ own outer later e m left right o x y f.
      let no = h.meant own outer later (extends_on mid new later k.grown e) m
      (λ r. if b then right r else left r) o (either_sound m own outer later b other to.next right left y x) f in
      let yes = k.meant own outer later e m (λ r. if b then left r else right r)
      (λ r. if same (reg r to.free) false_atom then (if b then right r else left r) else o r)
      (either_sound m own outer later b to.next other left right x y) no in
      sound_same m own outer later pc _
      (λ r. by_truth b (truth_of (reg r to.free)) (left r) (right r) (o r))
      (λ r. truths b (reg r to.free) (left r) (right r) (o r) (same (reg r to.free) true_atom)
      (same (reg r to.free) false_atom) refl refl) yes;
}

pub tells_truth_by : (b : Bool) (other : ℕ) (to : Exits) (old mid new : Code) (is_false pc x y : ℕ)
    → x ≡ one_of b other to.next → y ≡ one_of b to.next other
    → Made old mid is_false (Asks (exits_to to.free x to.otherwise) is_false (has_at to.free false_atom))
    → Made mid new pc (Asks (exits_to to.free y is_false) pc (has_at to.free true_atom))
    → Made old new pc (TellsTruth b other to pc)
tells_truth_by b other to old mid new is_false pc x y e f h k =
    tells_truth b other to old mid new is_false pc
    (subst (λ z. Made old mid is_false
    (Asks (exits_to to.free z to.otherwise) is_false (has_at to.free false_atom))) e h)
    (subst (λ z. Made mid new pc (Asks (exits_to to.free z is_false) pc (has_at to.free true_atom))) f k)

-- ---- guards

true_chosen : (x : Option Value) (n o : Move)
    → (if is_true x then n else o) ≡ chosen x (λ v. if same v true_atom then n else o) o
true_chosen None n o = refl
true_chosen (Some v) n o = refl

if_depends : (k : ℕ) (b : Registers → Bool) (n o : Point) → DependsBelow k b → DependsBelow k n → DependsBelow k o
    → DependsBelow k (λ r. if b r then n r else o r)
if_depends k b n o h i j r q x =
    let e = h r q x in let f = i r q x in let g = j r q x in
    ap (λ c. if c then n q else o q) e ∙ ap (λ p. if b r then p else o q) f ∙ ap (λ p. if b r then n r else p) g

pub asks_true : (s : Scope) (t : Tree) (to : Exits) (old mid new : Code) (next pc : ℕ)
    → Made old mid next (Asks to next (has_at to.free true_atom))
    → Made mid new pc (Worths s t (exits_to to.free next to.otherwise) pc)
    → Made old new pc (AsksBelow (model_in s) to pc (is_true_at s t))
asks_true s t to old mid new next pc h k = record {
  grown = extends_on old mid new h.grown k.grown;
  place = k.place;
  meant = λ own outer later e n o a b x f.
      let m = model_in s in
      let asked = h.meant own outer later (extends_on mid new later k.grown e) m n o x f in
      sound_same m own outer later pc _ (λ r. if is_true_at s t own r then n r else o r)
      (λ r. true_chosen (worth_at s t own r) (n r) (o r))
      (k.meant own outer later e (λ v r. if same v true_atom then n r else o r) o
      (λ v. if_depends to.free (λ r. same v true_atom) n o (λ r q i. refl) a b) b asked f);
}

both : (x y : Bool) (n o : Move) → (if x && y then n else o) ≡ (if x then (if y then n else o) else o)
both true y n o = refl
both false y n o = refl

one : (x y : Bool) (n o : Move) → (if x || y then n else o) ≡ (if x then n else (if y then n else o))
one true y n o = refl
one false y n o = refl

all_true_depends : (s : Scope) (ts : Trees) (own k : ℕ) → AreBelow k (slots_in s)
    → DependsBelow k (all_true_at s ts own)
all_true_depends s ts own k b r q h =
    ap (λ e. all_true (name_in (model_in s)) own (sub_trees e ts)) (scope_same k (slots_in s) r q b h)

holds_depends : (s : Scope) (g : Guard) (own k : ℕ) → AreBelow k (slots_in s) → DependsBelow k (holds_at s g own)
holds_depends s g own k b r q h =
    ap (λ e. guard_holds (name_in (model_in s)) own (sub_guard e g)) (scope_same k (slots_in s) r q b h)

pub asks_none : (s : Scope) (to : Exits) (old : Code) (holds : ℕ → Registers → Bool) → AreExits old to
    → ((own : ℕ) (r : Registers) → holds own r ≡ true)
    → Made old old to.next (AsksBelow (model_in s) to to.next holds)
asks_none s to old holds exits is = record {
  grown = extends_itself old;
  place = exits.0;
  meant = λ own outer later e n o a b x f.
      sound_same (model_in s) own outer later to.next n (λ r. if holds own r then n r else o r)
      (λ r. ap (λ c. if c then n r else o r) (is own r)) x;
}

pub asks_all : (s : Scope) (t : Tree) (ts : Trees) (to : Exits) (old mid new : Code) (next pc : ℕ)
    → AreBelow to.free (slots_in s)
    → Made old mid next (AsksBelow (model_in s) to next (all_true_at s ts))
    → Made mid new pc (AsksBelow (model_in s) (exits_to to.free next to.otherwise) pc (is_true_at s t))
    → Made old new pc (AsksBelow (model_in s) to pc (all_true_at s (tree t ts)))
asks_all s t ts to old mid new next pc below h k = record {
  grown = extends_on old mid new h.grown k.grown;
  place = k.place;
  meant = λ own outer later e n o a b x f.
      let m = model_in s in
      let rest = h.meant own outer later (extends_on mid new later k.grown e) n o a b x f in
      sound_same m own outer later pc _ (λ r. if all_true_at s (tree t ts) own r then n r else o r)
      (λ r. both (is_true_at s t own r) (all_true_at s ts own r) (n r) (o r))
      (k.meant own outer later e (λ r. if all_true_at s ts own r then n r else o r) o
      (if_depends to.free (all_true_at s ts own) n o (all_true_depends s ts own to.free below) a b) b rest f);
}

pub asks_no_alternative : (s : Scope) (to : Exits) (old : Code) → AreExits old to
    → Made old old to.otherwise (AsksBelow (model_in s) to to.otherwise (holds_at s no_alternatives))
asks_no_alternative s to old exits = record {
  grown = extends_itself old;
  place = exits.1;
  meant = λ own outer later e n o a b x f. f;
}

pub asks_one : (s : Scope) (ts : Trees) (g : Guard) (to : Exits) (old mid new : Code) (otherwise pc : ℕ)
    → AreBelow to.free (slots_in s)
    → Made old mid otherwise (AsksBelow (model_in s) to otherwise (holds_at s g))
    → Made mid new pc (AsksBelow (model_in s) (exits_to to.free to.next otherwise) pc (all_true_at s ts))
    → Made old new pc (AsksBelow (model_in s) to pc (holds_at s (alternative ts g)))
asks_one s ts g to old mid new otherwise pc below h k = record {
  grown = extends_on old mid new h.grown k.grown;
  place = k.place;
  meant = λ own outer later e n o a b x f.
      let m = model_in s in
      let rest = h.meant own outer later (extends_on mid new later k.grown e) n o a b x f in
      sound_same m own outer later pc _ (λ r. if holds_at s (alternative ts g) own r then n r else o r)
      (λ r. one (all_true_at s ts own r) (holds_at s g own r) (n r) (o r))
      (k.meant own outer later e n (λ r. if holds_at s g own r then n r else o r) a
      (if_depends to.free (holds_at s g own) n o (holds_depends s g own to.free below) a b) x rest);
}

-- ---- each operation in a guard

value_or_undefined : (x : Option (Result Value Value)) → option_and_then value_in x ≡ value_in (or_undefined x)
value_or_undefined None = refl
value_or_undefined (Some y) = refl

abbrev pub two : Tree → Tree → Trees
two a b = tree a (tree b no_trees)

module _ (s : Scope) (to : Exits) (old new : Code) (pc : ℕ) (i : Operation) (exits : AreExits old to) where
  pub worth_of_tuple : (ts : Trees) (n : ℕ) → i ≡ op.Tuple to.free to.free n → Made old new pc (Applies s ts n i to pc)
      → Made old new pc (Worths s (trees.tuple ts) to pc)
  worth_of_tuple ts n e h =
      computed_worth s ts n i to old new pc (trees.tuple ts) (λ own r. limited (value.tuple (row r to.free n)))
      (λ own vs. value_in (limited (value.tuple vs))) exits (λ own r. refl) (λ own r. refl)
      (λ own outer ks c x o k. subst (λ j. Carries (model_in s) own outer ks j to.otherwise c x o) (sym e) k) h

  pub worth_of_cons : (a b : Tree)
      → i ≡ op.Cons to.free (source.Register to.free) (source.Register (to.free + 1))
      → Made old new pc (Applies s (two a b) 2 i to pc) → Made old new pc (Worths s (trees.cons a b) to pc)
  worth_of_cons a b e h =
      computed_worth s (two a b) 2 i to old new pc (trees.cons a b)
      (λ own r. consed (reg r to.free) (reg r (to.free + 1)))
      (λ own. of_two (λ v w. value_in (consed v w))) exits
      (λ own r. two_worths (worth_at s a own r) (worth_at s b own r) (λ v w. value_in (consed v w))) (λ own r. refl)
      (λ own outer ks c x o k. subst (λ j. Carries (model_in s) own outer ks j to.otherwise c x o) (sym e) k) h

  pub worth_of_op : (x : Operator) (a b : Tree)
      → i ≡ op.Binary x to.free (source.Register to.free) (source.Register (to.free + 1))
      → Made old new pc (Applies s (two a b) 2 i to pc) → Made old new pc (Worths s (trees.op x a b) to pc)
  worth_of_op x a b e h =
      computed_worth s (two a b) 2 i to old new pc (trees.op x a b)
      (λ own r. operated (name_in (model_in s)) x (reg r to.free) (reg r (to.free + 1)))
      (λ own. of_two (λ v w. value_in (operated (name_in (model_in s)) x v w))) exits
      (λ own r. two_worths (worth_at s a own r) (worth_at s b own r)
      (λ v w. value_in (operated (name_in (model_in s)) x v w))) (λ own r. refl)
      (λ own outer ks c y o k. subst (λ j. Carries (model_in s) own outer ks j to.otherwise c y o) (sym e) k) h

  pub worth_of_neg : (a : Tree) → i ≡ op.Negate to.free (source.Register to.free)
      → Made old new pc (Applies s (tree a no_trees) 1 i to pc) → Made old new pc (Worths s (trees.neg a) to pc)
  worth_of_neg a e h =
      computed_worth s (tree a no_trees) 1 i to old new pc (trees.neg a) (λ own r. negated (reg r to.free))
      (λ own. of_one (λ v. value_in (negated v))) exits
      (λ own r. one_worth (worth_at s a own r) (λ v. value_in (negated v))) (λ own r. refl)
      (λ own outer ks c x o k. subst (λ j. Carries (model_in s) own outer ks j to.otherwise c x o) (sym e) k) h

  pub worth_of_builtin : (f : Builtin) (ts : Trees) (n : ℕ) → i ≡ op.Pure f to.free to.free n
      → Made old new pc (Applies s ts n i to pc) → Made old new pc (Worths s (trees.builtin f ts) to pc)
  worth_of_builtin f ts n e h =
      computed_worth s ts n i to old new pc (trees.builtin f ts)
      (λ own r. or_undefined (computed own f (row r to.free n)))
      (λ own vs. option_and_then value_in (computed own f vs)) exits (λ own r. refl)
      (λ own r. value_or_undefined (computed own f (row r to.free n)))
      (λ own outer ks c x o k. subst (λ j. Carries (model_in s) own outer ks j to.otherwise c x o) (sym e) k) h

-- ---- leaves

pub value_worth : (s : Scope) (t : Tree) (to : Exits) (old new : Code) (pc : ℕ) (v : Value) → t ≡ trees.lit v
    → Made old new pc (Loads (λ r. v) to.free to.next pc) → Made old new pc (Worths s t to pc)
value_worth s t to old new pc v e h =
    loads_worth s t to old new (λ r. v) pc (λ own r. ap (λ x. worth_at s x own r) e) h

pub int_worth : (s : Scope) (t : Tree) (to : Exits) (old new : Code) (pc : ℕ) (y z : ℤ) → t ≡ trees.lit (value.int z)
    → Made old new pc (Loads (λ r. value.int y) to.free to.next pc) → y ≡ z → Made old new pc (Worths s t to pc)
int_worth s t to old new pc y z e h same =
    value_worth s t to old new pc (value.int y) (e ∙ ap (λ n. trees.lit (value.int n)) (sym same)) h

slot_is : (s : Scope) (x k : ℕ) (own : ℕ) (r : Registers) → slice_get (slots_in s) x ≡ Some k
    → worth_at s (trees.var x) own r ≡ Some (reg r k)
slot_is s x k own r h =
    ap (λ o. worth (name_in (model_in s)) own (value_or_var o (x - length (scope_in (slots_in s) r))))
    (slice_get-map (reg r) (slots_in s) x ∙ ap (option_map (reg r)) h)

pub slot_worth : (s : Scope) (t : Tree) (to : Exits) (old new : Code) (pc x k : ℕ) → t ≡ trees.var x
    → slice_get (slots_in s) x ≡ Some k → Made old new pc (Loads (λ r. reg r k) to.free to.next pc)
    → Made old new pc (Worths s t to pc)
slot_worth s t to old new pc x k e there h =
    loads_worth s t to old new (λ r. reg r k) pc
    (λ own r. ap (λ y. worth_at s y own r) e ∙ slot_is s x k own r there) h

no_slot_is : (s : Scope) (x : ℕ) (own : ℕ) (r : Registers) → slice_get (slots_in s) x ≡ None
    → worth_at s (trees.var x) own r ≡ None
no_slot_is s x own r h =
    ap (λ o. worth (name_in (model_in s)) own (value_or_var o (x - length (scope_in (slots_in s) r))))
    (slice_get-map (reg r) (slots_in s) x ∙ ap (option_map (reg r)) h)

pub no_slot_worth : (s : Scope) (t : Tree) (to : Exits) (old : Code) (x : ℕ) → t ≡ trees.var x
    → slice_get (slots_in s) x ≡ None → AreExits old to → Made old old to.otherwise (Worths s t to to.otherwise)
no_slot_worth s t to old x e absent exits =
    no_worth s t to old exits (λ own r. ap (λ y. worth_at s y own r) e ∙ no_slot_is s x own r absent)
