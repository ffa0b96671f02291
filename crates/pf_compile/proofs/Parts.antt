-- `andalso`, `orelse`, `case`, `if` and calls, whose parts are evaluated first.
use Rattle.std.proofs.Common.{◌≡◌, ◌≤◌, ◌<◌, ◌+◌, ℕ, zero, suc, Bool, true, false, List, [], ◌∷◌, Option, Some, None}
use Rattle.std.proofs.Common.{length}
use Rattle.std.proofs.Common.{option_map, refl, sym, ap, ◌∙◌, arith}
use Rattle.std.specs.Prelude.{slice_get}
use Rattle.pf_terms.specs.Value.{Value, Values, list, none}
use Rattle.pf_terms.specs.Fixed.{badarg, if_clause}
use Rattle.pf_syntax.specs.Pattern.{Patterns, no_patterns}
use Rattle.pf_syntax.specs.Tree.{Tree, Trees, Clauses, lit, var, call, match, bind, case}
use Rattle.pf_syntax.specs.Tree.{if_expression, receive}
use Rattle.pf_patterns.specs.Fit.{ValueScope}
use Rattle.pf_patterns.specs.Substitution.{sub, sub_clauses, sub_patterns}
use Rattle.pf_ops.specs.Guards.{truth_of}
use Rattle.pf_ops.specs.Reasons.{tagged, no_case}
use Rattle.pf_model.specs.Module.{Module}
use Rattle.pf_model.specs.Contraction.{Becomes, Raises, contract, picked, body_or_raise}
use Rattle.pf_model.specs.Contraction.{decided, entered}
use Rattle.pf_model.specs.Context.{Frame, around, literals, match_of, bind_of, case_of, and_also_of, or_else_of}
use Rattle.pf_code.specs.Registers.{Registers, reg, row, scope_in, DependsBelow}
use Rattle.pf_code.specs.Points.{Point, inside, plug, testing}
use Rattle.pf_code.specs.Sound.{Code, Takes, Answers, Receives, call_of}
use Rattle.pf_code.specs.declared.instruction.Instruction.{Instruction}
use Rattle.pf_code.specs.declared.instruction.Operation.TheVariants as ops
use Rattle.pf_code.proofs.Charges.{charged_none, charged_one, values_are}
use Rattle.pf_compile.specs.declared.target.After.TheVariants as way
use Rattle.pf_compile.specs.declared.target.Subject.TheVariants as subjects
use Rattle.pf_compile_patterns.specs.declared.scope.Scope.{Scope}
use Rattle.pf_compile.specs.declared.target.Target.{Target}
use Rattle.pf_compile.specs.Scopes.{IsTarget}
use Rattle.pf_compile_patterns.specs.Scopes.{model_in, slots_in}
use Rattle.pf_compile_patterns.specs.Growth.{Pushed, Put, Made}
use Rattle.pf_compile_patterns.specs.Tests.{chosen}
use Rattle.pf_compile_patterns.specs.Planned.{AreBelow}
use Rattle.pf_compile_patterns.specs.Guarded.{by_truth, TellsTruth, Loads}
use Rattle.pf_compile.specs.Evaluated.{Gives, Evaluates, GivesValue, step_of, Picks, Binds, Calls}
use Rattle.pf_compile.specs.Evaluated.{deciding, RaisesWith, RaisesAtom, Lands, EvaluatesAll, StepsToRaise, Passes}
use Rattle.pf_compile.specs.Evaluated.{free_of}
use Rattle.pf_compile_patterns.proofs.Grown.{extends_itself, extends_on, end_sound, put_sound, nowhere}
use Rattle.pf_compile_patterns.proofs.Laid.{sound_same}
use Rattle.pf_compile_patterns.proofs.Dependent.{depends_more, scope_same, row_same, chosen_depends}
use Rattle.pf_compile_patterns.proofs.Guarded.{put_there, exits_to}
use Rattle.pf_compile.proofs.Evaluated.{call_holder, slot_is, target_at}
use Rattle.pf_compile.proofs.Clauses.{inner_target, step_sound}

-- ---- what is evaluated first

-- a tree that is evaluated into the free register, within a frame, and then goes on
pub part_first : (s : Scope) (a t : Tree) (frame : Registers → Frame) (whole : Registers → Tree → Tree) (to : Target)
    (old mid new : Code) (next pc : ℕ) → to.into ≤ to.free
    → DependsBelow to.free frame
    → ((r : Registers) (x : Tree) → around (frame r) x ≡ whole r x)
    → ((r : Registers) → whole r (sub (scope_in (slots_in s) r) a) ≡ sub (scope_in (slots_in s) r) t)
    → Made old mid next (Gives (model_in s) to.into to.after (λ own r. Becomes (whole r (lit (reg r to.free)))) next)
    → Made mid new pc (Evaluates s a (target_at to.free next) pc)
    → Made old new pc (Evaluates s t to pc)
part_first s a t frame whole to old mid new next pc low f is all h k = record {
  grown = extends_on old mid new h.grown k.grown;
  place = k.place;
  meant = λ own outer later e frames d c.
      let m = model_in s in
      let landed = h.meant own outer later (extends_on mid new later k.grown e) frames d c in
      let inner : Registers → List Frame = λ r. frame r ∷ frames r in
      let inner_low : DependsBelow to.free inner = λ r q x.
      ap (λ y. y ∷ frames q) (f r q x) ∙ ap (λ fs. frame r ∷ fs) (depends_more to.into to.free frames low d r q x) in
      sound_same m own outer later pc _ _
      (λ r. ap (λ z. inside (frames r) (Becomes z)) (sym (is r (sub (scope_in (slots_in s) r) a) ∙ all r)))
      (k.meant own outer later e inner inner_low
      (sound_same m own outer later next _ _ (λ r. ap (λ z. inside (frames r) (Becomes z)) (is r (lit (reg r to.free))))
      landed));
}

-- ---- `andalso` and `orelse`

decided_by : (b : Bool) (v : Value) (t : Tree) (fs : List Frame) (x : Option Bool)
    → inside fs (decided b v t x)
    ≡ by_truth b x (inside fs (Becomes (lit v))) (inside fs (Becomes t)) (inside [] (Raises (tagged badarg v)))
decided_by b v t fs None = refl
decided_by true v t fs (Some true) = refl
decided_by true v t fs (Some false) = refl
decided_by false v t fs (Some true) = refl
decided_by false v t fs (Some false) = refl

deciding_contracts : (m : Module) (own : ℕ) (b : Bool) (v : Value) (t : Tree)
    → contract m own (deciding b (lit v) t) ≡ Some (decided b v t (truth_of v))
deciding_contracts m own true v t = refl
deciding_contracts m own false v t = refl

abbrev deciding_frame : Bool → Tree → Frame
deciding_frame true t = or_else_of t
deciding_frame false t = and_also_of t

around_deciding : (b : Bool) (x t : Tree) → around (deciding_frame b t) x ≡ deciding b x t
around_deciding true x t = refl
around_deciding false x t = refl

sub_deciding : (e : ValueScope) (b : Bool) (x t : Tree) → deciding b (sub e x) (sub e t) ≡ sub e (deciding b x t)
sub_deciding e true x t = refl
sub_deciding e false x t = refl

pub evaluates_decided : (s : Scope) (b : Bool) (left right : Tree) (to : Target)
    (old one two three four five new : Code) (other landing raise truth step pc : ℕ) → to.into ≤ to.free
    → AreBelow to.free (slots_in s)
    → Made old one other (Evaluates s right to other)
    → Made one two landing (GivesValue to.into to.after (λ r. reg r to.free) landing)
    → Made two three raise (RaisesWith 10 to.free raise)
    → Made three four truth (TellsTruth b other (exits_to to.free landing raise) truth)
    → Put four five (step_of ops.Step) truth step
    → Made five new pc (Evaluates s left (target_at to.free step) pc)
    → Made old new pc (Evaluates s (deciding b left right) to pc)
evaluates_decided s b left right to old one two three four five new other landing raise truth step pc low below ho hl
    hr ht
    hs he =
    part_first s left (deciding b left right) (λ r. deciding_frame b (sub (scope_in (slots_in s) r) right))
    (λ r x. deciding b x (sub (scope_in (slots_in s) r) right)) to old five new step pc low
    (λ r q x. ap (λ e. deciding_frame b (sub e right)) (scope_same to.free (slots_in s) r q below x))
    (λ r x. around_deciding b x (sub (scope_in (slots_in s) r) right))
    (λ r. sub_deciding (scope_in (slots_in s) r) b left right) (record {
      grown = extends_on old one five ho.grown (extends_on one two five hl.grown
          (extends_on two three five hr.grown (extends_on three four five ht.grown hs.grown)));
      place = put_there four four five (step_of ops.Step) truth step ht.place (extends_itself four) hs;
      meant = λ own outer later e frames d c.
          let m = model_in s in
          let e4 = extends_on four five later hs.grown e in
          let e3 = extends_on three four later ht.grown e4 in
          let e2 = extends_on two three later hr.grown e3 in
          let e1 = extends_on one two later hl.grown e2 in
          let truths = ht.meant own outer later e4 m _ _ _ (hl.meant own outer later e2 m frames d c)
          (ho.meant own outer later e1 frames d c) (hr.meant own outer later e3 m) in
          step_sound m own outer four five later truth step frames
          (λ r. deciding b (lit (reg r to.free)) (sub (scope_in (slots_in s) r) right))
          (λ r. decided b (reg r to.free) (sub (scope_in (slots_in s) r) right) (truth_of (reg r to.free))) _ hs e
          (λ r. deciding_contracts m own b (reg r to.free) (sub (scope_in (slots_in s) r) right))
          (λ r. decided_by b (reg r to.free) (sub (scope_in (slots_in s) r) right) (frames r)
          (truth_of (reg r to.free)))
          truths;
    }) he

-- ---- matches, `case`, `if` and calls

pub match_of_none : (s : Scope) (to : Target) (old mid new : Code) (next pc : ℕ)
    → Made old mid next (GivesValue to.into to.after (λ r. reg r to.free) next)
    → Put mid new (step_of ops.Step) next pc
    → Made old new pc (Gives (model_in s) to.into to.after (λ own r. Becomes
    (match no_patterns (lit (reg r to.free)))) pc)
match_of_none s to old mid new next pc h k = record {
  grown = extends_on old mid new h.grown k.grown;
  place = put_there mid mid new (step_of ops.Step) next pc h.place (extends_itself mid) k;
  meant = λ own outer later e frames d c.
      step_sound (model_in s) own outer mid new later next pc frames (λ r. match no_patterns (lit (reg r to.free)))
      (λ r. Becomes (lit (reg r to.free))) _ k e (λ r. refl) (λ r. refl)
      (h.meant own outer later (extends_on mid new later k.grown e) (model_in s) frames d c);
}

pub evaluates_match : (s : Scope) (ps : Patterns) (a : Tree) (to : Target) (old mid new : Code) (next pc : ℕ)
    → to.into ≤ to.free → AreBelow to.free (slots_in s)
    → Made old mid next (Gives (model_in s) to.into to.after
    (λ own r. Becomes (match (sub_patterns (scope_in (slots_in s) r) ps) (lit (reg r to.free)))) next)
    → Made mid new pc (Evaluates s a (target_at to.free next) pc)
    → Made old new pc (Evaluates s (match ps a) to pc)
evaluates_match s ps a to old mid new next pc low below h k =
    part_first s a (match ps a) (λ r. match_of (sub_patterns (scope_in (slots_in s) r) ps))
    (λ r x. match (sub_patterns (scope_in (slots_in s) r) ps) x) to old mid new next pc low
    (λ r q x. ap (λ e. match_of (sub_patterns e ps)) (scope_same to.free (slots_in s) r q below x)) (λ r x. refl)
    (λ r. refl) h k

pub evaluates_bind : (s : Scope) (ps : Patterns) (a rest : Tree) (to : Target) (free : ℕ) (old mid new : Code)
    (next pc : ℕ) → to.into ≤ to.free → AreBelow to.free (slots_in s)
    → Made old mid next (Binds s ps rest to.free (inner_target to free) next)
    → Made mid new pc (Evaluates s a (target_at to.free next) pc)
    → Made old new pc (Evaluates s (bind ps a rest) to pc)
evaluates_bind s ps a rest to free old mid new next pc low below h k =
    part_first s a (bind ps a rest)
    (λ r. bind_of (sub_patterns (scope_in (slots_in s) r) ps) (sub (scope_in (slots_in s) r) rest))
    (λ r x. bind (sub_patterns (scope_in (slots_in s) r) ps) x (sub (scope_in (slots_in s) r) rest)) to old mid new
    next pc
    low
    (λ r q x. ap (λ e. bind_of (sub_patterns e ps) (sub e rest)) (scope_same to.free (slots_in s) r q below x))
    (λ r x. refl) (λ r. refl) h k

pub raise_chosen : (x : Option Tree) (e : Value) (fs : List Frame)
    → inside fs (body_or_raise x e) ≡ chosen x (λ b. inside fs (Becomes b)) (inside [] (Raises e))
raise_chosen None e fs = refl
raise_chosen (Some b) e fs = refl

pub evaluates_case : (s : Scope) (a : Tree) (ks : Clauses) (to : Target) (free : ℕ) (old one two three new : Code)
    (raise first step pc : ℕ) → to.into ≤ to.free → AreBelow to.free (slots_in s) → free ≡ to.free + 1
    → Made old one raise (RaisesWith 13 to.free raise)
    → Made one two first (Picks s ks (subjects.Value to.free) (inner_target to free) raise first)
    → Put two three (step_of ops.Step) first step
    → Made three new pc (Evaluates s a (target_at to.free step) pc)
    → Made old new pc (Evaluates s (case a ks) to pc)
evaluates_case s a ks to free old one two three new raise first step pc low below f hr hp hs he =
    part_first s a (case a ks) (λ r. case_of (sub_clauses (scope_in (slots_in s) r) ks))
    (λ r x. case x (sub_clauses (scope_in (slots_in s) r) ks)) to old three new step pc low
    (λ r q x. ap (λ e. case_of (sub_clauses e ks)) (scope_same to.free (slots_in s) r q below x)) (λ r x. refl)
    (λ r. refl) (record {
      grown = extends_on old one three hr.grown (extends_on one two three hp.grown hs.grown);
      place = put_there two two three (step_of ops.Step) first step hp.place (extends_itself two) hs;
      meant = λ own outer later e frames d c.
          let m = model_in s in
          let e2 = extends_on two three later hs.grown e in
          let e1 = extends_on one two later hp.grown e2 in
          let raises : Point = λ r. inside [] (Raises (no_case (reg r to.free))) in
          let raises_low : DependsBelow free raises = λ r q h.
          ap (λ v. inside [] (Raises (no_case v))) (h to.free (omega arith)) in
          let picks = hp.meant own outer later e2 frames raises d raises_low c (hr.meant own outer later e1 m) in
          step_sound m own outer two three later first step frames
          (λ r. case (lit (reg r to.free)) (sub_clauses (scope_in (slots_in s) r) ks))
          (λ r. body_or_raise (picked m own (sub_clauses (scope_in (slots_in s) r) ks) (reg r to.free))
          (no_case (reg r to.free))) _ hs e (λ r. refl)
          (λ r. raise_chosen (picked m own (sub_clauses (scope_in (slots_in s) r) ks) (reg r to.free))
          (no_case (reg r to.free)) (frames r)) picks;
    }) he

some_slot : (j k : ℕ) → Some j ≡ Some k → j ≡ k
some_slot j k e = cc

slot_below : (n : ℕ) (slots : List ℕ) (x k : ℕ) → AreBelow n slots → slice_get slots x ≡ Some k → k < n
slot_below n [] x k b e = absurd (cc)
slot_below n (s ∷ slots) zero k b e = omega (arith, b.0, some_slot s k e)
slot_below n (s ∷ slots) (suc x) k b e = slot_below n slots x k b.1 e

pub variable_below : (code : Code) (slots : List ℕ) (to : Target) (x k : ℕ) → IsTarget code slots to
    → slice_get slots x ≡ Some k → k < to.free
variable_below code slots to x k h e = slot_below to.free slots x k h.1 e

-- a `case` of a variable, whose value is in a register
pub evaluates_case_of : (s : Scope) (ks : Clauses) (to : Target) (x k : ℕ) (old one two new : Code)
    (raise first pc : ℕ) → k < to.free → slice_get (slots_in s) x ≡ Some k
    → Made old one raise (RaisesWith 13 k raise)
    → Made one two first (Picks s ks (subjects.Value k) to raise first)
    → Put two new (step_of ops.Step) first pc
    → Made old new pc (Evaluates s (case (var x) ks) to pc)
evaluates_case_of s ks to x k old one two new raise first pc below there hr hp hs = record {
  grown = extends_on old one new hr.grown (extends_on one two new hp.grown hs.grown);
  place = put_there two two new (step_of ops.Step) first pc hp.place (extends_itself two) hs;
  meant = λ own outer later e frames d c.
      let m = model_in s in
      let e2 = extends_on two new later hs.grown e in
      let e1 = extends_on one two later hp.grown e2 in
      let scoped : Registers → Clauses = λ r. sub_clauses (scope_in (slots_in s) r) ks in
      let raises : Point = λ r. inside [] (Raises (no_case (reg r k))) in
      let raises_low : DependsBelow to.free raises = λ r q h. ap (λ v. inside [] (Raises (no_case v))) (h k below) in
      let picks = hp.meant own outer later e2 frames raises d raises_low c (hr.meant own outer later e1 m) in
      step_sound m own outer two new later first pc frames (λ r. sub (scope_in (slots_in s) r) (case (var x) ks))
      (λ r. body_or_raise (picked m own (scoped r) (reg r k)) (no_case (reg r k))) _ hs e
      (λ r. ap (λ u. contract m own (case u (scoped r))) (slot_is s x k there r))
      (λ r. raise_chosen (picked m own (scoped r) (reg r k)) (no_case (reg r k)) (frames r)) picks;
}

pub evaluates_if : (s : Scope) (ks : Clauses) (to : Target) (free : ℕ) (old one two three new : Code)
    (raise first load pc : ℕ) → to.into ≤ to.free → AreBelow to.free (slots_in s) → free ≡ to.free + 1
    → Made old one raise (RaisesAtom 15 raise)
    → Made one two first (Picks s ks (subjects.Value to.free) (inner_target to free) raise first)
    → Made two three load (Loads (λ r. list none) to.free first load)
    → Put three new (step_of ops.Step) load pc
    → Made old new pc (Evaluates s (if_expression ks) to pc)
evaluates_if s ks to free old one two three new raise first load pc low below f hr hp hl hs = record {
  grown = extends_on old one new hr.grown (extends_on one two new hp.grown
      (extends_on two three new hl.grown hs.grown));
  place = put_there three three new (step_of ops.Step) load pc hl.place (extends_itself three) hs;
  meant = λ own outer later e frames d c.
      let m = model_in s in
      let e3 = extends_on three new later hs.grown e in
      let e2 = extends_on two three later hl.grown e3 in
      let e1 = extends_on one two later hp.grown e2 in
      let raises : Point = λ r. inside [] (Raises if_clause) in
      let go : Value → Point = λ v r. chosen (picked m own (sub_clauses (scope_in (slots_in s) r) ks) v)
      (λ z. inside (frames r) (Becomes z)) (raises r) in
      let go_low : (v : Value) → DependsBelow to.free (go v) = λ v.
      chosen_depends to.free (λ r. picked m own (sub_clauses (scope_in (slots_in s) r) ks) v)
      (λ z r. inside (frames r) (Becomes z)) raises
      (λ r q h. ap (λ x. picked m own (sub_clauses x ks) v) (scope_same to.free (slots_in s) r q below h))
      (λ z r q h. ap (λ fs. inside fs (Becomes z)) (depends_more to.into to.free frames low d r q h))
      (λ r q h. refl) in
      let picks = hp.meant own outer later e2 frames raises d (λ r q h. refl) c (hr.meant own outer later e1 m) in
      let loaded = hl.meant own outer later e3 m go go_low picks in
      step_sound m own outer three new later load pc frames
      (λ r. if_expression (sub_clauses (scope_in (slots_in s) r) ks))
      (λ r. body_or_raise (picked m own (sub_clauses (scope_in (slots_in s) r) ks) (list none)) if_clause) _ hs e
      (λ r. refl)
      (λ r. raise_chosen (picked m own (sub_clauses (scope_in (slots_in s) r) ks) (list none)) if_clause (frames r))
      loaded;
}

pub message_chosen : (x : Option Tree) (vs : Values) (fs : List Frame)
    → testing vs (option_map (plug fs) x) ≡ chosen x (λ b. testing vs (Some (plug fs b))) (testing vs None)
message_chosen None vs fs = refl
message_chosen (Some b) vs fs = refl

pub evaluates_receive : (s : Scope) (ks : Clauses) (to : Target) (free : ℕ) (old one two new : Code) (pass first pc : ℕ)
    → to.into ≤ to.free → AreBelow to.free (slots_in s) → free ≡ to.free + 1
    → Made old one pass (Passes to.free pass)
    → Made one two first (Picks s ks (subjects.Message to.free) (inner_target to free) pass first)
    → Put two new (free_of (ops.Await to.free)) first pc
    → Made old new pc (Evaluates s (receive ks) to pc)
evaluates_receive s ks to free old one two new pass first pc low below f hr hp hs = record {
  grown = extends_on old one new hr.grown (extends_on one two new hp.grown hs.grown);
  place = put_there two two new (free_of (ops.Await to.free)) first pc hp.place (extends_itself two) hs;
  meant = λ own outer later e frames d c.
      let m = model_in s in
      let e2 = extends_on two new later hs.grown e in
      let e1 = extends_on one two later hp.grown e2 in
      let passes : Point = λ r. testing (row r 0 to.free) None in
      let z : 0 + to.free ≤ free = omega (arith, f) in
      let passes_low : DependsBelow free passes =
      λ r q h. ap (λ vs. testing vs None) (row_same free 0 to.free r q z h) in
      let picks = hp.meant own outer later e2 frames passes d passes_low c (hr.meant own outer later e1 m) in
      let ks_at : Registers → Clauses = λ r. sub_clauses (scope_in (slots_in s) r) ks in
      let p : Point = λ r. inside (frames r) (Becomes (receive (ks_at r))) in
      let n : Point = λ r. testing (row r 0 to.free)
      (option_map (plug (frames r)) (picked m own (ks_at r) (reg r to.free))) in
      let receives : Receives m own to.free p n = record {
        frames = frames;
        clauses = ks_at;
        frames_below = depends_more to.into to.free frames low d;
        clauses_below = λ r q h. ap (λ x. sub_clauses x ks) (scope_same to.free (slots_in s) r q below h);
        awaited = λ r. refl;
        tested = λ r. refl;
      } in
      put_sound m own outer later two new (free_of (ops.Await to.free)) first pc p p n p hs e (charged_none m own p)
      receives
      (sound_same m own outer later first _ _
      (λ r. message_chosen (picked m own (ks_at r) (reg r to.free)) (row r 0 to.free) (frames r)) picks)
      (nowhere m own outer two later p);
}

-- a call whose value goes on in this activation
abbrev pub call_of_row : ℕ → ℕ → ℕ → Instruction
call_of_row f free n = step_of (ops.Call (record { 0 = f }) free n)

call_contracts : (m : Module) (own f : ℕ) (vs : Values)
    → contract m own (call f (literals vs)) ≡ Some (call_of m own f vs)
call_contracts m own f vs = ap (option_map (entered m own (slice_get m.functions f))) (values_are vs)

pub calls_on : (f n : ℕ) (to : Target) (old one two new : Code) (end load pc : ℕ) → to.into ≤ to.free
    → Made old one end (Lands to.into to.after end)
    → Made one two load (Loads (λ r. reg r to.free) to.into end load)
    → Put two new (call_of_row f to.free n) load pc → Made old new pc (Calls f n to pc)
calls_on f n to old one two new end load pc low hl hm hc = record {
  grown = extends_on old one new hl.grown (extends_on one two new hm.grown hc.grown);
  place = put_there two two new (call_of_row f to.free n) load pc hm.place (extends_itself two) hc;
  meant = λ own outer later e m takes frames d c.
      let e2 = extends_on two new later hc.grown e in
      let e1 = extends_on one two later hm.grown e2 in
      let landed = hl.meant own outer later e1 m frames d c in
      let moved = hm.meant own outer later e2 m (λ v r. inside (frames r) (Becomes (lit v)))
      (λ v r q x. ap (λ fs. inside fs (Becomes (lit v))) (d r q x)) landed in
      let c' : Point = λ r. inside (frames r) (call_of m own f (row r to.free n)) in
      let n' : Point = λ r. inside (frames r) (Becomes (lit (reg r to.free))) in
      let answers : Answers (λ r. call_of m own f (row r to.free n)) to.free c' n' = record {
        frames = frames;
        below = depends_more to.into to.free frames low d;
        asked = λ r. refl;
        answered = λ r. refl;
      } in
      put_sound m own outer later two new (call_of_row f to.free n) load pc _ c' n' n' hc e
      (charged_one m own frames (λ r. call f (literals (row r to.free n))) (λ r. call_of m own f (row r to.free n))
      (λ r. call_contracts m own f (row r to.free n))) (takes, answers) moved (nowhere m own outer two later n');
}

-- a call in place of the activation
abbrev pub tail_of_row : ℕ → ℕ → ℕ → Instruction
tail_of_row f free n = step_of (ops.Tail (record { 0 = f }) free n)

pub calls_last : (f n into free : ℕ) (old new : Code) (pc : ℕ) → 1 ≤ length old.instructions
    → Pushed old new (tail_of_row f free n) pc
    → Made old new pc (Calls f n (record { into = into; free = free; after = way.Return }) pc)
calls_last f n into free old new pc l h = record {
  grown = h.grown;
  place = (let x = h.last in let y = h.count in (omega arith, omega arith));
  meant = λ own outer later e m takes frames d c.
      let c' : Point = λ r. inside (frames r) (call_of m own f (row r free n)) in
      end_sound m own outer later old new (tail_of_row f free n) pc _ c' c' c' h e
      (charged_one m own frames (λ r. call f (literals (row r free n))) (λ r. call_of m own f (row r free n))
      (λ r. call_contracts m own f (row r free n)))
      (takes, λ r. ap (λ fs. inside fs (call_of m own f (row r free n))) (c r)) (λ g. g)
      (nowhere m own outer old later c');
}

pub evaluates_call : (s : Scope) (f : ℕ) (ts : Trees) (n : ℕ) (to : Target) (old mid new : Code) (next pc : ℕ)
    → to.into ≤ to.free → Takes (model_in s) f n
    → Made old mid next (Calls f n to next) → Made mid new pc (EvaluatesAll s ts n to.free next pc)
    → Made old new pc (Evaluates s (call f ts) to pc)
evaluates_call s f ts n to old mid new next pc low takes h k = record {
  grown = extends_on old mid new h.grown k.grown;
  place = k.place;
  meant = λ own outer later e frames d c.
      k.meant own outer later e (call_holder f n) frames (λ r. none) (depends_more to.into to.free frames low d)
      (λ r q x. refl) (λ r. omega arith)
      (h.meant own outer later (extends_on mid new later k.grown e) (model_in s) takes frames d c);
}

pub evaluates_undefined : (s : Scope) (f : ℕ) (ts : Trees) (n : ℕ) (to : Target) (old mid new : Code) (next pc : ℕ)
    → to.into ≤ to.free → slice_get (model_in s).functions f ≡ None
    → Made old mid next (StepsToRaise 17 next) → Made mid new pc (EvaluatesAll s ts n to.free next pc)
    → Made old new pc (Evaluates s (call f ts) to pc)
evaluates_undefined s f ts n to old mid new next pc low absent h k = record {
  grown = extends_on old mid new h.grown k.grown;
  place = k.place;
  meant = λ own outer later e frames d c.
      k.meant own outer later e (call_holder f n) frames (λ r. none) (depends_more to.into to.free frames low d)
      (λ r q x. refl) (λ r. omega arith)
      (h.meant own outer later (extends_on mid new later k.grown e) (model_in s) frames _
      (λ r. call_contracts (model_in s) own f (row r to.free n)
      ∙ ap (λ x. Some (entered (model_in s) own x (row r to.free n))) absent));
}
