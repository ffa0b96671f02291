-- Clauses and matches.
use Rattle.std.proofs.Common.{◌≡◌, ◌<◌, ◌≤◌, ◌+◌, ℕ, Bool, true, false, List, [], ◌++◌, Option, Some, None, length}
use Rattle.std.proofs.Common.{option_map, refl, sym, ap, ◌∙◌, subst, arith}
use Rattle.std.specs.Prelude.{if◌then◌else◌, option_and_then}
use Rattle.std.proofs.lemmas.List.{append-nil}
use Rattle.pf_terms.specs.Value.{Value, atom}
use Rattle.pf_syntax.specs.Pattern.{Pattern, Patterns, no_patterns, pattern}
use Rattle.pf_syntax.specs.Tree.{Tree, Clauses, Guard, lit, bind}
use Rattle.pf_syntax.specs.Tree.{no_clauses, clause}
use Rattle.pf_patterns.specs.Fit.{ValueScope, fit}
use Rattle.pf_patterns.specs.Substitution.{sub, sub_clauses, sub_pattern, sub_patterns, sub_guard}
use Rattle.pf_patterns.proofs.FitFrom.{fit_from}
use Rattle.pf_patterns.proofs.Substituted.{patterns_twice, sub_twice, guard_twice}
use Rattle.pf_ops.specs.Guards.{guard_holds}
use Rattle.pf_ops.specs.Reasons.{tagged, no_match}
use Rattle.pf_model.specs.Module.{Module, name_in}
use Rattle.pf_model.specs.Contraction.{Change, Becomes, Raises, contract, body_opened, or_later, picked}
use Rattle.pf_model.specs.Contraction.{fits_or, matched, bound, matches_left}
use Rattle.pf_model.specs.Context.{Frame, Move, goes_on, running}
use Rattle.pf_code.specs.Registers.{Registers, reg, row, scope_in, DependsBelow}
use Rattle.pf_code.specs.Points.{Point, inside, plug, testing}
use Rattle.pf_code.specs.Sound.{Code, IsSoundAt, TakesMessage}
use Rattle.pf_code.specs.declared.instruction.Instruction.{Instruction}
use Rattle.pf_code.specs.declared.instruction.Operation.TheVariants as ops
use Rattle.pf_code.specs.declared.instruction.Source.TheVariants as source
use Rattle.pf_code.proofs.Charges.{charged_none, charged_one}
use Rattle.pf_compile_patterns.specs.declared.plan.Plan.{Plan}
use Rattle.pf_compile_patterns.specs.declared.scope.Scope.{Scope}
use Rattle.pf_compile.specs.declared.target.Target.{Target}
use Rattle.pf_compile_patterns.specs.Maker.{IsPlace}
use Rattle.pf_compile_patterns.specs.Scopes.{model_in, slots_in}
use Rattle.pf_compile_patterns.specs.Growth.{Extends, Pushed, Put, Made}
use Rattle.pf_compile_patterns.specs.Tests.{chosen, Carried, Lays}
use Rattle.pf_compile_patterns.specs.Planned.{AreBelow, Asked, fit_at, Planned}
use Rattle.pf_compile_patterns.specs.Guarded.{AsksBelow, holds_at}
use Rattle.pf_compile.specs.Evaluated.{Begins, Continues, Evaluates, GivesValue, free_of, step_of, Passes, Picks}
use Rattle.pf_compile.specs.Evaluated.{Matches, Binds, RaisesWith, RaisesAtom}
use Rattle.pf_compile.specs.Scopes.{begun, register_of}
use Rattle.pf_compile.specs.declared.target.Subject.{Subject}
use Rattle.pf_compile.specs.declared.target.Subject.TheVariants as subjects
use Rattle.pf_compile_patterns.proofs.Grown.{extends_itself, extends_on, end_sound, put_sound, nowhere}
use Rattle.pf_compile_patterns.proofs.Laid.{sound_same}
use Rattle.pf_compile_patterns.proofs.Dependent.{depends_more, scope_same, row_same, chosen_depends}
use Rattle.pf_compile_patterns.proofs.Guarded.{put_there, exits_to}

-- ---- raises

abbrev pub raise_with : ℕ → ℕ → Instruction
raise_with a register = record {
  operation = ops.RaiseWith (record { 0 = a }) (source.Register register);
  contractions = 0;
  otherwise = 0;
}

pub raises_with : (old new : Code) (a register pc : ℕ) → 1 ≤ length old.instructions
    → Pushed old new (raise_with a register) pc → Made old new pc (RaisesWith a register pc)
raises_with old new a register pc l h = record {
  grown = h.grown;
  place = (let x = h.last in let y = h.count in (omega arith, omega arith));
  meant = λ own outer later e m.
      let p : Point = λ r. inside [] (Raises (tagged (atom a) (reg r register))) in
      end_sound m own outer later old new (raise_with a register) pc p p p p h e (charged_none m own p) (λ r. refl)
      (λ g. g) (nowhere m own outer old later p);
}

abbrev pub raise_atom : ℕ → Instruction
raise_atom a = record { operation = ops.Raise (record { 0 = a }); contractions = 0; otherwise = 0 }

pub raises_atom : (old new : Code) (a pc : ℕ) → 1 ≤ length old.instructions → Pushed old new (raise_atom a) pc
    → Made old new pc (RaisesAtom a pc)
raises_atom old new a pc l h = record {
  grown = h.grown;
  place = (let x = h.last in let y = h.count in (omega arith, omega arith));
  meant = λ own outer later e m.
      let p : Point = λ r. inside [] (Raises (atom a)) in
      end_sound m own outer later old new (raise_atom a) pc p p p p h e (charged_none m own p) (λ r. refl)
      (λ g. g) (nowhere m own outer old later p);
}

-- ---- patterns over the values in scope

fit_in : (p : Pattern) (v : Value) (e : ValueScope)
    → fit p v e ≡ option_map (λ f. e ++ f) (fit (sub_pattern e p) v [])
fit_in p v e = ap (fit p v) (sym (append-nil e)) ∙ fit_from e p v []

pub opened : (m : Module) (own : ℕ) (g : Guard) (b : Tree) (h : ValueScope) (later : Option Tree) (go : Tree → Move)
    (o : Move) (c : Bool) → guard_holds (name_in m) own (sub_guard h g) ≡ c
    → chosen (or_later (body_opened m own g b h) later) go o
    ≡ (if c then go (sub h b) else chosen later go o)
opened m own g b h later go o true e = rw e refl
opened m own g b h later go o false e = rw e refl

clause_by : (m : Module) (own : ℕ) (e : ValueScope) (g : Guard) (b : Tree) (later : Option Tree) (go : Tree → Move)
    (o : Move) (x : Option ValueScope)
    → chosen (or_later (option_and_then (body_opened m own (sub_guard e g) (sub e b)) x) later) go o
    ≡ chosen (option_map (λ f. e ++ f) x)
    (λ h. if guard_holds (name_in m) own (sub_guard h g) then go (sub h b) else chosen later go o)
    (chosen later go o)
clause_by m own e g b later go o None = refl
clause_by m own e g b later go o (Some f) =
    opened m own (sub_guard e g) (sub e b) f later go o
    (guard_holds (name_in m) own (sub_guard f (sub_guard e g))) refl
    ∙ ap (λ z. if guard_holds (name_in m) own z then go (sub f (sub e b)) else chosen later go o) (guard_twice e f g)
    ∙ ap (λ z. if guard_holds (name_in m) own (sub_guard (e ++ f) g) then go z else chosen later go o) (sub_twice e f b)

pub clause_chosen : (m : Module) (own : ℕ) (e : ValueScope) (p : Pattern) (g : Guard) (b : Tree) (ks : Clauses)
    (v : Value) (go : Tree → Move) (o : Move)
    → chosen (picked m own (sub_clauses e (clause p g b ks)) v) go o
    ≡ chosen (fit p v e)
    (λ h. if guard_holds (name_in m) own (sub_guard h g) then go (sub h b)
    else chosen (picked m own (sub_clauses e ks) v) go o)
    (chosen (picked m own (sub_clauses e ks) v) go o)
clause_chosen m own e p g b ks v go o =
    clause_by m own e g b (picked m own (sub_clauses e ks) v) go o (fit (sub_pattern e p) v [])
    ∙ ap (λ x. chosen x (λ h. if guard_holds (name_in m) own (sub_guard h g) then go (sub h b)
    else chosen (picked m own (sub_clauses e ks) v) go o) (chosen (picked m own (sub_clauses e ks) v) go o))
    (sym (fit_in p v e))

-- ---- clauses

pub picks_none : (s : Scope) (subject : Subject) (to : Target) (old : Code) (otherwise : ℕ) → IsPlace old otherwise
    → Made old old otherwise (Picks s no_clauses subject to otherwise otherwise)
picks_none s subject to old otherwise place = record {
  grown = extends_itself old;
  place = place;
  meant = λ own outer later e frames o d g c f. f;
}

picked_depends : (s : Scope) (ks : Clauses) (own n subject : ℕ) → AreBelow n (slots_in s) → subject < n
    → DependsBelow n (λ r. picked (model_in s) own (sub_clauses (scope_in (slots_in s) r) ks) (reg r subject))
picked_depends s ks own n subject b l r q h =
    ap (λ e. picked (model_in s) own (sub_clauses e ks) (reg q subject)) (scope_same n (slots_in s) r q b h)
    ∙ ap (picked (model_in s) own (sub_clauses (scope_in (slots_in s) r) ks)) (h subject l)

-- ---- the beginning of a body

pub begun_depends : (subject : Subject) (n : ℕ) (t : Registers → Tree) → register_of subject < n → DependsBelow n t
    → DependsBelow n (λ r. begun subject r (t r))
begun_depends (subjects.Value s) n t l d r q h = ap (λ z. goes_on (running z)) (d r q h)
begun_depends (subjects.Message s) n t l d r q h =
    let z : 0 + s ≤ n = omega (arith, l) in
    ap (λ vs. testing vs (Some (t q))) (row_same n 0 s r q z h) ∙ ap (λ u. testing (row r 0 s) (Some u)) (d r q h)

pub begins_value : (s body : ℕ) (old : Code) → IsPlace old body
    → Made old old body (Begins (subjects.Value s) body body)
begins_value s body old place = record {
  grown = extends_itself old;
  place = place;
  meant = λ own outer later e m t f. f;
}

pub begins_message : (s body : ℕ) (old new : Code) (pc : ℕ) → IsPlace old body
    → Put old new (free_of ops.Take) body pc → Made old new pc (Begins (subjects.Message s) body pc)
begins_message s body old new pc place h = record {
  grown = h.grown;
  place = put_there old old new (free_of ops.Take) body pc place (extends_itself old) h;
  meant = λ own outer later e m t f.
      let p : Point = λ r. testing (row r 0 s) (Some (t r)) in
      let takes : TakesMessage p (λ r. goes_on (running (t r))) = record {
        below = λ r. row r 0 s;
        becomes = t;
        taken = λ r. refl;
        body = λ r. refl;
      } in
      put_sound m own outer later old new (free_of ops.Take) body pc p p (λ r. goes_on (running (t r))) p h e
      (charged_none m own p) takes f (nowhere m own outer old later p);
}

pub passes_over : (old new : Code) (register pc : ℕ) → 1 ≤ length old.instructions
    → Pushed old new (free_of (ops.Pass register)) pc → Made old new pc (Passes register pc)
passes_over old new register pc l h = record {
  grown = h.grown;
  place = (let x = h.last in let y = h.count in (omega arith, omega arith));
  meant = λ own outer later e m.
      let p : Point = λ r. testing (row r 0 register) None in
      end_sound m own outer later old new (free_of (ops.Pass register)) pc p p p p h e (charged_none m own p)
      (λ r. refl) (λ g. g) (nowhere m own outer old later p);
}

-- ---- patterns and guards over the values in scope

plugged_depends : (n : ℕ) (frames : Registers → List Frame) (t : Registers → Tree) → DependsBelow n frames
    → DependsBelow n t → DependsBelow n (λ r. plug (frames r) (t r))
plugged_depends n frames t d k r q h = ap (λ fs. plug fs (t q)) (d r q h) ∙ ap (plug (frames r)) (k r q h)

if_depends : (n : ℕ) (b : Bool) (x y : Point) → DependsBelow n x → DependsBelow n y
    → DependsBelow n (λ r. if b then x r else y r)
if_depends n true x y d k r q h = d r q h
if_depends n false x y d k r q h = k r q h

pub guarded_depends : (s : Scope) (n : ℕ) (own : ℕ) (g : Guard) (b : Tree) (frames : Registers → List Frame) (o : Point)
    (e : ValueScope) → DependsBelow n frames → DependsBelow n o
    → DependsBelow n (λ r. if guard_holds (name_in (model_in s)) own (sub_guard e g)
    then inside (frames r) (Becomes (sub e b)) else o r)
guarded_depends s n own g b frames o e d k r q h =
    ap (λ fs. if guard_holds (name_in (model_in s)) own (sub_guard e g) then inside fs (Becomes (sub e b)) else o q)
    (d r q h)
    ∙ ap (λ z. if guard_holds (name_in (model_in s)) own (sub_guard e g)
    then inside (frames r) (Becomes (sub e b)) else z) (k r q h)

pub body_depends : (slots : List ℕ) (n : ℕ) (b : Tree) (frames : Registers → List Frame) → AreBelow n slots
    → DependsBelow n frames → DependsBelow n (λ r. inside (frames r) (Becomes (sub (scope_in slots r) b)))
body_depends slots n b frames l d r q h =
    ap (λ fs. inside fs (Becomes (sub (scope_in slots q) b))) (d r q h)
    ∙ ap (λ e. inside (frames r) (Becomes (sub e b))) (scope_same n slots r q l h)

-- a plan of a pattern on a register, from the variables in scope and with no test
pub record Begun (s inner : Scope) (to : Target) (before after : Plan) : Type 0 where
  pub model : model_in inner ≡ model_in s
  pub inner_slots : slots_in inner ≡ after.slots.items
  pub slots : before.slots.items ≡ slots_in s
  pub free : before.free ≡ to.free
  pub tests : before.tests.items ≡ []

abbrev pub inner_target : Target → ℕ → Target
inner_target to free = record { into = to.into; free = free; after = to.after }

module _ (s inner : Scope) (to : Target) (before after : Plan) (begun : Begun s inner to before after)
    (low : to.into ≤ to.free) (m : Module) (is_model : m ≡ model_in s) (own : ℕ) (outer : List Frame) (later : Code)
  where
    -- what goes on after the tests of a pattern
    pub tested : (one two : Code) (x : Asked) (next then_at pc : ℕ) (go : ValueScope → Point) (o : Point)
        → 1 ≤ next → Planned one two before after x → Extends two later
        → Lays after.tests.items then_at next pc own outer later → ((e : ValueScope) → DependsBelow to.free (go e))
        → DependsBelow to.free o → IsSoundAt m own outer later then_at (λ r. go (scope_in after.slots.items r) r)
        → IsSoundAt m own outer later next o
        → IsSoundAt m own outer later pc (λ r. chosen (x r (scope_in (slots_in s) r)) (λ e. go e r) (o r))
    tested one two x next then_at pc go o l h e lays g d n f =
        let led = h.leads m own outer later next go o e l
        (λ z. subst (λ k. DependsBelow k (go z)) (sym begun.free) (g z))
        (subst (λ k. DependsBelow k o) (sym begun.free) d) in
        let all : after.tests.items ≡ h.added = h.tests ∙ ap (λ ts. ts ++ h.added) begun.tests in
        subst (λ ss. IsSoundAt m own outer later pc (λ r. chosen (x r (scope_in ss r)) (λ e. go e r) (o r))) begun.slots
        (lays m _ _ o (subst (λ ts. Carried m own outer later.constants next ts _ _ o) (sym all) led) n f)

pub picks_more : (s inner : Scope) (p : Pattern) (g : Guard) (b : Tree) (ks : Clauses) (subject : Subject) (to : Target)
    (before after : Plan) (old one two three begins four new : Code) (otherwise next body start guard pc : ℕ)
    → to.into ≤ to.free → register_of subject < to.free → AreBelow to.free (slots_in s)
    → Begun s inner to before after
    → Made old one next (Picks s ks subject to otherwise next)
    → Planned one two before after (fit_at p (register_of subject))
    → Made two three body (Evaluates inner b (inner_target to after.free) body)
    → Made three begins start (Begins subject body start)
    → Made begins four guard (AsksBelow (model_in inner) (exits_to after.free start next) guard (holds_at inner g))
    → Made four new pc (Lays after.tests.items guard next pc)
    → Made old new pc (Picks s (clause p g b ks) subject to otherwise pc)
picks_more s inner p g b ks subject to before after old one two three begins four new otherwise next body start guard pc
    low sub_low below opens hk hp hb hs hg hl = record {
      grown = extends_on old one new hk.grown (extends_on one two new hp.grown
          (extends_on two three new hb.grown (extends_on three begins new hs.grown
          (extends_on begins four new hg.grown hl.grown))));
      place = hl.place;
      meant = λ own outer later e frames o d k c f.
          let m = model_in s in
          let at = register_of subject in
          let e4 = extends_on four new later hl.grown e in
          let e3 = extends_on begins four later hg.grown e4 in
          let es = extends_on three begins later hs.grown e3 in
          let e2 = extends_on two three later hb.grown es in
          let e1 = extends_on one two later hp.grown e2 in
          let go_on : Tree → Point = λ z r. begun subject r (plug (frames r) z) in
          let rest : Point = λ r. chosen (picked m own (sub_clauses (scope_in (slots_in s) r) ks) (reg r at))
          (λ z. go_on z r) (o r) in
          let rest_sound : IsSoundAt m own outer later next rest = hk.meant own outer later e1 frames o d k c f in
          let frames_low : DependsBelow to.free frames = depends_more to.into to.free frames low d in
          let go_on_low : (z : Tree) → DependsBelow to.free (go_on z) = λ z.
          begun_depends subject to.free (λ r. plug (frames r) z) sub_low
          (plugged_depends to.free frames (λ r. z) frames_low (λ r q h. refl)) in
          let rest_low : DependsBelow to.free rest =
          chosen_depends to.free (λ r. picked m own (sub_clauses (scope_in (slots_in s) r) ks) (reg r at))
          go_on o (picked_depends s ks own to.free at below sub_low) go_on_low k in
          let bf = opens.free in
          let bh = hp.higher in
          let up : to.free ≤ after.free = omega arith in
          let tree_at : Registers → Tree = λ r. plug (frames r) (sub (scope_in after.slots.items r) b) in
          let body_point : Point = λ r. inside (frames r) (Becomes (sub (scope_in after.slots.items r) b)) in
          let body_sound : IsSoundAt (model_in inner) own outer later body body_point =
          subst (λ ss. IsSoundAt (model_in inner) own outer later body
          (λ r. inside (frames r) (Becomes (sub (scope_in ss r) b)))) opens.inner_slots
          (hb.meant own outer later es frames d
          (subst (λ z. Continues z own outer later to.after to.into frames) (sym opens.model) c)) in
          let start_point : Point = λ r. begun subject r (tree_at r) in
          let start_sound : IsSoundAt (model_in inner) own outer later start start_point =
          hs.meant own outer later e3 (model_in inner) tree_at body_sound in
          let start_low : DependsBelow after.free start_point =
          begun_depends subject after.free tree_at (omega (arith, sub_low, up))
          (plugged_depends after.free frames (λ r. sub (scope_in after.slots.items r) b)
          (depends_more to.free after.free frames up frames_low)
          (λ r q h. ap (λ z. sub z b) (scope_same after.free after.slots.items r q hp.below h))) in
          let go : ValueScope → Point = λ z r.
          if guard_holds (name_in m) own (sub_guard z g) then go_on (sub z b) r else rest r in
          let asked = hg.meant own outer later e4 start_point rest start_low
          (depends_more to.free after.free rest up rest_low)
          start_sound (subst (λ z. IsSoundAt z own outer later next rest) (sym opens.model) rest_sound) in
          let asked_in : IsSoundAt m own outer later guard (λ r. if guard_holds (name_in m) own
          (sub_guard (scope_in (slots_in inner) r) g) then start_point r else rest r) =
          subst (λ z. IsSoundAt z own outer later guard (λ r. if guard_holds (name_in z) own
          (sub_guard (scope_in (slots_in inner) r) g) then start_point r else rest r)) opens.model asked in
          let guarded : IsSoundAt m own outer later guard (λ r. go (scope_in after.slots.items r) r) =
          subst (λ ss. IsSoundAt m own outer later guard (λ r. if guard_holds (name_in m) own
          (sub_guard (scope_in ss r) g) then start_point r else rest r)) opens.inner_slots asked_in in
          sound_same m own outer later pc _ _
          (λ r. clause_chosen m own (scope_in (slots_in s) r) p g b ks (reg r at) (λ z. go_on z r) (o r))
          (tested s inner to before after opens low m refl own outer later one two (fit_at p at) next guard pc
          go rest (hk.place.0) hp e2 (hl.meant own outer later e)
          (λ z. if_depends to.free (guard_holds (name_in m) own (sub_guard z g)) (go_on (sub z b)) rest
          (go_on_low (sub z b)) rest_low) rest_low guarded rest_sound);
    }

-- ---- matches

match_by : (e : ValueScope) (ps : Patterns) (v : Value) (fs : List Frame) (x : Option ValueScope)
    → inside fs (fits_or x (λ f. Becomes (matches_left (sub_patterns f (sub_patterns e ps)) v)) (Raises (no_match v)))
    ≡ chosen (option_map (λ f. e ++ f) x) (λ h. inside fs (Becomes (matches_left (sub_patterns h ps) v)))
    (inside [] (Raises (no_match v)))
match_by e ps v fs None = refl
match_by e ps v fs (Some f) = ap (λ z. inside fs (Becomes (matches_left z v))) (patterns_twice e f ps)

match_chosen : (e : ValueScope) (p : Pattern) (ps : Patterns) (v : Value) (fs : List Frame)
    → inside fs (matched (sub_patterns e (pattern p ps)) v)
    ≡ chosen (fit p v e) (λ h. inside fs (Becomes (matches_left (sub_patterns h ps) v)))
    (inside [] (Raises (no_match v)))
match_chosen e p ps v fs = match_by e ps v fs (fit (sub_pattern e p) v [])
    ∙ ap (λ x. chosen x (λ h. inside fs (Becomes (matches_left (sub_patterns h ps) v)))
    (inside [] (Raises (no_match v))))
    (sym (fit_in p v e))

bind_by : (e : ValueScope) (ps : Patterns) (v : Value) (t : Tree) (fs : List Frame) (x : Option ValueScope)
    → inside fs (fits_or x (λ f. Becomes (bind (sub_patterns f (sub_patterns e ps)) (lit v) (sub f (sub e t))))
    (Raises (no_match v)))
    ≡ chosen (option_map (λ f. e ++ f) x) (λ h. inside fs (Becomes (bind (sub_patterns h ps) (lit v) (sub h t))))
    (inside [] (Raises (no_match v)))
bind_by e ps v t fs None = refl
bind_by e ps v t fs (Some f) =
    ap (λ z. inside fs (Becomes (bind z (lit v) (sub f (sub e t))))) (patterns_twice e f ps)
    ∙ ap (λ z. inside fs (Becomes (bind (sub_patterns (e ++ f) ps) (lit v) z))) (sub_twice e f t)

bind_chosen : (e : ValueScope) (p : Pattern) (ps : Patterns) (v : Value) (t : Tree) (fs : List Frame)
    → inside fs (bound (sub_patterns e (pattern p ps)) v (sub e t))
    ≡ chosen (fit p v e) (λ h. inside fs (Becomes (bind (sub_patterns h ps) (lit v) (sub h t))))
    (inside [] (Raises (no_match v)))
bind_chosen e p ps v t fs = bind_by e ps v t fs (fit (sub_pattern e p) v [])
    ∙ ap (λ x. chosen x (λ h. inside fs (Becomes (bind (sub_patterns h ps) (lit v) (sub h t))))
    (inside [] (Raises (no_match v)))) (sym (fit_in p v e))

-- a step of one contraction, to a point that the contraction leads to
pub step_sound : (m : Module) (own : ℕ) (outer : List Frame) (old new later : Code) (next pc : ℕ)
    (frames : Registers → List Frame) (t : Registers → Tree) (c : Registers → Change) (n : Point)
    → Put old new (step_of ops.Step) next pc → Extends new later
    → ((r : Registers) → contract m own (t r) ≡ Some (c r)) → ((r : Registers) → inside (frames r) (c r) ≡ n r)
    → IsSoundAt m own outer later next n → IsSoundAt m own outer later pc (λ r. inside (frames r) (Becomes (t r)))
step_sound m own outer old new later next pc frames t c n h e contracts is s =
    put_sound m own outer later old new (step_of ops.Step) next pc _ (λ r. inside (frames r) (c r)) n n h e
    (charged_one m own frames t c contracts) is s (nowhere m own outer old later n)

no_match_depends : (n subject : ℕ) → subject < n → DependsBelow n (λ r. inside [] (Raises (no_match (reg r subject))))
no_match_depends n subject l r q h = ap (λ v. inside [] (Raises (no_match v))) (h subject l)

pub matches_none : (s : Scope) (subject : ℕ) (to : Target) (old new : Code) (pc : ℕ)
    → Made old new pc (GivesValue to.into to.after (λ r. reg r subject) pc)
    → Made old new pc (Matches s no_patterns subject to pc)
matches_none s subject to old new pc h = record {
  grown = h.grown;
  place = h.place;
  meant = λ own outer later e. h.meant own outer later e (model_in s);
}

pub matches_more : (s inner : Scope) (p : Pattern) (ps : Patterns) (subject : ℕ) (to : Target) (before after : Plan)
    (old one two three four new : Code) (next raise first pc : ℕ) → to.into ≤ to.free → subject < to.free
    → AreBelow to.free (slots_in s) → Begun s inner to before after
    → Planned old one before after (fit_at p subject)
    → Made one two next (Matches inner ps subject (inner_target to after.free) next)
    → Made two three raise (RaisesWith 12 subject raise)
    → Made three four first (Lays after.tests.items next raise first)
    → Put four new (step_of ops.Step) first pc
    → Made old new pc (Matches s (pattern p ps) subject to pc)
matches_more s inner p ps subject to before after old one two three four new next raise first pc low sub_low below begun
    hp hn hr hl hs = record {
      grown = extends_on old one new hp.grown (extends_on one two new hn.grown
          (extends_on two three new hr.grown (extends_on three four new hl.grown hs.grown)));
      place = put_there four four new (step_of ops.Step) first pc hl.place (extends_itself four) hs;
      meant = λ own outer later e frames d c.
          let m = model_in s in
          let e4 = extends_on four new later hs.grown e in
          let e3 = extends_on three four later hl.grown e4 in
          let e2 = extends_on two three later hr.grown e3 in
          let e1 = extends_on one two later hn.grown e2 in
          let frames_low : DependsBelow to.free frames = depends_more to.into to.free frames low d in
          let go : ValueScope → Point = λ z r. inside (frames r)
          (Becomes (matches_left (sub_patterns z ps) (reg r subject))) in
          let go_low : (z : ValueScope) → DependsBelow to.free (go z) = λ z r q h.
          ap (λ fs. inside fs (Becomes (matches_left (sub_patterns z ps) (reg q subject)))) (frames_low r q h)
          ∙ ap (λ v. inside (frames r) (Becomes (matches_left (sub_patterns z ps) v))) (h subject sub_low) in
          let raises : Point = λ r. inside [] (Raises (no_match (reg r subject))) in
          let goes_on : IsSoundAt (model_in inner) own outer later next (λ r. go (scope_in (slots_in inner) r) r) =
          hn.meant own outer later e2 frames d
          (subst (λ z. Continues z own outer later to.after to.into frames) (sym begun.model) c) in
          let goes_in : IsSoundAt m own outer later next (λ r. go (scope_in after.slots.items r) r) =
          subst (λ ss. IsSoundAt m own outer later next (λ r. go (scope_in ss r) r)) begun.inner_slots
          (subst (λ z. IsSoundAt z own outer later next (λ r. go (scope_in (slots_in inner) r) r)) begun.model
          goes_on) in
          let tests = tested s inner to before after begun low m refl own outer later old one (fit_at p subject)
          raise next first go raises hr.place.0 hp e1 (hl.meant own outer later e4) go_low
          (no_match_depends to.free subject sub_low) goes_in (hr.meant own outer later e3 m) in
          step_sound m own outer four new later first pc frames
          (λ r. matches_left (sub_patterns (scope_in (slots_in s) r) (pattern p ps)) (reg r subject))
          (λ r. matched (sub_patterns (scope_in (slots_in s) r) (pattern p ps)) (reg r subject)) _ hs e (λ r. refl)
          (λ r. match_chosen (scope_in (slots_in s) r) p ps (reg r subject) (frames r)) tests;
    }

pub binds_none : (s : Scope) (rest : Tree) (subject : ℕ) (to : Target) (old mid new : Code) (next pc : ℕ)
    → Made old mid next (Evaluates s rest to next) → Put mid new (step_of ops.Step) next pc
    → Made old new pc (Binds s no_patterns rest subject to pc)
binds_none s rest subject to old mid new next pc h k = record {
  grown = extends_on old mid new h.grown k.grown;
  place = put_there mid mid new (step_of ops.Step) next pc h.place (extends_itself mid) k;
  meant = λ own outer later e frames d c.
      step_sound (model_in s) own outer mid new later next pc frames
      (λ r. bind no_patterns (lit (reg r subject)) (sub (scope_in (slots_in s) r) rest))
      (λ r. Becomes (sub (scope_in (slots_in s) r) rest)) _ k e (λ r. refl) (λ r. refl)
      (h.meant own outer later (extends_on mid new later k.grown e) frames d c);
}

pub binds_more : (s inner : Scope) (p : Pattern) (ps : Patterns) (rest : Tree) (subject : ℕ) (to : Target)
    (before after : Plan) (old one two three four new : Code) (next raise first pc : ℕ) → to.into ≤ to.free
    → subject < to.free → AreBelow to.free (slots_in s) → Begun s inner to before after
    → Planned old one before after (fit_at p subject)
    → Made one two next (Binds inner ps rest subject (inner_target to after.free) next)
    → Made two three raise (RaisesWith 12 subject raise)
    → Made three four first (Lays after.tests.items next raise first)
    → Put four new (step_of ops.Step) first pc
    → Made old new pc (Binds s (pattern p ps) rest subject to pc)
binds_more s inner p ps rest subject to before after old one two three four new next raise first pc low sub_low below
    begun hp hn hr hl hs = record {
      grown = extends_on old one new hp.grown (extends_on one two new hn.grown
          (extends_on two three new hr.grown (extends_on three four new hl.grown hs.grown)));
      place = put_there four four new (step_of ops.Step) first pc hl.place (extends_itself four) hs;
      meant = λ own outer later e frames d c.
          let m = model_in s in
          let e4 = extends_on four new later hs.grown e in
          let e3 = extends_on three four later hl.grown e4 in
          let e2 = extends_on two three later hr.grown e3 in
          let e1 = extends_on one two later hn.grown e2 in
          let frames_low : DependsBelow to.free frames = depends_more to.into to.free frames low d in
          let go : ValueScope → Point =
          λ z r. inside (frames r) (Becomes (bind (sub_patterns z ps) (lit (reg r subject)) (sub z rest))) in
          let go_low : (z : ValueScope) → DependsBelow to.free (go z) = λ z r q h.
          ap (λ fs. inside fs (Becomes (bind (sub_patterns z ps) (lit (reg q subject)) (sub z rest))))
          (frames_low r q h)
          ∙ ap (λ v. inside (frames r) (Becomes (bind (sub_patterns z ps) (lit v) (sub z rest)))) (h subject sub_low) in
          let raises : Point = λ r. inside [] (Raises (no_match (reg r subject))) in
          let goes_on : IsSoundAt (model_in inner) own outer later next (λ r. go (scope_in (slots_in inner) r) r) =
          hn.meant own outer later e2 frames d
          (subst (λ z. Continues z own outer later to.after to.into frames) (sym begun.model) c) in
          let goes_in : IsSoundAt m own outer later next (λ r. go (scope_in after.slots.items r) r) =
          subst (λ ss. IsSoundAt m own outer later next (λ r. go (scope_in ss r) r)) begun.inner_slots
          (subst (λ z. IsSoundAt z own outer later next (λ r. go (scope_in (slots_in inner) r) r)) begun.model
          goes_on) in
          let tests = tested s inner to before after begun low m refl own outer later old one (fit_at p subject)
          raise next first go raises hr.place.0 hp e1 (hl.meant own outer later e4) go_low
          (no_match_depends to.free subject sub_low) goes_in (hr.meant own outer later e3 m) in
          step_sound m own outer four new later first pc frames
          (λ r. bind (sub_patterns (scope_in (slots_in s) r) (pattern p ps)) (lit (reg r subject))
          (sub (scope_in (slots_in s) r) rest))
          (λ r. bound (sub_patterns (scope_in (slots_in s) r) (pattern p ps)) (reg r subject)
          (sub (scope_in (slots_in s) r) rest)) _ hs e (λ r. refl)
          (λ r. bind_chosen (scope_in (slots_in s) r) p ps (reg r subject) rest (frames r)) tests;
    }
