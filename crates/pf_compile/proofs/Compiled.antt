-- Code of functions and of a module.
use Rattle.std.proofs.Common.{◌≡◌, ◌<◌, ◌≤◌, ℕ, zero, suc, List, [], ◌∷◌, ◌++◌, Option}
use Rattle.std.proofs.Common.{Some, None}
use Rattle.std.proofs.Common.{inl, inr, length, get_or, refl, sym, ap, ◌∙◌, subst}
use Rattle.std.proofs.Common.{arith, map}
use Rattle.std.specs.Prelude.{slice_get, slice_index_or, if◌then◌else◌, option_and_then}
use Rattle.std.proofs.lemmas.Option.{slice_get_within}
use Rattle.std.proofs.lemmas.List.{length-append}
use Rattle.std.proofs.Math.Nat.{eq-or-lt_of_le}
use Rattle.pf_terms.specs.Value.{count}
use Rattle.pf_terms.specs.Fixed.{function_clause}
use Rattle.pf_syntax.specs.Tree.{Tree, Guard, Function, FunctionClause}
use Rattle.pf_syntax.specs.Over.{part_over, patterns_at, guard_over, function_clause_over}
use Rattle.pf_syntax.specs.declared.node.FunctionClause.{FunctionClause as FunctionClauseNode}
use Rattle.pf_patterns.specs.Fit.{ValueScope, fit_all}
use Rattle.pf_patterns.specs.Substitution.{sub, sub_guard}
use Rattle.pf_ops.specs.Guards.{guard_holds}
use Rattle.pf_model.specs.Module.{Module, name_in}
use Rattle.pf_model.specs.Contraction.{Becomes, Raises, body_opened, or_later, picked_by_all}
use Rattle.pf_model.specs.Context.{Frame, Move}
use Rattle.pf_code.specs.Registers.{Registers, row, scope_in, DependsBelow}
use Rattle.pf_code.specs.Points.{Point, inside}
use Rattle.pf_code.specs.Sound.{Code, IsSoundAt}
use Rattle.pf_code.specs.Machine.{entry}
use Rattle.pf_code.specs.Simulation.{IsSoundFor}
use Rattle.pf_code.proofs.Followed.{count_row}
use Rattle.pf_compile_patterns.specs.declared.plan.Plan.{Plan}
use Rattle.pf_compile.specs.declared.target.After.TheVariants as way
use Rattle.pf_compile_patterns.specs.declared.scope.Scope.{Scope}
use Rattle.pf_compile.specs.declared.target.Target.{Target}
use Rattle.pf_compile_patterns.specs.Maker.{IsPlace}
use Rattle.pf_compile_patterns.specs.Scopes.{model_in, slots_in, tables_in}
use Rattle.pf_code.specs.declared.instruction.Instruction.{Instruction}
use Rattle.pf_compile_patterns.specs.Growth.{Extends, Pushed, Made}
use Rattle.pf_compile_patterns.specs.Tests.{chosen, Lays}
use Rattle.pf_compile_patterns.specs.Planned.{fit_row, Planned}
use Rattle.pf_compile_patterns.specs.Guarded.{AsksBelow, holds_at}
use Rattle.pf_compile.specs.Evaluated.{Evaluates, RaisesAtom}
use Rattle.pf_compile.specs.Compiled.{PicksAll, Enters}
use Rattle.pf_compile_patterns.proofs.Grown.{extends_itself, extends_on, rest_of}
use Rattle.pf_compile_patterns.proofs.Laid.{sound_same}
use Rattle.pf_compile_patterns.proofs.Dependent.{depends_more, row_same, chosen_depends}
use Rattle.pf_compile_patterns.proofs.Plans.{pattern_count, count_at, other_count}
use Rattle.pf_compile.proofs.Rows.{rest}
use Rattle.pf_compile_patterns.proofs.Guarded.{exits_to}
use Rattle.pf_compile.proofs.Clauses.{opened, Begun, tested, guarded_depends, body_depends}
use Rattle.pf_compile.proofs.Parts.{raise_chosen}

abbrev pub last_target : ℕ → Target
last_target free = record { into = free; free = free; after = way.Return }

clause_by_all : (m : Module) (own : ℕ) (g : Guard) (b : Tree) (later : Option Tree) (go : Tree → Move) (o : Move)
    (x : Option ValueScope)
    → chosen (or_later (option_and_then (body_opened m own g b) x) later) go o
    ≡ chosen x (λ h. if guard_holds (name_in m) own (sub_guard h g) then go (sub h b) else chosen later go o)
    (chosen later go o)
clause_by_all m own g b later go o None = refl
clause_by_all m own g b later go o (Some f) =
    opened m own g b f later go o (guard_holds (name_in m) own (sub_guard f g)) refl

pub no_function_clause : (m : Module) (n : ℕ) (old : Code) (otherwise : ℕ) → IsPlace old otherwise
    → Made old old otherwise (PicksAll m [] n otherwise otherwise)
no_function_clause m n old otherwise place = record {
  grown = extends_itself old;
  place = place;
  meant = λ own outer later e o d f. f;
}

-- a clause of another number of parameters
pub other_function_clause : (m : Module) (k : FunctionClause) (ks : List FunctionClause) (n : ℕ) (old new : Code)
    (otherwise pc : ℕ) → ¬ (n ≡ pattern_count k.parameters)
    → Made old new pc (PicksAll m ks n otherwise pc) → Made old new pc (PicksAll m (k ∷ ks) n otherwise pc)
other_function_clause m k ks n old new otherwise pc other h = record {
  grown = h.grown;
  place = h.place;
  meant = λ own outer later e o d f.
      sound_same m own outer later pc _ _
      (λ r. ap (λ x. chosen (or_later (option_and_then (body_opened m own k.guard k.body) x)
      (picked_by_all m own ks (row r 0 n))) (λ b. inside outer (Becomes b)) (o r))
      (other_count k.parameters (row r 0 n) [] (λ c. other (sym (count_row r 0 n) ∙ c))))
      (h.meant own outer later e o d f);
}

pub more_function_clauses : (s inner : Scope) (k : FunctionClause) (ks : List FunctionClause) (n : ℕ)
    (before after : Plan) (old one two three four new : Code) (otherwise next body guard pc : ℕ)
    → slots_in s ≡ [] → Begun s inner (last_target n) before after
    → Made old one next (PicksAll (model_in s) ks n otherwise next)
    → Planned one two before after (fit_row k.parameters 0 n)
    → Made two three body (Evaluates inner k.body (last_target after.free) body)
    → Made three four guard (AsksBelow (model_in inner) (exits_to after.free body next) guard (holds_at inner k.guard))
    → Made four new pc (Lays after.tests.items guard next pc)
    → Made old new pc (PicksAll (model_in s) (k ∷ ks) n otherwise pc)
more_function_clauses s inner k ks n before after old one two three four new otherwise next body guard pc no_slot begun
    hk hp hb hg hl = record {
      grown = extends_on old one new hk.grown (extends_on one two new hp.grown
          (extends_on two three new hb.grown (extends_on three four new hg.grown hl.grown)));
      place = hl.place;
      meant = λ own outer later e o d f.
          let m = model_in s in
          let e4 = extends_on four new later hl.grown e in
          let e3 = extends_on three four later hg.grown e4 in
          let e2 = extends_on two three later hb.grown e3 in
          let e1 = extends_on one two later hp.grown e2 in
          let rest : Point = λ r. chosen (picked_by_all m own ks (row r 0 n)) (λ z. inside outer (Becomes z)) (o r) in
          let rest_sound : IsSoundAt m own outer later next rest = hk.meant own outer later e1 o d f in
          let frames : Registers → List Frame = λ r. outer in
          let rest_low : DependsBelow n rest =
          chosen_depends n (λ r. picked_by_all m own ks (row r 0 n)) (λ z r. inside outer (Becomes z)) o
          (λ r q h. ap (picked_by_all m own ks) (row_same n 0 n r q (omega arith) h)) (λ z r q h. refl) d in
          let bf = begun.free in
          let bh = hp.higher in
          let up : n ≤ after.free = omega arith in
          let body_point : Point = λ r. inside outer (Becomes (sub (scope_in after.slots.items r) k.body)) in
          let body_low : DependsBelow after.free body_point =
          body_depends after.slots.items after.free k.body frames hp.below (λ r q h. refl) in
          let body_sound : IsSoundAt (model_in inner) own outer later body body_point =
          subst (λ ss. IsSoundAt (model_in inner) own outer later body
          (λ r. inside outer (Becomes (sub (scope_in ss r) k.body)))) begun.inner_slots
          (hb.meant own outer later e3 frames (λ r q h. refl) (λ r. refl)) in
          let go : ValueScope → Point = λ z r.
          if guard_holds (name_in m) own (sub_guard z k.guard) then inside outer (Becomes (sub z k.body)) else rest r in
          let asked = hg.meant own outer later e4 body_point rest body_low (depends_more n after.free rest up rest_low)
          body_sound (subst (λ z. IsSoundAt z own outer later next rest) (sym begun.model) rest_sound) in
          let asked_in : IsSoundAt m own outer later guard (λ r. if guard_holds (name_in m) own
          (sub_guard (scope_in (slots_in inner) r) k.guard) then body_point r else rest r) =
          subst (λ z. IsSoundAt z own outer later guard (λ r. if guard_holds (name_in z) own
          (sub_guard (scope_in (slots_in inner) r) k.guard) then body_point r else rest r)) begun.model asked in
          let guarded : IsSoundAt m own outer later guard (λ r. go (scope_in after.slots.items r) r) =
          subst (λ ss. IsSoundAt m own outer later guard (λ r. if guard_holds (name_in m) own
          (sub_guard (scope_in ss r) k.guard) then body_point r else rest r)) begun.inner_slots asked_in in
          let led : IsSoundAt m own outer later pc
          (λ r. chosen (fit_all k.parameters (row r 0 n) []) (λ z. go z r) (rest r)) =
          subst (λ ss. IsSoundAt m own outer later pc
          (λ r. chosen (fit_all k.parameters (row r 0 n) (scope_in ss r)) (λ z. go z r) (rest r))) no_slot
          (tested s inner (last_target n) before after begun (omega arith) m refl own outer later one two
          (fit_row k.parameters 0 n) next guard pc go rest (hk.place.0) hp e2 (hl.meant own outer later e)
          (λ z. guarded_depends s n own k.guard k.body frames rest z (λ r q h. refl) rest_low) rest_low guarded
          rest_sound) in
          sound_same m own outer later pc _ _
          (λ r. clause_by_all m own k.guard k.body (picked_by_all m own ks (row r 0 n))
          (λ z. inside outer (Becomes z)) (o r)
          (fit_all k.parameters (row r 0 n) [])) led;
    }

-- ---- the first clause and those after it

abbrev over : Scope → List FunctionClauseNode → List FunctionClause
over s ks = map (function_clause_over (tables_in s)) ks

pub no_clause_at : (s : Scope) (ks : List FunctionClauseNode) (n : ℕ) (old : Code) (otherwise : ℕ) → length ks ≡ 0
    → IsPlace old otherwise → Made old old otherwise (PicksAll (model_in s) (over s ks) n otherwise otherwise)
no_clause_at s [] n old otherwise l place = no_function_clause (model_in s) n old otherwise place
no_clause_at s (k ∷ ks) n old otherwise l place = absurd (omega arith)

pub other_clause_at : (s : Scope) (ks : List FunctionClauseNode) (d : FunctionClauseNode) (n : ℕ) (old new : Code)
    (otherwise pc : ℕ) → 1 ≤ length ks → ¬ (n ≡ length (get_or ks 0 d).parameters.items)
    → Made old new pc (PicksAll (model_in s) (over s (rest ks)) n otherwise pc)
    → Made old new pc (PicksAll (model_in s) (over s ks) n otherwise pc)
other_clause_at s [] d n old new otherwise pc l other h = absurd (omega arith)
other_clause_at s (k ∷ ks) d n old new otherwise pc l other h =
    other_function_clause (model_in s) (function_clause_over (tables_in s) k) (over s ks) n old new otherwise pc
    (λ e. other (e ∙ count_at (tables_in s) k.parameters.items))
    (subst (λ js. Made old new pc (PicksAll (model_in s) (over s js) n otherwise pc)) (rest_of k ks) h)

pub clause_at : (s inner : Scope) (ks : List FunctionClauseNode) (d : FunctionClauseNode) (n : ℕ)
    (before after : Plan) (old one two three four new : Code) (otherwise next body guard pc : ℕ) → 1 ≤ length ks
    → slots_in s ≡ [] → Begun s inner (last_target n) before after → tables_in inner ≡ tables_in s
    → Made old one next (PicksAll (model_in s) (over s (rest ks)) n otherwise next)
    → Planned one two before after (fit_row (patterns_at (tables_in s) (get_or ks 0 d).parameters.items) 0 n)
    → Made two three body (Evaluates inner (part_over (tables_in inner) (get_or ks 0 d).body)
    (last_target after.free) body)
    → Made three four guard (AsksBelow (model_in inner) (exits_to after.free body next) guard
    (holds_at inner (guard_over (tables_in inner) (get_or ks 0 d).guard)))
    → Made four new pc (Lays after.tests.items guard next pc)
    → Made old new pc (PicksAll (model_in s) (over s ks) n otherwise pc)
clause_at s inner [] d n before after old one two three four new otherwise next body guard pc l no_slot begun same hk hp
    hb hg hl = absurd (omega arith)
clause_at s inner (k ∷ ks) d n before after old one two three four new otherwise next body guard pc l no_slot begun same
    hk hp hb hg hl =
    more_function_clauses s inner (function_clause_over (tables_in s) k) (over s ks) n before after old one two three
    four new otherwise next body guard pc no_slot begun
    (subst (λ js. Made old one next (PicksAll (model_in s) (over s js) n otherwise next)) (rest_of k ks) hk) hp
    (subst (λ t. Made two three body (Evaluates inner (part_over t k.body) (last_target after.free) body)) same hb)
    (subst (λ t. Made three four guard (AsksBelow (model_in inner) (exits_to after.free body next) guard
    (holds_at inner (guard_over t k.guard)))) same hg) hl

pub enters : (m : Module) (f : Function) (old mid new : Code) (raise pc : ℕ) → Made old mid raise (RaisesAtom 14 raise)
    → Made mid new pc (PicksAll m f.clauses f.arity raise pc) → Made old new pc (Enters m f pc)
enters m f old mid new raise pc h k = record {
  grown = extends_on old mid new h.grown k.grown;
  place = k.place;
  meant = λ own outer later e.
      sound_same m own outer later pc _ _
      (λ r. raise_chosen (picked_by_all m own f.clauses (row r 0 f.arity)) function_clause outer)
      (k.meant own outer later e (λ r. inside [] (Raises function_clause)) (λ r q x. refl)
      (h.meant own outer later (extends_on mid new later k.grown e) m));
}

-- ---- a module

-- functions so far begin at their entries
pub record AllEnter (m : Module) (code : Code) (entries : List ℕ) : Type 0 where
  pub begun : 1 ≤ length code.instructions
  pub enter : (i : ℕ) (f : Function) → i < length entries → slice_get m.functions i ≡ Some f → (own : ℕ)
      (outer : List Frame) (later : Code) → Extends code later → Enters m f (entry entries i) own outer later

entry_before : (xs : List ℕ) (x i : ℕ) → i < length xs → slice_index_or (xs ++ x ∷ []) i 0 ≡ slice_index_or xs i 0
entry_before [] x i h = absurd (omega arith)
entry_before (y ∷ xs) x zero h = refl
entry_before (y ∷ xs) x (suc i) h = entry_before xs x i (omega arith)

entry_last : (xs : List ℕ) (x : ℕ) → slice_index_or (xs ++ x ∷ []) (length xs) 0 ≡ x
entry_last [] x = refl
entry_last (y ∷ xs) x = entry_last xs x

same_function : (x : Option Function) (f g : Function) → x ≡ Some f → x ≡ Some g → f ≡ g
same_function x f g e h = cc

pub one_more_enters : (m : Module) (old new : Code) (es : List ℕ) (f : Function) (pc : ℕ) → AllEnter m old es
    → slice_get m.functions (length es) ≡ Some f → Made old new pc (Enters m f pc)
    → AllEnter m new (es ++ pc ∷ [])
one_more_enters m old new es f pc h there made = record {
  begun = (let a = h.begun in let b = made.grown.longer in omega arith);
  enter = λ i g l is own outer later x.
      let a = length-append es (pc ∷ []) in
      let le : i ≤ length es = omega arith in
      elim (eq-or-lt_of_le {n = i} {m = length es} le) [
        | inl z ↦ subst (λ e. Enters m g e own outer later)
            (sym (ap (λ j. slice_index_or (es ++ pc ∷ []) j 0) z ∙ entry_last es pc))
            (subst (λ u. Enters m u pc own outer later)
            (same_function (slice_get m.functions (length es)) f g there
            (subst (λ j. slice_get m.functions j ≡ Some g) z is)) (made.meant own outer later x))
        | inr k ↦ subst (λ e. Enters m g e own outer later) (sym (entry_before es pc i k))
            (h.enter i g k is own outer later (extends_on old new later made.grown x))
      ];
}

pub none_enters : (m : Module) (old new : Code) (i : Instruction) (pc : ℕ) (es : List ℕ) → Pushed old new i pc
    → es ≡ [] → AllEnter m new es
none_enters m old new i pc es h e = record {
  begun = (let z = h.count in omega arith);
  enter = λ j f l is own outer later x. absurd (let z = ap length e in omega arith);
}

pub next_enters : (m : Module) (old new : Code) (es fs : List ℕ) (f : Function) (i pc : ℕ) → AllEnter m old es
    → i ≡ length es → slice_get m.functions i ≡ Some f → Made old new pc (Enters m f pc) → fs ≡ es ++ pc ∷ []
    → AllEnter m new fs
next_enters m old new es fs f i pc h count there made pushed =
    subst (AllEnter m new) (sym pushed)
    (one_more_enters m old new es f pc h (subst (λ j. slice_get m.functions j ≡ Some f) count there) made)

pub past_all : {A : Type 0} (xs : List A) (i : ℕ) → slice_get xs i ≡ None → length xs ≤ i
past_all [] i h = omega arith
past_all (x ∷ xs) zero h = absurd (cc)
past_all (x ∷ xs) (suc i) h = let z = past_all xs i h in omega arith

-- all functions are compiled
pub sound_for : (m : Module) (code : Code) (es : List ℕ) → AllEnter m code es → length m.functions ≤ length es
    → IsSoundFor m code es
sound_for m code es h l own outer i f is =
    let k = slice_get_within m.functions i f is in
    h.enter i f (omega arith) is own outer code (extends_itself code)
