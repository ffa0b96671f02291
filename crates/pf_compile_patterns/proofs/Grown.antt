-- Code that grows at its end.
use Rattle.std.proofs.Common.{◌≡◌, ◌<◌, ◌≤◌, ◌+◌, ℕ, zero, suc, List, [], ◌∷◌, ◌++◌, length, Some, refl, sym, ap, ◌∙◌}
use Rattle.std.proofs.Common.{subst, arith, Result, Ok, Err, take, drop, ◌-◌}
use Rattle.std.proofs.Math.Seq.{take-length}
use Rattle.std.specs.Prelude.{slice_get, IfOk}
use Rattle.std.proofs.lemmas.List.{length-append}
use Rattle.pf_terms.specs.Value.{Value}
use Rattle.pf_model.specs.Module.{Module}
use Rattle.pf_model.specs.Context.{Frame}
use Rattle.pf_code.specs.Points.{Point}
use Rattle.pf_code.specs.Sound.{Code, Charged, Carries, GoesOn, IsSoundAt, sound_at}
use Rattle.pf_code.specs.declared.instruction.Instruction.{Instruction}
use Rattle.pf_code.specs.declared.instruction.Operation.TheVariants as op
use Rattle.pf_code.proofs.Charges.{charged_none}
use Rattle.pf_compile_patterns.specs.Maker.{IsPlace}
use Rattle.pf_compile_patterns.specs.Growth.{Extends, Pushed, ConstantPut, Reached, Put}

pub extends_itself : (a : Code) → Extends a a
extends_itself a = record { longer = omega arith; instructions = λ pc i e. e; constants = λ k v e. e }

pub extends_on : (a b c : Code) → Extends a b → Extends b c → Extends a c
extends_on a b c e f = record {
  longer = omega arith;
  instructions = λ pc i h. f.instructions pc i (e.instructions pc i h);
  constants = λ k v h. f.constants k v (e.constants k v h);
}

get_more : {X : Type 0} (xs ys : List X) (k : ℕ) (x : X) → slice_get xs k ≡ Some x → slice_get (xs ++ ys) k ≡ Some x
get_more [] ys k x e = absurd (cc)
get_more (y ∷ xs) ys zero x e = e
get_more (y ∷ xs) ys (suc k) x e = get_more xs ys k x e

get_last : {X : Type 0} (xs : List X) (x : X) → slice_get (xs ++ x ∷ []) (length xs) ≡ Some x
get_last [] x = refl
get_last (y ∷ xs) x = get_last xs x

abbrev code : List Instruction → List Value → Code
code is ks = record { instructions = is; constants = ks }

pushed_last : (is : List Instruction) (ks : List Value) (i : Instruction)
    → Pushed (code is ks) (code (is ++ i ∷ []) ks) i (length is)
pushed_last is ks i = record {
  grown = record {
    longer = omega (arith, length-append is (i ∷ []));
    instructions = λ pc j e. get_more is (i ∷ []) pc j e;
    constants = λ k v e. e;
  };
  last = refl;
  count = length-append is (i ∷ []);
  is = get_last is i;
}

pub pushed : (is js : List Instruction) (ks : List Value) (i : Instruction) (pc : ℕ) → js ≡ is ++ i ∷ []
    → pc ≡ length is → Pushed (code is ks) (code js ks) i pc
pushed is js ks i pc e h = subst (λ l. Pushed (code is ks) (code l ks) i pc) (sym e)
    (subst (λ n. Pushed (code is ks) (code (is ++ i ∷ []) ks) i n) (sym h) (pushed_last is ks i))

constant_last : (is : List Instruction) (ks : List Value) (v : Value)
    → ConstantPut (code is ks) (code is (ks ++ v ∷ [])) v (length ks)
constant_last is ks v = record {
  grown = record {
    longer = omega arith;
    instructions = λ pc j e. e;
    constants = λ k w e. get_more ks (v ∷ []) k w e;
  };
  is = get_last ks v;
}

pub constant_put : (is : List Instruction) (ks ls : List Value) (v : Value) (k : ℕ) → ls ≡ ks ++ v ∷ []
    → k ≡ length ks → ConstantPut (code is ks) (code is ls) v k
constant_put is ks ls v k e h = subst (λ l. ConstantPut (code is ks) (code is l) v k) (sym e)
    (subst (λ n. ConstantPut (code is ks) (code is (ks ++ v ∷ [])) v n) (sym h) (constant_last is ks v))

-- where the other place of an instruction is
abbrev pub Elsewhere : Module → ℕ → List Frame → Code → Code → ℕ → Point → Type 0
Elsewhere m own outer old later w o = 1 ≤ w → (w < length old.instructions) × IsSoundAt m own outer later w o

module _ (m : Module) (own : ℕ) (outer : List Frame) (later : Code) where
  -- an instruction that doesn't go on at the place before
  pub end_sound : (old new : Code) (i : Instruction) (pc : ℕ) (p c n o : Point) → Pushed old new i pc
      → Extends new later → Charged m own i.contractions p c
      → Carries m own outer later.constants i.operation i.otherwise c n o → (GoesOn i.operation → ⊥)
      → Elsewhere m own outer old later i.otherwise o → IsSoundAt m own outer later pc p
  end_sound old new i pc p c n o h e charged carries stops f =
      sound_at pc 0 i p c n o (e.instructions pc i h.is) charged carries (λ g. absurd (stops g))
      (λ g. absurd (stops g)) (λ l. let k = f l in let a = h.last in omega arith) (λ l. (f l).1)

  -- one that goes on
  pub put_sound : (old new : Code) (i : Instruction) (next pc : ℕ) (p c n o : Point) → Put old new i next pc
      → Extends new later → Charged m own i.contractions p c
      → Carries m own outer later.constants i.operation i.otherwise c n o → IsSoundAt m own outer later next n
      → Elsewhere m own outer old later i.otherwise o → IsSoundAt m own outer later pc p
  put_sound old new i next pc p c n o h e charged carries s f =
      let b = h.comes m own outer later n e s in
      sound_at pc b.0 i p c n o (e.instructions pc i h.is) charged carries (λ g. b.1) (λ g. b.2)
      (λ l. let k = f l in let a = h.above in omega arith) (λ l. (f l).1)

pub nowhere : (m : Module) (own : ℕ) (outer : List Frame) (old later : Code) (o : Point)
    → Elsewhere m own outer old later 0 o
nowhere m own outer old later o l = absurd (omega arith)

-- ---- going on at a place

pub reached_before : (old : Code) (next : ℕ) → next + 1 ≡ length old.instructions → Reached old old next
reached_before old next e = record {
  grown = extends_itself old;
  comes = λ m own outer later n x s. (next, sym e, s);
}

abbrev pub jump_to : ℕ → Instruction
jump_to next = record { operation = op.Jump; contractions = 0; otherwise = next }

pub reached_by_jump : (old new : Code) (next pc : ℕ) → IsPlace old next → Pushed old new (jump_to next) pc
    → Reached old new next
reached_by_jump old new next pc place h = record {
  grown = h.grown;
  comes = λ m own outer later n x s. (
    pc,
    (let a = h.last in let b = h.count in omega arith),
    end_sound m own outer later old new (jump_to next) pc n n n n h x (charged_none m own n)
        (place.0, λ r. refl) (λ g. g) (λ l. (place.1, s)),
  );
}

pub put : (a b c : Code) (i : Instruction) (next pc : ℕ) → Reached a b next → Pushed b c i pc → Put a c i next pc
put a b c i next pc r h = record {
  grown = extends_on a b c r.grown h.grown;
  above = (let x = r.grown.longer in let y = h.last in omega arith);
  there = (let x = h.last in let y = h.count in omega arith);
  is = h.is;
  comes = λ m own outer later n x s.
      (
      let k = r.comes m own outer later n (extends_on b c later h.grown x) s in
      (k.0, h.last ∙ k.1, k.2)
      );
}

-- what holds of an answer makes something else hold of it
pub by_ok : {X E : Type 0} (r : Result X E) (P Q : X → Type 0) → IfOk r P → ((x : X) → P x → Q x) → IfOk r Q
by_ok (Ok x) P Q h w = w x h
by_ok (Err e) P Q h w = h

-- the items after the first, as a slice has them
pub rest_of : {A : Type 0} (x : A) (xs : List A) → take (length (x ∷ xs) - 1) (drop 1 (x ∷ xs)) ≡ xs
rest_of x xs = let z : length (x ∷ xs) - 1 ≡ length xs = omega arith in ap (λ k. take k xs) z ∙ take-length xs
