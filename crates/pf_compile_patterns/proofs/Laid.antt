-- Tests one after the other.
use Rattle.std.proofs.Common.{◌≡◌, ◌≤◌, ◌-◌, ℕ, List, [], ◌∷◌, length, take, drop, get_or, sym, subst}
use Rattle.std.proofs.Common.{arith}
use mathlib.Core.Path.{fun_ext}
use Rattle.pf_model.specs.Module.{Module}
use Rattle.pf_model.specs.Context.{Frame}
use Rattle.pf_code.specs.Registers.{Registers}
use Rattle.pf_code.specs.Points.{Point}
use Rattle.pf_code.specs.Sound.{Code, IsSoundAt}
use Rattle.pf_code.specs.declared.instruction.Instruction.{Instruction}
use Rattle.pf_code.specs.declared.instruction.Operation.{Operation}
use Rattle.pf_code.proofs.Charges.{charged_none}
use Rattle.pf_compile_patterns.specs.Maker.{IsPlace}
use Rattle.pf_compile_patterns.specs.Growth.{Put, Made}
use Rattle.pf_compile_patterns.specs.Tests.{Lays}
use Rattle.pf_compile_patterns.proofs.Grown.{extends_itself, extends_on, put_sound, rest_of}

-- code is sound for a point that is the same for all registers
pub sound_same : (m : Module) (own : ℕ) (outer : List Frame) (code : Code) (pc : ℕ) (p q : Point)
    → ((r : Registers) → q r ≡ p r) → IsSoundAt m own outer code pc p → IsSoundAt m own outer code pc q
sound_same m own outer code pc p q e s = subst (IsSoundAt m own outer code pc) (fun_ext (λ r. sym (e r))) s

pub lays_none : (old : Code) (next otherwise : ℕ) → IsPlace old next → Made old old next (Lays [] next otherwise next)
lays_none old next otherwise place = record {
  grown = extends_itself old;
  place = place;
  meant = λ own outer later e m p n o c s f. sound_same m own outer later next n p c s;
}

abbrev pub test_of : Operation → ℕ → Instruction
test_of t otherwise = record { operation = t; contractions = 0; otherwise = otherwise }

pub lays_more : (old mid new : Code) (t : Operation) (ts : List Operation) (next first otherwise pc : ℕ)
    → IsPlace old otherwise → Made old mid first (Lays ts next otherwise first)
    → Put mid new (test_of t otherwise) first pc → Made old new pc (Lays (t ∷ ts) next otherwise pc)
lays_more old mid new t ts next first otherwise pc place made h = record {
  grown = extends_on old mid new made.grown h.grown;
  place = (let a = made.place in let b = made.grown.longer in let k = h.above in let l = h.there in (omega arith, l));
  meant = λ own outer later e m p n o c s f.
      put_sound m own outer later mid new (test_of t otherwise) first pc p p c.0 o h e (charged_none m own p) c.1
      (made.meant own outer later (extends_on mid new later h.grown e) m c.0 n o c.2 s f)
      (λ l. ((let a = place.1 in let b = made.grown.longer in omega arith), f));
}

pub lays_at : (old mid new : Code) (ts : List Operation) (d : Operation) (next first otherwise pc : ℕ)
    → 1 ≤ length ts → IsPlace old otherwise
    → Made old mid first (Lays (take (length ts - 1) (drop 1 ts)) next otherwise first)
    → Put mid new (test_of (get_or ts 0 d) otherwise) first pc → Made old new pc (Lays ts next otherwise pc)
lays_at old mid new [] d next first otherwise pc l place made h = absurd (omega arith)
lays_at old mid new (t ∷ ts) d next first otherwise pc l place made h =
    lays_more old mid new t ts next first otherwise pc place
    (subst (λ us. Made old mid first (Lays us next otherwise first)) (rest_of t ts) made) h
