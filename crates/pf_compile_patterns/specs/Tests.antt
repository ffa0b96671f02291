-- Tests one after the other, each of which goes on elsewhere if it isn't met.
use Rattle.std.specs.Prelude.{◌≡◌, ℕ, List, [], ◌∷◌, Option, Some, None}
use Rattle.pf_terms.specs.Value.{Value}
use Rattle.pf_model.specs.Module.{Module}
use Rattle.pf_model.specs.Context.{Frame, Move}
use Rattle.pf_code.specs.Registers.{Registers}
use Rattle.pf_code.specs.Points.{Point}
use Rattle.pf_code.specs.Sound.{Code, Carries, IsSoundAt}
use Rattle.pf_code.specs.declared.instruction.Operation.{Operation}

-- what is next where there is a result, and where there is none
abbrev pub chosen : {X : Type 0} → Option X → (X → Move) → Move → Move
chosen None go otherwise = otherwise
chosen (Some x) go otherwise = go x

-- operations that take a process from p to n, or to o where a test isn't met
abbrev pub Carried : Module → ℕ → List Frame → List Value → ℕ → List Operation → Point → Point → Point → Type 0
Carried m own outer ks w [] p n o = (r : Registers) → p r ≡ n r
Carried m own outer ks w (i ∷ is) p n o = (q : Point) × Carries m own outer ks i w p q o
    × Carried m own outer ks w is q n o

-- from this place the tests lead to `then` or to `otherwise`
abbrev pub Lays : List Operation → ℕ → ℕ → ℕ → ℕ → List Frame → Code → Type 0
Lays tests then otherwise pc own outer later = (m : Module) (p n o : Point)
    → Carried m own outer later.constants otherwise tests p n o → IsSoundAt m own outer later then n
    → IsSoundAt m own outer later otherwise o → IsSoundAt m own outer later pc p
