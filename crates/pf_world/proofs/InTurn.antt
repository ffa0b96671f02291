-- Steps that are answered in turn, where no allocation fails.
use Rattle.std.proofs.Common.{◌≡◌, List, [], ◌∷◌, map, Some, refl, sym, ap, ◌∙◌, subst}
use Rattle.pf_world.specs.World.{RunProfile, World, new_world}
use Rattle.pf_world.specs.Chores.{Response}
use Rattle.pf_world.specs.Steps.{WorldStep, take_step, responses}
use Rattle.pf_world.specs.Memory.{RespondsInTurn}
use Rattle.pf_world.specs.Laws.{AnsweredInTurn}

module _ (p : RunProfile) where
  one_way : (s s' : World) (xs : List WorldStep) (ans : List Response) → RespondsInTurn p s xs (map Some ans) s'
      → ans ≡ responses p s xs
  one_way s s' [] [] to = refl
  one_way s s' [] (a ∷ ans) to = absurd to
  one_way s s' (x ∷ xs) [] to = absurd to
  one_way s s' (x ∷ xs) (a ∷ ans) to =
      ap (λ (all : List Response). a ∷ all) (one_way to.0 s' xs ans to.2)
      ∙ sym (ap (λ (r : World × Response). r.1 ∷ responses p r.0 xs) to.1)

  some_way : (s : World) (xs : List WorldStep) → (s' : World) × RespondsInTurn p s xs (map Some (responses p s xs)) s'
  some_way s [] = (s, refl)
  some_way s (x ∷ xs) = (let rest : _ = some_way (take_step p s x).0 xs in
      (rest.0, ((take_step p s x).0, refl, rest.1)))

pub in_turn : AnsweredInTurn
in_turn p n xs ans = (
  λ to. one_way p (new_world n) to.0 xs ans to.1,
  λ is. subst (λ (all : List Response). (s : World) × RespondsInTurn p (new_world n) xs (map Some all) s) (sym is)
      (some_way p (new_world n) xs),
)
