use Rattle.std.proofs.Common.{refl}
use Rattle.pf_world.proofs.laws.worked_steps.Goals as goal

pub returns : goal.returns
returns c = λ means. (
  refl,
  refl,
  refl,
  refl,
  (
    _,
    (
      _,
      refl,
      (
        _,
        refl,
        (
          _,
          ((tt, refl), refl),
          (_, refl, (_, ((tt, refl), refl), (_, ((tt, refl), refl), (_, refl, (_, refl, (_, refl, refl)))))),
        ),
      ),
    ),
  ),
  λ d j. (refl, refl),
)
