use Rattle.std.proofs.Common.{List, [], ◌∷◌, ◌++◌, ap, ◌∙◌, append_assoc}
use Rattle.pf_diagnostics.specs.declared.advice.Advice.{Advice}
use Rattle.pf_hints.proofs.reporting.faults.Goals as goal

pub returns : goal.returns
returns c =
    let front = c.in_ok-reported.reported.items in
    let a = c.in_ok-advice.advice in
    let others = c.in_ok-others.others.items in (
      front,
      a,
      others,
      c.in_ok-advice.ensures,
      c.in_ok-reported.ensures,
      c.in_ok-others.ensures,
      c.in_ok-extend_from_slice.ensures.items
          ∙ ap (λ (xs : List Advice). xs ++ c.deref-4.result.now) c.in_ok-push.ensures.items
          ∙ ap (λ (xs : List Advice). (front ++ a ∷ []) ++ xs) c.deref-4.ensures.value
          ∙ append_assoc front (a ∷ []) others,
    )
