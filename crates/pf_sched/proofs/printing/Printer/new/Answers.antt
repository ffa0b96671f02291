use Rattle.std.proofs.Common.{◌≡◌, ◌++◌, List, [], refl, ap, ◌∙◌}
use Rattle.pf_terms.specs.Atoms.{name_of}
use Rattle.pf_model.specs.Meaning.{Event}
use Rattle.pf_sched.proofs.printing.Printer.new.Goals as goal

both_none : (xs ys : List Event) → xs ≡ [] → ys ≡ [] → xs ++ ys ≡ []
both_none xs ys a b = rw (a, b) refl

pub returns-clause-reported : goal.returns-clause-reported
returns-clause-reported c = (
  (
    (ap (λ k. k.asked.property) c.job.view_is, (c.new-2.ensures c.args.job.now.asked).0.1),
    (c.new-2.ensures c.args.job.now.asked).1,
  ),
  c.atoms.ensures ∙ ap (λ m. m.atoms) c.deref.ensures ∙ ap (λ m. m.atoms) c.module.ensures,
  both_none _ _ c.new.ensures.gone c.new.ensures.waiting,
  c.new.ensures.written (name_of c.atoms.result.now),
)
