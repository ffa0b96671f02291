use Rattle.std.proofs.Common.{List, [], ◌∷◌, ◌++◌, sym, ap, ◌∙◌, subst}
use Rattle.pf_farm_state.specs.declared.look.TrialLook.{TrialLook}
use Rattle.pf_farm_state.specs.Looks.{look_of}
use Rattle.pf_farm_state.proofs.Grown.{true_more, AreTrue}
use Rattle.pf_farm_state.proofs.hall.Hall.look.Goals as goal

pub invariant_of-self : goal.invariant_of-self
invariant_of-self g c =
    let h = c.self.inside in
    let q = c.project-project.result in
    let t = c.args.ticket in
    let n = c.note_count.result in
    let log = c.look.ensures.log ∙ ap (λ s. h.looks ++ look_of q t n s h.stopped ∷ []) c.stage.ensures in (
      c.self.invariant.0,
      subst (λ (ls : List TrialLook). AreTrue h.book h.stopped ls) (sym log)
          (true_more h.book h.stopped h.looks q t n c.note_count.ensures.count c.note_count.ensures.legal
          c.self.invariant.1),
    )
