use Rattle.std.proofs.Common.{rules, ◌≡◌, List, Some, sym, ap, ◌∙◌, subst}
use Rattle.std.specs.Prelude.{slice_set}
use Rattle.pf_request.specs.Job.{Job}
use Rattle.pf_farm_accounts.specs.declared.row.ClaimRow.{ClaimRow}
use Rattle.pf_farm_accounts.specs.declared.row.ClaimEnd.{ClaimEnd}
use Rattle.pf_farm_accounts.specs.declared.row.ClaimEnd.TheVariants.{Filed}
use Rattle.pf_farm_accounts.specs.Rows.{row_of}
use Rattle.pf_book.specs.Answers.{SimulatesFile}
use Rattle.pf_farm_state.specs.Hall.{IsSound, end_or_stray}
use Rattle.pf_farm_state.proofs.Grown.{true_still, file_extends}
use Rattle.pf_farm_state.proofs.Sound.{sound_filed, filed_gone}
use Rattle.pf_farm_state.proofs.hall.Hall.file.Goals as goal

pub invariant_of-self : goal.invariant_of-self
invariant_of-self g c =
    let rows = c.self.inside.ledger.0 in
    let k = c.args.claim in
    let at = c.end.ensures.was in
    let now : c.end.new.self.0 ≡ slice_set rows k.0 (row_of k.1 (Some (end_or_stray c.file-filed.result Filed))) =
    ap (λ x. x.0) c.end.ensures.now ∙ ap (λ (e : ClaimEnd). slice_set rows k.0 (row_of k.1 (Some e)))
    c.end_or_stray.ensures in
    let does : SimulatesFile c.self.inside.book k.1.project k.1.ticket c.args.finished c.file-filed.result
    c.file-filed.new.self = search rules in
    let w = c.self.inside.book in
    let w' = c.file-filed.new.self in (
      subst (λ (r : List (ClaimRow Job)). IsSound r c.self.inside.calls w') (sym now)
          (sound_filed rows c.self.inside.calls w k.0 k.1 at c.self.invariant.0 w' c.args.finished
          c.file-filed.result c.requires.job does c.file-filed.ensures.tickets),
      true_still w w' c.self.inside.stopped c.self.inside.looks
          (file_extends w w' k.1.project k.1.ticket c.args.finished c.file-filed.result does) c.self.invariant.1,
    )

pub returns-clause-gone : goal.returns-clause-gone
returns-clause-gone g c =
    let k = c.args.claim in
    let does : SimulatesFile c.self.inside.book k.1.project k.1.ticket c.args.finished c.file-filed.result
    c.file-filed.new.self = search rules in
    rw (← c.self.view_is) (filed_gone c.self.inside.ledger.0 c.self.inside.calls c.self.inside.book k.0 k.1
    c.end.ensures.was c.self.invariant.0 c.file-filed.new.self c.args.finished c.file-filed.result
    c.requires.job does)
