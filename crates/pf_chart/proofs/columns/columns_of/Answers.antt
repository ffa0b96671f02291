use Rattle.std.proofs.Common.{map, rules, sym, ap, ◌∙◌, subst}
use Rattle.std.specs.List.Sorted.{IsNonDecreasingBy, IsPermutation}
use Rattle.std.proofs.lemmas.List.Sorted.{IsNonDecreasingBy-from_sort_by_key, IsPermutation-map}
use Rattle.pf_model.specs.Reports.{view_of_event, view_of_report}
use Rattle.pf_chart.specs.Origins.{process_of}
use Rattle.pf_chart.specs.Processes.{Process, processes_of}
use Rattle.pf_chart.specs.declared.columns.Column.{Column}
use Rattle.pf_chart.proofs.Spawned.{reported_by_pid}
use Rattle.pf_chart.proofs.columns.columns_of.Goals as goal

pub returns : goal.returns
returns c =
    let all = processes_of (view_of_report c.args.report.now).events in
    let sorted = c.sort_unstable_by_key.new.self.items in
    let spawned = c.in_ok-columns.ensures ∙ ap (λ es. processes_of (map view_of_event es)) c.deref.ensures.value in
    record {
      all = subst (λ ps. IsPermutation all ps) (sym c.mark_outcome.ensures)
          (subst (λ ps. IsPermutation ps (map process_of sorted)) spawned
          (IsPermutation-map process_of _ _ c.sort_unstable_by_key.ensures.permutation));
      by_pid = subst (λ ps. IsNonDecreasingBy (λ (p : Process). p.pid) ps) (sym c.mark_outcome.ensures)
          (reported_by_pid sorted (IsNonDecreasingBy-from_sort_by_key (λ (k : Column). k.pid) sorted
          c.sort_unstable_by_key.ensures.sorted (λ a r f' called. search rules)));
    }
