use Rattle.std.proofs.Common.{◌≡◌, ◌<◌, ◌∙◌, length, rules, sym, subst}
use Rattle.std.specs.Prelude.{IfSome}
use Rattle.std.specs.List.{HoldsAt}
use Rattle.std.proofs.lemmas.List.Sorted.{answers_always}
use Rattle.pf_chart.specs.declared.columns.Column.{Column}
use Rattle.pf_chart.proofs.Spawned.{found_pid, lacks_pid}
use Rattle.pf_chart.proofs.columns.column_of.Goals as goal

pub returns : goal.returns
returns c =
    let xs = c.args.columns.now in
    let p = c.args.pid in
    let facts = c.binary_search_by_key.ensures in
    let searched = facts.position (λ (k : Column). k.pid) (answers_always _ _ _ (λ f a r s called. search rules)) in
    record {
      found = subst (λ o. IfSome o (λ i. (i < length xs) × HoldsAt (λ (k : Column). k.pid ≡ p) xs i))
          (sym c.ok.ensures.value)
          (found_pid xs p c.binary_search_by_key.result facts.bound searched);
      missing = λ none. lacks_pid xs p c.binary_search_by_key.result searched (sym c.ok.ensures.value ∙ none);
    }
