use Rattle.std.proofs.Common.{◌≡◌, ◌++◌, ◌∙◌, ℕ, List, ap, flat_map, map, subst}
use Rattle.std.specs.Prelude.{if◌then◌else◌}
use Rattle.std.specs.List.{list_any}
use Rattle.std.proofs.lemmas.Result.{IfOk-weaker}
use Rattle.pf_model.specs.Shrinking.{is_failure}
use Rattle.pf_property.specs.Views.{property_of}
use Rattle.pf_verdicts.specs.Watching.{AreJobsOf}
use Rattle.pf_hunt.specs.Hunts.{SearchedTo}
use Rattle.pf_hunt.specs.Notices.{HearsSome, TallyNotices}
use Rattle.pf_hunt.specs.Views.{row_of, rows_in}
use Rattle.pf_hunt.proofs.Hearing.{hears_weaker}
use Rattle.pf_cli.specs.Args.{view_of_hunt_args}
use Rattle.pf_cli.specs.declared.args.HuntGoal.TheVariants.{Outcomes}
use Rattle.pf_command.specs.Answers.{atom_names_of}
use Rattle.pf_command.specs.Hunts.{PrintsSought, front_text, properties_of, row_text, strategy_text}
use Rattle.pf_command.proofs.Found.{fails_are, prints_rows, texts_are}
use Rattle.pf_command.proofs.seek.seek_outcomes.Goals as goal

pub returns : goal.returns
returns g c =
    let h = view_of_hunt_args c.args.asked.now.args.now in
    let j = c.args.hunted.job in
    let ps = properties_of c.args.hunted in
    let end = c.in_ok-tallied.tallied.end in
    let rows = c.in_ok-tallied.tallied.tally.rows.items in
    let may = c.may_stop-may_stop in
    let heard = g.S.HuntObserver.Heard in
    let old = c.args.seeds.now in
    let new = c.tally_all.new.observer in
    let reach = subst (λ b. SearchedTo b h.seeds.0 h.seeds.1 end) may.ensures c.in_ok-tallied.ensures.reach in
    IfOk-weaker c.write_rows.result
    (λ a. (a.text.items ≡ front_text h end ++ strategy_text h.strategy
    ++ flat_map (λ x. row_text (atom_names_of j) (row_of x)) rows)
    × (a.status ≡ (if list_any (λ x. is_failure x.verdict) rows then 1 else 0)))
    (λ a. HearsSome heard old (λ ns. (bytes : List ℕ) → PrintsSought h bytes j ps ns Outcomes a.text.items
    a.status) new)
    (λ a is.
    hears_weaker heard (TallyNotices h.strategy j.asked may.result h.seeds.0 h.seeds.1 end)
    (λ ns. (bytes : List ℕ) → PrintsSought h bytes j ps ns Outcomes a.text.items a.status) old new
    (λ ns reported bytes.
    prints_rows h bytes j ps ns end (rows_in rows) a reach c.in_ok-tallied.ensures.known.rows
    (subst (λ b. TallyNotices h.strategy j.asked b h.seeds.0 h.seeds.1 end ns) may.ensures reported) (
      is.0 ∙ ap (λ t. front_text h end ++ strategy_text h.strategy ++ t) (texts_are (atom_names_of j) rows),
      is.1 ∙ ap (λ b. if b then 1 else 0) (fails_are rows),
    ))
    c.in_ok-tallied.ensures.heard)
    c.write_rows.ensures

pub invariant_of-hunt : goal.invariant_of-hunt
invariant_of-hunt g c = record {
  alike = subst (λ xs. AreJobsOf c.args.hunted.job (map property_of xs) c.in_ok-jobs.jobs) c.as_slice.ensures.value
      c.in_ok-jobs.ensures;
}
