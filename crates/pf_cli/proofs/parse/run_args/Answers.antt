use Rattle.std.proofs.Common.{inl, inr, ◌∙◌, sym}
use Rattle.std.specs.Prelude.{codes, option_map}
use Rattle.clap.specs.Words.{first_of, found_of, rows_of}
use Rattle.pf_request.specs.View.{view_of_choices}
use Rattle.pf_cli.proofs.Guided.{none_guided, values_chosen}
use Rattle.pf_cli.proofs.parse.run_args.Goals as goal

pub returns-in-Err-guided-clause-err : goal.returns-in-Err-guided-clause-err
returns-in-Err-guided-clause-err c =
    let text = option_map (λ s. s.now) c.args.text in
    let rows = rows_of (found_of c.args.rows.now) in
    let cs = view_of_choices c.in-Ok.choices in
    elim (c.in-Err-guided.ensures.err) [
      | inl h ↦ inl h
      | inr h ↦ inr (
        h.0 ∙ sym (values_chosen text (first_of (codes "seed") rows) (first_of (codes "weights") rows)
            (first_of (codes "schedule") rows) cs c.in-Ok.ensures.ok),
        none_guided text rows cs c.in-Ok.ensures.ok h.1,
      )
    ]
