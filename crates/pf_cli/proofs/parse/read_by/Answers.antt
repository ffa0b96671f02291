use Rattle.std.proofs.Common.{◌≡◌, None, Some, ap, inl, inr, ◌∙◌, sym, map}
use Rattle.std.specs.Prelude.{option_map}
use Rattle.clap.specs.Words.{found_of, rows_of, subcommand_of}
use Rattle.pf_cli.specs.Args.{own_fault}
use Rattle.pf_cli.specs.Commands.{pulsefarm}
use Rattle.pf_cli.proofs.Parsed.{words_refused, words_none, words_wanted, words_file, words_schedule, values_refused}
use Rattle.pf_cli.proofs.parse.read_by.Goals as goal

pub returns-in-Err-clause-err : goal.returns-in-Err-clause-err
returns-in-Err-clause-err c = words_refused (option_map (λ s. s.now) c.args.text) (map (λ w. w.now) c.args.words.now)
    c.in-Err.e c.in-Err.ensures.kinds

pub returns-in_default-clause-err : goal.returns-in_default-clause-err
returns-in_default-clause-err c =
    let text = option_map (λ s. s.now) c.args.text in
    let words = map (λ w. w.now) c.args.words.now in
    let none : subcommand_of pulsefarm words ≡ None = sym (c.in_default.ensures ∙ c.in-Ok.ensures.ok) in
    elim (c.mistake.ensures) [
      | inl h ↦ inl h
      | inr h ↦ inr (values_refused text words _ (words_none text words c.in-Ok.ensures.kinds none)
          c.in-Ok.ensures.kinds (h ∙ ap own_fault (sym none)))
    ]

pub returns-in-Ok-command_args-clause-ok : goal.returns-in-Ok-command_args-clause-ok
returns-in-Ok-command_args-clause-ok c =
    let text = option_map (λ s. s.now) c.args.text in
    let words = map (λ w. w.now) c.args.words.now in
    let name = c.in-Some.name.now in
    let rows = rows_of (found_of c.in-Some.rows.now) in
    let some : subcommand_of pulsefarm words ≡ Some (name, rows) = sym (c.in-Some.ensures ∙ c.in-Ok.ensures.ok) in
    words_wanted text words name rows c.in-Ok.ensures.kinds some ∙ c.in-Ok-command_args.ensures.ok

pub returns-in-Ok-command_args-clause-file : goal.returns-in-Ok-command_args-clause-file
returns-in-Ok-command_args-clause-file c =
    let words = map (λ w. w.now) c.args.words.now in
    let name = c.in-Some.name.now in
    let rows = rows_of (found_of c.in-Some.rows.now) in
    let some : subcommand_of pulsefarm words ≡ Some (name, rows) = sym (c.in-Some.ensures ∙ c.in-Ok.ensures.ok) in
    c.in-Ok-command_args.ensures.file ∙ sym (words_file words name rows some)

pub returns-in-Ok-command_args-clause-schedule : goal.returns-in-Ok-command_args-clause-schedule
returns-in-Ok-command_args-clause-schedule c =
    let words = map (λ w. w.now) c.args.words.now in
    let name = c.in-Some.name.now in
    let rows = rows_of (found_of c.in-Some.rows.now) in
    let some : subcommand_of pulsefarm words ≡ Some (name, rows) = sym (c.in-Some.ensures ∙ c.in-Ok.ensures.ok) in
    c.named_schedule-schedule.ensures ∙ sym (words_schedule words name rows some)

pub returns-clause-err : goal.returns-clause-err
returns-clause-err c =
    let text = option_map (λ s. s.now) c.args.text in
    let words = map (λ w. w.now) c.args.words.now in
    let name = c.in-Some.name.now in
    let rows = rows_of (found_of c.in-Some.rows.now) in
    let some : subcommand_of pulsefarm words ≡ Some (name, rows) = sym (c.in-Some.ensures ∙ c.in-Ok.ensures.ok) in
    elim (c.in-Err-command_args.ensures.err) [
      | inl h ↦ inl h
      | inr h ↦ inr (values_refused text words _ (words_wanted text words name rows c.in-Ok.ensures.kinds some ∙ h.1)
          c.in-Ok.ensures.kinds (h.0 ∙ ap own_fault (sym some)))
    ]
