use Rattle.std.proofs.Common.{rules, List, ℕ, None, ap, map}
use Rattle.std.specs.Prelude.{codes}
use Rattle.clap.specs.Words.{kind_of}
use Rattle.pf_cli.specs.Args.{file_of, schedule_file_of, view_of_reading}
use Rattle.pf_cli.proofs.Reported.{text_reported}
use Rattle.pf_cli.proofs.reading.read.Goals.{in-Some, in-None}
use Rattle.pf_cli.proofs.reading.read.Goals as goal

pub returns-in-Err : goal.returns-in-Err
returns-in-Err c =
    let words : List (List ℕ) = map (λ w. w.now) c.args.words.now in
    elim c.match-schedule.branch [
      | in-Some w ↦
          rw w.in-Some.is (text_reported c.reported.result view_of_reading c.match-schedule.text.now
          w.in-Some.text.now words
          (file_of words) None (kind_of c.in-Err.error)
          (ap (λ t. t.now) w.text-is) c.in-Err.ensures.err (rw c.kind.ensures at c.reported.ensures.reported)
          (rw c.kind.ensures at c.reported.ensures.memory))
      | in-None w ↦
          rw w.in-None.is (text_reported c.reported.result view_of_reading c.match-schedule.text.now
          (codes "none") words
          (file_of words) (schedule_file_of words) (kind_of c.in-Err.error)
          (search (rules, w.text-is)) c.in-Err.ensures.err (rw c.kind.ensures at c.reported.ensures.reported)
          (rw c.kind.ensures at c.reported.ensures.memory))
    ]
