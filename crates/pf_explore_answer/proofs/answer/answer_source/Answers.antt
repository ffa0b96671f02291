use Rattle.std.specs.Prelude.{None}
use Rattle.std.proofs.lemmas.Result.{IfOk-weaker}
use Rattle.pf_errors.specs.Codes.{refusal_text}
use Rattle.pf_model.specs.TermText.{line}
use Rattle.pf_explore_answer.specs.Answers.{AnswersSource, Refuses, source_refused}
use Rattle.pf_explore_answer.specs.Views.{view_of_exploration}
use Rattle.pf_explore_answer.proofs.Answering.{source_answer_is}
use Rattle.pf_explore_answer.proofs.answer.answer_source.Goals as goal

pub returns-in-Err : goal.returns-in-Err
returns-in-Err g c =
    let refusal = c.in-Err.refusal in
    let x = view_of_exploration (g.P.Pace.may_stop c.args.pace.now) c.args.asked.now in
    let bytes = c.args.source.now in
    IfOk-weaker c.refused_at.result (Refuses (refusal_text refusal.code refusal.offset)) (AnswersSource x bytes)
    (λ a is. source_answer_is x bytes a None (line (refusal_text refusal.code refusal.offset)) 2 is
    (source_refused refusal.code refusal.offset c.in-Err.ensures)) c.refused_at.ensures
