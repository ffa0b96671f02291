-- What is printed of an answer.
use Rattle.std.proofs.Common.{ℕ, List, [], Option, Result, Ok, Err, sym, subst}
use Rattle.std.specs.Prelude.{IfOk}
use Rattle.pf_streams.specs.declared.stream.StreamFault.{StreamFault}
use Rattle.pf_hunt.specs.Notices.{HearsSome, Notice}
use Rattle.pf_cli.specs.Args.{HuntArgs, RunArgs}
use Rattle.pf_command.specs.AskedRuns.{RunAnswers, RunCounts}
use Rattle.pf_command.specs.Hunts.{HuntAnswers}
use Rattle.pf_command.specs.Printed.{HuntEndsAs, IsFound, IsAnswerTo, MaySay, RunEndsAs, WaitsAs}
use Rattle.pf_command.specs.Streams.{Answering, PrintsAnswer, WentOut}
use Rattle.pf_command.specs.declared.answer.Output.{Output}
use Rattle.pf_command.specs.declared.answers.Answer.{Answer}
use Rattle.pf_command.specs.declared.answers.Answer.TheVariants.{Reported, Run, Found}
use Rattle.pf_command.proofs.Streaming.{prints_more}

-- what holds of each value holds of one that there is
pub ok_all : {A E : Type 0} (P : A → Type 0) (r : Result A E) → ((s : A) → P s) → IfOk r P
ok_all P (Ok s) f = f s
ok_all P (Err e) f = tt

-- an answer is printed as it is
pub reported_so : (P : Answering) (bytes : List ℕ) (a : Output) → P bytes a.text.items a.status
    → IsAnswerTo P bytes (Reported a)
reported_so P bytes a h = ([], tt, λ t s say. rw (say.0, say.1) h)

-- what is printed of an answer to a source answers that
pub answer_sent : (P : Answering) (bytes : List ℕ) (x : Answer) (w0 w1 : Option (List ℕ)) (n0 n1 : ℕ)
    (r : Result ℕ StreamFault) → IsAnswerTo P bytes x
    → ((b : List ℕ) (ns : List Notice) → IsFound b ns x → PrintsAnswer (MaySay b ns x) w0 w1 n0 n1 r)
    → PrintsAnswer (P bytes) w0 w1 n0 n1 r
answer_sent P bytes x w0 w1 n0 n1 r is printed =
    prints_more (MaySay bytes is.0 x) (P bytes) w0 w1 n0 n1 is.2 r (printed bytes is.0 is.1)

-- ---- of a run

pub run_is_answer : (a : RunArgs) (bytes : List ℕ) (x : Answer) → RunEndsAs a bytes x
    → IsAnswerTo (RunAnswers a) bytes x
run_is_answer a bytes (Reported o) h = reported_so (RunAnswers a) bytes o h.0
run_is_answer a bytes (Run r) h = ([], tt, λ t s say. (h say.0 say.1).0 t s say.2)
run_is_answer a bytes (Found f) h = absurd h

-- and who is counted after it was printed waits
pub run_waits : (a : RunArgs) (bytes : List ℕ) (x : Answer) (old new : ℕ) (w0 w1 : Option (List ℕ)) (n0 n1 s : ℕ)
    → RunEndsAs a bytes x
    → ((b : List ℕ) (ns : List Notice) → IsFound b ns x → PrintsAnswer (MaySay b ns x) w0 w1 n0 n1 (Ok s))
    → WaitsAs x old new w0 w1 s
    → WentOut (RunCounts a old new bytes) w0 w1 s
run_waits a bytes (Reported o) old new w0 w1 n0 n1 s h printed same =
    let p = printed bytes [] tt in (
      p.0,
      subst (λ n. RunCounts a old n bytes p.0 s) (sym same)
          (subst (λ t. RunCounts a old old bytes t s) (sym p.1.0)
          (subst (λ k. RunCounts a old old bytes o.text.items k) (sym p.1.1) (h.1 old))),
      p.2,
    )
run_waits a bytes (Run r) old new w0 w1 n0 n1 s h printed is =
    (is.2.0, (h is.0 is.1).1 old new is.2.0 s is.2.1, is.2.2)
run_waits a bytes (Found f) old new w0 w1 n0 n1 s h printed is = absurd h

-- ---- of a hunt

pub hunt_is_answer : {S : Type 0} (heard : S → List Notice → Type 0) (old new : S) (h : HuntArgs) (bytes : List ℕ)
    (x : Answer) → HearsSome heard old (HuntEndsAs h h.sought bytes x) new → IsAnswerTo (HuntAnswers h) bytes x
hunt_is_answer heard old new h bytes x ends = (ends.0, ends.1.0, λ t s say. (ends.0, ends.1.1 t s say))
