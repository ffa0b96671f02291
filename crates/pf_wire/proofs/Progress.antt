-- How far the commands of some bytes were answered, and what goes on from there.
use Rattle.std.proofs.Common.{◌≡◌, ◌≤◌, ◌+◌, ℕ, zero, suc, Bool, true, false, List, [], ◌∷◌, ◌++◌, length, Option, Some}
use Rattle.std.proofs.Common.{None, refl, sym, ap, ◌∙◌, subst, arith, append_assoc, length-append}
use Rattle.std.specs.Prelude.{map, take}
use Rattle.std.proofs.lemmas.List.{append-nil}
use Rattle.pf_world.specs.World.{RunProfile, World, new_world}
use Rattle.pf_world.specs.Chores.{Response}
use Rattle.pf_world.specs.Steps.{WorldStep, take_step, responses, all_responses}
use Rattle.pf_world.specs.Memory.{RespondsTo, RespondsInTurn}
use Rattle.pf_world.specs.Alone.{heard, heard_alone}
use Rattle.pf_world.specs.Reported.{step_text, outcomes_text}
use Rattle.pf_world.proofs.InTurn.{in_turn}
use Rattle.pf_world.proofs.Isolated.{isolated}
use Rattle.pf_protocol.specs.Commands as commands
use Rattle.pf_protocol.specs.Commands.{Commands, command_at}
use Rattle.pf_wire.specs.Steps.{StepsText, last_text, steps_status}
use Rattle.pf_wire.specs.Turns.{MayFollow, Turns, IsNoCommand}
use Rattle.pf_wire.specs.declared.steps.TheConstants.{WORKERS}
use Rattle.pf_protocol.specs.Complete.{is_due, is_complete, CompleteCommands, command}
use Rattle.pf_protocol.proofs.Shorter.{command_shorter}
use Rattle.pf_protocol.proofs.Completed.{with_more, command_stays, complete_stays}

-- ---- worlds

-- all steps are answered in turn where no allocation fails
all_answered : (p : RunProfile) (w : World) (ss : List WorldStep)
    → (last : World) × RespondsInTurn p w ss (map Some (responses p w ss)) last
all_answered p w [] = (w, refl)
all_answered p w (s ∷ ss) = let rest = all_answered p (take_step p w s).0 ss in
    (rest.0, ((take_step p w s).0, refl, rest.1))

-- so are those before the first step in which an allocation failed
first_answered : (p : RunProfile) (w last : World) (ss : List WorldStep) (xs others : List (Option Response))
    (as' : List Response) → RespondsInTurn p w ss xs last
    → xs ≡ map Some as' ++ others → (middle : World) × RespondsInTurn p w (take (length as') ss) (map Some as') middle
first_answered p w last [] xs others [] c e = (w, refl)
first_answered p w last (s ∷ ss) xs others [] c e = (w, refl)
first_answered p w last [] [] others (a ∷ as') c e = absurd cc
first_answered p w last [] (x ∷ xs) others (a ∷ as') c e = absurd c
first_answered p w last (s ∷ ss) [] others (a ∷ as') c e = absurd c
first_answered p w last (s ∷ ss) (x ∷ xs) others (a ∷ as') c e =
    let first : x ≡ Some a = cc in
    let rest : xs ≡ map Some as' ++ others = cc in
    let here = subst (λ (y : Option Response). RespondsTo p w s y c.0) first c.1 in
    let more = first_answered p c.0 last ss xs others as' c.2 rest in
    (more.0, (c.0, here, more.1))

-- up to there each project is answered as if it were alone
heard_as_alone : (p : RunProfile) (ss : List WorldStep) (xs : List (Option Response)) (last : World)
    → RespondsInTurn p (new_world WORKERS) ss xs last
    → (as' : List Response) (others : List (Option Response)) → xs ≡ map Some as' ++ others
    → (q : ℕ) → heard q (take (length as') ss) as' ≡ heard_alone p WORKERS q (take (length as') ss)
heard_as_alone p ss xs last c as' others e q =
    let first = take (length as') ss in
    let same : as' ≡ all_responses p WORKERS first =
    (in_turn p WORKERS first as').0 (first_answered p (new_world WORKERS) last ss xs others as' c e) in
    ap (heard q first) same ∙ isolated p WORKERS q first

-- ---- texts

text_append : (ss ts : List WorldStep) (xs ys : List (Option Response)) → length ss ≡ length xs
    → outcomes_text (ss ++ ts) (xs ++ ys) ≡ outcomes_text ss xs ++ outcomes_text ts ys
text_append [] ts [] ys h = refl
text_append [] ts (x ∷ xs) ys h = absurd (omega arith)
text_append (s ∷ ss) ts [] ys h = absurd (omega arith)
text_append (s ∷ ss) ts (x ∷ xs) ys h =
    ap (λ (t : List ℕ). step_text s x ++ t) (text_append ss ts xs ys (omega arith))
    ∙ sym (append_assoc (step_text s x) (outcomes_text ss xs) (outcomes_text ts ys))

-- ---- commands

with_none : (o : Option (WorldStep × List ℕ)) → with_more [] o ≡ o
with_none None = refl
with_none (Some q) = ap (λ (bs : List ℕ). Some (q.0, bs)) (append-nil q.1)

pub nothing_due : (over : Bool) → is_due over [] ≡ true → ⊥
nothing_due true h = cc
nothing_due false h = cc

abbrev IsAny : List ℕ → Type 0
IsAny rest = (ss : List WorldStep) × (good : Bool) × Commands rest ss good

any_from : (b : ℕ) (bs : List ℕ) → ((rest : List ℕ) → length rest ≤ length bs → IsAny rest)
    → (o : Option (WorldStep × List ℕ)) → command_at (b ∷ bs) ≡ o → IsAny (b ∷ bs)
any_from b bs more None e = ([], false, commands.no_command b bs e)
any_from b bs more (Some p) e =
    let rest = more p.1 (command_shorter b bs p.0 p.1 e) in
    (p.0 ∷ rest.0, rest.1, commands.command b bs p.1 p.0 rest.0 rest.1 e rest.2)

-- all bytes are commands up to some offset
any_within : (n : ℕ) (rest : List ℕ) → length rest ≤ n → IsAny rest
any_within n [] le = ([], true, commands.over)
any_within zero (b ∷ bs) le = absurd (omega arith)
any_within (suc n) (b ∷ bs) le = any_from b bs (λ rest shorter. any_within n rest (omega arith))
    (command_at (b ∷ bs)) refl

-- ---- one command more

-- what is due is what it is, whatever may follow
pub due_stays : (over : Bool) (rest more : List ℕ) → is_due over rest ≡ true → MayFollow over more
    → command_at (rest ++ more) ≡ with_more more (command_at rest)
due_stays false rest more due f = command_stays rest more due
due_stays true rest more due f =
    rw (f refl) (ap command_at (append-nil rest) ∙ sym (with_none (command_at rest)))

one_due : (over : Bool) (rest after more : List ℕ) (s : WorldStep) (ss : List WorldStep) (good : Bool)
    → is_due over rest ≡ true → MayFollow over more
    → command_at rest ≡ Some (s, after) → Commands (after ++ more) ss good → Commands (rest ++ more) (s ∷ ss) good
one_due over [] after more s ss good due f e c = absurd (nothing_due over due)
one_due over (b ∷ bs) after more s ss good due f e c =
    commands.command b (bs ++ more) (after ++ more) s ss good
    (due_stays over (b ∷ bs) more due f ∙ ap (with_more more) e) c

whole_due : (over : Bool) (rest : List ℕ) → over ≡ false → is_due over rest ≡ true → is_complete rest ≡ true
whole_due false rest o due = due
whole_due true rest o due = absurd cc

one_whole : (rest after more : List ℕ) (s : WorldStep) (ss : List WorldStep) → is_complete rest ≡ true
    → command_at rest ≡ Some (s, after) → CompleteCommands (after ++ more) ss
    → CompleteCommands (rest ++ more) (s ∷ ss)
one_whole rest after more s ss whole e c =
    command (rest ++ more) (after ++ more) s ss (complete_stays rest more whole)
    (command_stays rest more whole ∙ ap (with_more more) e) c

-- a line that is due and no command is none, whatever follows
pub none_due : (over : Bool) (rest : List ℕ) → is_due over rest ≡ true → command_at rest ≡ None → IsNoCommand over rest
none_due over [] due e = absurd (nothing_due over due)
none_due over (b ∷ bs) due e = λ more f. commands.no_command b (bs ++ more)
    (due_stays over (b ∷ bs) more due f ∙ ap (with_more more) e)

-- ---- turns

pub begun : (p : RunProfile) (over : Bool) (bytes : List ℕ) (v : World) (j : ℕ) → Turns p over bytes v j [] bytes v j
begun p over bytes v j = record {
  steps = [];
  outcomes = [];
  commands = λ more f ss good c. c;
  wholes = λ o more ss c. c;
  in_turn = λ ss xs last c. c;
  paired = refl;
  writes = refl;
  counts = omega arith;
}

-- one command is its turn
pub turn_of_one : (p : RunProfile) (over : Bool) (rest after : List ℕ) (w w' : World) (k : ℕ) (s : WorldStep)
    (x : Option Response) → is_due over rest ≡ true
    → command_at rest ≡ Some (s, after) → RespondsTo p w s x w' → Turns p over rest w k (step_text s x) after w' (k + 1)
turn_of_one p over rest after w w' k s x due e h = record {
  steps = s ∷ [];
  outcomes = x ∷ [];
  commands = λ more f ss good c. one_due over rest after more s ss good due f e c;
  wholes = λ o more ss c. one_whole rest after more s ss (whole_due over rest o due) e c;
  in_turn = λ ss xs last c. (w', h, c);
  paired = refl;
  writes = sym (append-nil (step_text s x));
  counts = refl;
}

-- some commands and then some more
pub turns_both : (p : RunProfile) (over : Bool) (bytes rest left : List ℕ) (v w x : World) (j k l : ℕ)
    (text more_text : List ℕ)
    → Turns p over bytes v j text rest w k → Turns p over rest w k more_text left x l
    → Turns p over bytes v j (text ++ more_text) left x l
turns_both p over bytes rest left v w x j k l text more_text a b = record {
  steps = a.steps ++ b.steps;
  outcomes = a.outcomes ++ b.outcomes;
  commands = λ more f ss good c.
      subst (λ (ts : List WorldStep). Commands (bytes ++ more) ts good) (sym (append_assoc a.steps b.steps ss))
      (a.commands more f (b.steps ++ ss) good (b.commands more f ss good c));
  wholes = λ o more ss c.
      subst (CompleteCommands (bytes ++ more)) (sym (append_assoc a.steps b.steps ss))
      (a.wholes o more (b.steps ++ ss) (b.wholes o more ss c));
  in_turn = λ ss xs last c.
      subst (λ (ts : List WorldStep). RespondsInTurn p v ts ((a.outcomes ++ b.outcomes) ++ xs) last)
      (sym (append_assoc a.steps b.steps ss))
      (subst (λ (ys : List (Option Response)). RespondsInTurn p v (a.steps ++ (b.steps ++ ss)) ys last)
      (sym (append_assoc a.outcomes b.outcomes xs))
      (a.in_turn (b.steps ++ ss) (b.outcomes ++ xs) last (b.in_turn ss xs last c)));
  paired = omega (arith, length-append a.steps b.steps, length-append a.outcomes b.outcomes, a.paired, b.paired);
  writes =
      ap (λ (t : List ℕ). t ++ more_text) a.writes
      ∙ ap (λ (t : List ℕ). outcomes_text a.steps a.outcomes ++ t) b.writes
      ∙ sym (text_append a.steps b.steps a.outcomes b.outcomes a.paired);
  counts = omega (arith, length-append a.steps b.steps, a.counts, b.counts);
}

-- a piece more was read
pub turns_later : (p : RunProfile) (over : Bool) (bytes rest piece : List ℕ) (v w : World) (j k : ℕ) (text : List ℕ)
    → Turns p false bytes v j text rest w k
    → Turns p over (bytes ++ piece) v j text (rest ++ piece) w k
turns_later p over bytes rest piece v w j k text a = record {
  steps = a.steps;
  outcomes = a.outcomes;
  commands = λ more f ss good c.
      subst (λ (bs : List ℕ). Commands bs (a.steps ++ ss) good) (sym (append_assoc bytes piece more))
      (a.commands (piece ++ more) (λ (o : false ≡ true). absurd cc) ss good
      (subst (λ (bs : List ℕ). Commands bs ss good) (append_assoc rest piece more) c));
  wholes = λ o more ss c.
      subst (λ (bs : List ℕ). CompleteCommands bs (a.steps ++ ss)) (sym (append_assoc bytes piece more))
      (a.wholes refl (piece ++ more) ss (subst (λ (bs : List ℕ). CompleteCommands bs ss)
      (append_assoc rest piece more) c));
  in_turn = a.in_turn;
  paired = a.paired;
  writes = a.writes;
  counts = a.counts;
}

-- ---- the whole text

-- the rest in one
finished : (p : RunProfile) (over : Bool) (bytes rest more : List ℕ) (w last : World) (text : List ℕ) (k : ℕ)
    (ss : List WorldStep) (xs : List (Option Response)) (good : Bool)
    → Turns p over bytes (new_world WORKERS) 1 text rest w k → MayFollow over more → Commands (rest ++ more) ss good
    → RespondsInTurn p w ss xs last
    → StepsText p (bytes ++ more) (text ++ (outcomes_text ss xs ++ last_text good (k + length ss))) (steps_status good)
finished p over bytes rest more w last text k ss xs good so f c h =
    let in_turn = so.in_turn ss xs last h in
    let number : k + length ss ≡ length (so.steps ++ ss) + 1 = omega (arith, length-append so.steps ss, so.counts) in
    let said = last_text good (k + length ss) in
    record {
      steps = so.steps ++ ss;
      good = good;
      commands = so.commands more f ss good c;
      outcomes = so.outcomes ++ xs;
      last = last;
      in_turn = in_turn;
      writes =
          ap (λ (t : List ℕ). t ++ (outcomes_text ss xs ++ said)) so.writes
          ∙ sym (append_assoc (outcomes_text so.steps so.outcomes) (outcomes_text ss xs) said)
          ∙ ap (λ (t : List ℕ). t ++ said) (sym (text_append so.steps ss so.outcomes xs so.paired))
          ∙ ap (λ (n : ℕ). outcomes_text (so.steps ++ ss) (so.outcomes ++ xs) ++ last_text good n) number;
      ends = refl;
      isolated = heard_as_alone p (so.steps ++ ss) (so.outcomes ++ xs) last in_turn;
    }

-- at the end of the input
pub finished_well : (p : RunProfile) (bytes : List ℕ) (w : World) (text : List ℕ) (k : ℕ)
    → Turns p true bytes (new_world WORKERS) 1 text [] w k → StepsText p bytes text 0
finished_well p bytes w text k so =
    subst (λ (bs : List ℕ). StepsText p bs text 0) (append-nil bytes)
    (subst (λ (t : List ℕ). StepsText p (bytes ++ []) t 0) (append-nil text)
    (finished p true bytes [] [] w w text k [] [] true so (λ o. refl) commands.over refl))

-- at a line that is no command
pub finished_ill : (p : RunProfile) (over : Bool) (bytes rest more : List ℕ) (w : World) (text : List ℕ) (k : ℕ)
    → Turns p over bytes (new_world WORKERS) 1 text rest w k
    → MayFollow over more → IsNoCommand over rest → StepsText p (bytes ++ more) (text ++ last_text false k) 2
finished_ill p over bytes rest more w text k so f none =
    let same : k + length {A = WorldStep} [] ≡ k = omega arith in
    subst (λ (n : ℕ). StepsText p (bytes ++ more) (text ++ last_text false n) 2) same
    (finished p over bytes rest more w w text k [] [] false so f (none more f) refl)

-- however far it came, there is a text that goes on from here
pub goes_on : (p : RunProfile) (over : Bool) (bytes rest more : List ℕ) (w : World) (text : List ℕ) (k : ℕ)
    → Turns p over bytes (new_world WORKERS) 1 text rest w k
    → MayFollow over more → (others : List ℕ) × (status : ℕ) × StepsText p (bytes ++ more) (text ++ others) status
goes_on p over bytes rest more w text k so f =
    let c = any_within (length (rest ++ more)) (rest ++ more) (omega arith) in
    let all = all_answered p w c.0 in
    let xs = map Some (responses p w c.0) in (
      outcomes_text c.0 xs ++ last_text c.1 (k + length c.0),
      steps_status c.1,
      finished p over bytes rest more w all.0 text k c.0 xs c.1 so f c.2 all.1,
    )
