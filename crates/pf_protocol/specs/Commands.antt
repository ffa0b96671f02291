-- Commands: what the bytes that `steps` reads ask for. One command is on a line, its words parted by single spaces.
use Rattle.std.specs.Prelude.{◌≡◌, ℕ, ◌==◌, Bool, true, false, ◌&&◌, ◌||◌, not, nat_le, nat_lt, if◌then◌else◌, List, []}
use Rattle.std.specs.Prelude.{◌∷◌, length, take, drop, Option, Some, None, codes}
use Rattle.std.specs.List.{list_any, slice_split}
use Rattle.std.specs.Option.{option_map}
use Rattle.std.specs.Str.{bytes_eq}
use Rattle.pf_text.specs.Numbers.{long_number_of, number_of_digits, schedule_of}
use Rattle.pf_model.specs.Meaning.{Choices, seed, schedule, weighted_seed}
use Rattle.pf_request.specs.Calls.{Call, submit, order, fetch, status, drop_trial, withdraw, usage, log, edition}
use Rattle.pf_request.specs.Request.{RequestKind, run, shrink}
use Rattle.pf_request.specs.declared.step.Chore.{Chore}
use Rattle.pf_request.specs.declared.step.Chore.TheVariants.{Claim, Slice, Park, TakeUp, Steal, File, HandBack}
use Rattle.pf_world.specs.Steps.{WorldStep, client_calls, worker_does}

-- ---- lines and words

-- the first line without its end, whether it has one, and what follows
pub record Line : Type 0 where
  pub text : List ℕ
  pub is_ended : Bool
  pub rest : List ℕ

abbrev pub with_byte : ℕ → Line → Line
with_byte b l = record { text = b ∷ l.text; is_ended = l.is_ended; rest = l.rest }

abbrev pub first_line : List ℕ → Line
first_line [] = record { text = []; is_ended = false; rest = [] }
first_line (b ∷ bs) = if b == 10 then record { text = []; is_ended = true; rest = bs } else with_byte b (first_line bs)

-- a word isn't empty, and has no tabulator and no carriage return
abbrev pub is_line_word : List ℕ → Bool
is_line_word [] = false
is_line_word (b ∷ bs) = not (list_any (λ c. (c == 9) || (c == 13)) (b ∷ bs))

-- what is between such bytes, before the first and after the last
abbrev pub parts_between : ℕ → List ℕ → List (List ℕ)
parts_between at text = slice_split (λ b. b == at) text

abbrev pub words_of_line : List ℕ → List (List ℕ)
words_of_line text = parts_between 32 text

-- ---- what a line asks for

-- a line asks for a step, or for the submission of a source whose bytes follow it
pub data LineContent : Type 0 where
  made : WorldStep → LineContent
  submission : (project size : ℕ) → LineContent

abbrev pub with_two : (ℕ → ℕ → LineContent) → Option ℕ → Option ℕ → Option LineContent
with_two f (Some m) (Some n) = Some (f m n)
with_two f _ _ = None

abbrev pub one_number : (ℕ → LineContent) → Option ℕ → Option LineContent
one_number f (Some n) = Some (f n)
one_number f None = None

-- the words after the first, which are two numbers, or one
abbrev pub of_two : (ℕ → ℕ → LineContent) → List (List ℕ) → Option LineContent
of_two f (a ∷ b ∷ []) = with_two f (number_of_digits a) (number_of_digits b)
of_two f _ = None

abbrev pub of_one : (ℕ → LineContent) → List (List ℕ) → Option LineContent
of_one f (a ∷ []) = one_number f (number_of_digits a)
of_one f _ = None

abbrev pub with_three : (ℕ → ℕ → ℕ → LineContent) → Option ℕ → Option ℕ → Option ℕ → Option LineContent
with_three f (Some l) (Some m) (Some n) = Some (f l m n)
with_three f _ _ _ = None

abbrev pub with_four : (ℕ → ℕ → ℕ → ℕ → Option LineContent) → Option ℕ → Option ℕ → Option ℕ → Option ℕ
    → Option LineContent
with_four f (Some k) (Some l) (Some m) (Some n) = f k l m n
with_four f _ _ _ _ = None

-- they are three numbers, or four
abbrev pub of_three : (ℕ → ℕ → ℕ → LineContent) → List (List ℕ) → Option LineContent
of_three f (a ∷ b ∷ c ∷ []) = with_three f (number_of_digits a) (number_of_digits b) (number_of_digits c)
of_three f _ = None

abbrev pub of_four : (ℕ → ℕ → ℕ → ℕ → Option LineContent) → List (List ℕ) → Option LineContent
of_four f (a ∷ b ∷ c ∷ d ∷ []) = with_four f (number_of_digits a) (number_of_digits b) (number_of_digits c)
    (number_of_digits d)
of_four f _ = None

abbrev pub with_weights : (number process channel : Option ℕ) → Option Choices
with_weights (Some n) (Some process) (Some channel) = Some (weighted_seed n process channel)
with_weights _ _ _ = None

-- N, or N:R:D: a long number, and by weights two numbers more, the weight of a process and that of a channel
abbrev pub of_seed : List (List ℕ) → Option Choices
of_seed (n ∷ []) = option_map seed (long_number_of n)
of_seed (n ∷ process ∷ channel ∷ []) = with_weights (long_number_of n) (number_of_digits process)
    (number_of_digits channel)
of_seed _ = None

-- choices are `seed:`, a seed and maybe its weights, parted by colons, or else a schedule
abbrev pub choices_at : List ℕ → Option Choices
choices_at text =
    if bytes_eq (take 5 text) (codes "seed:") then of_seed (parts_between 58 (drop 5 text))
    else option_map schedule (schedule_of text)

-- an order of a module of a project: from a root, with a property, of a kind and within a limit
abbrev pub with_order : (root property : List ℕ) → (project n : Option ℕ) → Option RequestKind → (limit : Option ℕ)
    → Option LineContent
with_order root property (Some project) (Some n) (Some k) (Some limit) =
    Some (made (client_calls project (order n (record { root = root; property = property; kind = k; limit = limit }))))
with_order root property _ _ _ _ = None

-- P M ROOT PROPERTY CHOICES LIMIT
abbrev pub of_order : List (List ℕ) → Option LineContent
of_order (p ∷ m ∷ root ∷ property ∷ choices ∷ limit ∷ []) =
    if is_line_word root && is_line_word property
    then with_order root property (number_of_digits p) (number_of_digits m) (option_map run (choices_at choices))
    (number_of_digits limit)
    else None
of_order _ = None

-- the shrinking of a schedule within n runs
abbrev pub with_runs : Option (List ℕ) → Option ℕ → Option RequestKind
with_runs (Some ns) (Some runs) = Some (shrink ns runs)
with_runs _ _ = None

-- P M ROOT PROPERTY LIST RUNS LIMIT
abbrev pub of_shrink : List (List ℕ) → Option LineContent
of_shrink (p ∷ m ∷ root ∷ property ∷ numbers ∷ runs ∷ limit ∷ []) =
    if is_line_word root && is_line_word property
    then with_order root property (number_of_digits p) (number_of_digits m)
    (with_runs (schedule_of numbers) (number_of_digits runs)) (number_of_digits limit)
    else None
of_shrink _ = None

-- P, or P and a number: a call of a project, which names nothing more or a number
abbrev pub of_project : Call → List (List ℕ) → Option LineContent
of_project c ws = of_one (λ p. made (client_calls p c)) ws

abbrev pub of_call : (ℕ → Call) → List (List ℕ) → Option LineContent
of_call f ws = of_two (λ p n. made (client_calls p (f n))) ws

-- W P T: a chore of a worker about the trial of a project's ticket
abbrev pub of_chore : Chore → List (List ℕ) → Option LineContent
of_chore k ws = of_three (λ w p t. made (worker_does w p t k)) ws

-- W P T TURNS: a slice, which has at least one turn
abbrev pub slice_of : (worker project ticket turns : ℕ) → Option LineContent
slice_of w p t turns = if nat_lt 0 turns then Some (made (worker_does w p t (Slice turns))) else None

-- W V P T: a worker steals from another
abbrev pub theft_of : (worker from project ticket : ℕ) → Option LineContent
theft_of w v p t = Some (made (worker_does w p t (Steal v)))

-- the first word names what a worker does
abbrev pub work_asked : List ℕ → List (List ℕ) → Option LineContent
work_asked w ws =
    if bytes_eq w (codes "claim") then of_chore Claim ws
    else (if bytes_eq w (codes "slice") then of_four slice_of ws
    else (if bytes_eq w (codes "park") then of_chore Park ws
    else (if bytes_eq w (codes "take") then of_chore TakeUp ws
    else (if bytes_eq w (codes "steal") then of_four theft_of ws
    else (if bytes_eq w (codes "file") then of_chore File ws
    else (if bytes_eq w (codes "back") then of_chore HandBack ws
    else None))))))

-- the first word names the command, which is a client's call or else a worker's chore
abbrev pub content_of_line : List (List ℕ) → Option LineContent
content_of_line [] = None
content_of_line (w ∷ ws) =
    if bytes_eq w (codes "submit") then of_two submission ws
    else (if bytes_eq w (codes "order") then of_order ws
    else (if bytes_eq w (codes "shrink") then of_shrink ws
    else (if bytes_eq w (codes "fetch") then of_call fetch ws
    else (if bytes_eq w (codes "status") then of_call status ws
    else (if bytes_eq w (codes "drop") then of_call drop_trial ws
    else (if bytes_eq w (codes "withdraw") then of_call withdraw ws
    else (if bytes_eq w (codes "usage") then of_project usage ws
    else (if bytes_eq w (codes "log") then of_project log ws
    else (if bytes_eq w (codes "edition") then of_call edition ws
    else work_asked w ws)))))))))

-- ---- what some bytes begin with

-- what follows the bytes of a source: a line end, unless nothing follows
abbrev pub after_source : WorldStep → List ℕ → Option (WorldStep × List ℕ)
after_source s [] = Some (s, [])
after_source s (b ∷ bs) = if b == 10 then Some (s, bs) else None

-- the source of n bytes is in the lines that follow an ended line
abbrev pub with_source : Bool → (project size : ℕ) → List ℕ → Option (WorldStep × List ℕ)
with_source ended project size rest =
    if ended && nat_le size (length rest)
    then after_source (client_calls project (submit (take size rest))) (drop size rest)
    else None

abbrev pub complete_command : Option LineContent → Bool → List ℕ → Option (WorldStep × List ℕ)
complete_command None ended rest = None
complete_command (Some (made s)) ended rest = Some (s, rest)
complete_command (Some (submission project size)) ended rest = with_source ended project size rest

-- the command that some bytes begin with, and what follows it
abbrev pub command_at : List ℕ → Option (WorldStep × List ℕ)
command_at bytes = complete_command (content_of_line (words_of_line (first_line bytes).text))
    (first_line bytes).is_ended (first_line bytes).rest

-- Commands bytes steps good: the bytes are the commands of these steps; then they are over, or a line follows that is
-- no command
pub data Commands : List ℕ → List WorldStep → Bool → Type 0 where
  over : Commands [] [] true
  no_command : (b : ℕ) (bs : List ℕ) → command_at (b ∷ bs) ≡ None → Commands (b ∷ bs) [] false
  command : (b : ℕ) (bs rest : List ℕ) (s : WorldStep) (ss : List WorldStep) (good : Bool)
      → command_at (b ∷ bs) ≡ Some (s, rest)
      → Commands rest ss good → Commands (b ∷ bs) (s ∷ ss) good
