-- What is said of words that are refused, and of which command the usage is shown.
use Rattle.std.specs.Prelude.{ℕ, List, ◌++◌, Option, Some, None, is_some, Bool, ◌&&◌, codes, length, nat_lt}
use Rattle.std.specs.Prelude.{if◌then◌else◌}
use Rattle.std.specs.Str.{bytes_eq}
use Rattle.std.specs.String.{string_bytes}
use Rattle.clap.specs.Words.{App, Row, first_of}
use Rattle.pf_cli.specs.Args.{is_given, property_names, source_names}
use Rattle.pf_cli.specs.Commands.{chart_app, check_app, explore_app, farm_app, hunt_app, run_app, shrink_app}
use Rattle.pf_cli.specs.declared.reading.ReadWords as reading_code
use Rattle.pf_cli.specs.declared.reading.ReadWords.TheVariants as read
use Rattle.pf_cli.specs.declared.refusals.Valued.{Valued}
use Rattle.pf_cli.specs.declared.refusals.Valued.TheVariants.{Run, Hunt, Explore, Shrink, Chart, Check, Farm}

-- ---- texts

-- the value of an option is invalid
abbrev pub value_text : (option value wants : List ℕ) → List ℕ
value_text option value wants =
    codes "invalid value '" ++ (value ++ (codes "' for '--" ++ (option ++ (codes "': it wants " ++ wants))))

-- an option whose value is a number
abbrev pub number_option : (name : List ℕ) → List ℕ
number_option name = name ++ codes " <N>"

-- a file is one too many
abbrev pub file_text : (file wants : List ℕ) → List ℕ
file_text file wants = codes "invalid value '" ++ (file ++ (codes "' for " ++ wants))

-- two words exclude each other
abbrev pub clash_text : (first second : List ℕ) → List ℕ
clash_text first second = codes "the argument '" ++ (first ++ (codes "' cannot be used with " ++ second))

-- what is printed for words that ask for no work
abbrev pub text_in : reading_code.ReadWords → Option (List ℕ)
text_in (read.Asked asked) = None
text_in (read.ScheduleIn file) = None
text_in (read.Text text status is_fault) = Some (string_bytes text)

-- ---- which words exclude each other

-- each outcome or a shrinking with another word of a hunt
abbrev pub clash_with : (reported : List ℕ) → (leaks every several : Bool) → Option (List ℕ × List ℕ)
clash_with reported leaks every several =
    if leaks then Some (reported, codes "'--leaks'")
    else (if every then Some (reported, codes "'--all-roots'")
    else (if several then Some (reported, codes "several files") else None))

-- or every root with one that is named, or each outcome with a shrinking or with several properties
abbrev pub clash_reported : (every leaks several many all : Bool) → (root shrink : Option (List ℕ))
    → Option (List ℕ × List ℕ)
clash_reported every leaks several many all root shrink =
    if every && is_some root then Some (codes "--all-roots", codes "'--root <F>'")
    else (if all && is_some shrink then Some (codes "--all", codes "'--shrink <N>'")
    else (if all && many then Some (codes "--all", codes "several properties")
    else (if all then clash_with (codes "--all") leaks every several
    else (if is_some shrink then clash_with (codes "--shrink <N>") leaks every several else None))))

abbrev pub clash_reported_in : List Row → Option (List ℕ × List ℕ)
clash_reported_in rows =
    clash_reported (is_given (first_of (codes "all-roots") rows)) (is_given (first_of (codes "leaks") rows))
    (nat_lt 1 (length (source_names rows))) (nat_lt 1 (length (property_names rows)))
    (is_given (first_of (codes "all") rows)) (first_of (codes "root") rows) (first_of (codes "shrink") rows)

-- ---- of which command the usage is shown

-- of that with this name; a form has those of `run`, `hunt`, `explore`, `shrink` and `check`
abbrev pub valued_named : (name : List ℕ) → Valued
valued_named name =
    if bytes_eq name (codes "run") then Run
    else (if bytes_eq name (codes "hunt") then Hunt
    else (if bytes_eq name (codes "explore") then Explore
    else (if bytes_eq name (codes "shrink") then Shrink else Check)))

abbrev pub usage_app : Valued → App
usage_app Run = run_app
usage_app Hunt = hunt_app
usage_app Explore = explore_app
usage_app Shrink = shrink_app
usage_app Chart = chart_app
usage_app Check = check_app
usage_app Farm = farm_app

-- and by this name
abbrev pub usage_name : Valued → List ℕ
usage_name Run = codes "pulsefarm run"
usage_name Hunt = codes "pulsefarm hunt"
usage_name Explore = codes "pulsefarm explore"
usage_name Shrink = codes "pulsefarm shrink"
usage_name Chart = codes "pulsefarm chart"
usage_name Check = codes "pulsefarm check"
usage_name Farm = codes "pulsefarm farm"
