-- What words ask for, and what is done for it.
use Rattle.std.proofs.Common.{◌≡◌, ◌≤◌, ℕ, Bool, true, false, List, length, Option, Result, Ok, Err, None, Some, refl}
use Rattle.std.proofs.Common.{sym, ap, ◌∙◌, subst, inl, inr, String, Global}
use Rattle.std.specs.Prelude.{IfSome, codes, is_some}
use Rattle.std.specs.Str.{bytes_eq}
use Rattle.pf_errors.specs.declared.memory.NoMemory.{NoMemory}
use Rattle.clap.specs.Words.{Text}
use Rattle.pf_cli.specs.Args.{Wanted, reading_by, reading_of, reads, reports, works}
use Rattle.pf_cli.specs.Args.{named_file, view_of_args, view_of_command}
use Rattle.pf_cli.specs.declared.args.CliCommand.{CliCommand}
use Rattle.pf_command.specs.Streams.{Streams, streams}
use Rattle.pf_cli_messages.specs.Texts.{IsFailure}
use Rattle.pf_text.specs.Numbers.{schedule_of}
use Rattle.pf_words.specs.declared.words.Obeyed.{Obeyed}
use Rattle.pf_words.specs.declared.words.Obeyed.TheVariants.{Status, Farm}
use Rattle.pf_words.specs.Schedules.{schedule_in}
use Rattle.pf_words.specs.declared.request.WordsRequest.{WordsRequest}
use Rattle.pf_words.specs.declared.request.WordsRequest.TheVariants as request
use Rattle.pf_words.specs.Words.{AreContents, AskedIsDone, AskedIsDoneOrRefused, AsksFor, IsDone, IsDoneAs}
use Rattle.pf_words.specs.Words.{NothingOut, Obeys, ObeysBy, ObeysByFile, ObeysIn, RequestIsDone}
use Rattle.pf_words.specs.Words.{FromOne, InForm, TextReported}

-- with a text for the schedule no file is named
pub never_reads : (o : Option Wanted) (file : Option Text) (status : ℕ) (name : Text)
    → reads name ≡ reading_by o file None status → ⊥
never_reads None file status name e = absurd (cc)
never_reads (Some w) file status name e = absurd (cc)

-- what a request asks for, if it asks for as much
pub asks_more : (P Q : (new : Streams) → Result Obeyed NoMemory → Type 0) (read : Streams)
    (r : Result WordsRequest NoMemory)
    → ((new : Streams) (r : Result Obeyed NoMemory) → P new r → Q new r) → AsksFor P read r → AsksFor Q read r
asks_more P Q read (Ok x) more h = λ new o done. more new (Ok o) (h new o done)
asks_more P Q read (Err e) more h = more read (Err e) h

-- what is done for a request that is known
pub asks_then : (P : (new : Streams) → Result Obeyed NoMemory → Type 0) (read new : Streams) (x y : WordsRequest)
    (o : Obeyed) → x ≡ y → AsksFor P read (Ok x) → RequestIsDone y read new o → P new (Ok o)
asks_then P read new x y o same asks done =
    asks new o (subst (λ (z : WordsRequest). RequestIsDone z read new o) (sym same) done)

-- the work that is asked for is done
pub work_asks : (asked other : CliCommand) (old new : Streams) (given : ℕ) → other ≡ asked
    → InForm other.format (FromOne (view_of_args other.args) (named_file other.args)) old new given
    → AskedIsDone (view_of_command asked) (named_file asked.args) old new (Status given)
work_asks asked other old new given same done =
    subst (λ (k : CliCommand). AskedIsDone (view_of_command k) (named_file k.args) old new (Status given)) same done

module _ (words : List Text) (old new : Streams) where
  pub asked_obeys : (w : Wanted) (file : Option Text) (o : Obeyed) → works w file ≡ reading_of None words
      → AskedIsDone w file old new o
      → Obeys words old new (Ok o)
  asked_obeys w file (Status given) e h = subst (λ r. IsDoneAs words r old new given) e h
  asked_obeys w file (Farm args) e h = (
    (None, w, sym e ∙ ap (works w) h.1, h.0),
    (ap (λ s. s.written) h.2, ap (λ s. s.failed_writes) h.2),
  )

  pub text_obeys : (status : ℕ) (is_fault : Bool) (given : ℕ) → reports status is_fault ≡ reading_of None words
      → TextReported status is_fault old new given
      → Obeys words old new (Ok (Status given))
  text_obeys status is_fault given e h = subst (λ r. IsDoneAs words r old new given) e h

  -- the same of the request
  pub text_asks : (text : String Global) (status : ℕ) (is_fault : Bool) (o : Obeyed)
      → reports status is_fault ≡ reading_of None words
      → RequestIsDone (request.Text text status is_fault) old new o → Obeys words old new (Ok o)
  text_asks text status is_fault (Status given) e h = text_obeys status is_fault given e h
  text_asks text status is_fault (Farm args) e h = absurd h

  pub file_obeys : (file : Text) (r : Result Obeyed NoMemory) → reads file ≡ reading_of None words
      → ObeysByFile words file old new r
      → Obeys words old new r
  file_obeys file (Ok (Status given)) e h = subst (λ r. IsDoneAs words r old new given) e h
  file_obeys file (Ok (Farm args)) e h = h
  file_obeys file (Err x) e h = h

-- ---- by a text for the schedule

module _ (words : List Text) (text : Text) (old new : Streams) where
  pub asked_obeys_by : (w : Wanted) (file : Option Text) (o : Obeyed) → works w file ≡ reading_of (Some text) words
      → AskedIsDoneOrRefused w file old new o → ObeysBy words text old new (Ok o)
  asked_obeys_by w file (Status given) e (inl h) = inl (subst (λ r. IsDone r old new given) e h)
  asked_obeys_by w file (Status given) e (inr h) = inr h
  asked_obeys_by w file (Farm args) e h = (
    (Some text, w, sym e ∙ ap (works w) h.1, h.0),
    (ap (λ s. s.written) h.2, ap (λ s. s.failed_writes) h.2),
  )

  pub text_obeys_by : (status : ℕ) (is_fault : Bool) (given : ℕ)
      → reports status is_fault ≡ reading_of (Some text) words
      → TextReported status is_fault old new given → ObeysBy words text old new (Ok (Status given))
  text_obeys_by status is_fault given e h = inl (subst (λ r. IsDone r old new given) e h)

  pub text_asks_by : (said : String Global) (status : ℕ) (is_fault : Bool) (o : Obeyed)
      → reports status is_fault ≡ reading_of (Some text) words
      → RequestIsDone (request.Text said status is_fault) old new o → ObeysBy words text old new (Ok o)
  text_asks_by said status is_fault (Status given) e h = text_obeys_by status is_fault given e h
  text_asks_by said status is_fault (Farm args) e h = absurd h

-- what is done isn't refused
pub or_refused : (w : Wanted) (file : Option Text) (old new : Streams) (o : Obeyed) → AskedIsDone w file old new o
    → AskedIsDoneOrRefused w file old new o
or_refused w file old new (Status given) h = inl h
or_refused w file old new (Farm args) h = h

nothing_out : (old new : Streams) → new ≡ old → NothingOut old new
nothing_out old new same = (ap (λ s. s.written) same, ap (λ s. s.failed_writes) same)

-- the source is to be what the schedule's file is: nothing is done
pub refused_status : (w : Wanted) (file : Option Text) (old new : Streams) (o : Obeyed)
    → RequestIsDone (request.Refused 2) old new o → AskedIsDoneOrRefused w file old new o
refused_status w file old new o h =
    subst (λ (x : Obeyed). AskedIsDoneOrRefused w file old new x) (sym h.1) (inr (nothing_out old new h.0, inl refl))

-- ---- by a file for the schedule

-- which has none
pub refused_in : (words : List Text) (contents : Text) (old new : Streams) (status : ℕ) (o : Obeyed)
    → IsFailure status → RequestIsDone (request.Refused status) old new o → ObeysIn words contents old new (Ok o)
refused_in words contents old new status o is h =
    subst (λ (x : Obeyed). ObeysIn words contents old new (Ok x)) (sym h.1) (inr (nothing_out old new h.0, is))

-- or can't be read
pub refused_by_file : (words : List Text) (file : Text) (u0 u1 w : Option (List ℕ)) (m0 m1 n : ℕ) (new : Streams)
    (status : ℕ) (o : Obeyed)
    → IsFailure status → RequestIsDone (request.Refused status) (streams u1 w m1 n) new o
    → ObeysByFile words file (streams u0 w m0 n) new (Ok o)
refused_by_file words file u0 u1 w m0 m1 n new status o is h =
    subst (λ (x : Obeyed). ObeysByFile words file (streams u0 w m0 n) new (Ok x)) (sym h.1)
    (inr (nothing_out (streams u1 w m1 n) new h.0, is))

-- by the schedule in its contents
pub in_contents : (words : List Text) (contents : Text) (old new : Streams) (r : Result Obeyed NoMemory)
    → is_some (schedule_of (schedule_in contents)) ≡ true → ObeysBy words (schedule_in contents) old new r
    → ObeysIn words contents old new r
in_contents words contents old new (Ok (Status given)) is h = inl (is, h)
in_contents words contents old new (Ok (Farm args)) is h = h
in_contents words contents old new (Err e) is h = h

-- what was read
pub are_contents : (file contents : Text) (u0 u1 w : Option (List ℕ)) (m0 m1 n : ℕ) → length contents ≤ 67108864
    → (bytes_eq file (codes "-") ≡ false → u1 ≡ u0) → (bytes_eq file (codes "-") ≡ false → m1 ≡ m0)
    → (bytes_eq file (codes "-") ≡ true → IfSome u0 (λ input. contents ≡ input))
    → AreContents file contents (streams u0 w m0 n) (streams u1 w m1 n)
are_contents file contents u0 u1 w m0 m1 n most unread kept whole = (
  most,
  (refl, refl),
  λ other.
      ap (λ u. streams u w m1 n) (unread other)
      ∙ ap (λ m. streams u0 w m n) (kept other),
  whole,
)

module _ (words : List Text) (file contents : Text) (old read new : Streams) where
  -- nothing was written since
  out_since : NothingOut old read → NothingOut read new → NothingOut old new
  out_since a b = (b.0 ∙ a.0, b.1 ∙ a.1)

  pub by_contents : (r : Result Obeyed NoMemory) → AreContents file contents old read
      → ObeysIn words contents read new r → ObeysByFile words file old new r
  by_contents (Ok (Status given)) are h = inl (contents, read, are, h)
  by_contents (Ok (Farm args)) are h = (h.0, out_since are.1 h.1)
  by_contents (Err e) are h = out_since are.1 h
