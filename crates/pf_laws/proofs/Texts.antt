-- The texts of values, labels, events and reports, if each byte of an atom may be in quotes.
use Rattle.std.proofs.Common.{◌≡◌, ℕ, Bool, true, false, ◌==◌, ◌||◌, ◌&&◌, not, if◌then◌else◌, List, [], ◌∷◌, ◌++◌}
use Rattle.std.proofs.Common.{Option, Some, None, refl}
use Rattle.std.specs.Prelude.{is_some, codes}
use Rattle.std.specs.Fmt.{decimal}
use Rattle.std.specs.List.{flat_map, list_all}
use Rattle.std.proofs.lemmas.Bool.{and_from, and_parts}
use Rattle.pf_terms.specs.Value.{Value, Values, int, atom, ref, pid, tuple, list, none, more}
use Rattle.pf_tokens.specs.Bytes.{backslash, is_lower, is_quotable, is_visible, is_word_byte, single_quote}
use Rattle.pf_tokens.specs.TokenKinds.{reserved_of}
use Rattle.pf_ops.specs.Operations.{truth}
use Rattle.pf_model.specs.Channels.{Signal, message, link, unlink, monitor, demonitor, down, exit}
use Rattle.pf_model.specs.Labels as label
use Rattle.pf_model.specs.Labels.{Label, Suffix, took_effect, no_process, dropped, as_message, ending_with}
use Rattle.pf_model.specs.Meaning.{Event, Report}
use Rattle.pf_model.specs.Properties.{Outcome, finished, ended, deadlock, limit, memory}
use Rattle.pf_model.specs.declared.report.Actor.{Actor}
use Rattle.pf_model.specs.declared.report.Actor.TheVariants.{Process, Channel}
use Rattle.pf_model.specs.Shrinking.{Found, Result, report, shrunk_to, nothing_fails}
use Rattle.pf_model.specs.TermText.{atom_text, is_plain_name, line, pid_text, quoted_byte, rest_text, value_text}
use Rattle.pf_model.specs.TermText.{values_text}
use Rattle.pf_model.specs.Text.{actor_text, complete_text, event_text, found_text, kind_text, label_text, outcome_text}
use Rattle.pf_model.specs.Text.{reference_text, report_text, result_text, suffix_text, verdict_text}
use Rattle.pf_text.specs.Schedules.{numbers_text, schedule_text}
use Rattle.pf_laws.specs.Printable.{PrintsVisibly}
use Rattle.pf_laws.proofs.Bytes.{InLines, Seen, are_lines, are_visible, is_printed, line_printed, lines_append}
use Rattle.pf_laws.proofs.Bytes.{passes_flat, passes_too, seen_append, seen_decimal, seen_signed}
use Rattle.pf_laws.proofs.Names.{Quotable, lower_visible, word_visible}

-- ---- parts one after the other

three : (a b c : List ℕ) → Seen a → Seen b → Seen c → Seen (a ++ b ++ c)
three a b c h k l = seen_append (a ++ b) c (seen_append a b h k) l

four : (a b c d : List ℕ) → Seen a → Seen b → Seen c → Seen d → Seen (a ++ b ++ c ++ d)
four a b c d h k l m = seen_append (a ++ b ++ c) d (three a b c h k l) m

-- ---- atoms

quoted_seen : (b : ℕ) → is_quotable b ≡ true → Seen (quoted_byte b)
quoted_seen b = by (b == 10) (b == 9) (b == backslash) (b == single_quote) (is_visible b) (λ e. e)
  where
    by : (end tab slash quote seen : Bool) → (seen ≡ true → is_visible b ≡ true) → (seen || tab || end) ≡ true
        → list_all is_visible (if end then codes "\\n"
        else (if tab then codes "\\t" else (if slash then backslash ∷ backslash ∷ []
        else (if quote then backslash ∷ single_quote ∷ [] else b ∷ [])))) ≡ true
    by true tab slash quote seen h e = refl
    by false true slash quote seen h e = refl
    by false false true quote seen h e = refl
    by false false false true seen h e = refl
    by false false false false true h e = and_from (is_visible b) true (h refl) refl
    by false false false false false h e = absurd (cc)

all_quoted_seen : (name : List ℕ) → Quotable name → Seen (flat_map quoted_byte name)
all_quoted_seen [] h = refl
all_quoted_seen (b ∷ bs) h =
    let parts = and_parts (is_quotable b) (list_all is_quotable bs) h in
    seen_append (quoted_byte b) (flat_map quoted_byte bs) (quoted_seen b parts.0) (all_quoted_seen bs parts.1)

plain_seen : (name : List ℕ) → is_plain_name name ≡ true → Seen name
plain_seen [] e = refl
plain_seen (b ∷ bs) e =
    let words = (and_parts (is_lower b && list_all is_word_byte bs) (not (is_some (reserved_of (b ∷ bs)))) e).0 in
    let parts = and_parts (is_lower b) (list_all is_word_byte bs) words in
    and_from (is_visible b) (list_all is_visible bs) (lower_visible b parts.0)
    (passes_too is_word_byte is_visible word_visible bs parts.1)

atom_seen : (name : List ℕ) → Quotable name → Seen (atom_text name)
atom_seen name h = by (is_plain_name name) (plain_seen name)
  where
    by : (e : Bool) → (e ≡ true → Seen name) → Seen
        (if e then name else codes "'" ++ flat_map quoted_byte name ++ codes "'")
    by true plain = plain refl
    by false plain = three (codes "'") (flat_map quoted_byte name) (codes "'") refl (all_quoted_seen name h) refl

-- ---- pids and references

pid_seen : (p : ℕ) → Seen (pid_text p)
pid_seen p = three (codes "<") (decimal p) (codes ">") refl (seen_decimal p) refl

reference_seen : (r : ℕ) → Seen (reference_text r)
reference_seen r = three (codes "#Ref<") (decimal r) (codes ">") refl (seen_decimal r) refl

actor_seen : (x : Actor) → Seen (actor_text x)
actor_seen (Process p) = pid_seen p
actor_seen (Channel a b) = three (pid_text a) (codes "->") (pid_text b) (pid_seen a) refl (pid_seen b)

kind_seen : (s : Signal) → Seen (kind_text s)
kind_seen (message v) = refl
kind_seen link = refl
kind_seen unlink = refl
kind_seen (monitor r) = refl
kind_seen (demonitor r) = refl
kind_seen (down r v) = refl
kind_seen (exit b r) = refl

verdict_seen : (v : Option Bool) → Seen (verdict_text v)
verdict_seen (Some true) = refl
verdict_seen (Some false) = refl
verdict_seen None = refl

-- ---- what a shrinking found

numbers_seen : (n : ℕ) (ns : List ℕ) → Seen (numbers_text n ns)
numbers_seen n [] = seen_decimal n
numbers_seen n (m ∷ ms) = three (decimal n) (codes ",") (numbers_text m ms) (seen_decimal n) refl (numbers_seen m ms)

schedule_seen : (ns : List ℕ) → Seen (schedule_text ns)
schedule_seen [] = refl
schedule_seen (n ∷ ns) = numbers_seen n ns

complete_seen : (b : Bool) → Seen (complete_text b)
complete_seen true = refl
complete_seen false = refl

found_printed : (f : Found) → InLines (found_text f)
found_printed f =
    let schedule = codes "schedule " ++ schedule_text f.schedule in
    lines_append (line schedule) (line (complete_text f.complete))
    (line_printed schedule (seen_append (codes "schedule ") (schedule_text f.schedule) refl (schedule_seen f.schedule)))
    (line_printed (complete_text f.complete) (complete_seen f.complete))

-- ---- what has names in it

module _ (name : ℕ → List ℕ) (quotable : (a : ℕ) → Quotable (name a)) where
  name_seen : (a : ℕ) → Seen (atom_text (name a))
  name_seen a = atom_seen (name a) (quotable a)

  mutual
    value_seen : (v : Value) → Seen (value_text name v)
    value_seen (int z) = seen_signed z
    value_seen (atom a) = name_seen a
    value_seen (ref r) = reference_seen r
    value_seen (pid p) = pid_seen p
    value_seen (tuple vs) = three (codes "{") (values_text name vs) (codes "}") refl (values_seen vs) refl
    value_seen (list vs) = three (codes "[") (values_text name vs) (codes "]") refl (values_seen vs) refl

    values_seen : (vs : Values) → Seen (values_text name vs)
    values_seen none = refl
    values_seen (more v vs) = seen_append (value_text name v) (rest_text name vs) (value_seen v) (rest_seen vs)

    rest_seen : (vs : Values) → Seen (rest_text name vs)
    rest_seen none = refl
    rest_seen (more v vs) = three (codes ",") (value_text name v) (rest_text name vs) refl (value_seen v) (rest_seen vs)

  suffix_seen : (x : Suffix) → Seen (suffix_text name x)
  suffix_seen took_effect = refl
  suffix_seen no_process = refl
  suffix_seen dropped = refl
  suffix_seen as_message = refl
  suffix_seen (ending_with r) = seen_append (codes " ends ") (value_text name r) refl (value_seen r)

  label_seen : (l : Label) → Seen (label_text name l)
  label_seen (label.sends p v) = four (codes "send ") (pid_text p) (codes " ") (value_text name v) refl (pid_seen p)
      refl (value_seen v)
  label_seen (label.spawns false p) = seen_append (codes "spawn ") (pid_text p) refl (pid_seen p)
  label_seen (label.spawns true p) = seen_append (codes "spawn_link ") (pid_text p) refl (pid_seen p)
  label_seen (label.spawns_watched p r) =
      four (codes "spawn_monitor ") (pid_text p) (codes " ") (reference_text r) refl (pid_seen p) refl
      (reference_seen r)
  label_seen (label.links p) = seen_append (codes "link ") (pid_text p) refl (pid_seen p)
  label_seen (label.unlinks p) = seen_append (codes "unlink ") (pid_text p) refl (pid_seen p)
  label_seen (label.monitors r p) = four (codes "monitor ") (reference_text r) (codes " ") (pid_text p) refl
      (reference_seen r) refl (pid_seen p)
  label_seen (label.demonitors false r) = seen_append (codes "demonitor ") (reference_text r) refl (reference_seen r)
  label_seen (label.demonitors true r) = three (codes "demonitor ") (reference_text r) (codes " flush") refl
      (reference_seen r) refl
  label_seen (label.exits p r) = four (codes "exit ") (pid_text p) (codes " ") (value_text name r) refl (pid_seen p)
      refl (value_seen r)
  label_seen (label.sets_flag b) = seen_append (codes "process_flag ") (value_text name (truth b)) refl
      (value_seen (truth b))
  label_seen (label.registers n p) = four (codes "register ") (atom_text (name n)) (codes " ") (pid_text p) refl
      (name_seen n) refl (pid_seen p)
  label_seen (label.unregisters n) = seen_append (codes "unregister ") (atom_text (name n)) refl (name_seen n)
  label_seen (label.looks_up n) = seen_append (codes "whereis ") (atom_text (name n)) refl (name_seen n)
  label_seen (label.makes_reference r) = seen_append (codes "make_ref ") (reference_text r) refl (reference_seen r)
  label_seen (label.takes v) = seen_append (codes "receive ") (value_text name v) refl (value_seen v)
  label_seen label.waits = refl
  label_seen (label.raises e) = seen_append (codes "raise ") (value_text name e) refl (value_seen e)
  label_seen (label.ends r) = seen_append (codes "end ") (value_text name r) refl (value_seen r)
  label_seen label.cut = refl
  label_seen (label.delivers s x) = three (codes "deliver ") (kind_text s) (suffix_text name x) refl (kind_seen s)
      (suffix_seen x)

  event_seen : (e : Event) → Seen (event_text name e)
  event_seen e =
      let choice = four (decimal e.choice) (codes "/") (decimal e.count) (codes " ") (seen_decimal e.choice) refl
      (seen_decimal e.count) refl in
      four (decimal e.choice ++ codes "/" ++ decimal e.count ++ codes " ") (actor_text e.actor) (codes " ")
      (label_text name e.label)
      choice (actor_seen e.actor) refl (label_seen e.label)

  outcome_seen : (o : Outcome) → Seen (outcome_text name o)
  outcome_seen (finished v) = seen_append (codes "finished ") (value_text name v) refl (value_seen v)
  outcome_seen (ended r) = seen_append (codes "ended ") (value_text name r) refl (value_seen r)
  outcome_seen (deadlock ps) =
      seen_append (codes "deadlock") (flat_map (λ p. codes " " ++ pid_text p) ps) refl
      (passes_flat is_visible (λ p. codes " " ++ pid_text p)
      (λ p. seen_append (codes " ") (pid_text p) refl (pid_seen p)) ps)
  outcome_seen limit = refl
  outcome_seen memory = refl

  -- ---- lines

  events_printed : (es : List Event) → InLines (flat_map (λ e. line (event_text name e)) es)
  events_printed es = passes_flat is_printed (λ e. line (event_text name e))
      (λ e. line_printed (event_text name e) (event_seen e)) es

  report_printed : (r : Report) → InLines (report_text name r)
  report_printed r =
      let events = flat_map (λ e. line (event_text name e)) r.events in
      let outcome = line (outcome_text name r.outcome) in
      let steps = line (codes "steps " ++ decimal r.steps) in
      let verdict = line (verdict_text r.verdict) in
      lines_append (events ++ outcome ++ steps) verdict
      (lines_append (events ++ outcome) steps
      (lines_append events outcome (events_printed r.events)
      (line_printed (outcome_text name r.outcome) (outcome_seen r.outcome)))
      (line_printed (codes "steps " ++ decimal r.steps)
      (seen_append (codes "steps ") (decimal r.steps) refl (seen_decimal r.steps))))
      (line_printed (verdict_text r.verdict) (verdict_seen r.verdict))

  result_printed : (r : Result) → InLines (result_text name r)
  result_printed (report r) = report_printed r
  result_printed (shrunk_to f r) = lines_append (found_text f) (report_text name r) (found_printed f) (report_printed r)
  result_printed nothing_fails = refl

  -- ---- what is stated

  pub prints_visibly : PrintsVisibly name
  prints_visibly = record {
    values = λ v. are_visible (value_text name v) (value_seen v);
    events = λ e. are_visible (event_text name e) (event_seen e);
    outcomes = λ o. are_visible (outcome_text name o) (outcome_seen o);
    reports = λ r. are_lines (report_text name r) (report_printed r);
    results = λ r. are_lines (result_text name r) (result_printed r);
  }
