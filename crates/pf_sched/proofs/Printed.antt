-- What was written of the report of a run.
use Rattle.std.proofs.Common.{◌≡◌, ◌<◌, ◌-◌, ℕ, List, [], ◌∷◌, ◌++◌, Bool, Option, Some, None, map, refl, ap, sym, ◌∙◌}
use Rattle.std.proofs.Common.{subst, arith}
use Rattle.std.specs.Io.KnownBytes.{Appends}
use Rattle.std.proofs.KnownBytes.{Appends-nil}
use Rattle.pf_errors.specs.declared.fault.OrNoMemory.{OrNoMemory}
use Rattle.pf_errors.specs.declared.fault.OrNoMemory.TheVariants.{NoMemory}
use Rattle.pf_terms.specs.Atoms.{name_of}
use Rattle.pf_streams.specs.Streams.{LeavesFront}
use Rattle.pf_streams.specs.declared.stream.StreamFault.{StreamFault}
use Rattle.pf_streams.proofs.Writes.{appends_both}
use Rattle.pf_model.specs.Meaning.{Event, Report}
use Rattle.pf_model.specs.Reports.{view_of_event as code_event_of}
use Rattle.pf_model.specs.Properties.{Outcome}
use Rattle.pf_model.proofs.Meanings.{one_meaning, one_report}
use Rattle.pf_request.specs.Job.{Job}
use Rattle.pf_strategy.proofs.Meant.{some_report}
use Rattle.pf_strategy.specs.declared.strategy.SeedChoice.{SeedChoice}
use Rattle.pf_trace.specs.Written.{AreWrittenSoFar, GoesOut, StopsShort, all_reported, report_end_text, gone_from}
use Rattle.pf_trace.specs.Written.{last_lines, lines_text, reported_so_far}
use Rattle.pf_trace.specs.declared.pieces.Pieces.{Pieces}
use Rattle.pf_trace.proofs.Fronts.{lines_of_both, stops_among, stops_at_end, whole_text}
use Rattle.pf_sched.specs.Asked.{IsValid}
use Rattle.pf_sched.proofs.BySeed.{means_for_seed}
use Rattle.pf_sched.specs.Choosing.{Choosing, MeansFor, StateOf, chooser_of, choosing_of, first_of}
use Rattle.pf_sched.specs.Closing.{ClosesRun}
use Rattle.pf_sched.specs.Printing.{CutsShort, HasPrinted, HasStopped, IsPrinted, PrintsRun, atom_names_of}
use Rattle.pf_sched.specs.Slices.{IsRunOver}
use Rattle.pf_sched.specs.Traces.{WentOn}
use Rattle.pf_sched.specs.Waiting.{waiting_in}
use Rattle.pf_sched.specs.declared.execution.Execution.{Execution}
use Rattle.pf_sched.specs.declared.printing.Printer.{Printer}
use Rattle.pf_sched.proofs.Asking.{is_profile}
use Rattle.pf_sched.proofs.Reported.{means}
use Rattle.pf_sched.proofs.SoFar.{are_first}
use Rattle.pf_sched.proofs.Traces.{executes_next}

-- the lines that wait are written by the names of the job's module
pub waiting_written : (j : Job) (u : Choosing) (es : List Event) (x : Execution) (p : Printer) (w0 w : Option (List ℕ))
    → IsPrinted j u es x p w0 w
    → AreWrittenSoFar (atom_names_of j) p.pieces.lines
waiting_written j u es x p w0 w printed = subst (λ a. AreWrittenSoFar (name_of a) p.pieces.lines)
    printed.reported.1 printed.reported.3

-- the lines that wait weren't written, or a beginning of them was
pub cut : (e : OrNoMemory StreamFault) (j : Job) (u : Choosing) (es : List Event) (x : Execution) (p : Printer)
    (w0 w w1 : Option (List ℕ)) (n0 n1 : ℕ)
    → IsPrinted j u es x p w0 w
    → LeavesFront e (lines_text (atom_names_of j) (reported_so_far p.pieces.lines)) w w1 n0 n1
    → CutsShort e j u w0 w1 n0 n1
cut e j u es x p w0 w w1 n0 n1 printed leaves r means =
    let f = are_first printed.run.run r means in
    stops_among (atom_names_of j) e r (gone_from p.pieces) (reported_so_far p.pieces.lines) f.0 w0 w w1 n0 n1
    (f.1 ∙ ap (λ (xs : List Event). xs ++ f.0) (sym printed.reported.2)) printed.out leaves

-- one event more was received, of which the line waits
pub reported_next : (j : Job) (u : Choosing) (es : List Event) (e : Event) (x x' : Execution) (p p' : Printer)
    (w0 w : Option (List ℕ)) (limit : ℕ)
    → j.asked.limit ≡ limit → x.system.steps < limit → (printed : IsPrinted j u es x p w0 w)
    → WentOn (limit - x.system.steps) printed.run.run.last x e x'
    → (PrintsRun p j.asked es → PrintsRun p' j.asked (es ++ e ∷ [])) → p'.pieces.gone ≡ p.pieces.gone
    → IsPrinted j u (es ++ e ∷ []) x' p' w0 w
reported_next j u es e x x' p p' w0 w limit same some printed went reported gone =
    record {
      run =
          executes_next j u es x x' printed.run e (omega arith)
          (subst (λ n. WentOn (n - x.system.steps) printed.run.run.last x e x') (sym same) went);
      reported = reported printed.reported;
      out = subst (λ v. Appends w0 w (lines_text (atom_names_of j) (map (λ s. code_event_of s.value) v.items)))
          (sym gone) printed.out;
    }

-- lines that waited were written
pub printed_out : (j : Job) (u : Choosing) (es : List Event) (x : Execution) (p : Printer) (q : Pieces)
    (w0 w w1 : Option (List ℕ)) → IsPrinted j u es x p w0 w
    → GoesOut (atom_names_of j) p.pieces q w w1 → IsPrinted j u es x (record p { pieces = q }) w0 w1
printed_out j u es x p q w0 w w1 printed out =
    record {
      run = printed.run;
      reported = (
        printed.reported.0,
        printed.reported.1,
        out.2 ∙ printed.reported.2,
        subst (λ a. AreWrittenSoFar (name_of a) q.lines)
            (sym printed.reported.1) out.3,
      );
      out =
          subst (Appends w0 w1) (sym (lines_of_both (atom_names_of j) (gone_from p.pieces) out.0)
          ∙ ap (lines_text (atom_names_of j)) (sym out.1))
          (appends_both w0 w w1 (lines_text (atom_names_of j) (gone_from p.pieces)) (lines_text (atom_names_of j) out.0)
          printed.out out.4);
    }

-- a job has a report by its own choices, and by each seed
some_meaning : (j : Job) → IsValid j → (by_seed : Option SeedChoice)
    → (r : Report) × MeansFor (choosing_of by_seed j.asked) j.asked r
some_meaning j valid None = let m = one_meaning j.asked (is_profile j.asked.choices valid.weighs) in (m.0, m.1)
some_meaning j valid (Some g) =
    let m = some_report g.strategy j.asked g.seed (is_profile j.asked.choices valid.weighs) in
    (m.0, means_for_seed g j.asked m.0 m.1)

-- nothing was written before the first event
pub stopped_first : (j : Job) → IsValid j → (by_seed : Option SeedChoice) (w : Option (List ℕ)) (n : ℕ)
    → HasStopped NoMemory j (choosing_of by_seed j.asked) w w n n
stopped_first j valid o w n = let m = some_meaning j valid o in (m.0, m.1, ([], m.0.events, refl, Appends-nil w, refl))

-- each job has a report
pub stopped : (e : OrNoMemory StreamFault) (j : Job) → IsValid j
    → (by_seed : Option SeedChoice) (w0 w1 : Option (List ℕ)) (n0 n1 : ℕ)
    → CutsShort e j (choosing_of by_seed j.asked) w0 w1 n0 n1
    → HasStopped e j (choosing_of by_seed j.asked) w0 w1 n0 n1
stopped e j valid o w0 w1 n0 n1 cuts = let m = some_meaning j valid o in (m.0, m.1, cuts m.0 m.1)

pub cut_kept : (e : OrNoMemory StreamFault) (j : Job) (u : Choosing) (w0 w1 : Option (List ℕ)) (n0 n n1 : ℕ) → n ≡ n0
    → CutsShort e j u w0 w1 n n1 → CutsShort e j u w0 w1 n0 n1
cut_kept e j u w0 w1 n0 n n1 same h = subst (λ k. CutsShort e j u w0 w1 k n1) same h

-- ---- the end of a run

module _ (j : Job) (u : Choosing) (es : List Event) (x : Execution) (p : Printer) (q : Pieces)
    (w0 w w1 : Option (List ℕ)) (atoms : List (List ℕ)) (r : Report)
    (same : p.pieces ≡ q) (printed : IsPrinted j u es x p w0 w) (over : IsRunOver j.asked.limit x)
    (closes : ClosesRun j es x.system r)
    (of_job : atoms ≡ j.asked.code.atoms) where
  it_means : MeansFor u j.asked r
  it_means = means j u es x printed.run over r closes

  all_events : r.events ≡ gone_from q ++ reported_so_far q.lines
  all_events = closes.events ∙ sym printed.reported.2 ∙ ap all_reported same

  out : Appends w0 w (lines_text (atom_names_of j) (gone_from q))
  out = subst (λ z. Appends w0 w (lines_text (atom_names_of j) (gone_from z))) same printed.out

  module _ (o : Outcome) (s : ℕ) (v : Option Bool) (ends : r.outcome ≡ o) (steps : r.steps ≡ s)
      (judged : r.verdict ≡ v) where
    last_text : lines_text (name_of atoms) (reported_so_far q.lines) ++ last_lines (name_of atoms) o s v
        ≡ lines_text (atom_names_of j) (reported_so_far q.lines) ++ report_end_text (atom_names_of j) r
    last_text = rw (of_job, ends, steps, judged) refl

    -- what was left of its report was written
    pub ends_whole : (n : ℕ) → n ≡ waiting_in r
        → Appends w w1 (lines_text (name_of atoms) (reported_so_far q.lines) ++ last_lines (name_of atoms) o s v)
        → HasPrinted j u (record { verdict = v; waiting = n }) w0 w1
    ends_whole n waits rest = (
      r,
      it_means,
      judged,
      waits,
      subst (Appends w0 w1) (sym (whole_text (atom_names_of j) r (gone_from q) (reported_so_far q.lines) all_events))
          (appends_both w0 w w1 (lines_text (atom_names_of j) (gone_from q))
          (lines_text (atom_names_of j) (reported_so_far q.lines) ++ report_end_text (atom_names_of j) r) out
          (subst (Appends w w1) last_text rest)),
    )

    -- or it was cut short
    pub ends_short : (e : OrNoMemory StreamFault) (n0 n1 : ℕ)
        → LeavesFront e (lines_text (name_of atoms) (reported_so_far q.lines) ++ last_lines (name_of atoms) o s v) w w1
        n0 n1 → CutsShort e j u w0 w1 n0 n1
    ends_short e n0 n1 leaves t also =
        subst (λ z. StopsShort e (atom_names_of j) z w0 w1 n0 n1)
        (one_report (StateOf u) (chooser_of u) (first_of u) j.asked r t it_means also)
        (stops_at_end (atom_names_of j) e r (gone_from q) (reported_so_far q.lines) w0 w w1 n0 n1 all_events out
        (subst (λ z. LeavesFront e z w w1 n0 n1) last_text leaves))
