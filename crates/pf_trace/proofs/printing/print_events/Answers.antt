use Rattle.std.proofs.Common.{◌≡◌, ◌<◌, ◌+◌, ℕ, List, [], ◌∷◌, ◌++◌, length, map, take, drop, get_or, refl, sym, ap}
use Rattle.std.proofs.Common.{◌∙◌, append_assoc, subst}
use Rattle.std.proofs.lemmas.List.{map-append, map_more, take-append-drop}
use Rattle.std.specs.Io.KnownBytes.{Appends}
use Rattle.pf_errors.specs.declared.fault.OrNoMemory.TheVariants.{NoMemory}
use Rattle.pf_terms.specs.Atoms.{name_of}
use Rattle.pf_streams.specs.Streams.{LeavesFront}
use Rattle.pf_streams.proofs.Writes.{appends_both}
use Rattle.pf_model.specs.Meaning.{Event}
use Rattle.pf_model.specs.Reports.{view_of_event}
use Rattle.pf_model.specs.declared.report.Event as code
use Rattle.pf_trace.specs.Written.{gone_from, lines_text, reported_so_far}
use Rattle.pf_trace.proofs.Fronts.{handed_on, lines_of_both, stops_among}
use Rattle.pf_trace.proofs.printing.print_events.Goals as goal

-- the events after those that were put
rest_of : (es : List code.Event) (i : ℕ) (reported : List Event) → map view_of_event (take i es) ≡ reported
    → map view_of_event es ≡ reported ++ map view_of_event (drop i es)
rest_of es i reported e =
    ap (map view_of_event) (sym (take-append-drop i es)) ∙ map-append view_of_event (take i es) (drop i es)
    ∙ ap (λ (t : List Event). t ++ map view_of_event (drop i es)) e

-- one event more was put
one_more : (es : List code.Event) (i : ℕ) (x : code.Event) (gone waiting now : List Event) → i < length es
    → x ≡ get_or es i x
    → map view_of_event (take i es) ≡ gone ++ waiting → now ≡ waiting ++ view_of_event x ∷ []
    → map view_of_event (take (i + 1) es) ≡ gone ++ now
one_more es i x gone waiting now h is so_far e =
    map_more view_of_event es i x h ∙ ap (λ z. map view_of_event (take i es) ++ view_of_event z ∷ []) (sym is)
    ∙ ap (λ (t : List Event). t ++ view_of_event x ∷ []) so_far
    ∙ append_assoc gone waiting (view_of_event x ∷ []) ∙ ap (λ (t : List Event). gone ++ t) (sym e)

pub returns-in_err-add-clause-fault : goal.returns-in_err-add-clause-fault
returns-in_err-add-clause-fault g c =
    let l = c.loop-event in
    let name = name_of c.args.atoms.now in
    let es = c.args.events.now in
    let gone = gone_from l.pieces in
    let waiting = reported_so_far l.pieces.lines in
    handed_on c.from_residual.result NoMemory _ c.from_residual.ensures
    (λ r same.
    stops_among name NoMemory r gone waiting (map view_of_event (drop l.event-index es)) _ _ _ _ _
    (same ∙ rest_of es l.event-index (gone ++ waiting) l.invariant.out.0) l.invariant.out.2 (refl, l.invariant.kept))

pub returns-in_err-print_full-clause-fault : goal.returns-in_err-print_full-clause-fault
returns-in_err-print_full-clause-fault g c =
    let l = c.loop-event in
    let name = name_of c.args.atoms.now in
    let es = c.args.events.now in
    let p = c.add.new.self in
    let gone = gone_from l.pieces in
    let now = reported_so_far p.lines in
    let f = c.in_err-print_full.field-0.0 in
    let reported =
    one_more es l.event-index c.event-item.result gone (reported_so_far l.pieces.lines) now c.loop-event-test.true
    c.event-item.is l.invariant.out.0
    c.in_ok-add.ensures.event in
    let leaves =
    subst (λ n. LeavesFront f (lines_text name now) (g.W.Write.contents l.writer.inner)
    (g.W.Write.contents c.print_full.new.writer.inner) n c.print_full.new.writer.failures.total)
    l.invariant.kept (c.in_err-print_full.ensures.fault name (c.in_ok-add.ensures.line l.invariant.out.1)) in
    handed_on c.from_residual-in_err-print_full.result f _ c.from_residual-in_err-print_full.ensures
    (λ r same.
    stops_among name f r gone now (map view_of_event (drop (l.event-index + 1) es)) _ _ _ _ _
    (same ∙ rest_of es (l.event-index + 1) (gone ++ now) reported) l.invariant.out.2 leaves)

pub loop-event-preserved : goal.loop-event-preserved
loop-event-preserved g c =
    let l = c.loop-event in
    let name = name_of c.args.atoms.now in
    let es = c.args.events.now in
    let gone = gone_from l.pieces in
    let now = reported_so_far c.add.new.self.lines in
    let reported =
    one_more es l.event-index c.event-item.result gone (reported_so_far l.pieces.lines) now c.loop-event-test.true
    c.event-item.is l.invariant.out.0
    c.in_ok-add.ensures.event in
    let out = c.in_ok-print_full.ensures.out name (c.in_ok-add.ensures.line l.invariant.out.1) in
    record {
      out = (
        reported ∙ ap (λ v. map (λ s. view_of_event s.value) v.items ++ now) (sym c.in_ok-add.ensures.gone) ∙ sym out.2,
        out.3,
        subst (Appends (g.W.Write.contents c.args.writer.now.inner) (g.W.Write.contents c.print_full.new.writer.inner))
            (sym (lines_of_both name gone out.0) ∙ ap (lines_text name)
            (sym (out.1 ∙ ap (λ v. map (λ s. view_of_event s.value) v.items ++ out.0) c.in_ok-add.ensures.gone)))
            (appends_both _ _ _ (lines_text name gone) (lines_text name out.0) l.invariant.out.2 out.4),
      );
      short = c.in_ok-print_full.ensures.short;
      kept = c.in_ok-print_full.ensures.kept ∙ l.invariant.kept;
    }
