use Rattle.std.proofs.Common.{◌≡◌, ◌++◌, ℕ, List, ap, append_assoc, sym, ◌∙◌}
use Rattle.std.specs.Prelude.{flat_map}
use Rattle.std.proofs.lemmas.Result.{on_ok_weaker}
use Rattle.std.proofs.lemmas.List.Folds.{flat_map-map}
use Rattle.pf_terms.specs.Atoms.{name_of}
use Rattle.pf_model.specs.Meaning.{Event}
use Rattle.pf_model.specs.Reports.{view_of_event}
use Rattle.pf_model.specs.Text.{event_text}
use Rattle.pf_model.specs.TermText.{line}
use Rattle.pf_model.specs.declared.report.Event as code
use Rattle.pf_trace.proofs.report.put_report.Goals as goal

-- two pieces in turn are one text after what was there
joined : (b0 b1 b2 e f o s v : List ℕ) → b1 ≡ b0 ++ e → e ≡ f → b2 ≡ b1 ++ (o ++ s ++ v) → b2 ≡ b0 ++ (f ++ o ++ s ++ v)
joined b0 b1 b2 e f o s v h1 he h2 =
    let first : b1 ≡ b0 ++ f = h1 ∙ ap (λ (t : List ℕ). b0 ++ t) he in
    let all : b2 ≡ b0 ++ f ++ (o ++ s ++ v) = h2 ∙ ap (λ (t : List ℕ). t ++ (o ++ s ++ v)) first in
    all ∙ simp append_assoc

pub returns : goal.returns
returns c =
    let name = name_of c.args.atoms.now in
    let events = flat_map-map (λ (e : Event). line (event_text name e)) view_of_event c.args.report.now.events.items in
    on_ok_weaker c.put_last_lines.result (λ last. joined _ _ _ _ _ _ _ _ c.in_ok-put_events.ensures
    (ap (λ es. flat_map (λ (e : code.Event). line (event_text name (view_of_event e))) es) c.deref.ensures.value
    ∙ sym events) last)
    c.put_last_lines.ensures
