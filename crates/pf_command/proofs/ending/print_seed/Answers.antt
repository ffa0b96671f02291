use Rattle.std.proofs.Common.{◌≡◌, ◌++◌, ◌∙◌, List, ℕ, [], ap, map, subst}
use Rattle.std.specs.Prelude.{codes, option_map}
use Rattle.std.specs.Io.KnownBytes.{Appends}
use Rattle.std.proofs.lemmas.Result.{on_err_weaker, on_ok_weaker}
use Rattle.pf_streams.specs.Streams.{AppendsFront}
use Rattle.pf_model.specs.Reports.{view_of_report}
use Rattle.pf_text.specs.Schedules.{schedule_text}
use Rattle.pf_model.specs.declared.report.Event.{Event}
use Rattle.pf_command.specs.Hunts.{choices_of, seed_lines, seed_text, strategy_text}
use Rattle.pf_command.specs.Waiting.{Adds}
use Rattle.pf_command.proofs.Adding.{adds_both, adds_out, at_fault, front_after, front_out, longer_2, longer_3}
use Rattle.pf_command.proofs.Adding.{longer_4}
use Rattle.pf_command.proofs.Found.{choices_are}
use Rattle.pf_trace.proofs.Fronts.{front_of_more}
use Rattle.pf_command.proofs.ending.print_seed.Goals as goal

reported_whole : (a b e line strategy : List ℕ) (ns ms : List ℕ) → line ≡ strategy → ns ≡ ms
    → a ++ line ++ b ++ schedule_text ns ++ e ≡ a ++ strategy ++ b ++ schedule_text ms ++ e
reported_whole a b e line strategy ns ms h k =
    ap (λ (t : List ℕ). a ++ t ++ b ++ schedule_text ns ++ e) h
    ∙ ap (λ (xs : List ℕ). a ++ strategy ++ b ++ schedule_text xs ++ e) k

pub returns-in_err-add_front-clause-front : goal.returns-in_err-add_front-clause-front
returns-in_err-add_front-clause-front g c =
    let w = g.W.Write.contents c.args.writer.now.inner in
    let named = option_map (λ s. s.now) c.args.property in
    let a = seed_lines c.args.failure.now.seed named in
    let line = strategy_text c.args.strategy in
    let after = codes "schedule " in
    let choices = schedule_text (choices_of (view_of_report c.args.failure.now.report)) in
    let end = codes "\n" in
    at_fault c.from_residual.result (longer_4 a line after choices end w _
    (rw c.new-waiting.ensures at c.in_err-add_front.ensures.front))

pub returns-in_err-add-clause-front : goal.returns-in_err-add-clause-front
returns-in_err-add-clause-front g c =
    let w = g.W.Write.contents c.args.writer.now.inner in
    let named = option_map (λ s. s.now) c.args.property in
    let a = seed_lines c.args.failure.now.seed named in
    let line = c.strategy_line.result.now in
    let after = codes "schedule " in
    let choices = schedule_text (choices_of (view_of_report c.args.failure.now.report)) in
    let end = codes "\n" in
    let same : a ++ line ++ after ++ choices ++ end ≡ seed_text c.args.failure.now.seed named c.args.strategy
    (choices_of (view_of_report c.args.failure.now.report)) =
    ap (λ (t : List ℕ). a ++ t ++ after ++ choices ++ end) c.strategy_line.ensures in
    let one : Adds [] a c.add_front.new.waiting.items w (g.W.Write.contents c.add_front.new.writer.inner) =
    rw c.new-waiting.ensures at c.in_ok-add_front.ensures.added in
    let front = longer_3 (a ++ line) after choices end w _
    (front_after [] a c.add_front.new.waiting.items line _ _ _ one c.in_err-add.ensures.front) in
    at_fault c.from_residual-in_err-add.result
    (subst (AppendsFront w (g.W.Write.contents c.add.new.writer.inner)) same front)

pub returns-in_err-add-2-clause-front : goal.returns-in_err-add-2-clause-front
returns-in_err-add-2-clause-front g c =
    let w = g.W.Write.contents c.args.writer.now.inner in
    let named = option_map (λ s. s.now) c.args.property in
    let a = seed_lines c.args.failure.now.seed named in
    let line = c.strategy_line.result.now in
    let after = codes "schedule " in
    let choices = schedule_text (choices_of (view_of_report c.args.failure.now.report)) in
    let end = codes "\n" in
    let same : a ++ line ++ after ++ choices ++ end ≡ seed_text c.args.failure.now.seed named c.args.strategy
    (choices_of (view_of_report c.args.failure.now.report)) =
    ap (λ (t : List ℕ). a ++ t ++ after ++ choices ++ end) c.strategy_line.ensures in
    let one : Adds [] a c.add_front.new.waiting.items w (g.W.Write.contents c.add_front.new.writer.inner) =
    rw c.new-waiting.ensures at c.in_ok-add_front.ensures.added in
    let two = adds_both [] a c.add_front.new.waiting.items line c.add.new.waiting.items _ _ _ one
    c.in_ok-add.ensures.added in
    let front = longer_2 (a ++ line ++ after) choices end w _
    (front_after [] (a ++ line) c.add.new.waiting.items after _ _ _ two c.in_err-add-2.ensures.front) in
    at_fault c.from_residual-in_err-add-2.result
    (subst (AppendsFront w (g.W.Write.contents c.add-2.new.writer.inner)) same front)

pub returns-in_err-add_choices-clause-front : goal.returns-in_err-add_choices-clause-front
returns-in_err-add_choices-clause-front g c =
    let w = g.W.Write.contents c.args.writer.now.inner in
    let named = option_map (λ s. s.now) c.args.property in
    let a = seed_lines c.args.failure.now.seed named in
    let line = c.strategy_line.result.now in
    let after = codes "schedule " in
    let choices = schedule_text (map (λ (e : Event). e.choice) c.deref.result.now) in
    let end = codes "\n" in
    let same : a ++ line ++ after ++ choices ++ end ≡ seed_text c.args.failure.now.seed named c.args.strategy
    (choices_of (view_of_report c.args.failure.now.report)) =
    reported_whole a after end line (strategy_text c.args.strategy) (map (λ (e : Event). e.choice) c.deref.result.now)
    (choices_of (view_of_report c.args.failure.now.report))
    c.strategy_line.ensures (ap (map (λ (e : Event). e.choice)) c.deref.ensures.value
    ∙ choices_are c.args.failure.now.report) in
    let one : Adds [] a c.add_front.new.waiting.items w (g.W.Write.contents c.add_front.new.writer.inner) =
    rw c.new-waiting.ensures at c.in_ok-add_front.ensures.added in
    let two = adds_both [] a c.add_front.new.waiting.items line c.add.new.waiting.items _ _ _ one
    c.in_ok-add.ensures.added in
    let three = adds_both [] (a ++ line) c.add.new.waiting.items after c.add-2.new.waiting.items _ _ _ two
    c.in_ok-add-2.ensures.added in
    let front = front_of_more w _ (a ++ line ++ after ++ choices) end
    (front_after [] (a ++ line ++ after) c.add-2.new.waiting.items choices _ _ _ three
    c.in_err-add_choices.ensures.front) in
    at_fault c.from_residual-in_err-add_choices.result
    (subst (AppendsFront w (g.W.Write.contents c.add_choices.new.writer.inner)) same front)

pub returns-in_err-add-3-clause-front : goal.returns-in_err-add-3-clause-front
returns-in_err-add-3-clause-front g c =
    let w = g.W.Write.contents c.args.writer.now.inner in
    let named = option_map (λ s. s.now) c.args.property in
    let a = seed_lines c.args.failure.now.seed named in
    let line = c.strategy_line.result.now in
    let after = codes "schedule " in
    let choices = schedule_text (map (λ (e : Event). e.choice) c.deref.result.now) in
    let end = codes "\n" in
    let same : a ++ line ++ after ++ choices ++ end ≡ seed_text c.args.failure.now.seed named c.args.strategy
    (choices_of (view_of_report c.args.failure.now.report)) =
    reported_whole a after end line (strategy_text c.args.strategy) (map (λ (e : Event). e.choice) c.deref.result.now)
    (choices_of (view_of_report c.args.failure.now.report))
    c.strategy_line.ensures (ap (map (λ (e : Event). e.choice)) c.deref.ensures.value
    ∙ choices_are c.args.failure.now.report) in
    let one : Adds [] a c.add_front.new.waiting.items w (g.W.Write.contents c.add_front.new.writer.inner) =
    rw c.new-waiting.ensures at c.in_ok-add_front.ensures.added in
    let two = adds_both [] a c.add_front.new.waiting.items line c.add.new.waiting.items _ _ _ one
    c.in_ok-add.ensures.added in
    let three = adds_both [] (a ++ line) c.add.new.waiting.items after c.add-2.new.waiting.items _ _ _ two
    c.in_ok-add-2.ensures.added in
    let four = adds_both [] (a ++ line ++ after) c.add-2.new.waiting.items choices c.add_choices.new.waiting.items _ _
    _ three c.in_ok-add_choices.ensures.added in
    let front = front_after [] (a ++ line ++ after ++ choices) c.add_choices.new.waiting.items end _ _ _ four
    c.in_err-add-3.ensures.front in
    at_fault c.from_residual-in_err-add-3.result
    (subst (AppendsFront w (g.W.Write.contents c.add-3.new.writer.inner)) same front)

pub returns-clause-written : goal.returns-clause-written
returns-clause-written g c =
    let w = g.W.Write.contents c.args.writer.now.inner in
    let named = option_map (λ s. s.now) c.args.property in
    let a = seed_lines c.args.failure.now.seed named in
    let line = c.strategy_line.result.now in
    let after = codes "schedule " in
    let choices = schedule_text (map (λ (e : Event). e.choice) c.deref.result.now) in
    let end = codes "\n" in
    let same : a ++ line ++ after ++ choices ++ end ≡ seed_text c.args.failure.now.seed named c.args.strategy
    (choices_of (view_of_report c.args.failure.now.report)) =
    reported_whole a after end line (strategy_text c.args.strategy) (map (λ (e : Event). e.choice) c.deref.result.now)
    (choices_of (view_of_report c.args.failure.now.report))
    c.strategy_line.ensures (ap (map (λ (e : Event). e.choice)) c.deref.ensures.value
    ∙ choices_are c.args.failure.now.report) in
    let one : Adds [] a c.add_front.new.waiting.items w (g.W.Write.contents c.add_front.new.writer.inner) =
    rw c.new-waiting.ensures at c.in_ok-add_front.ensures.added in
    let two = adds_both [] a c.add_front.new.waiting.items line c.add.new.waiting.items _ _ _ one
    c.in_ok-add.ensures.added in
    let three = adds_both [] (a ++ line) c.add.new.waiting.items after c.add-2.new.waiting.items _ _ _ two
    c.in_ok-add-2.ensures.added in
    let four = adds_both [] (a ++ line ++ after) c.add-2.new.waiting.items choices c.add_choices.new.waiting.items _ _
    _ three c.in_ok-add_choices.ensures.added in
    let five = adds_both [] (a ++ line ++ after ++ choices) c.add_choices.new.waiting.items end
    c.add-3.new.waiting.items _ _ _ four c.in_ok-add-3.ensures.added in
    on_ok_weaker c.put.result
    (λ k.
    subst (Appends w (g.W.Write.contents c.put.new.self.inner)) same
    (adds_out [] (a ++ line ++ after ++ choices ++ end) c.add-3.new.waiting.items w
    (g.W.Write.contents c.add-3.new.writer.inner) _ five
    (subst (Appends (g.W.Write.contents c.add-3.new.writer.inner) (g.W.Write.contents c.put.new.self.inner))
    c.as_slice.ensures.value k)))
    c.put.ensures.written

pub returns-clause-front : goal.returns-clause-front
returns-clause-front g c =
    let w = g.W.Write.contents c.args.writer.now.inner in
    let named = option_map (λ s. s.now) c.args.property in
    let a = seed_lines c.args.failure.now.seed named in
    let line = c.strategy_line.result.now in
    let after = codes "schedule " in
    let choices = schedule_text (map (λ (e : Event). e.choice) c.deref.result.now) in
    let end = codes "\n" in
    let same : a ++ line ++ after ++ choices ++ end ≡ seed_text c.args.failure.now.seed named c.args.strategy
    (choices_of (view_of_report c.args.failure.now.report)) =
    reported_whole a after end line (strategy_text c.args.strategy) (map (λ (e : Event). e.choice) c.deref.result.now)
    (choices_of (view_of_report c.args.failure.now.report))
    c.strategy_line.ensures (ap (map (λ (e : Event). e.choice)) c.deref.ensures.value
    ∙ choices_are c.args.failure.now.report) in
    let one : Adds [] a c.add_front.new.waiting.items w (g.W.Write.contents c.add_front.new.writer.inner) =
    rw c.new-waiting.ensures at c.in_ok-add_front.ensures.added in
    let two = adds_both [] a c.add_front.new.waiting.items line c.add.new.waiting.items _ _ _ one
    c.in_ok-add.ensures.added in
    let three = adds_both [] (a ++ line) c.add.new.waiting.items after c.add-2.new.waiting.items _ _ _ two
    c.in_ok-add-2.ensures.added in
    let four = adds_both [] (a ++ line ++ after) c.add-2.new.waiting.items choices c.add_choices.new.waiting.items _ _
    _ three c.in_ok-add_choices.ensures.added in
    let five = adds_both [] (a ++ line ++ after ++ choices) c.add_choices.new.waiting.items end
    c.add-3.new.waiting.items _ _ _ four c.in_ok-add-3.ensures.added in
    on_err_weaker c.put.result
    (λ k.
    subst (AppendsFront w (g.W.Write.contents c.put.new.self.inner)) same
    (front_out [] (a ++ line ++ after ++ choices ++ end) c.add-3.new.waiting.items w
    (g.W.Write.contents c.add-3.new.writer.inner) _ five
    (subst (AppendsFront (g.W.Write.contents c.add-3.new.writer.inner) (g.W.Write.contents c.put.new.self.inner))
    c.as_slice.ensures.value k)))
    c.put.ensures.front
