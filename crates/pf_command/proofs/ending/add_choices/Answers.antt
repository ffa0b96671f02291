use Rattle.std.proofs.Common.{rules, ◌≡◌, ◌++◌, ◌∷◌, length, map, subst}
use Rattle.std.proofs.lemmas.List.{nil_from_length}
use Rattle.std.specs.Fmt.{decimal}
use Rattle.std.proofs.lemmas.Result.{on_err_weaker, on_ok_weaker}
use Rattle.pf_streams.specs.Streams.{AppendsFront}
use Rattle.pf_command.specs.Waiting.{Adds, after_commas}
use Rattle.pf_command.proofs.Adding.{adds_both, at_fault, front_after, front_longer, schedule_of_more}
use Rattle.pf_command.proofs.ending.add_choices.Goals as goal

pub returns-in-None-clause-front : goal.returns-in-None-clause-front
returns-in-None-clause-front g c =
    let empty : length c.args.events.now ≡ 0 = search rules in
    let none = nil_from_length c.args.events.now empty in
    rw none c.add.ensures.front

pub returns-in_err-add_number-in-Some-clause-front : goal.returns-in_err-add_number-in-Some-clause-front
returns-in_err-add_number-in-Some-clause-front g c =
    let w = g.W.Write.contents c.args.writer.now.inner in
    let x = c.in-Some.first.now in
    let ys = c.in-Some.others.now in
    let whole : c.args.events.now ≡ x ∷ ys = search rules in
    at_fault c.from_residual.result
    (subst (λ t. AppendsFront w (g.W.Write.contents c.add_number.new.writer.inner) (c.args.waiting.now.items ++ t))
    (schedule_of_more c.args.events.now ys x whole)
    (front_longer c.args.waiting.now.items (decimal x.choice) (after_commas (map (λ e. e.choice) ys)) _ _
    (rw c.from.ensures at c.in_err-add_number-in-Some.ensures.front)))

pub returns-in_ok-add_number-in-Some-clause-added : goal.returns-in_ok-add_number-in-Some-clause-added
returns-in_ok-add_number-in-Some-clause-added g c =
    let w = g.W.Write.contents c.args.writer.now.inner in
    let x = c.in-Some.first.now in
    let ys = c.in-Some.others.now in
    let whole : c.args.events.now ≡ x ∷ ys = search rules in
    on_ok_weaker c.add_others.result
    (λ k.
    subst (λ t. Adds c.args.waiting.now.items t c.add_others.new.waiting.items w
    (g.W.Write.contents c.add_others.new.writer.inner)) (schedule_of_more c.args.events.now ys x whole)
    (adds_both c.args.waiting.now.items (decimal x.choice) c.add_number.new.waiting.items
    (after_commas (map (λ e. e.choice) ys)) c.add_others.new.waiting.items _ _ _
    (rw c.from.ensures at c.in_ok-add_number-in-Some.ensures.added) k))
    c.add_others.ensures.added

pub returns-in_ok-add_number-in-Some-clause-front : goal.returns-in_ok-add_number-in-Some-clause-front
returns-in_ok-add_number-in-Some-clause-front g c =
    let w = g.W.Write.contents c.args.writer.now.inner in
    let x = c.in-Some.first.now in
    let ys = c.in-Some.others.now in
    let whole : c.args.events.now ≡ x ∷ ys = search rules in
    on_err_weaker c.add_others.result
    (λ k.
    subst (λ t. AppendsFront w (g.W.Write.contents c.add_others.new.writer.inner) (c.args.waiting.now.items ++ t))
    (schedule_of_more c.args.events.now ys x whole)
    (front_after c.args.waiting.now.items (decimal x.choice) c.add_number.new.waiting.items
    (after_commas (map (λ e. e.choice) ys)) _ _ _
    (rw c.from.ensures at c.in_ok-add_number-in-Some.ensures.added) k))
    c.add_others.ensures.front
