use Rattle.std.proofs.Common.{rules, ◌≡◌, [], ◌∷◌, ◌++◌, length, map, refl, sym, ap, ◌∙◌, subst, append-nil}
use Rattle.std.proofs.Common.{append_assoc}
use Rattle.std.specs.Vec.Iter.{into_iter_items}
use Rattle.std.proofs.lemmas.List.{map-append}
use Rattle.pf_errors.specs.declared.fault.OrNoMemory.TheVariants.{Fault}
use Rattle.pf_streams.specs.Streams.{CountsWrite}
use Rattle.pf_trace.proofs.Fronts.{handed_on}
use Rattle.pf_clients.specs.Farms.{client_text, Prints, PrintsInPart}
use Rattle.pf_clients.proofs.Pairs.{nothing_left}
use Rattle.pf_clients.proofs.Printed.{PrintedSoFar, none_printed, one_printed, all_printed, printed_front}
use Rattle.pf_clients.proofs.Printed.{stops_printing, in_part_by_writer, in_part_by_stop, in_part_counts}
use Rattle.pf_clients.proofs.reported.write_all.Goals as goal

pub files-init : goal.files-init
files-init g c = record {
  so_far = none_printed (g.W.Write.contents c.args.writer.now.inner);
  rest = search rules;
  same = refl;
}

pub files-preserved : goal.files-preserved
files-preserved g c =
    let contents = g.W.Write.contents in
    let w0 = contents c.args.writer.now.inner in
    let l = c.files in
    let w = contents l.writer.inner in
    let w' = contents c.write_one.new.writer.inner in
    let x = c.in-Some.answered in
    let left = into_iter_items c.next.new.self in
    let steps : into_iter_items l.answered-iterator ≡ x ∷ left = c.in-Some.ensures.steps.0 in
    let next = c.in_ok-status.ensures.next in
    record {
      so_far = subst (λ cs. PrintedSoFar cs c.in_ok-status.status w0 w')
          (sym (map-append client_text l.yielded (x ∷ [])))
          (one_printed (map client_text l.yielded) l.status w0 w l.invariant.so_far (client_text x) w'
          c.in_ok-status.status
          (rw c.deref.ensures.value at c.in_ok-write_one.ensures.written) next.0 next.1);
      rest = l.invariant.rest ∙ ap (λ t. l.yielded ++ t) steps ∙ sym (append_assoc l.yielded (x ∷ []) left);
      same = c.in_ok-write_one.ensures.kept ∙ l.invariant.same;
    }

pub returns-in_err-write_one-clause-in_part : goal.returns-in_err-write_one-clause-in_part
returns-in_err-write_one-clause-in_part g c =
    let contents = g.W.Write.contents in
    let w0 = contents c.args.writer.now.inner in
    let l = c.files in
    let w = contents l.writer.inner in
    let w' = contents c.write_one.new.writer.inner in
    let n0 = c.args.writer.now.failures.total in
    let n' = c.write_one.new.writer.failures.total in
    let x = c.in-Some.answered in
    let left = into_iter_items c.next.new.self in
    let steps : into_iter_items l.answered-iterator ≡ x ∷ left = c.in-Some.ensures.steps.0 in
    let all = map client_text c.args.answers.items in
    let is : all ≡ map client_text l.yielded ++ client_text x ∷ map client_text left =
    ap (λ t. map client_text t) (l.invariant.rest ∙ ap (λ t. l.yielded ++ t) steps)
    ∙ map-append client_text l.yielded (x ∷ left) in
    let e = c.in_err-write_one.field-0.0 in
    let counts : CountsWrite e n0 n' = subst (λ n. CountsWrite e n n') l.invariant.same
    c.in_err-write_one.ensures.counted in
    let front = printed_front (map client_text l.yielded) l.status w0 w l.invariant.so_far all (client_text x)
    (map client_text left) is w'
    (rw c.deref.ensures.value at c.in_err-write_one.ensures.front) in
    handed_on c.from_residual.result (Fault e) (λ k. PrintsInPart all k w0 w' n0 n') c.from_residual.ensures
    (in_part_by_writer all e w0 w' n0 n' counts front)

pub returns-in_err-status-clause-in_part : goal.returns-in_err-status-clause-in_part
returns-in_err-status-clause-in_part g c =
    let contents = g.W.Write.contents in
    let w0 = contents c.args.writer.now.inner in
    let l = c.files in
    let w = contents l.writer.inner in
    let w' = contents c.write_one.new.writer.inner in
    let n0 = c.args.writer.now.failures.total in
    let n' = c.write_one.new.writer.failures.total in
    let x = c.in-Some.answered in
    let left = into_iter_items c.next.new.self in
    let steps : into_iter_items l.answered-iterator ≡ x ∷ left = c.in-Some.ensures.steps.0 in
    let all = map client_text c.args.answers.items in
    let is : all ≡ map client_text l.yielded ++ client_text x ∷ map client_text left =
    ap (λ t. map client_text t) (l.invariant.rest ∙ ap (λ t. l.yielded ++ t) steps)
    ∙ map-append client_text l.yielded (x ∷ left) in
    let e = c.in_err-status.field-0.0 in
    let stop = c.in_err-status.ensures.stop in
    let printed = stops_printing (map client_text l.yielded) l.status w0 w l.invariant.so_far all (client_text x)
    (map client_text left) e is w'
    (rw c.deref.ensures.value at c.in_ok-write_one.ensures.written) stop in
    handed_on c.from_residual-in_err-status.result e (λ k. PrintsInPart all k w0 w' n0 n')
    c.from_residual-in_err-status.ensures
    (in_part_by_stop all x.ended e w0 w' n0 n' stop (c.in_ok-write_one.ensures.kept ∙ l.invariant.same) printed)

pub returns-clause-printed : goal.returns-clause-printed
returns-clause-printed g c =
    let contents = g.W.Write.contents in
    let w0 = contents c.args.writer.now.inner in
    let l = c.files in
    let w = contents l.writer.inner in
    let left : length (into_iter_items l.answered-iterator) ≡ 0 = sym l.answered-iterator.rest.ok.0
    ∙ c.in-None.ensures.steps.0 in
    let all = l.invariant.rest ∙ ap (λ t. l.yielded ++ t) (nothing_left (into_iter_items l.answered-iterator) left)
    ∙ append-nil l.yielded in
    subst (λ t. Prints (map client_text t) l.status w0 w) (sym all)
    (all_printed (map client_text l.yielded) l.status w0 w l.invariant.so_far)
