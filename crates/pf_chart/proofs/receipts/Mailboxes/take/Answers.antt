use Rattle.std.proofs.Common.{◌≡◌, ◌<◌, ℕ, List, Some, map, length, sym, ap, ◌∙◌, subst, arith}
use Rattle.std.specs.Prelude.{slice_get}
use Rattle.std.proofs.lemmas.Bool.{ltb-true}
use Rattle.std.proofs.lemmas.Option.{same_Some, slice_get-get_or}
use Rattle.pf_terms.specs.Term.{value_of}
use Rattle.pf_model.specs.Reports.{view_of_event}
use Rattle.pf_chart.specs.Receipts.{IsOfValue}
use Rattle.pf_chart.proofs.Received.{is_receipt, one_goes, one_noted}
use Rattle.pf_chart.proofs.receipts.Mailboxes.take.Goals as goal

pub returns-in-Some-get_mut : goal.returns-in-Some-get_mut
returns-in-Some-get_mut c = λ cs takes h.
    let es = map view_of_event c.args.events.now in
    let v = value_of c.args.value.now in
    let old = c.args.self.now in
    let q = c.in-Some.mailbox.now in
    let d = c.remove-delivery.result in
    let place = c.in-Some-first_of.place in
    let found = c.in-Some-first_of.ensures in
    let is : slice_get old.waiting.items c.args.column ≡ Some q =
    slice_get-get_or old.waiting.items c.args.column q
    (ltb-true c.args.column (length old.waiting.items) (sym c.in-Some.ensures.item.0))
    ∙ ap Some (sym c.in-Some.ensures.item.1) in
    let low : place < length q.items = omega arith in
    let there : slice_get q.items place ≡ Some d =
    slice_get-get_or q.items place d low ∙ ap Some (sym c.remove-delivery.ensures.value) in
    let here : slice_get q.items place ≡ Some found.0 =
    subst (λ (xs : List ℕ). slice_get xs place ≡ Some found.0) c.deref.ensures.value found.1 in
    let one : found.0 ≡ d = same_Some found.0 d (sym here ∙ there) in
    record {
      waiting = one_goes es cs c.args.row old.waiting.items c.args.column place q c.remove-delivery.new.self is
          c.remove-delivery.ensures.items h.waiting;
      taken = one_noted es old.taken.items d c.args.row
          (ltb-true d (length old.taken.items) (sym c.in-Some-get_mut.ensures.item.0))
          (is_receipt es cs c.args.row c.args.column d v takes
          (subst (λ x. IsOfValue es v x) one found.2) (h.waiting c.args.column place d q is there)) h.taken;
    }

pub returns-in_default-get_mut : goal.returns-in_default-get_mut
returns-in_default-get_mut c = λ cs takes h.
    let old = c.args.self.now in
    let q = c.in-Some.mailbox.now in
    let is : slice_get old.waiting.items c.args.column ≡ Some q =
    slice_get-get_or old.waiting.items c.args.column q
    (ltb-true c.args.column (length old.waiting.items) (sym c.in-Some.ensures.item.0))
    ∙ ap Some (sym c.in-Some.ensures.item.1) in
    record {
      waiting = one_goes (map view_of_event c.args.events.now) cs c.args.row old.waiting.items c.args.column
          c.in-Some-first_of.place q c.remove-delivery.new.self is c.remove-delivery.ensures.items h.waiting;
      taken = h.taken;
    }
