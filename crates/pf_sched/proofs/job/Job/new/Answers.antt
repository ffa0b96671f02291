use Rattle.std.proofs.Common.{◌≡◌, Some, sym, ap, ◌∙◌, subst}
use Rattle.std.specs.Prelude.{option_map}
use Rattle.std.proofs.lemmas.Result.{err_from_is_err_and}
use Rattle.pf_property.specs.Texts.{ReadsProperty}
use Rattle.pf_property.specs.Views.{property_of}
use Rattle.pf_request.specs.Job.{root_in}
use Rattle.pf_request.specs.View.{view_of_kind, view_of_request}
use Rattle.pf_sched.proofs.Asking.{bad_weights, is_asked, is_valid, no_property, no_root, out_of_range}
use Rattle.pf_sched.proofs.job.Job.new.Goals as goal

pub returns-in_default : goal.returns-in_default
returns-in_default c =
    let m = c.args.«module» in
    no_root m c.args.edition (view_of_request c.args.request.now)
    (ap (root_in m) (sym c.as_slice.ensures) ∙ sym c.find_root.ensures.root
    ∙ ap (option_map (λ f. f.0)) c.in_default.is)

pub returns-in_err-property : goal.returns-in_err-property
returns-in_err-property c =
    let m = c.args.«module» in
    let p = err_from_is_err_and c.from_residual.result c.from_residual.ensures.1 in
    let r = view_of_request c.args.request.now in
    let root : root_in m r.root ≡ Some c.in-Some.root.0 = ap (root_in m) (sym c.as_slice.ensures)
    ∙ sym c.in-Some.ensures.root in
    rw (p.1, p.2)
    (no_property m c.args.edition r c.in-Some.root.0 root c.as_slice-2.result.now c.as_slice-2.ensures _
    c.in_err-property.ensures)

pub returns-then-not-is_within : goal.returns-then-not-is_within
returns-then-not-is_within c =
    let m = c.args.«module» in
    let r = view_of_request c.args.request.now in
    let q = property_of c.in_ok-property.property in
    let root : root_in m r.root ≡ Some c.in-Some.root.0 = ap (root_in m) (sym c.as_slice.ensures)
    ∙ sym c.in-Some.ensures.root in
    let reads = subst (λ b. ReadsProperty m.code.atoms b q) c.as_slice-2.ensures c.in_ok-property.ensures in
    out_of_range m c.args.edition r c.in-Some.root.0 root q reads (sym c.if-not-is_within.ensures)

pub returns-then-not-may_weigh : goal.returns-then-not-may_weigh
returns-then-not-may_weigh c =
    let m = c.args.«module» in
    let r = view_of_request c.args.request.now in
    let q = property_of c.in_ok-property.property in
    let root : root_in m r.root ≡ Some c.in-Some.root.0 = ap (root_in m) (sym c.as_slice.ensures)
    ∙ sym c.in-Some.ensures.root in
    let reads = subst (λ b. ReadsProperty m.code.atoms b q) c.as_slice-2.ensures c.in_ok-property.ensures in
    bad_weights m c.args.edition r c.in-Some.root.0 root q reads (sym c.if-not-is_within.ensures)
    (sym c.if-not-may_weigh.ensures)

pub invariant_of-result : goal.invariant_of-result
invariant_of-result c =
    let m = c.args.«module» in
    let r = view_of_request c.args.request.now in
    let q = property_of c.in_ok-property.property in
    let root : root_in m r.root ≡ Some c.in-Some.root.0 = ap (root_in m) (sym c.as_slice.ensures)
    ∙ sym c.in-Some.ensures.root in
    let reads = subst (λ b. ReadsProperty m.code.atoms b q) c.as_slice-2.ensures c.in_ok-property.ensures in
    is_valid m c.args.edition r c.in-Some.root.0 root q reads r.root root c.find_root.ensures.read
    (view_of_kind c.in_ok-kind.kind) c.in_ok-kind.ensures
    (sym c.if-not-is_within.ensures) (sym c.if-not-may_weigh.ensures) c.requires

pub returns : goal.returns
returns c =
    let m = c.args.«module» in
    let r = view_of_request c.args.request.now in
    let q = property_of c.in_ok-property.property in
    let root : root_in m r.root ≡ Some c.in-Some.root.0 = ap (root_in m) (sym c.as_slice.ensures)
    ∙ sym c.in-Some.ensures.root in
    let reads = subst (λ b. ReadsProperty m.code.atoms b q) c.as_slice-2.ensures c.in_ok-property.ensures in
    is_asked m c.args.edition r c.in-Some.root.0 root q reads (view_of_kind c.in_ok-kind.kind) c.in_ok-kind.ensures
    (sym c.if-not-is_within.ensures)
    (sym c.if-not-may_weigh.ensures)
