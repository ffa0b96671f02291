use Rattle.std.proofs.Common.{◌≡◌, ◌+◌, ◌-◌, ℕ, List, length, min, sym, ◌∙◌, subst, arith}
use Rattle.std.specs.Prelude.{IfSome}
use Rattle.pf_check.specs.Reads.{Reads, refused}
use Rattle.pf_hints.specs.Faults.{IsFault, alone}
use Rattle.pf_hints.specs.declared.alone.TheConstants.{HEAD}
use Rattle.pf_hints.proofs.alone.refusal_of_form.Goals as goal

pub returns : goal.returns
returns c =
    let source = c.args.source.now in
    let r = c.in-Some.field-0 in
    let found = subst (λ o. IfSome o (λ f. Reads c.deref.result.now (refused f.code f.offset))) c.in-Some.is
    c.in_ok-code.ensures in
    let reads = subst (λ (bytes : List ℕ). Reads bytes (refused r.code r.offset))
    (c.deref.ensures.value ∙ c.in_ok-alone.ensures) found in
    let at : c.min-front.result + c.min-after.result ≡ min (r.offset - length HEAD.now + c.args.start)
    (length source) =
    omega (arith, c.min-front.ensures, c.min-after.ensures, c.saturating_sub-within.ensures) in
    subst (IsFault source r.code) (sym at) (alone c.args.start c.args.end r.offset r.code reads)
