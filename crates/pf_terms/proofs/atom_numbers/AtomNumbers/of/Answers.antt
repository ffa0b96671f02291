use Rattle.std.proofs.Common.{◌≡◌, ◌<◌, length, take, ap, ◌∙◌, arith}
use Rattle.pf_terms.specs.Atoms.{name_of, with_name}
use Rattle.pf_terms.proofs.Prefixes.{next_name}
use Rattle.pf_terms.proofs.atom_numbers.AtomNumbers.of.Goals as goal

pub loop-index-preserved : goal.loop-index-preserved
loop-index-preserved c =
    let names = c.args.names.now in
    let i = c.loop-index.index in
    let within : i < length names = omega (arith, c.len-index-end.ensures.len) in
    c.in_ok-enter.ensures.names
    ∙ ap (λ before. with_name before c.name.result.now) c.loop-index.invariant
    ∙ ap (λ name. with_name (take i names) name) c.name.ensures
    ∙ next_name names i c.len-index-end.ensures.distinct within
