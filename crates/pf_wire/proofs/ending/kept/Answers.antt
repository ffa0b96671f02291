use Rattle.std.proofs.Common.{◌≡◌, ◌∙◌, min, length, take, refl, ap, inl, arith}
use Rattle.std.proofs.lemmas.List.{take_min}
use Rattle.pf_wire.proofs.ending.kept.Goals as goal

pub returns-in-Ok : goal.returns-in-Ok
returns-in-Ok c =
    let line = c.args.line.now in
    let e : c.min-end.result ≡ min 65536 (length line) = omega (arith, c.min-end.ensures) in
    let t : take c.min-end.result line ≡ take 65536 line = ap (λ n. take n line) e ∙ take_min 65536 line in
    inl (grind (arith, t, c.in-Ok.ensures.items), refl)
