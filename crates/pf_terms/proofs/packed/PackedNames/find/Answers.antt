use Rattle.std.proofs.Common.{◌≡◌, true, false, [], ◌||◌, get_or, sym, ap, ◌∙◌, arith}
use Rattle.std.specs.Prelude.{Some}
use Rattle.std.specs.Str.{bytes_eq}
use Rattle.std.proofs.lemmas.List.Folds.{list_any_more}
use Rattle.std.proofs.lemmas.Option.{slice_get-get_or}
use Rattle.std.proofs.lemmas.Slice.Eq.{bytes_eq-Decides}
use Rattle.pf_terms.proofs.packed.PackedNames.find.Goals as goal

pub returns-then-eq-clause-found : goal.returns-then-eq-clause-found
returns-then-eq-clause-found c =
    let names = c.args.self.now in
    let i = c.loop-index.index in
    let same : bytes_eq c.args.name.now (get_or names i []) ≡ true = cc in
    slice_get-get_or names i [] (omega arith) ∙ ap (λ n. Some n)
    (sym ((bytes_eq-Decides c.args.name.now (get_or names i [])).0 same))

pub loop-index-preserved : goal.loop-index-preserved
loop-index-preserved c =
    let names = c.args.self.now in
    let i = c.loop-index.index in
    let other : bytes_eq c.args.name.now (get_or names i []) ≡ false = cc in
    list_any_more (bytes_eq c.args.name.now) names i [] (omega arith)
    ∙ ap (λ b. b || bytes_eq c.args.name.now (get_or names i [])) c.loop-index.invariant
    ∙ other
