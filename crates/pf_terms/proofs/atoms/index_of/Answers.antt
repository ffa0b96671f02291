use Rattle.std.proofs.Common.{◌≡◌, rules, tests, sym, ◌∙◌}
use Rattle.std.specs.Prelude.{position}
use Rattle.std.specs.Str.{bytes_eq}
use Rattle.std.proofs.lemmas.Iterator.{YieldsList-from_slice}
use Rattle.std.proofs.lemmas.Iterator.Search.{position_from_yields_List}
use Rattle.pf_terms.proofs.Names.{position-map}
use Rattle.pf_terms.proofs.atoms.index_of.Goals as goal

pub returns : goal.returns
returns c =
    let names = c.args.names.now in
    let text = c.args.name.now in
    let index : c.position.result ≡ position (λ s. bytes_eq text s.now) names =
    position_from_yields_List (λ s. bytes_eq text s.now) _ _ _ c.position.ensures.ran (YieldsList-from_slice names cc)
    (λ x b q k. search (rules, tests)) in
    index ∙ sym (position-map (λ s. s.now) (bytes_eq text) names)
