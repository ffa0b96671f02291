use Rattle.std.proofs.Common.{map, [], ◌∷◌, ap, ◌∙◌, arith}
use Rattle.std.proofs.lemmas.List.{length-map, map-append}
use Rattle.pf_terms.specs.Term.{value_of}
use Rattle.pf_compile_patterns.proofs.Grown.{constant_put}
use Rattle.pf_compile_patterns.proofs.maker.Maker.constant.Goals as goal

pub returns : goal.returns
returns c =
    let s = c.args.self.now in
    constant_put s.instructions.items (map value_of s.constants.items) _ (value_of c.args.value) c.in_ok-k.k
    (ap (map value_of) c.in_ok-push.ensures.items ∙ map-append value_of s.constants.items (c.args.value ∷ []))
    (let l = length-map s.constants.items value_of in omega arith)
