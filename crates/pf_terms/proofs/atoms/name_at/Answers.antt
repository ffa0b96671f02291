use Rattle.std.proofs.Common.{sym, ◌∙◌, []}
use Rattle.std.proofs.lemmas.List.{get_or-map}
use Rattle.pf_terms.proofs.atoms.name_at.Goals as goal

pub returns : goal.returns
returns c =
    c.as_bytes.ensures.value ∙ sym (get_or-map (λ s. s.now) c.args.names.now c.args.index _ [] c.requires)
