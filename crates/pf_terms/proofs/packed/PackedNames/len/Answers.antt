use Rattle.std.proofs.Common.{◌≡◌, length, sym, ap, ◌∙◌, rules}
use Rattle.pf_terms.proofs.Cuts.{length-cut}
use Rattle.pf_terms.proofs.packed.PackedNames.len.Goals as goal

pub returns : goal.returns
returns c =
    let n : c.len.result ≡ length c.self.inside.ends.items = search rules in
    n ∙ sym (length-cut c.self.inside.bytes.items 0 c.self.inside.ends.items) ∙ ap length c.self.view_is
