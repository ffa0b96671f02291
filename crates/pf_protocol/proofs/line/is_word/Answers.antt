use Rattle.std.proofs.Common.{ap, sym, ◌∙◌}
use Rattle.std.specs.Prelude.{not}
use Rattle.pf_protocol.proofs.Splitting.{word_of_some}
use Rattle.pf_protocol.proofs.line.is_word.Goals as goal

pub returns-then-not-is_empty : goal.returns-then-not-is_empty
returns-then-not-is_empty c = ap not c.has_blank.ensures
    ∙ sym (word_of_some c.args.text.now (sym c.is_empty.ensures ∙ c.if-not-is_empty.true))
