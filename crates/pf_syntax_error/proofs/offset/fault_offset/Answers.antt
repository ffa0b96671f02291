use Rattle.std.proofs.Common.{length, inr, refl, sym}
use Rattle.std.proofs.lemmas.Bool.{ltb-true}
use Rattle.std.proofs.lemmas.Option.{slice_get_read}
use Rattle.pf_syntax_error.proofs.Offsets.{is_there_still}
use Rattle.pf_syntax_error.proofs.offset.fault_offset.Goals as goal

pub returns-in-Some-get : goal.returns-in-Some-get
returns-in-Some-get c =
    let tokens = c.args.tokens.now in
    let read = c.in-Some-get.ensures.lookup in
    let token = c.in-Some-get.token.now in
    inr (is_there_still tokens c.in-Some.index token (slice_get_read tokens (length tokens) c.in-Some.index token refl
    (ltb-true c.in-Some.index (length tokens) (sym read.0)) read.1))
