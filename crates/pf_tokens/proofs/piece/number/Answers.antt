use Rattle.pf_tokens.specs.Bytes.{is_digit}
use Rattle.pf_tokens.proofs.Runs.{take_passes}
use Rattle.pf_tokens.proofs.piece.number.Goals as goal

pub integer_of-requires : goal.integer_of-requires
integer_of-requires c =
    let same = c.split_at.ensures.front in
    rw (same, c.digits_length-length.ensures.length) (take_passes is_digit c.args.bytes.now)
