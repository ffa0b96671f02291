use Rattle.std.proofs.Common.{arith}
use Rattle.pf_terms.specs.Term.{value_of}
use Rattle.pf_syntax.specs.Module.{pattern_at}
use Rattle.pf_patterns.proofs.Bound.{whole_is_there}
use Rattle.pf_patterns.proofs.trying.fits.Goals as goal

pub fits_part-requires : goal.fits_part-requires
fits_part-requires c =
    whole_is_there (pattern_at c.args.code.now.tables c.args.pattern.0) (value_of c.args.value.now) (omega arith)
