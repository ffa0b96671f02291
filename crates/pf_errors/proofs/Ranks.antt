-- Codes of one rank are the same.
use Rattle.std.proofs.Common.{◌≡◌, sym, ap, ◌∙◌}
use Rattle.pf_errors.specs.declared.code.Code.{Code}
use Rattle.pf_errors.specs.Codes.{rank_of, code_at, code_at-rank_of}

pub rank_apart : (c d : Code) → rank_of c ≡ rank_of d → c ≡ d
rank_apart c d e = sym (code_at-rank_of c) ∙ ap code_at e ∙ code_at-rank_of d
