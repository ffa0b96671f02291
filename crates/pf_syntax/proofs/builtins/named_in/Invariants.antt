use Rattle.std.proofs.Common.{◌≡◌, drop, map}
use Rattle.pf_syntax.specs.Forms as forms
use Rattle.pf_syntax.proofs.builtins.named_in.Given as goal

-- the first of those that are left
abbrev pub invariant-loop-row : goal.invariant-loop-row
invariant-loop-row l =
    forms.named_in l.name l.arity (map (λ b. forms.row b.0.now b.1 b.2) (drop l.row-index l.table))
    ≡ forms.named_in l.name l.arity (map (λ b. forms.row b.0.now b.1 b.2) l.table)
