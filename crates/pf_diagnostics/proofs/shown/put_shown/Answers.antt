use Rattle.std.proofs.Common.{◌≡◌, ◌+◌, ◌-◌, ℕ, get_or, ap, ◌∙◌, arith, append-nil, sym}
use Rattle.pf_diagnostics.specs.Shown.{shown_up_to}
use Rattle.pf_diagnostics.proofs.Bytes.{one_more}
use Rattle.pf_diagnostics.proofs.shown.put_shown.Goals as goal

pub loop-at-init : goal.loop-at-init
unfolding shown_up_to
loop-at-init c = sym (append-nil _)

pub loop-at-preserved : goal.loop-at-preserved
loop-at-preserved c =
    let first : c.byte_at-before.result ≡ get_or c.args.bytes.now (c.loop-at.at - 1) 0 = c.byte_at-before.ensures
    ∙ ap (λ (k : ℕ). get_or c.args.bytes.now k 0) c.saturating_sub.ensures in
    one_more _ _ _ _ c.loop-at.at (c.loop-at.at + 1) _ _ _ (omega arith) first c.byte_at.ensures c.byte_at-next.ensures
    c.loop-at.invariant c.in_ok-put_byte.ensures
