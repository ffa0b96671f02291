use Rattle.std.proofs.Common.{◌≡◌, Bool, true, false, not, refl, sym, ap, ◌∙◌}
use Rattle.pf_protocol.specs.Commands.{Line}
use Rattle.pf_protocol.proofs.Completed.{open_stays}
use Rattle.pf_wire.proofs.stream.Input.take_piece.Goals as goal
use Rattle.pf_wire.proofs.stream.Input.take_piece.Goals.{then-self, else-self}

not_true : (b : Bool) → not b ≡ true → b ≡ false
not_true true h = absurd cc
not_true false h = refl

differ : {A : Type 0} → false ≡ true → A
differ h = absurd cc

-- no line ends among bytes and more bytes if none ends among either
pub invariant_of-self-2 : goal.invariant_of-self-2
invariant_of-self-2 g c = record {
  «open» = elim c.if-self.branch [
    | then-self w ↦ λ o.
        let none = not_true _ (sym w.is_open-is ∙ o) in
        rw c.in_ok-extend_from_slice.ensures.items
        (open_stays c.args.self.now.bytes.items _ (c.args.self.now.open w.if-self.true)
        (sym (ap (λ (l : Line). l.is_ended) w.first_line.ensures) ∙ none))
    | else-self w ↦ λ o. differ (sym w.if-self.false ∙ sym w.is_open-is ∙ o)
  ];
}
