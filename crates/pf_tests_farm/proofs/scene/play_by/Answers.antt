use Rattle.std.proofs.Common.{rules, ◌≡◌, ◌∙◌, sym, ap, length, subst}
use Rattle.std.proofs.lemmas.List.{take_at}
use Rattle.pf_farm.specs.Seats.{IsRing}
use Rattle.pf_tests_farm.proofs.scene.play_by.Goals as goal

pub close-closing-requires-clause-ring : goal.close-closing-requires-clause-ring
close-closing-requires-clause-ring g c =
    let s = c.all_play.new.seats in
    let was = c.in_ok-farm.field-0.seats in
    let ring : IsRing was.items = search rules in
    let lent : was.items ≡ c.deref_mut-2.result.now = search rules in
    let count : length was.items ≡ was.len = search rules in
    let kept : length s ≡ length c.deref_mut-2.result.now = search rules in
    let after : IsRing s = c.all_play.ensures.ring (subst IsRing lent ring) in
    subst IsRing (sym (take_at s _ was.len (kept ∙ (ap length (sym lent) ∙ count)))) after
