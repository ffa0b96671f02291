-- What was taken of a client's answers, by its writer or to be kept.
use Rattle.std.proofs.Common.{◌≡◌, ℕ, List, [], ◌++◌, Option, Some, None, refl, sym, ap, ◌∙◌, append-nil, append_assoc}
use Rattle.std.specs.Io.KnownBytes.{Appends}
use Rattle.std.proofs.KnownBytes.{Appends-nil}
use Rattle.pf_streams.proofs.Writes.{appends_both}
use Rattle.pf_wire.specs.declared.reported.WrittenAnswer.{WrittenAnswer}
use Rattle.pf_clients.specs.Replies.{Takes}
use Rattle.pf_clients.specs.Texts.{reported_text}

module _ {W : Type 0} (contents : W → Option (List ℕ)) where
  pub takes_none : (v : Option W) (k : List WrittenAnswer) → Takes contents v v k k []
  takes_none None k = sym (append-nil (reported_text k))
  takes_none (Some v) k = (refl, Appends-nil (contents v))

  -- two texts are one
  pub takes_both : (u v w : Option W) (k0 k1 k2 : List WrittenAnswer) (a b : List ℕ) → Takes contents u v k0 k1 a
      → Takes contents v w k1 k2 b → Takes contents u w k0 k2 (a ++ b)
  takes_both None None None k0 k1 k2 a b h k =
      k ∙ ap (λ (t : List ℕ). t ++ b) h ∙ append_assoc (reported_text k0) a b
  takes_both None None (Some w) k0 k1 k2 a b h k = absurd k
  takes_both None (Some v) w k0 k1 k2 a b h k = absurd h
  takes_both (Some u) None w k0 k1 k2 a b h k = absurd h
  takes_both (Some u) (Some v) None k0 k1 k2 a b h k = absurd k
  takes_both (Some u) (Some v) (Some w) k0 k1 k2 a b h k =
      (k.0 ∙ h.0, appends_both (contents u) (contents v) (contents w) a b h.1 k.1)
