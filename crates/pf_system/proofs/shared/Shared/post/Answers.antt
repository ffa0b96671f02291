use Rattle.std.proofs.Common.{◌≡◌, ◌∷◌, [], ◌++◌, List, ℕ, sym, ap, ◌∙◌, map, append_assoc}
use Rattle.std.specs.Vec.Iter.{into_iter_items}
use Rattle.pf_model.specs.Channels.{Channels, sent}
use Rattle.pf_model.specs.Configuration.{posted}
use Rattle.pf_model.specs.Signals.{signal_of}
use Rattle.pf_model.specs.declared.signal.Signal.{Signal as Program}
use Rattle.pf_ties.specs.Fates.{sent_of}
use Rattle.pf_system.proofs.Rows.{posted_more}
use Rattle.pf_system.proofs.Bodies.{map_more}
use Rattle.pf_system.proofs.shared.Shared.post.Goals as goal

one_more : (a : ℕ) (ss : List (ℕ × Program)) (x : ℕ × Program) (cs ds es : Channels) → ds ≡ posted a (map sent_of ss) cs
    → es ≡ sent a x.0 (signal_of x.1) ds → es ≡ posted a (map sent_of (ss ++ x ∷ [])) cs
one_more a ss x cs ds es e f =
    f ∙ ap (sent a x.0 (signal_of x.1)) e
    ∙ sym (ap (λ zs. posted a zs cs) (map_more sent_of ss x) ∙ posted_more a (map sent_of ss) (sent_of x) cs)

pub loop-to-preserved : goal.loop-to-preserved
loop-to-preserved c =
    let at = c.loop-to in
    let x : ℕ × Program = (c.in-Some.to, c.in-Some.signal) in
    let steps : into_iter_items at.to-iterator ≡ x ∷ into_iter_items c.next.new.self = c.in-Some.ensures.steps.0 in
    record {
      posted = one_more c.args.from at.yielded x c.args.self.now.channels at.self.channels c.send.new.self
          at.invariant.posted c.in_ok-send.ensures.sent;
      ties = at.invariant.ties;
      senders = c.send.ensures.senders ∙ at.invariant.senders;
      rest = at.invariant.rest ∙ ap (λ l. at.yielded ++ l) steps
          ∙ sym (append_assoc at.yielded (x ∷ []) (into_iter_items c.next.new.self));
    }
