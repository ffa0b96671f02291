use Rattle.std.proofs.Common.{◌≡◌, Bool, sym, ap, ◌∙◌, subst}
use Rattle.std.specs.Prelude.{Some, map, if◌then◌else◌}
use Rattle.std.proofs.lemmas.Option.{same_Some}
use Rattle.pf_terms.specs.Term.{value_of}
use Rattle.pf_model.specs.Contraction.{picked}
use Rattle.pf_model.specs.Receive.{taking}
use Rattle.pf_turns.specs.declared.status.Status.{Status}
use Rattle.pf_turns.specs.declared.status.Status.TheVariants as status
use Rattle.pf_inbox.specs.Searches.{IsMarkAfter, SearchedInbox}
use Rattle.pf_inbox.specs.Tests.{risen}
use Rattle.pf_inbox.proofs.Selecting.{all_tested, count_values, still, takes, takes_none, tested_to}
use Rattle.pf_inbox.proofs.inbox.Inbox.receive.Goals as goal

abbrev after : Status → Bool → Status
after x b = if b then status.Goes else x

pub returns-then-taken-clause-received : goal.returns-then-taken-clause-received
returns-then-taken-clause-received c = λ m code entries d s fs ks r before.
    let own = c.args.setting.now.own in
    let g = c.search-found in
    let old = c.self.inside.list in
    let new = g.new.list in
    let k = g.new.process.machine in
    let first = rw (← c.self.view_is) at before in
    let sought = subst (SearchedInbox m own code d fs ks old new g.new.heap k) c.if-taken.true
    (c.in_ok-taken.ensures.sought m code entries d s fs ks r) in
    let x = c.take_marked-message.result in
    let at = c.take_marked-message.ensures.item in
    let judged = sought.1.judged in
    let same : value_of sought.1.message ≡ value_of x =
    ap value_of (same_Some sought.1.message x (sym sought.1.there ∙ at)) in
    let picks : picked m own ks (value_of x) ≡ Some judged.0 = ap (picked m own ks) (sym same) ∙ judged.1 in
    let others = ap (λ l. l.items) c.reset_mark.ensures ∙ ap (λ l. l.items) c.take_marked-message.ensures.others in
    rw (← c.self.view_is) (record {
      body = judged.0;
      taken = takes m own ks old new g.ensures.items sought.0 first x judged.0 at picks
          ∙ ap (λ xs. Some (taking judged.0 (value_of x) (map value_of xs))) (sym others);
      state = judged.2;
      is_in = judged.3;
      at = judged.4;
    })

pub returns-then-taken-clause-tests : goal.returns-then-taken-clause-tests
returns-then-taken-clause-tests c = λ m code entries d s fs ks r.
    let own = c.args.setting.now.own in
    let g = c.search-found in
    let old = c.self.inside.list in
    let new = g.new.list in
    let sought = subst (SearchedInbox m own code d fs ks old new g.new.heap g.new.process.machine) c.if-taken.true
    (c.in_ok-taken.ensures.sought m code entries d s fs ks r) in
    let x = c.take_marked-message.result in
    let at = c.take_marked-message.ensures.item in
    let judged = sought.1.judged in
    let same : value_of sought.1.message ≡ value_of x =
    ap value_of (same_Some sought.1.message x (sym sought.1.there ∙ at)) in
    let picks : picked m own ks (value_of x) ≡ Some judged.0 = ap (picked m own ks) (sym same) ∙ judged.1 in
    rw (← c.self.view_is) (c.counted-self-inside.ensures ∙ ap (risen c.self.inside.tests)
    (rw (c.in_ok-taken.was, c.if-taken.true) at g.ensures.counted) ∙ ap (risen c.self.inside.tests)
    (sym (tested_to m own ks old new g.ensures.items sought.0 x judged.0 at picks)))

pub returns-clause-received : goal.returns-clause-received
returns-clause-received c = λ m code entries d s fs ks r before.
    let own = c.args.setting.now.own in
    let g = c.search-found in
    let old = c.self.inside.list in
    let new = g.new.list in
    let first = rw (← c.self.view_is) at before in
    let sought = subst (SearchedInbox m own code d fs ks old new g.new.heap g.new.process.machine) c.if-taken.false
    (c.in_ok-taken.ensures.sought m code entries d s fs ks r) in
    rw (← c.self.view_is) (record {
      none = takes_none m own ks old new g.ensures.items sought.0 first
          (subst (λ b. IsMarkAfter b new) c.if-taken.false c.in_ok-taken.ensures.there);
      kept = ap (map value_of) g.ensures.items;
      passed = still m own ks old new g.ensures.items sought.0 first;
      state = sought.1.state;
      is_in = sought.1.is_in;
      at = sought.1.at;
    })

pub returns-clause-tests : goal.returns-clause-tests
returns-clause-tests c = λ m code entries d s fs ks r.
    let own = c.args.setting.now.own in
    let g = c.search-found in
    let old = c.self.inside.list in
    let new = g.new.list in
    let sought = subst (SearchedInbox m own code d fs ks old new g.new.heap g.new.process.machine) c.if-taken.false
    (c.in_ok-taken.ensures.sought m code entries d s fs ks r) in
    rw (← c.self.view_is) (c.counted-self-inside.ensures ∙ ap (risen c.self.inside.tests)
    (rw (c.in_ok-taken.was, c.if-taken.false) at g.ensures.counted) ∙ ap (risen c.self.inside.tests)
    (sym (all_tested m own ks old new g.ensures.items sought.0
    (subst (λ b. IsMarkAfter b new) c.if-taken.false c.in_ok-taken.ensures.there))))

pub returns-then-taken-clause-status : goal.returns-then-taken-clause-status
returns-then-taken-clause-status c =
    c.in_ok-taken.ensures.status ∙ ap (after c.args.process.now.status) c.if-taken.true

pub returns-clause-status : goal.returns-clause-status
returns-clause-status c = c.in_ok-taken.ensures.status ∙ ap (after c.args.process.now.status) c.if-taken.false

pub take_marked-message-requires : goal.take_marked-message-requires
take_marked-message-requires c =
    subst (λ b. IsMarkAfter b c.search-found.new.list) c.if-taken.true c.in_ok-taken.ensures.there

pub returns-clause-mark : goal.returns-clause-mark
returns-clause-mark c =
    subst (λ b. IsMarkAfter b c.search-found.new.list) c.if-taken.false c.in_ok-taken.ensures.there
    ∙ sym (count_values c.search-found.new.list.items)
