use Rattle.std.proofs.Common.{◌∙◌, sym, ap}
use Rattle.std.proofs.lemmas.Option.{slice_get_within}
use Rattle.pf_mailbox.specs.Tests.{risen}
use Rattle.pf_mailbox.proofs.Selecting.{all_tested, nothing, still, takes, tested_to}
use Rattle.pf_mailbox.proofs.mailbox.MailboxInbox.select.Goals as goal

pub returns-in_err-body-clause-still : goal.returns-in_err-body-clause-still
returns-in_err-body-clause-still c =
    let before = rw (← c.self.view_is) at c.requires.ready in let s = c.search-picked in
    still c.args.code.now c.args.own c.args.base c.args.env.now.items c.args.clauses.now c.self.inside.list s.new.list
    s.ensures.items before s.ensures.passed

pub returns-in_default-clause-still : goal.returns-in_default-clause-still
returns-in_default-clause-still c =
    let before = rw (← c.self.view_is) at c.requires.ready in let s = c.search-picked in
    still c.args.code.now c.args.own c.args.base c.args.env.now.items c.args.clauses.now c.self.inside.list s.new.list
    s.ensures.items before s.ensures.passed

pub returns-in_default-clause-selected : goal.returns-in_default-clause-selected
returns-in_default-clause-selected c =
    let before = rw (← c.self.view_is) at c.requires.ready in let s = c.search-picked in
    rw (← c.self.view_is)
    (nothing c.args.code.now c.args.own c.args.base c.args.env.now.items c.args.clauses.now c.self.inside.list
    s.new.list s.ensures.items before s.ensures.passed
    s.new.env.items (rw c.in_default.is at c.in_ok-body.ensures.sought))

pub returns-in_default-clause-tests : goal.returns-in_default-clause-tests
returns-in_default-clause-tests c =
    let before = rw (← c.self.view_is) at c.requires.ready in let s = c.search-picked in
    rw (← c.self.view_is)
    (c.counted-self-inside.ensures ∙ ap (risen c.self.inside.tests)
    (rw (c.in_ok-body.was, c.in_default.is) at s.ensures.counted)
    ∙ ap (risen c.self.inside.tests)
    (sym (all_tested c.args.code.now c.args.own c.args.base c.args.env.now.items c.args.clauses.now c.self.inside.list
    s.new.list s.ensures.items before s.ensures.passed
    s.new.env.items (rw c.in_default.is at c.in_ok-body.ensures.sought))))

pub take_marked-requires : goal.take_marked-requires
take_marked-requires c =
    let s = rw c.in-Some.is at c.in_ok-body.ensures.sought in
    slice_get_within c.search-picked.new.list.items c.search-picked.new.list.mark s.message s.there

pub returns-clause-selected : goal.returns-clause-selected
returns-clause-selected c =
    let before = rw (← c.self.view_is) at c.requires.ready in let s = c.search-picked in let t = c.take_marked in
    rw (← c.self.view_is)
    (takes c.args.code.now c.args.own c.args.base c.args.env.now.items c.args.clauses.now c.self.inside.list s.new.list
    s.ensures.items before s.ensures.passed
    s.new.env.items c.in-Some.body (rw c.in-Some.is at c.in_ok-body.ensures.sought) t.result t.ensures.item
    c.reset_mark.new.self.items
    (ap (λ l. l.items) c.reset_mark.ensures ∙ ap (λ l. l.items) t.ensures.others))

pub returns-clause-tests : goal.returns-clause-tests
returns-clause-tests c =
    let before = rw (← c.self.view_is) at c.requires.ready in let s = c.search-picked in let t = c.take_marked in
    rw (← c.self.view_is)
    (c.counted-self-inside.ensures ∙ ap (risen c.self.inside.tests)
    (rw (c.in_ok-body.was, c.in-Some.is) at s.ensures.counted)
    ∙ ap (risen c.self.inside.tests)
    (sym (tested_to c.args.code.now c.args.own c.args.base c.args.env.now.items c.args.clauses.now c.self.inside.list
    s.new.list s.ensures.items before s.ensures.passed
    s.new.env.items c.in-Some.body (rw c.in-Some.is at c.in_ok-body.ensures.sought) t.result t.ensures.item)))
