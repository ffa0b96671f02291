use Rattle.std.proofs.Common.{◌≡◌, true, false, arith, refl, sym, ap, ◌∙◌}
use Rattle.std.specs.Prelude.{nat_lt}
use Rattle.std.proofs.lemmas.Bool.Decides.{nat_tests}
use Rattle.pf_desks.specs.Calls.{is_edition}
use Rattle.pf_book.specs.Plans.{with_change}
use Rattle.pf_book.specs.View.{view_of_reply, view_of_entry}
use Rattle.pf_book.specs.declared.plan.Plan.{Plan}
use Rattle.pf_book.proofs.Planned.{no_such_edition, edition_below, edition_planned, edition_there}
use Rattle.pf_book.proofs.desk.Desk.moving.Goals as goal

pub returns-then-not-is_edition-clause-plan : goal.returns-then-not-is_edition-clause-plan
returns-then-not-is_edition-clause-plan c =
    let d = c.args.self.now in
    let there : is_edition c.args.edition ≡ false = sym c.is_edition.ensures ∙ c.if-not-is_edition.true in
    let is = c.move_refused.ensures in
    no_such_edition d c.args.usage c.requires.charged c.move_refused.result c.args.edition there
    (ap (λ (p : Plan). with_change d p.change) is) (ap (λ (p : Plan). view_of_reply p.reply) is)
    (ap (λ (p : Plan). p.usage) is) (ap (λ (p : Plan). view_of_entry p.noted) is)

pub returns-then-edition-own-clause-plan : goal.returns-then-edition-own-clause-plan
returns-then-edition-own-clause-plan c =
    let d = c.args.self.now in
    let there : is_edition c.args.edition ≡ true = sym c.is_edition.ensures ∙ c.if-not-is_edition.false in
    let below : nat_lt c.args.edition d.edition ≡ true =
    grind (arith, nat_tests, c.if-edition-own.true, c.edition-own.ensures.edition) in
    let is = c.move_refused-then-edition-own.ensures in
    edition_below d c.args.usage c.requires.charged c.move_refused-then-edition-own.result c.args.edition there below
    (ap (λ (p : Plan). with_change d p.change) is) (ap (λ (p : Plan). view_of_reply p.reply) is)
    (ap (λ (p : Plan). p.usage) is) (ap (λ (p : Plan). view_of_entry p.noted) is)

pub returns-clause-plan : goal.returns-clause-plan
returns-clause-plan c =
    let d = c.args.self.now in
    let there : is_edition c.args.edition ≡ true = sym c.is_edition.ensures ∙ c.if-not-is_edition.false in
    let above : nat_lt c.args.edition d.edition ≡ false =
    grind (arith, nat_tests, c.if-edition-own.false, c.edition-own.ensures.edition) in
    edition_planned d c.args.usage c.requires.charged _ c.args.edition there above refl refl refl refl

pub returns-clause-can : goal.returns-clause-can
returns-clause-can c = edition_there c.args.edition (sym c.is_edition.ensures ∙ c.if-not-is_edition.false)
