use Rattle.std.proofs.Common.{rules, arith, ◌≡◌, ◌≤◌, ◌-◌, ℕ, List, [], ◌∷◌, ◌++◌, Option, Some, None, sym, subst, ap}
use Rattle.std.proofs.Common.{◌∙◌}
use Rattle.std.specs.Prelude.{slice_index, slice_set, IsSome}
use Rattle.pf_check.specs.Module.{ReadModule}
use Rattle.pf_desks.specs.Desk as desk
use Rattle.pf_desks.specs.Desk.{Trial, held_at, with_held}
use Rattle.pf_desks.specs.Calls.{users_of}
use Rattle.pf_book.specs.Plans.{CanChange}
use Rattle.pf_book.specs.Users.{holding, CountUsers}
use Rattle.pf_book.proofs.Counted.{module_more, module_less, trial_more, trial_less, trial_gap, counted_user}
use Rattle.pf_book.proofs.Counted.{counted_fits}
use Rattle.pf_book.proofs.change.carry_out.Goals as goal

pub one_more-requires-clause-fits : goal.one_more-requires-clause-fits
one_more-requires-clause-fits c =
    let v = c.args.trials.now in
    let ms = c.args.modules.now.items in
    let can : IsSome (held_at ms c.in-Trial.number) = subst (CanChange (holding c.args.edition.now ms v.items))
    c.in-Trial.is c.requires.can in
    let fits = counted_fits c.args.users.now.items ms v.items c.in-Trial.number can c.requires.counts in
    omega (arith, fits, v.ok.0, v.ok.1, v.small)

pub one_less-requires-clause-from : goal.one_less-requires-clause-from
one_less-requires-clause-from c =
    let t = c.in-Some.trial in
    let held : held_at c.args.trials.now.items c.in-DropTrial.ticket ≡ Some t = search rules in
    let user = counted_user c.args.users.now.items c.args.modules.now.items c.args.trials.now.items
    c.in-DropTrial.ticket t held c.requires.counts in
    omega (arith, user.0, c.module_number.ensures)

pub one_less-requires-clause-to : goal.one_less-requires-clause-to
one_less-requires-clause-to c =
    let t = c.in-Some.trial in
    let held : held_at c.args.trials.now.items c.in-DropTrial.ticket ≡ Some t = search rules in
    let user = counted_user c.args.users.now.items c.args.modules.now.items c.args.trials.now.items
    c.in-DropTrial.ticket t held c.requires.counts in
    omega (arith, user.1, c.module_number.ensures)

pub one_less-requires-clause-used : goal.one_less-requires-clause-used
one_less-requires-clause-used c =
    let t = c.in-Some.trial in
    let us = c.args.users.now.items in
    let held : held_at c.args.trials.now.items c.in-DropTrial.ticket ≡ Some t = search rules in
    let user = counted_user us c.args.modules.now.items c.args.trials.now.items c.in-DropTrial.ticket t held
    c.requires.counts in
    subst (λ (n : ℕ). 1 ≤ slice_index us (n - 1)) (sym c.module_number.ensures) user.2

pub returns-in-Module-clause-counts : goal.returns-in-Module-clause-counts
returns-in-Module-clause-counts c =
    let us = c.args.users.now.items in
    let ms = c.args.modules.now.items in
    let ts = c.args.trials.now.items in
    let s = c.in-Module.module in
    let made = module_more us ms ts s c.requires.counts in
    let one : CountUsers c.push_reserved-in-Module.new.self.items (ms ++ Some s ∷ []) ts =
    subst (λ (l : List ℕ). CountUsers l (ms ++ Some s ∷ []) ts) (sym c.push_reserved-in-Module.ensures.items) made in
    subst (λ (l : List (Option ReadModule)). CountUsers c.push_reserved-in-Module.new.self.items l ts)
    (sym c.push_reserved.ensures.items) one

pub returns-in-Trial-clause-counts : goal.returns-in-Trial-clause-counts
returns-in-Trial-clause-counts c =
    let us = c.args.users.now.items in
    let ms = c.args.modules.now.items in
    let ts = c.args.trials.now.items in
    let t : Trial = record { module_number = c.in-Trial.number; job = c.in-Trial.job.value; state = desk.queued } in
    let can : IsSome (held_at ms c.in-Trial.number) = subst (CanChange (holding c.args.edition.now ms ts)) c.in-Trial.is
    c.requires.can in
    let made = trial_more us ms ts t can c.requires.counts in
    let pushed : c.push_reserved-in-Trial.new.self.items ≡ ts ++ Some t ∷ [] = search rules in
    let one : CountUsers c.one_more.new.users.items ms (ts ++ Some t ∷ []) =
    subst (λ (l : List ℕ). CountUsers l ms (ts ++ Some t ∷ [])) (sym c.one_more.ensures) made in
    subst (λ (l : List (Option Trial)). CountUsers c.one_more.new.users.items ms l) (sym pushed) one

pub returns-in-Some-clause-counts : goal.returns-in-Some-clause-counts
returns-in-Some-clause-counts c =
    let us = c.args.users.now.items in
    let ms = c.args.modules.now.items in
    let ts = c.args.trials.now.items in
    let ticket = c.in-DropTrial.ticket in
    let t = c.in-Some.trial in
    let held : held_at ts ticket ≡ Some t = search rules in
    let made = trial_less us ms ts ticket t held c.requires.counts in
    let less : c.one_less.new.users.items ≡ slice_set us (t.module_number - 1)
    (slice_index us (t.module_number - 1) - 1) =
    c.one_less.ensures ∙ ap (λ (n : ℕ). slice_set us (n - 1) (slice_index us (n - 1) - 1)) c.module_number.ensures in
    let one : CountUsers c.one_less.new.users.items ms (with_held ts ticket None) =
    subst (λ (l : List ℕ). CountUsers l ms (with_held ts ticket None)) (sym less) made in
    subst (λ (l : List (Option Trial)). CountUsers c.one_less.new.users.items ms l) (sym c.give_up.ensures.items) one

pub returns-in_default-clause-counts : goal.returns-in_default-clause-counts
returns-in_default-clause-counts c =
    let us = c.args.users.now.items in
    let ms = c.args.modules.now.items in
    let ts = c.args.trials.now.items in
    let ticket = c.in-DropTrial.ticket in
    let none : held_at ts ticket ≡ None = search rules in
    subst (λ (l : List (Option Trial)). CountUsers us ms l) (sym c.give_up.ensures.items)
    (trial_gap us ms ts ticket none c.requires.counts)

pub returns-in-Withdraw-clause-counts : goal.returns-in-Withdraw-clause-counts
returns-in-Withdraw-clause-counts c =
    let us = c.args.users.now.items in
    let ms = c.args.modules.now.items in
    let ts = c.args.trials.now.items in
    let n = c.in-Withdraw.number in
    let can : users_of (holding c.args.edition.now ms ts) n ≡ 0 =
    subst (CanChange (holding c.args.edition.now ms ts)) c.in-Withdraw.is c.requires.can in
    subst (λ (l : List (Option ReadModule)). CountUsers us l ts) (sym c.give_up-in-Withdraw.ensures.items)
    (module_less us ms ts n can c.requires.counts)
