use Rattle.std.proofs.Common.{sym, ap, ◌∙◌, refl, Ok}
use Rattle.pf_terms.specs.Term.{value_of}
use Rattle.pf_system.proofs.Acting.{sets_so, setting_refused, flag_refused}
use Rattle.pf_system.proofs.shared.Shared.set_flag.Goals as goal

pub returns-in_default : goal.returns-in_default
returns-in_default c =
    let b = c.args.self.now in
    setting_refused c.args.pid b b _ (value_of c.args.flag) (value_of c.args.setting)
    (sym c.truth_of.ensures ∙ c.in_default.is)
    c.raising.ensures refl

pub returns-then-not-equal : goal.returns-then-not-equal
returns-then-not-equal c =
    let b = c.args.self.now in
    flag_refused c.args.pid b b _ (value_of c.args.flag) (value_of c.args.setting) c.in-Some.traps
    (sym c.truth_of.ensures ∙ c.in-Some.is) (sym c.equal.ensures ∙ c.if-not-equal.true)
    c.raising-then-not-equal.ensures refl

pub returns : goal.returns
returns c =
    let b = c.args.self.now in
    let h = c.set_flag-was.ensures in
    sets_so c.args.pid b (record { ties = c.set_flag-was.new.self; channels = b.channels }) _ (value_of c.args.flag)
    (value_of c.args.setting) c.in-Some.traps
    c.set_flag-was.result (sym c.truth_of.ensures ∙ c.in-Some.is) (sym c.equal.ensures ∙ c.if-not-equal.false) h.was
    h.set refl (ap Ok c.truth.ensures) refl
