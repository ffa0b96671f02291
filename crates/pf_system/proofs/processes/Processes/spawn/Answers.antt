use Rattle.std.proofs.Common.{◌≡◌, ◌<◌, ◌≤◌, refl, ap, subst, arith, length}
use Rattle.std.proofs.lemmas.Result.{IfOk-weaker}
use Rattle.pf_terms.specs.Term.{value_of, elements_of}
use Rattle.pf_model.specs.Actions.{start_of}
use Rattle.pf_system.specs.Acts.{LifeBegins, answer}
use Rattle.pf_system.specs.Processes.{checked_in, module_in}
use Rattle.pf_system.proofs.Acting.{not_atom}
use Rattle.pf_system.proofs.Beginning.{not_list}
use Rattle.pf_system.proofs.Settling.{keeps_slot}
use Rattle.pf_system.proofs.Spawning.{home_refused, function_refused, arguments_refused, limit_refused, spawns_so}
use Rattle.pf_system.proofs.Spawning.{keeps_opened, opens_alike}
use Rattle.pf_system.proofs.processes.Processes.spawn.Goals as goal

pub returns-in_default : goal.returns-in_default
returns-in_default c =
    let x = c.args in
    record {
      acts = home_refused x.pid x.bond x.self.now _ (value_of x.home) (value_of x.function) (value_of x.arguments)
          (not_atom x.home c.in_default.not-Atom) c.raising.ensures;
      keeps = keeps_slot x.pid x.self.now x.self.now refl;
    }

pub returns-in_default-function : goal.returns-in_default-function
returns-in_default-function c =
    let x = c.args in
    record {
      acts = function_refused x.pid x.bond x.self.now _ (value_of x.home) (value_of x.function) (value_of x.arguments)
          c.in-Atom.home.0 (ap value_of c.in-Atom.is) (not_atom x.function c.in_default-function.not-Atom)
          c.raising-in_default-function.ensures;
      keeps = keeps_slot x.pid x.self.now x.self.now refl;
    }

pub returns-in_default-arguments : goal.returns-in_default-arguments
returns-in_default-arguments c =
    let x = c.args in
    record {
      acts = arguments_refused x.pid x.bond x.self.now _ (value_of x.home) (value_of x.function) (value_of x.arguments)
          c.in-Atom.home.0 c.in-Atom-function.name.0 (ap value_of c.in-Atom.is) (ap value_of c.in-Atom-function.is)
          (not_list x.arguments c.in_default-arguments.not-List) c.raising-in_default-arguments.ensures;
      keeps = keeps_slot x.pid x.self.now x.self.now refl;
    }

pub returns-then-len-self-clause-acts : goal.returns-then-len-self-clause-acts
returns-then-len-self-clause-acts c =
    let x = c.args in
    let many : x.self.now.basis.most ≤ length x.self.now.slots.items =
    omega (arith, c.len.ensures, c.if-len-self.true) in
    limit_refused x.pid x.bond x.self.now _ (value_of x.home) (value_of x.function) (value_of x.arguments)
    c.in-Atom.home.0 c.in-Atom-function.name.0 (elements_of c.in-List.arguments) (ap value_of c.in-Atom.is)
    (ap value_of c.in-Atom-function.is)
    (ap value_of c.in-List.is) many c.raising-then-len-self.ensures

pub open_by-requires-clause-room : goal.open_by-requires-clause-room
open_by-requires-clause-room c =
    let w = c.args.self.now in
    omega (arith, c.len.ensures, c.if-len-self.false, c.requires.within)

pub returns-clause-acts : goal.returns-clause-acts
returns-clause-acts c =
    let x = c.args in
    let w = x.self.now in
    let vs = elements_of c.in-List.arguments in
    let life = c.in_ok-life.life in
    let n : c.len-new.result ≡ length w.slots.items = omega (arith, c.len-new.ensures) in
    let few : length w.slots.items < w.basis.most = omega (arith, c.len.ensures, c.if-len-self.false) in
    let begins = subst (λ k. LifeBegins (checked_in w) k
    (start_of (module_in w) c.in-Atom.home.0 c.in-Atom-function.name.0 vs) life) n c.in_ok-life.ensures in
    IfOk-weaker c.open_by.result _ _
    (λ v h. spawns_so x.pid x.bond w (answer v c.open_by.new.shown) (value_of x.home) (value_of x.function)
    (value_of x.arguments) c.in-Atom.home.0 c.in-Atom-function.name.0 vs
    (ap value_of c.in-Atom.is) (ap value_of c.in-Atom-function.is) (ap value_of c.in-List.is) c.open_by.new.self
    life few begins
    (opens_alike x.bond x.pid w c.open_by.new.self c.begun.new.spare life (answer v c.open_by.new.shown) h))
    c.open_by.ensures

pub returns-clause-keeps : goal.returns-clause-keeps
returns-clause-keeps c =
    let x = c.args in
    IfOk-weaker c.open_by.result _ _ (λ v h. let r = answer v c.open_by.new.shown in
    keeps_opened x.pid x.bond x.self.now c.open_by.new.self c.in_ok-life.life r c.requires.there
    (opens_alike x.bond x.pid x.self.now c.open_by.new.self c.begun.new.spare c.in_ok-life.life r h)) c.open_by.ensures
