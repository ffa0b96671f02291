use Rattle.std.proofs.Common.{refl, arith}
use Rattle.std.specs.Prelude.{Ok}
use Rattle.pf_terms.specs.declared.term.Term.TheVariants as term
use Rattle.pf_stepper.proofs.Contractions.{ok_then}
use Rattle.pf_stepper.proofs.Values.{own_comes, comes_out}
use Rattle.pf_stepper.proofs.stack.Stack.give_own.Goals as goal

pub returns : goal.returns
returns c =
    let m = c.args.code.now in
    let a = c.args.self.now in
    ok_then c.come_to.result
    (λ o h. comes_out m c.args.own c.args.left _ c.args.used.now a (Ok (term.Pid c.args.own)) _ o _ _
    (own_comes m c.args.own c.args.left a.env.items a.operands.items a.base a.frames.items c.args.count
    c.requires.stacked c.args.used.now a refl refl refl (omega (arith, c.if-count-ne0.false)) c.requires.within) h)
    c.come_to.ensures
