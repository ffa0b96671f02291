use Rattle.std.proofs.Common.{sym, subst}
use Rattle.pf_loop.specs.View.{AreWords}
use Rattle.pf_loop.proofs.Words.{keep_none}
use Rattle.pf_turns.proofs.process.Process.step.Goals as goal

pub returns-in_default : goal.returns-in_default
returns-in_default c =
    let h = c.args.heap.now in
    record {
      words = subst (λ k. AreWords h k.stack.words.items) (sym c.charge.ensures.machine) c.requires.words;
      keeps = keep_none h;
      no_more = c.charge.ensures.no_more;
      status = c.charge.ensures.status h c.requires.status;
      stop = c.charge.ensures.stop h c.requires.status;
      stepped = λ m code entries p run every a. c.charge.ensures.charged m c.args.setting.now.own code p h a;
    }
