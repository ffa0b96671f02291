use Rattle.std.proofs.Common.{◌≡◌, ◌+◌, sym, ap, ◌∙◌, subst, refl}
use Rattle.std.proofs.lemmas.Result.{IfOk-weaker}
use Rattle.std.specs.List.{All}
use Rattle.pf_heap.specs.Heap.{IsWordOf, word_values}
use Rattle.pf_model.specs.Contraction.{called}
use Rattle.pf_code.specs.Machine.{State}
use Rattle.pf_code.specs.Registers.{row as row_of}
use Rattle.pf_loop.specs.Run.{IsIn}
use Rattle.pf_loop.specs.declared.machine.Machine.{Machine}
use Rattle.pf_loop.proofs.Words.{keep_none, row_words, words_same}
use Rattle.pf_actions.specs.Acts.{change_over}
use Rattle.pf_turns.proofs.Settled.{row_values, still}
use Rattle.pf_turns.proofs.process.asked_of.Goals as goal

pub returns-in_err-reach-clause-stays : goal.returns-in_err-reach-clause-stays
returns-in_err-reach-clause-stays c = λ s at.
    let old = c.args.machine.now in
    let new : Machine = record old { stack = c.reach.new.self } in
    let h = c.args.heap.now in
    still h h old new s (keep_none h) c.requires.words c.reach.ensures.same c.reach.ensures.base refl refl at

pub asked-requires : goal.asked-requires
asked-requires c =
    let old = c.args.machine.now in
    let h = c.args.heap.now in
    let vs = c.reach.new.self.words.items in
    subst (All (IsWordOf h)) (sym c.row-words.ensures)
    (row_words h vs (c.reach.new.self.base + c.args.row.0) c.args.row.1
    (words_same h old.stack.words.items vs c.reach.ensures.same c.requires.words))

pub returns-clause-stays : goal.returns-clause-stays
returns-clause-stays c = λ s at.
    let old = c.args.machine.now in
    let new : Machine = record old { stack = c.reach.new.self } in
    still c.args.heap.now c.asked.new.heap old new s c.asked.ensures.keeps c.requires.words c.reach.ensures.same
    c.reach.ensures.base refl refl at

pub returns-clause-made : goal.returns-clause-made
returns-clause-made c =
    let old = c.args.machine.now in
    let new : Machine = record old { stack = c.reach.new.self } in
    let h = c.args.heap.now in
    let g = c.asked.new.heap in
    let own = c.args.setting.now.own in
    let f = c.args.builtin in
    IfOk-weaker c.asked.result (λ a. change_over g a ≡ called own f (word_values h c.row-words.result.now))
    (λ a. (s : State) → IsIn h old s → change_over g a ≡ called own f (row_of s.registers c.args.row.0 c.args.row.1))
    (λ a e s at. e ∙ ap (called own f) (row_values h old new s c.args.row.0 c.args.row.1 c.row-words.result.now
    c.reach.ensures.same c.reach.ensures.base c.row-words.ensures at)) c.asked.ensures.made
