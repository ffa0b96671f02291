use Rattle.std.proofs.Common.{rules, ◌≡◌, length, sym, ap, ◌∙◌, subst}
use Rattle.pf_terms.specs.Term.{values_of}
use Rattle.pf_heap.specs.Heap.{word_values}
use Rattle.pf_syntax.specs.Tree.{call}
use Rattle.pf_model.specs.Context.{goes_on, literals, running}
use Rattle.pf_loop.specs.View.{AreWords}
use Rattle.pf_turns.specs.Turns.{Represents}
use Rattle.pf_machine.proofs.Inboxes.{all_words, goes_with, same_count}
use Rattle.pf_machine.proofs.machine.Machine.new.Goals as goal

pub returns-clause-over : goal.returns-clause-over
returns-clause-over c =
    let g = c.lowered.new.heap in
    let ws = c.in_ok-words.words.items in
    let same : c.deref.result.now ≡ ws = search rules in (
      c.in_ok-process.ensures.words g (subst (AreWords g) (sym same) (all_words g ws c.in_ok-words.ensures.words)),
      c.in_ok-process.ensures.status g,
    )

pub returns-clause-begins : goal.returns-clause-begins
returns-clause-begins c = λ m own code f b every there arity mark.
    let g = c.lowered.new.heap in
    let k = c.in_ok-process.process in
    let i = c.args.function.0 in
    let terms = c.args.arguments.now in
    let ws = c.in_ok-words.words.items in
    let same : c.deref.result.now ≡ ws = search rules in
    let made = ap (word_values g) same ∙ c.in_ok-words.ensures.made in
    let counted = arity ∙ sym (ap length same ∙ same_count g ws terms c.in_ok-words.ensures.made) in
    let represents = c.in_ok-process.ensures.begins m own code c.args.setting.now.entries.now g i f every there counted
    (sym c.entry-pc.ensures) in
    goes_with m own code g k.machine b (running (call i (literals (values_of terms)))) k.status
    (subst (λ xs. Represents m own code g k.machine k.status (goes_on (running (call i (literals xs))))) made
    represents) mark
