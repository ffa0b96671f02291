use Rattle.std.proofs.Common.{rules, ◌≡◌, List, [], ◌∷◌, ◌++◌, sym, ap, ◌∙◌, arith}
use Rattle.std.proofs.lemmas.Grind.{common_steps}
use Rattle.std.proofs.lemmas.List.{append-nil}
use Rattle.pf_heap.specs.declared.word.Word.{Word}
use Rattle.pf_machine.specs.declared.machine.Machine.{Machine}
use Rattle.pf_roots.specs.Moved.{word_in}
use Rattle.pf_roots.specs.Kept.{all_words_of}
use Rattle.pf_roots.proofs.Puts.{grown}
use Rattle.pf_roots.proofs.moving.all_roots.Goals as goal

pub loop-machine-preserved : goal.loop-machine-preserved
loop-machine-preserved c =
    let k = c.in-Some.machine.now in
    let others = c.in-Some.others.now in
    let rs = c.loop-machine.roots.items in
    let split : c.loop-machine.rest.now ≡ k ∷ others = first_of (search rules, grind (arith, common_steps)) in
    ap (λ (xs : List Word). xs ++ all_words_of others) c.in_ok-add_roots.ensures
    ∙ grown rs k.process.machine.stack.words.items (word_in k.process.status) (all_words_of others)
    ∙ ap (λ (ks : List Machine). rs ++ all_words_of ks) (sym split) ∙ c.loop-machine.invariant

pub returns : goal.returns
returns c =
    let rs = c.loop-machine.roots.items in
    let none_left : c.loop-machine.rest.now ≡ [] = first_of (search rules, grind (arith, common_steps)) in
    sym (append-nil rs) ∙ ap (λ (ks : List Machine). rs ++ all_words_of ks) (sym none_left)
    ∙ c.loop-machine.invariant
