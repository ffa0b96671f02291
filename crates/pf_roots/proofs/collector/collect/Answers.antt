use Rattle.std.proofs.Common.{◌≡◌, ◌++◌, length, sym, ap, ◌∙◌, subst}
use Rattle.std.specs.List.{All}
use Rattle.std.proofs.lemmas.List.{length-append}
use Rattle.std.proofs.lemmas.List.Elements.{All-append}
use Rattle.pf_heap.specs.Heap.{word_values, IsWordOf}
use Rattle.pf_roots.specs.Kept.{all_words_of, AreKept}
use Rattle.pf_roots.proofs.Puts.{same_length}
use Rattle.pf_roots.proofs.Whole.{all_over, kept_same, over_kept}
use Rattle.pf_roots.proofs.collector.collect.Goals as goal

pub returns-in_err-roots-clause-machines : goal.returns-in_err-roots-clause-machines
returns-in_err-roots-clause-machines c = kept_same c.args.heap.now c.args.machines.now c.requires.machines

pub collect-requires : goal.collect-requires
collect-requires c =
    let h = c.args.heap.now in
    let cs = c.args.constants.now.items in
    let us = all_words_of c.args.machines.now in
    let same : c.deref-2.result.now ≡ cs ++ us = c.deref-2.ensures.value ∙ c.in_ok-roots.ensures
    ∙ ap (λ xs. xs ++ us) c.deref.ensures.value in
    subst (All (IsWordOf h)) (sym same)
    (All-append (IsWordOf h) cs us c.requires.constants (all_over h c.args.machines.now c.requires.machines))

pub returns-in_err-moved-clause-machines : goal.returns-in_err-moved-clause-machines
returns-in_err-moved-clause-machines c =
    let h = c.args.heap.now in
    let ks = c.args.machines.now in
    subst (λ g. AreKept h ks g ks) (sym c.in_err-moved.ensures.err) (kept_same h ks c.requires.machines)

pub move_all-requires : goal.move_all-requires
move_all-requires c =
    let h = c.args.heap.now in
    let g = c.collect.new.self in
    let cs = c.args.constants.now.items in
    let us = all_words_of c.args.machines.now in
    let same : c.deref-2.result.now ≡ cs ++ us = c.deref-2.ensures.value ∙ c.in_ok-roots.ensures
    ∙ ap (λ xs. xs ++ us) c.deref.ensures.value in
    ap length c.deref-3.ensures.value
    ∙ same_length h g c.in_ok-moved.moved.items c.deref-2.result.now c.in_ok-moved.ensures.values
    ∙ ap length same ∙ length-append cs us

pub returns-clause-constants : goal.returns-clause-constants
returns-clause-constants c =
    let h = c.args.heap.now in
    let g = c.collect.new.self in
    let cs = c.args.constants.now.items in
    let us = all_words_of c.args.machines.now in
    let same : c.deref-2.result.now ≡ cs ++ us = c.deref-2.ensures.value ∙ c.in_ok-roots.ensures
    ∙ ap (λ xs. xs ++ us) c.deref.ensures.value in
    c.move_all.ensures.constants h g
    (ap (word_values g) c.deref-3.ensures.value ∙ c.in_ok-moved.ensures.values ∙ ap (word_values h) same)
    (subst (All (IsWordOf g)) (sym c.deref-3.ensures.value) c.in_ok-moved.ensures.words)

pub returns-clause-over : goal.returns-clause-over
returns-clause-over c =
    let h = c.args.heap.now in
    let g = c.collect.new.self in
    let cs = c.args.constants.now.items in
    let us = all_words_of c.args.machines.now in
    let same : c.deref-2.result.now ≡ cs ++ us = c.deref-2.ensures.value ∙ c.in_ok-roots.ensures
    ∙ ap (λ xs. xs ++ us) c.deref.ensures.value in
    over_kept h g c.args.machines.now c.move_all.new.machines (c.move_all.ensures.machines h g
    (ap (word_values g) c.deref-3.ensures.value ∙ c.in_ok-moved.ensures.values ∙ ap (word_values h) same)
    (subst (All (IsWordOf g)) (sym c.deref-3.ensures.value) c.in_ok-moved.ensures.words))
