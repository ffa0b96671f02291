use Rattle.std.proofs.Common.{◌≡◌, ◌-◌, ◌≤◌, length, take, drop, sym, ap, ◌∙◌, subst, arith}
use Rattle.std.specs.List.{All}
use Rattle.std.proofs.lemmas.List.{length-drop, take_all}
use Rattle.std.proofs.lemmas.List.Elements.{All-take, All-drop}
use Rattle.pf_heap.specs.Heap.{word_values, IsWordOf}
use Rattle.pf_roots.specs.Kept.{all_words_of}
use Rattle.pf_roots.specs.Puts.{ArePut}
use Rattle.pf_roots.proofs.Puts.{parted_at, puts_kept}
use Rattle.pf_roots.proofs.moving.move_all.Goals as goal

pub returns-clause-constants : goal.returns-clause-constants
returns-clause-constants c = λ h g e a.
    let n = c.len-count.result in
    let ws = c.args.words.now in
    let cs = c.args.constants.now.items in
    let ks = c.args.machines.now in
    let count : n ≡ length cs = omega (arith, c.len-count.ensures, c.args.constants.now.ok.0) in
    let few : n ≤ length ws = omega (arith, count, c.requires) in
    let p = parted_at h g ws cs (all_words_of ks) n count few e in
    let items : c.copy_from_slice.new.self.items ≡ take n ws = c.copy_from_slice.ensures.items in
    record {
      words = subst (All (IsWordOf g)) (sym items) (All-take (IsWordOf g) n ws a);
      values = ap (word_values g) items ∙ p.front;
    }

pub returns-clause-machines : goal.returns-clause-machines
returns-clause-machines c = λ h g e a.
    let n = c.len-count.result in
    let ws = c.args.words.now in
    let cs = c.args.constants.now.items in
    let ks = c.args.machines.now in
    let count : n ≡ length cs = omega (arith, c.len-count.ensures, c.args.constants.now.ok.0) in
    let few : n ≤ length ws = omega (arith, count, c.requires) in
    let p = parted_at h g ws cs (all_words_of ks) n count few e in
    let js = c.move_machines.new.machines in
    let rest : take (length ws - n) (drop n ws) ≡ drop n ws = take_all (length ws - n) (drop n ws)
    (omega (arith, length-drop n ws)) in
    puts_kept h g ks (drop n ws) js (subst (λ xs. ArePut ks xs js) rest c.move_machines.ensures) p.back
    (All-drop (IsWordOf g) n ws a)
