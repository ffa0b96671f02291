use Rattle.std.proofs.Common.{◌≡◌, ◌≤◌, ℕ, length, sym, subst}
use Rattle.std.specs.List.{All}
use Rattle.pf_heap.specs.Marks.{reach, with_marks, IsMarkedMore}
use Rattle.pf_heap.specs.declared.word.Word.{Word}
use Rattle.pf_heap.proofs.Marks.{all_below_reach, all_still_marked, marks_here}
use Rattle.pf_heap.proofs.heap.Heap.mark_from.Goals as goal

pub returns-clause-marked : goal.returns-clause-marked
returns-clause-marked c =
    let h = c.args.self.now in
    let ms = c.args.marks.now in
    let ws = c.args.words.now in
    let near : All (λ (w : Word). reach w ≤ length ms) ws = subst (λ (n : ℕ). All (λ (w : Word). reach w ≤ n) ws)
    (sym c.requires.count) (all_below_reach h (length h) ws c.requires.words) in
    let more : IsMarkedMore (with_marks ms ws) c.mark_reached.new.marks =
    subst (λ ns. IsMarkedMore ns c.mark_reached.new.marks) c.mark_all.ensures c.mark_reached.ensures.more in
    all_still_marked (with_marks ms ws) c.mark_reached.new.marks ws more (marks_here ms ws near)
