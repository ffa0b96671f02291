-- What is kept of the events of a run, one event after another.
use Rattle.std.proofs.Common.{◌≡◌, ◌+◌, ◌-◌, ◌<◌, ◌≤◌, ◌∷◌, ◌++◌, ℕ, Bool, true, false, List, [], cond, length, min}
use Rattle.std.proofs.Common.{sym, ap, ◌∙◌, arith}
use Rattle.std.specs.Prelude.{count_by}
use Rattle.std.proofs.lemmas.List.{length-map, map-append}
use Rattle.std.proofs.lemmas.List.Sums.{count_by-le-length, sum_by_push}
use Rattle.pf_model.specs.Labels.{Label}
use Rattle.pf_model.specs.Meaning.{Event}
use Rattle.pf_property.specs.Views.{labels_in}
use Rattle.pf_request.specs.Job.{Job}
use Rattle.pf_sched.specs.Asked.{IsValid}
use Rattle.pf_sched.specs.Evidence.{CountsProcesses, most}
use Rattle.pf_sched.specs.Waiting.{is_begin, is_end, living}
use Rattle.pf_sched.specs.declared.evidence.ProcessCounts.{ProcessCounts}
use Rattle.pf_sched.proofs.Asking.{within_bounds}

-- a count with its bound, and one more with the same bound
bounded : (n k m d : ℕ) → n ≡ min k most → m ≡ min (n + d) most → d ≤ 1 → m ≡ min (k + d) most
bounded n k m d so_far more one = omega arith

at_most_one : (b : Bool) → cond b 1 0 ≤ 1
at_most_one true = omega arith
at_most_one false = omega arith

-- one label more
counts_on : (so : Label → Bool) (ls : List Label) (l : Label) (n m : ℕ) → n ≡ min (count_by so ls) most
    → m ≡ min (n + cond (so l) 1 0) most
    → m ≡ min (count_by so (ls ++ l ∷ [])) most
counts_on so ls l n m so_far more =
    bounded n (count_by so ls) m (cond (so l) 1 0) so_far more (at_most_one (so l))
    ∙ ap (λ k. min k most) (sym (sum_by_push (λ x. cond (so x) 1 0) ls l))

pub counts_more : (n m : ProcessCounts) (ls : List Label) (l : Label) → CountsProcesses n ls
    → m.begun ≡ min (n.begun + cond (is_begin l) 1 0) most
    → m.ended ≡ min (n.ended + cond (is_end l) 1 0) most → CountsProcesses m (ls ++ l ∷ [])
counts_more n m ls l so_far begun ended =
    (counts_on is_begin ls l n.begun m.begun so_far.0 begun, counts_on is_end ls l n.ended m.ended so_far.1 ended)

-- the labels of one event more
pub labels_more : (es : List Event) (e : Event) (l : Label) → e.label ≡ l
    → labels_in (es ++ e ∷ []) ≡ labels_in es ++ l ∷ []
labels_more es e l same = map-append (λ (x : Event). x.label) es (e ∷ []) ∙ ap (λ k. labels_in es ++ k ∷ []) same

-- few labels are counted as they are
pub all_counted : (n : ProcessCounts) (ls : List Label) (k : ℕ) → CountsProcesses n ls → length ls < most
    → k ≡ min (n.begun + 1) most - n.ended → k ≡ living ls
all_counted n ls k counts few is =
    let begun = count_by-le-length is_begin ls in
    let ended = count_by-le-length is_end ls in
    let b = counts.0 in
    let e = counts.1 in
    omega arith

-- a run has few
pub few_labels : (j : Job) → IsValid j → (es : List Event) → length es ≤ j.asked.limit → length (labels_in es) < most
few_labels j valid es within =
    let bounds = within_bounds j valid in
    let count = length-map es (λ (e : Event). e.label) in
    omega arith
