use Rattle.std.proofs.Common.{◌≡◌, ◌+◌, ◌-◌, ◌*◌, map}
use Rattle.pf_terms.specs.Term.{value_of}
use Rattle.pf_terms.specs.declared.limits.TheConstants.{MOST_NODES}
use Rattle.pf_termtext.specs.Reading.{items_at, value_at}
use Rattle.pf_termtext.proofs.Items.{with_items}
use Rattle.pf_termtext.proofs.reading.+reads.Given as goal

abbrev pub decreases-read_value : goal.decreases-read_value
decreases-read_value l = 4 * l.room

abbrev pub decreases-read_items : goal.decreases-read_items
decreases-read_items l = 4 * l.room + 1

abbrev pub decreases-read_elements : goal.decreases-read_elements
decreases-read_elements l = 4 * l.room + 2

abbrev pub decreases-read_tuple : goal.decreases-read_tuple
decreases-read_tuple l = 4 * l.room + 3

abbrev pub decreases-read_list : goal.decreases-read_list
decreases-read_list l = 4 * l.room + 3

-- the elements so far and those that are read after them are all
abbrev pub invariant-read_items-loop : goal.invariant-read_items-loop
invariant-read_items-loop l =
    items_at (value_at l.fn.atoms l.fn.room) MOST_NODES l.fn.text
    ≡ with_items (map value_of l.items.items) (items_at (value_at l.fn.atoms l.fn.room) (MOST_NODES - l.counter) l.rest)
