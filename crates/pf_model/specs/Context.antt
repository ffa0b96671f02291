-- The leftmost innermost redex of a tree, its context, and what a process does next by it. A frame is a tree with a
-- hole and only values left of it.
use Rattle.std.specs.Prelude.{◌≡◌, ℕ, List, [], ◌∷◌, Some}
use Rattle.pf_terms.specs.Value.{Value, Values, none, more}
use Rattle.pf_syntax.specs.Pattern.{Patterns}
use Rattle.pf_syntax.specs.Tree.{Tree, Trees, Clauses, lit, tuple, cons, op, neg, and_also, or_else, call, builtin}
use Rattle.pf_syntax.specs.Tree.{match, bind, case, send, no_trees, tree}
use Rattle.pf_syntax.specs.declared.operator.Builtin.{Builtin}
use Rattle.pf_syntax.specs.declared.operator.Operator.{Operator}
use Rattle.pf_ops.specs.Reasons.{ending_reason}
use Rattle.pf_model.specs.Module.{Module}
use Rattle.pf_model.specs.Contraction.{Act, Change, Becomes, Raises, Exits, Asks, Awaits, contract}

pub data Frame : Type 0 where
  -- an element, with those that are done and those after it
  element_of : Values → Trees → Frame
  -- the first element of a list, before its tail
  first_of : Tree → Frame
  tail_of : Value → Frame
  left_of : Operator → Tree → Frame
  right_of : Operator → Value → Frame
  negation : Frame
  and_also_of : Tree → Frame
  or_else_of : Tree → Frame
  -- an argument, with those that are done and those after it
  argument_of : ℕ → Values → Trees → Frame
  builtin_argument_of : Builtin → Values → Trees → Frame
  match_of : Patterns → Frame
  bind_of : Patterns → Tree → Frame
  case_of : Clauses → Frame
  -- the left and the right side of `!`
  receiver_of : Tree → Frame
  message_of : Value → Frame

abbrev pub after_values : Values → Trees → Trees
after_values none ts = ts
after_values (more v vs) ts = tree (lit v) (after_values vs ts)

-- values as trees
abbrev pub literals : Values → Trees
literals vs = after_values vs no_trees

-- the tree of a frame with this in its hole
abbrev pub around : Frame → Tree → Tree
around (element_of vs ts) t = tuple (after_values vs (tree t ts))
around (first_of a) t = cons t a
around (tail_of v) t = cons (lit v) t
around (left_of o a) t = op o t a
around (right_of o v) t = op o (lit v) t
around negation t = neg t
around (and_also_of a) t = and_also t a
around (or_else_of a) t = or_else t a
around (argument_of f vs ts) t = call f (after_values vs (tree t ts))
around (builtin_argument_of f vs ts) t = builtin f (after_values vs (tree t ts))
around (match_of ps) t = match ps t
around (bind_of ps rest) t = bind ps t rest
around (case_of ks) t = case t ks
around (receiver_of a) t = send t a
around (message_of v) t = send (lit v) t

-- the tree of frames in one another, the outermost first
abbrev pub fill : List Frame → Tree → Tree
fill [] t = t
fill (f ∷ fs) t = around f (fill fs t)

-- the redex r is in t within these frames, and does this
pub record IsRedexIn (m : Module) (own : ℕ) (t : Tree) (fs : List Frame) (r : Tree) (c : Change) : Type 0 where
  pub filled : fill fs r ≡ t
  pub redex : contract m own r ≡ Some c

-- how a process ended: its first call returned a value, or it ended with a reason
pub data End : Type 0 where
  returned : Value → End
  failed : Value → End

-- a process runs a tree, waits in a tree for a message, is about to end with a reason, or has ended
pub data ProcessState : Type 0 where
  running : Tree → ProcessState
  waiting : Tree → ProcessState
  ending : Value → ProcessState
  ended : End → ProcessState

-- what a process does next: it goes on by itself, asks for an action or for a message in these frames, or has its value
pub data Move : Type 0 where
  goes_on : ProcessState → Move
  asks : List Frame → Act → Move
  awaits : List Frame → Clauses → Move
  returns : Value → Move

-- a raise makes the whole tree about to end with `{E, []}`, and an exit with its value
abbrev pub moved : List Frame → Change → Move
moved fs (Becomes r) = goes_on (running (fill fs r))
moved fs (Raises e) = goes_on (ending (ending_reason e))
moved fs (Exits v) = goes_on (ending v)
moved fs (Asks a) = asks fs a
moved fs (Awaits ks) = awaits fs ks

-- what the tree of a process does next
pub data Moves (m : Module) (own : ℕ) (t : Tree) (d : Move) : Type 0 where
  at_value : (v : Value) → t ≡ lit v → d ≡ returns v → Moves m own t d
  at_index : (fs : List Frame) (r : Tree) (c : Change) → IsRedexIn m own t fs r c → d ≡ moved fs c → Moves m own t d
