-- Where a process is in the code of its module.
use Rattle.std.specs.Prelude.{◌≡◌, ◌⊎◌, ℕ, List, [], ◌∷◌, ◌++◌}
use Rattle.pf_terms.specs.Value.{Values}
use Rattle.pf_terms.specs.declared.term.Term.{Term}
use Rattle.pf_syntax.specs.Tree.{Tree, lit, var, neg, call}
use Rattle.pf_syntax.specs.Module.{Tables, tree_at}
use Rattle.pf_syntax.specs.declared.node.FunctionId.{FunctionId}
use Rattle.pf_syntax.specs.declared.node.NodeId.{NodeId}
use Rattle.pf_syntax.specs.declared.node.Operand.{Operand}
use Rattle.pf_syntax.specs.declared.node.Operand.TheVariants as part
use Rattle.pf_patterns.specs.Fit.{ValueScope}
use Rattle.pf_patterns.specs.Substitution.{sub}
use Rattle.pf_model.specs.Context.{Frame as Hole, fill, literals, ProcessState, running, waiting, ending, ended}
use Rattle.pf_stepper.specs.Lookups.{applied_to, pairing_in}
use Rattle.pf_stepper.specs.View.{hole_of}
use Rattle.pf_stepper.specs.MachineView.{MachineStatus, spent, goes, asking, over}
use Rattle.pf_stepper.specs.declared.frame.Callee.{Callee}
use Rattle.pf_stepper.specs.declared.frame.Callee.TheVariants as callee
use Rattle.pf_stepper.specs.declared.frame.Focus.{Focus}
use Rattle.pf_stepper.specs.declared.frame.Focus.TheVariants as f
use Rattle.pf_stepper.specs.declared.frame.Frame.{Frame}
use Rattle.pf_stepper.specs.declared.frame.FrameKind.{FrameKind}
use Rattle.pf_stepper.specs.declared.frame.FrameKind.TheVariants as k
use Rattle.pf_stepper.specs.declared.point.Point.{Point}
use Rattle.pf_stepper.specs.declared.point.Point.TheVariants as p

-- ---- frames

-- the node at which a frame waits
abbrev pub node_of : FrameKind → NodeId
node_of (k.BinaryLeft n) = n
node_of (k.BinaryRight b n) = n
node_of (k.BinaryAfterSlot b x n) = n
node_of (k.Negation n) = n
node_of (k.Shortcut d n) = n
node_of (k.Argument g n done) = n
node_of (k.Match n done) = n
node_of (k.Bind n done) = n
node_of (k.Case n) = n

-- and the number of the part whose value it waits for
abbrev pub part_of : FrameKind → ℕ
part_of (k.BinaryLeft n) = 0
part_of (k.BinaryRight b n) = 1
part_of (k.BinaryAfterSlot b x n) = 1
part_of (k.Negation n) = 0
part_of (k.Shortcut d n) = 0
part_of (k.Argument g n done) = done
part_of (k.Match n done) = 0
part_of (k.Bind n done) = 0
part_of (k.Case n) = 0

-- the node of a frame is what the frame waits at, where its hole doesn't come from there: a minus, or what takes two
-- operands so
abbrev pub IsAtNode : Tables → FrameKind → Type 0
IsAtNode t (k.BinaryLeft n) = Unit {0}
IsAtNode t (k.BinaryRight b n) = pairing_in (tree_at t n.0) ≡ b
IsAtNode t (k.BinaryAfterSlot b x n) = pairing_in (tree_at t n.0) ≡ b
IsAtNode t (k.Negation n) = (a : Tree) × (tree_at t n.0 ≡ neg a)
IsAtNode t (k.Shortcut d n) = Unit {0}
IsAtNode t (k.Argument g n done) = Unit {0}
IsAtNode t (k.Match n done) = Unit {0}
IsAtNode t (k.Bind n done) = Unit {0}
IsAtNode t (k.Case n) = Unit {0}

-- where the innermost of these frames waits, nowhere where there is none
abbrev pub waits_in : List Frame → Point
waits_in [] = p.Nowhere
waits_in (x ∷ []) = p.Within (node_of x.kind) (part_of x.kind)
waits_in (x ∷ y ∷ fs) = waits_in (y ∷ fs)

-- an operand in the innermost of these frames
abbrev pub part_in : List Frame → Operand → Point
part_in fs (part.Node n) = p.Before n
part_in fs x = waits_in fs

abbrev pub called_by : Callee → Point
called_by (callee.Function g) = p.Calls g
called_by g = p.Nowhere

-- what is in the innermost of these frames
abbrev pub point_in : List Frame → Focus → Point
point_in fs (f.Eval x) = part_in fs x
point_in fs (f.Value v) = waits_in fs
point_in fs (f.Enter g n) = called_by g
point_in fs (f.Raised r) = p.Nowhere
point_in fs (f.Exited r) = p.Nowhere

-- ---- trees

-- a hole at this part of a node
pub record IsHoleAt (t : Tables) (n : NodeId) (i : ℕ) (h : Hole) : Type 0 where
  pub scope : ValueScope
  pub values : List Term
  pub waits : FrameKind
  pub node : node_of waits ≡ n
  pub at : part_of waits ≡ i
  pub is : h ≡ hole_of t scope values waits

-- a value, or a variable that has none
abbrev pub IsInPlace : Tree → Type 0
IsInPlace (lit v) = Unit {0}
IsInPlace (var x) = Unit {0}
IsInPlace t = ⊥

-- a tuple or a built-in function
abbrev pub Builds : Callee → Type 0
Builds (callee.Function g) = ⊥
Builds (callee.Builtin b) = Unit {0}
Builds callee.Tuple = Unit {0}

-- innermost is a tuple or a call of a built-in function, of values
pub record IsBuilt (r : Tree) : Type 0 where
  pub frames : List Hole
  pub takes : Callee
  pub values : Values
  pub builds : Builds takes
  pub is : r ≡ fill frames (applied_to takes (literals values))

-- ---- points

-- innermost is the call of this function with values
pub record IsCalling (s : ProcessState) (g : FunctionId) : Type 0 where
  pub frames : List Hole
  pub values : Values
  pub is : s ≡ running (fill frames (call g.0 (literals values)))

-- innermost is the tree of this node
pub record IsBeforeNode (t : Tables) (s : ProcessState) (n : NodeId) : Type 0 where
  pub frames : List Hole
  pub scope : ValueScope
  pub is : s ≡ running (fill frames (sub scope (tree_at t n.0)))

-- innermost is the value of this part of a node
pub record IsWithin (t : Tables) (s : ProcessState) (n : NodeId) (i : ℕ) : Type 0 where
  pub frames : List Hole
  pub hole : Hole
  pub inner : Tree
  pub at : IsHoleAt t n i hole
  pub in_place : IsInPlace inner
  pub is : s ≡ running (fill (frames ++ hole ∷ []) inner)

-- the process returns what it has, is at a tuple or a built-in function of values, or is about to end
abbrev pub HasNoNode : ProcessState → Type 0
HasNoNode (running r) = IsInPlace r ⊎ IsBuilt r
HasNoNode (waiting r) = ⊥
HasNoNode (ending r) = Unit {0}
HasNoNode (ended e) = ⊥

-- a process in this state is at this point
abbrev pub IsPointOf : Tables → ProcessState → Point → Type 0
IsPointOf t s (p.Calls g) = IsCalling s g
IsPointOf t s (p.Before n) = IsBeforeNode t s n
IsPointOf t s (p.Within n i) = IsWithin t s n i
IsPointOf t s p.Nowhere = HasNoNode s

-- a machine with this status is at this point
abbrev pub IsPointAt : Tables → MachineStatus → Point → Type 0
IsPointAt t (goes s) x = IsPointOf t s x
IsPointAt t spent x = x ≡ p.Nowhere
IsPointAt t (asking fs) x = x ≡ p.Nowhere
IsPointAt t over x = x ≡ p.Nowhere
