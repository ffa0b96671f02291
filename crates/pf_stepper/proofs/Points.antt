-- A process is at the point that its frames give.
use Rattle.std.proofs.Common.{◌≡◌, ℕ, List, [], ◌∷◌, ◌++◌, ◌-◌, length, drop, Option, Some, None, refl, ap, subst, sym}
use Rattle.std.proofs.Common.{suc, arith, ◌∙◌}
use Rattle.std.proofs.Common.{inl, inr}
use Rattle.std.specs.Prelude.{◌⊎◌, slice_get}
use Rattle.pf_terms.specs.Value.{Value}
use Rattle.pf_terms.specs.Term.{value_of, values_of}
use Rattle.pf_terms.specs.declared.term.Term.{Term}
use Rattle.pf_syntax.specs.Tree.{Tree, lit, no_trees}
use Rattle.pf_syntax.specs.Module.{Tables, Checked}
use Rattle.pf_syntax.specs.Over.{part_over}
use Rattle.pf_syntax.specs.declared.node.NodeId.{NodeId}
use Rattle.pf_syntax.specs.declared.node.Operand.{Operand}
use Rattle.pf_syntax.specs.declared.node.Operand.TheVariants as part
use Rattle.pf_patterns.specs.Fit.{ValueScope}
use Rattle.pf_patterns.specs.Slots.{activation}
use Rattle.pf_patterns.specs.Substitution.{sub, value_or_var}
use Rattle.pf_model.specs.Context.{Frame as Hole, around, fill, after_values, running}
use Rattle.pf_stepper.specs.Lookups.{applied_to}
use Rattle.pf_stepper.specs.View.{slots, keeps, operands_kept, hole_of, holes_of, process_of}
use Rattle.pf_stepper.specs.Inner.{standing_by, standing_in}
use Rattle.pf_stepper.specs.Points.{IsInPlace, IsWithin, IsPointOf, IsPointAt, node_of, part_of, waits_in, part_in}
use Rattle.pf_stepper.specs.Points.{called_by, point_in}
use Rattle.pf_stepper.specs.declared.frame.Callee.{Callee}
use Rattle.pf_stepper.specs.declared.frame.Callee.TheVariants as callee
use Rattle.pf_stepper.specs.declared.frame.Focus.{Focus}
use Rattle.pf_stepper.specs.declared.frame.Focus.TheVariants as f
use Rattle.pf_stepper.specs.declared.frame.Frame.{Frame}
use Rattle.pf_stepper.specs.declared.machine.MachineStatus.{MachineStatus}
use Rattle.pf_stepper.specs.declared.machine.MachineStatus.TheVariants as s
use Rattle.pf_stepper.specs.declared.point.Point.{Point}
use Rattle.pf_stepper.specs.declared.point.Point.TheVariants as p
use Rattle.pf_stepper.specs.declared.stack.Stack.{Stack}

-- the last frame is the innermost one
pub last_waits : (xs : List Frame) (x : Frame) → Some x ≡ slice_get xs (length xs - 1)
    → p.Within (node_of x.kind) (part_of x.kind) ≡ waits_in xs
last_waits [] x e = absurd (cc)
last_waits (y ∷ []) x e =
    let w : length (y ∷ []) - 1 ≡ 0 = omega arith in
    let h : Some x ≡ Some y = e ∙ ap (slice_get (y ∷ [])) w in
    let i : x ≡ y = cc in ap (λ z. p.Within (node_of z.kind) (part_of z.kind)) i
last_waits (y ∷ z ∷ xs) x e =
    let w : length (y ∷ z ∷ xs) - 1 ≡ suc (length (z ∷ xs) - 1) = omega arith in
    last_waits (z ∷ xs) x (e ∙ ap (slice_get (y ∷ z ∷ xs)) w)

-- ---- what is in the innermost frame

in_place : (o : Option Value) (y : ℕ) → IsInPlace (value_or_var o y)
in_place None y = tt
in_place (Some v) y = tt

-- a process is within a part where it is so in one frame more
deeper : (t : Tables) (h : Hole) (u : Tree) (n : NodeId) (i : ℕ) → IsWithin t (running u) n i
    → IsWithin t (running (around h u)) n i
deeper t h u n i w =
    let e : u ≡ fill (w.frames ++ w.hole ∷ []) w.inner = let q = w.is in cc in
    record {
      frames = h ∷ w.frames;
      hole = w.hole;
      inner = w.inner;
      at = w.at;
      in_place = w.in_place;
      is =
          ap (λ r. running (around h r)) e;
    }

-- a value, or a variable that has none, in these frames
pub record WaitsIn (t : Tables) (env ws : List Term) (fs : List Frame) (r : Tree) : Type 0 where
  pub node : NodeId
  pub number : ℕ
  pub within : IsWithin t (running (fill (holes_of t env ws fs) r)) node number
  pub is : waits_in fs ≡ p.Within node number

waits_there : (t : Tables) (env ws : List Term) (x : Frame) (fs : List Frame) (r : Tree) → IsInPlace r
    → WaitsIn t env ws (x ∷ fs) r
waits_there t env ws x [] r i = record {
  node = node_of x.kind;
  number = part_of x.kind;
  within = record {
    frames = [];
    hole = hole_of t (slots env x.base x.end) ws x.kind;
    inner = r;
    at = record { scope = slots env x.base x.end; values = ws; waits = x.kind; node = refl; at = refl; is = refl };
    in_place = i;
    is = refl;
  };
  is = refl;
}
waits_there t env ws x (y ∷ fs) r i =
    let rest = drop (keeps x.kind) ws in
    let w = waits_there t env rest y fs r i in
    record {
      node = w.node;
      number = w.number;
      within = deeper t (hole_of t (slots env x.base x.end) ws x.kind) (fill (holes_of t env rest (y ∷ fs)) r) w.node
          w.number w.within;
      is = w.is;
    }

waits_so : (t : Tables) (env ws : List Term) (fs : List Frame) (r : Tree) → IsInPlace r
    → IsPointOf t (running (fill (holes_of t env ws fs) r)) (waits_in fs)
waits_so t env ws [] r i = inl i
waits_so t env ws (x ∷ fs) r i =
    let w = waits_there t env ws x fs r i in
    subst (IsPointOf t (running (fill (holes_of t env ws (x ∷ fs)) r))) (sym w.is) w.within

part_is_there : (t : Tables) (e : ValueScope) (env ws : List Term) (fs : List Frame) (x : Operand)
    → IsPointOf t (running (fill (holes_of t env ws fs) (sub e (part_over t x)))) (part_in fs x)
part_is_there t e env ws fs (part.Node n) = record { frames = holes_of t env ws fs; scope = e; is = refl }
part_is_there t e env ws fs (part.Slot x) = waits_so t env ws fs (sub e (part_over t (part.Slot x)))
    (in_place (slice_get e x) (x - length e))
part_is_there t e env ws fs (part.Int n) = waits_so t env ws fs (sub e (part_over t (part.Int n))) tt
part_is_there t e env ws fs (part.Atom a) = waits_so t env ws fs (sub e (part_over t (part.Atom a))) tt
part_is_there t e env ws fs part.Nil = waits_so t env ws fs (sub e (part_over t part.Nil)) tt
part_is_there t e env ws fs (part.Literal l) = waits_so t env ws fs (sub e (part_over t (part.Literal l))) tt

call_is_there : (t : Tables) (env ws us : List Term) (fs : List Frame) (g : Callee)
    → IsPointOf t (running (fill (holes_of t env ws fs) (applied_to g (after_values (values_of us) no_trees))))
    (called_by g)
call_is_there t env ws us fs (callee.Function g) =
    record { frames = holes_of t env ws fs; values = values_of us; is = refl }
call_is_there t env ws us fs (callee.Builtin b) =
    inr (record {
      frames = holes_of t env ws fs;
      takes = callee.Builtin b;
      values = values_of us;
      builds =
          tt;
      is = refl;
    })
call_is_there t env ws us fs callee.Tuple = inr
    (record { frames = holes_of t env ws fs; takes = callee.Tuple; values = values_of us; builds = tt; is = refl })

-- ---- machines

pub is_there_still : (t : Tables) (env ws : List Term) (base : ℕ) (fs : List Frame) (x : Focus)
    → IsPointAt t (standing_by (process_of t env ws base fs x)) (point_in fs x)
unfolding process_of
is_there_still t env ws base fs (f.Eval x) = part_is_there t (activation env base) env ws fs x
is_there_still t env ws base fs (f.Value v) = waits_so t env ws fs (lit (value_of v)) tt
is_there_still t env ws base fs (f.Enter g n) = call_is_there t env ws (drop (operands_kept fs) ws) fs g
is_there_still t env ws base fs (f.Raised r) = tt
is_there_still t env ws base fs (f.Exited r) = tt

-- where a machine with these fields is
abbrev pub point_from : Stack → MachineStatus → Point
point_from a (s.Goes x) = point_in a.frames.items x
point_from a s.Asking = p.Nowhere
point_from a s.Over = p.Nowhere
point_from a s.Spent = p.Nowhere

pub machine_is_there : (m : Checked) (a : Stack) (x : MachineStatus)
    → IsPointAt m.tables (standing_in m a x) (point_from a x)
machine_is_there m a (s.Goes x) = is_there_still m.tables a.env.items a.operands.items a.base a.frames.items x
machine_is_there m a s.Asking = refl
machine_is_there m a s.Over = refl
machine_is_there m a s.Spent = refl

pub is_as : (m : Checked) (a : Stack) (x : MachineStatus) (q : Point) → q ≡ point_from a x
    → IsPointAt m.tables (standing_in m a x) q
is_as m a x q e = subst (IsPointAt m.tables (standing_in m a x)) (sym e) (machine_is_there m a x)

pub is_nowhere : (a : Stack) (x : MachineStatus) → x ≡ s.Asking ⊎ (x ≡ s.Over ⊎ x ≡ s.Spent)
    → p.Nowhere ≡ point_from a x
is_nowhere a x (inl e) = ap (point_from a) (sym e)
is_nowhere a x (inr (inl e)) = ap (point_from a) (sym e)
is_nowhere a x (inr (inr e)) = ap (point_from a) (sym e)
