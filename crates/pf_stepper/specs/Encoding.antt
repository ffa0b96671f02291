-- How the logic stores a machine's view.
use Rattle.std.specs.Prelude.{◌≡◌, ℕ, List, ◌==◌, if◌then◌else◌, ◌⊎◌, refl}
use Rattle.std.proofs.Common.{inl, inr}
use Rattle.std.specs.Coded.{Coded, code_by, coded×, coded⊎, coded_ℕ, coded_list}
use Rattle.pf_terms.specs.Value.{Value, Values, list, none}
use Rattle.pf_terms.specs.Encoding.{coded_value, coded_values}
use Rattle.pf_syntax.specs.Tree.{Tree, lit, tuple, op, call, builtin, match, bind, case}
use Rattle.pf_syntax.specs.Encoding.{coded_tree}
use Rattle.pf_syntax.specs.Module.{coded_checked}
use Rattle.pf_model.specs.Context.{Frame, element_of, first_of, tail_of, left_of, right_of, negation, and_also_of}
use Rattle.pf_model.specs.Context.{or_else_of, argument_of, builtin_argument_of, match_of, bind_of, case_of}
use Rattle.pf_model.specs.Context.{receiver_of, message_of, running, waiting, ending, ended, returned, failed}
use Rattle.pf_stepper.specs.MachineView.{MachineStatus, spent, goes, asking, over, MachineView}

-- ---- frames, by a number, a tree with their parts, and their values

abbrev pub Stored : Type 0
Stored = ℕ × (Tree × Values)

abbrev pub nothing : Tree
nothing = lit (list none)

abbrev pub stored : Frame → Stored
stored (element_of vs ts) = (0, (tuple ts, vs))
stored (first_of a) = (1, (a, none))
stored (tail_of v) = (2, (lit v, none))
stored (left_of o a) = (3, (op o a a, none))
stored (right_of o v) = (4, (op o (lit v) nothing, none))
stored negation = (5, (nothing, none))
stored (and_also_of a) = (6, (a, none))
stored (or_else_of a) = (7, (a, none))
stored (argument_of f vs ts) = (8, (call f ts, vs))
stored (builtin_argument_of b vs ts) = (9, (builtin b ts, vs))
stored (match_of ps) = (10, (match ps nothing, none))
stored (bind_of ps r) = (11, (bind ps r r, none))
stored (case_of ks) = (12, (case nothing ks, none))
stored (receiver_of a) = (13, (a, none))
stored (message_of v) = (14, (lit v, none))

-- the frames that are coded by their tree alone
abbrev pub by_tree : Tree → Values → Frame
by_tree (tuple ts) vs = element_of vs ts
by_tree (op o (lit v) b) vs = right_of o v
by_tree (call f ts) vs = argument_of f vs ts
by_tree (builtin b ts) vs = builtin_argument_of b vs ts
by_tree (match ps a) vs = match_of ps
by_tree (bind ps a r) vs = bind_of ps r
by_tree (case a ks) vs = case_of ks
by_tree t vs = negation

abbrev pub left_frame_from : Tree → Frame
left_frame_from (op o a b) = left_of o b
left_frame_from t = negation

abbrev pub value_from : (Value → Frame) → Tree → Frame
value_from f (lit v) = f v
value_from f t = negation

abbrev pub frame_from : Stored → Frame
frame_from p =
    if p.0 == 1 then first_of p.1.0
    else (if p.0 == 2 then value_from tail_of p.1.0
    else (if p.0 == 3 then left_frame_from p.1.0
    else (if p.0 == 6 then and_also_of p.1.0
    else (if p.0 == 7 then or_else_of p.1.0
    else (if p.0 == 13 then receiver_of p.1.0
    else (if p.0 == 14 then value_from message_of p.1.0
    else by_tree p.1.0 p.1.1))))))

pub frame_again : (f : Frame) → frame_from (stored f) ≡ f
frame_again (element_of vs ts) = refl
frame_again (first_of a) = refl
frame_again (tail_of v) = refl
frame_again (left_of o a) = refl
frame_again (right_of o v) = refl
frame_again negation = refl
frame_again (and_also_of a) = refl
frame_again (or_else_of a) = refl
frame_again (argument_of f vs ts) = refl
frame_again (builtin_argument_of b vs ts) = refl
frame_again (match_of ps) = refl
frame_again (bind_of ps r) = refl
frame_again (case_of ks) = refl
frame_again (receiver_of a) = refl
frame_again (message_of v) = refl

abbrev pub coded_frame : Coded Frame
coded_frame = code_by _ (coded× coded_ℕ (coded× coded_tree coded_values)) stored frame_from frame_again

-- ---- the status of a machine

abbrev pub Parts : Type 0
Parts = Tree ⊎ (Tree ⊎ (Value ⊎ (Value ⊎ (Value ⊎ (List Frame ⊎ ℕ)))))

abbrev pub parts_of : MachineStatus → Parts
parts_of (goes (running t)) = inl t
parts_of (goes (waiting t)) = inr (inl t)
parts_of (goes (ending r)) = inr (inr (inl r))
parts_of (goes (ended (returned v))) = inr (inr (inr (inl v)))
parts_of (goes (ended (failed r))) = inr (inr (inr (inr (inl r))))
parts_of (asking fs) = inr (inr (inr (inr (inr (inl fs)))))
parts_of spent = inr (inr (inr (inr (inr (inr 0)))))
parts_of over = inr (inr (inr (inr (inr (inr 1)))))

abbrev pub standing_from : Parts → MachineStatus
standing_from (inl t) = goes (running t)
standing_from (inr (inl t)) = goes (waiting t)
standing_from (inr (inr (inl r))) = goes (ending r)
standing_from (inr (inr (inr (inl v)))) = goes (ended (returned v))
standing_from (inr (inr (inr (inr (inl r))))) = goes (ended (failed r))
standing_from (inr (inr (inr (inr (inr (inl fs)))))) = asking fs
standing_from (inr (inr (inr (inr (inr (inr n)))))) = if n == 0 then spent else over

pub standing_again : (s : MachineStatus) → standing_from (parts_of s) ≡ s
standing_again (goes (running t)) = refl
standing_again (goes (waiting t)) = refl
standing_again (goes (ending r)) = refl
standing_again (goes (ended (returned v))) = refl
standing_again (goes (ended (failed r))) = refl
standing_again (asking fs) = refl
standing_again spent = refl
standing_again over = refl

abbrev pub coded_standing : Coded MachineStatus
coded_standing =
    code_by _ (coded⊎ coded_tree (coded⊎ coded_tree
    (coded⊎ coded_value (coded⊎ coded_value (coded⊎ coded_value (coded⊎ (coded_list coded_frame) coded_ℕ))))))
    parts_of standing_from standing_again

abbrev pub coded_machine_view : Coded MachineView
coded_machine_view =
    code_by _ (coded× coded_ℕ (coded× coded_checked coded_standing))
    (λ s. (s.own, (s.checked, s.standing))) (λ p. record { own = p.0; checked = p.1.0; standing = p.1.1 }) (λ _. refl)
