-- How a process begins.
use Rattle.std.proofs.Common.{◌≡◌, ℕ, false, Option, None, refl, sym, ap, ◌∙◌}
use Rattle.pf_terms.specs.Value.{Values, count}
use Rattle.pf_terms.specs.Term.{value_of}
use Rattle.pf_terms.specs.Fixed.{undef}
use Rattle.pf_terms.specs.declared.term.Term.{Term}
use Rattle.pf_terms.specs.declared.term.Term.TheVariants as term
use Rattle.pf_syntax.specs.Tree.{call}
use Rattle.pf_syntax.specs.Module.{Checked}
use Rattle.pf_ops.specs.Reasons.{ending_reason}
use Rattle.pf_model.specs.Actions as actions
use Rattle.pf_model.specs.Actions.{start_of}
use Rattle.pf_model.specs.Module.{Module}
use Rattle.pf_model.specs.Context.{ProcessState, running, ending, literals}
use Rattle.pf_model.specs.Runs.{can_go}
use Rattle.pf_stepper.specs.MachineView.{MachineView, at_call, goes}
use Rattle.pf_system.specs.Acts.{LifeBegins, home_function}
use Rattle.pf_system.specs.declared.slot.Life.TheVariants as life

-- by the function that is found
pub start_at : (m : Module) (home name : ℕ) (vs : Values) (n : ℕ) (o : Option ℕ) → n ≡ count vs
    → o ≡ home_function m home name n
    → start_of m home name vs ≡ actions.begun o vs
start_at m home name vs n o e h = ap (λ k. actions.begun (home_function m home name k) vs) (sym e)
    ∙ ap (λ z. actions.begun z vs) (sym h)

-- at the call of a function
pub begins_running : (m : Checked) (own f : ℕ) (vs : Values) (s : ProcessState) (k : MachineView)
    → k ≡ at_call own m f vs → s ≡ running (call f (literals vs))
    → LifeBegins m own s (life.Lives k false)
begins_running m own f vs s k e q =
    record {
      is_there = λ mail h. (
        (
          (ap (λ z. z.own) e, ap (λ z. z.checked) e, ap (λ z. z.standing) e ∙ ap goes (sym q)),
          ap can_go q,
        ),
        h k,
      );
      goes = ap can_go q;
    }

-- about to end
pub begins_ending : (m : Checked) (own : ℕ) (t : Term) (s : ProcessState) → s ≡ ending (ending_reason undef)
    → value_of t ≡ ending_reason undef
    → LifeBegins m own s (life.Ends t)
begins_ending m own t s q e =
    record {
      is_there = λ mail h. q ∙ ap ending (sym e);
      goes = ap can_go q;
    }

pub not_list : (t : Term) → ((l : _) → t ≡ term.List l → ⊥) → actions.as_elements (value_of t) ≡ None
not_list (term.Int n) h = refl
not_list (term.Atom a) h = refl
not_list (term.Ref r) h = refl
not_list (term.Pid p) h = refl
not_list (term.Tuple vs) h = refl
not_list (term.List l) h = absurd (h l refl)
