-- Only a `receive` waits for a message.
use Rattle.std.proofs.Common.{◌≡◌, ℕ, Bool, true, false, List, [], Option, Some, None, sym, ap, ◌∙◌, subst}
use Rattle.std.specs.Prelude.{Result, Ok, Err, option_map, slice_get}
use Rattle.pf_terms.specs.Value.{Value, Values, none, more, list}
use Rattle.pf_terms.specs.Fixed.{function_clause, if_clause}
use Rattle.pf_ops.specs.Operations.{computed}
use Rattle.pf_ops.specs.Guards.{truth_of}
use Rattle.pf_ops.specs.Reasons.{no_match, no_case}
use Rattle.pf_patterns.specs.Fit.{ValueScope, fit}
use Rattle.pf_patterns.specs.Substitution.{sub, sub_patterns}
use Rattle.pf_syntax.specs.Pattern.{Patterns, no_patterns, pattern}
use Rattle.pf_syntax.specs.Tree.{Tree, Clauses, Function, lit, var, tuple, cons, op, neg, and_also, or_else, call}
use Rattle.pf_syntax.specs.Tree.{builtin, match, bind, case, if_expression, receive, send}
use Rattle.pf_syntax.specs.declared.operator.Builtin.{Builtin}
use Rattle.pf_syntax.specs.declared.operator.Builtin.TheVariants as builtins
use Rattle.pf_model.specs.Module.{Module}
use Rattle.pf_model.specs.Contraction.{Change, Becomes, Raises, Exits, Asks, Awaits, worked_out, picked, picked_by_all}
use Rattle.pf_model.specs.Contraction.{body_or_raise, entered, fits_or, matches_left, matched, bound, decided}
use Rattle.pf_model.specs.Contraction.{computed_or_undefined, called, as_value, as_values, with_both, contract}
use Rattle.pf_model.specs.Context.{Frame, IsRedexIn, fill, moved, awaits, Moves, at_value, at_index}

abbrev NoWait : Change → Type 0
NoWait (Becomes t) = Unit {0}
NoWait (Raises e) = Unit {0}
NoWait (Exits v) = Unit {0}
NoWait (Asks a) = Unit {0}
NoWait (Awaits ks) = ⊥

abbrev IfChange : Option Change → Type 0
IfChange None = Unit {0}
IfChange (Some x) = NoWait x

mapped : {T : Type 0} (f : T → Change) (o : Option T) → ((x : T) → NoWait (f x)) → IfChange (option_map f o)
mapped f None h = tt
mapped f (Some x) h = h x

both : (f : Value → Value → Change) (o p : Option Value) → ((v w : Value) → NoWait (f v w)) → IfChange (with_both o p f)
both f None p h = tt
both f (Some v) None h = tt
both f (Some v) (Some w) h = h v w

worked_out_goes : (r : Result Value Value) → NoWait (worked_out r)
worked_out_goes (Ok v) = tt
worked_out_goes (Err e) = tt

body_goes : (o : Option Tree) (e : Value) → NoWait (body_or_raise o e)
body_goes None e = tt
body_goes (Some t) e = tt

fits_goes : (o : Option ValueScope) (f : ValueScope → Tree) (e : Value)
    → NoWait (fits_or o (λ s. Becomes (f s)) (Raises e))
fits_goes None f e = tt
fits_goes (Some s) f e = tt

matched_goes : (ps : Patterns) (v : Value) → NoWait (matched ps v)
matched_goes no_patterns v = tt
matched_goes (pattern p ps) v = fits_goes (fit p v []) (λ e. matches_left (sub_patterns e ps) v) (no_match v)

bound_goes : (ps : Patterns) (v : Value) (rest : Tree) → NoWait (bound ps v rest)
bound_goes no_patterns v rest = tt
bound_goes (pattern p ps) v rest = fits_goes (fit p v [])
    (λ e. bind (sub_patterns e ps) (lit v) (sub e rest)) (no_match v)

decided_goes : (d : Bool) (v : Value) (right : Tree) (o : Option Bool) → NoWait (decided d v right o)
decided_goes d v right None = tt
decided_goes true v right (Some true) = tt
decided_goes true v right (Some false) = tt
decided_goes false v right (Some true) = tt
decided_goes false v right (Some false) = tt

computed_goes : (o : Option (Result Value Value)) → NoWait (computed_or_undefined o)
computed_goes None = tt
computed_goes (Some r) = worked_out_goes r

called_goes : (own : ℕ) (f : Builtin) (vs : Values) → NoWait (called own f vs)
called_goes own builtins.Exit (more v none) = tt
called_goes own builtins.Spawn (more m (more f (more vs none))) = tt
called_goes own builtins.SpawnLink (more m (more f (more vs none))) = tt
called_goes own builtins.Link (more p none) = tt
called_goes own builtins.Unlink (more p none) = tt
called_goes own builtins.Monitor (more k (more p none)) = tt
called_goes own builtins.Demonitor (more r none) = tt
called_goes own builtins.ExitOther (more p (more r none)) = tt
called_goes own builtins.ProcessFlag (more k (more v none)) = tt
called_goes own builtins.Register (more n (more p none)) = tt
called_goes own builtins.Unregister (more n none) = tt
called_goes own builtins.Whereis (more n none) = tt
called_goes own builtins.MakeRef none = tt
called_goes own builtins.SpawnMonitor (more m (more f (more vs none))) = tt
called_goes own builtins.DemonitorWith (more r (more o none)) = tt
called_goes own f vs = computed_goes (computed own f vs)

module _ (m : Module) (own : ℕ) where
  entered_goes : (o : Option Function) (vs : Values) → NoWait (entered m own o vs)
  entered_goes None vs = tt
  entered_goes (Some g) vs = body_goes (picked_by_all m own g.clauses vs) function_clause

  abbrev IsReceive : Tree → Type 0
  IsReceive r = (ks : Clauses) → contract m own r ≡ Some (Awaits ks) → r ≡ receive ks

  by_change : (r : Tree) → IfChange (contract m own r) → IsReceive r
  by_change r h ks e = absurd (subst IfChange e h)

  waits_at : (r : Tree) → IsReceive r
  waits_at (lit v) = by_change (lit v) tt
  waits_at (var x) = by_change (var x) tt
  waits_at (tuple ts) = by_change (tuple ts) (mapped _ (as_values ts) (λ vs. worked_out_goes _))
  waits_at (cons a t) = by_change (cons a t) (both _ (as_value a) (as_value t) (λ v w. worked_out_goes _))
  waits_at (op o a t) = by_change (op o a t) (both _ (as_value a) (as_value t) (λ v w. worked_out_goes _))
  waits_at (neg a) = by_change (neg a) (mapped _ (as_value a) (λ v. worked_out_goes _))
  waits_at (and_also a t) = by_change (and_also a t) (mapped _ (as_value a) (λ v. decided_goes false v t (truth_of v)))
  waits_at (or_else a t) = by_change (or_else a t) (mapped _ (as_value a) (λ v. decided_goes true v t (truth_of v)))
  waits_at (call f ts) = by_change (call f ts)
      (mapped _ (as_values ts) (λ vs. entered_goes (slice_get m.functions f) vs))
  waits_at (builtin f ts) = by_change (builtin f ts) (mapped _ (as_values ts) (λ vs. called_goes own f vs))
  waits_at (match ps a) = by_change (match ps a) (mapped _ (as_value a) (λ v. matched_goes ps v))
  waits_at (bind ps a rest) = by_change (bind ps a rest) (mapped _ (as_value a) (λ v. bound_goes ps v rest))
  waits_at (case a ks) = by_change (case a ks) (mapped _ (as_value a) (λ v. body_goes (picked m own ks v) (no_case v)))
  waits_at (if_expression ks) = by_change (if_expression ks) (body_goes (picked m own ks (list none)) if_clause)
  waits_at (receive ks) = λ ls e. let q : ks ≡ ls = cc in ap receive q
  waits_at (send a t) = by_change (send a t) (both _ (as_value a) (as_value t) (λ v w. tt))

  module _ (t : Tree) (fs : List Frame) (ks : Clauses) where
    by_index : (gs : List Frame) (r : Tree) (x : Change) → IsRedexIn m own t gs r x → awaits fs ks ≡ moved gs x
        → fill fs (receive ks) ≡ t
    by_index gs r (Becomes u) p e = absurd (cc)
    by_index gs r (Raises u) p e = absurd (cc)
    by_index gs r (Exits u) p e = absurd (cc)
    by_index gs r (Asks u) p e = absurd (cc)
    by_index gs r (Awaits ls) p e =
        let f : fs ≡ gs = cc in
        let k : ks ≡ ls = cc in
        ap (λ g. fill g (receive ks)) f ∙ ap (λ l. fill gs (receive l)) k
        ∙ ap (fill gs) (sym (waits_at r ls p.redex)) ∙ p.filled

    -- a process that waits is at its `receive`
    pub stays_at : Moves m own t (awaits fs ks) → fill fs (receive ks) ≡ t
    stays_at (at_value v e q) = absurd (cc)
    stays_at (at_index gs r x p q) = by_index gs r x p q
