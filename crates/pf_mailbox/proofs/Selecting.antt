-- From what a search found to what a `receive` takes, and how many messages it tested.
use Rattle.std.proofs.Common.{◌≡◌, ℕ, ◌+◌, ◌-◌, List, length, take, drop, sym, ap, ◌∙◌, subst, Some, remove, arith}
use Rattle.std.specs.Prelude.{map, slice_get}
use Rattle.std.proofs.lemmas.List.{take-map}
use Rattle.std.proofs.lemmas.Option.{slice_get_within, get_or_from_slice_get, same_Some}
use Rattle.pf_terms.specs.Term.{value_of}
use Rattle.pf_terms.specs.declared.term.Term.{Term}
use Rattle.pf_syntax.specs.Module.{Checked}
use Rattle.pf_syntax.specs.Over.{clauses_over, part_over}
use Rattle.pf_syntax.specs.declared.node.Clause.{Clause}
use Rattle.pf_syntax.specs.declared.node.Operand.{Operand}
use Rattle.pf_patterns.specs.Slots.{activation}
use Rattle.pf_patterns.specs.Substitution.{sub}
use Rattle.pf_model.specs.Module.{module_of}
use Rattle.pf_model.specs.Contraction.{picked}
use Rattle.pf_model.specs.Receive.{FitsNone}
use Rattle.pf_nodes.specs.Mail.{Mail}
use Rattle.pf_stepper.specs.MicroSteps.{Picked}
use Rattle.pf_stepper.specs.Selected.{TakesMessage, TakesNothing}
use Rattle.pf_stepper.proofs.Scans.{Passed, takes_at, takes_none}
use Rattle.pf_mailbox.specs.Searches.{PassesOver, TestsMarked, SeesNone}
use Rattle.pf_mailbox.specs.Tests.{awaited_clauses, tested}
use Rattle.pf_mailbox.proofs.Tested.{NoneIn, none_before, to_list, to_indices, count_to, count_rest}

module _ (m : Checked) (own base : ℕ) (env : List Term) (l : List Clause) (old new : Mail Term)
    (e : new.items ≡ old.items)
    (before : FitsNone (module_of m) own (awaited_clauses m base env l) (take old.mark (map value_of old.items)))
    (p : PassesOver m own (awaited_clauses m base env l) old new.mark) where
  none_in : NoneIn (module_of m) own (awaited_clauses m base env l) new.items 0 new.mark
  none_in =
      subst (λ xs. NoneIn (module_of m) own (awaited_clauses m base env l) xs 0 new.mark) (sym e)
      (none_before (module_of m) own (awaited_clauses m base env l) old.items old.mark new.mark
      (to_indices (module_of m) own (awaited_clauses m base env l) old.items old.mark before) p.all)

  -- no clause picks a message before the new mark
  pub still : FitsNone (module_of m) own (awaited_clauses m base env l) (take new.mark (map value_of new.items))
  still = to_list (module_of m) own (awaited_clauses m base env l) new.items new.mark none_in

  passed : Passed m own base env (clauses_over m.tables l) (take new.mark new.items)
  passed = subst (FitsNone (module_of m) own (awaited_clauses m base env l))
      (take-map value_of new.mark new.items) still

  module _ (env' : List Term) (s : SeesNone env env' new) where
    pub nothing : TakesNothing m own base env env' (clauses_over m.tables l) (map value_of old.items)
        (map value_of new.items)
    nothing = takes_none m own base env env' (clauses_over m.tables l) old.items new.items new.mark e s.slots
        (omega (arith, s.end)) passed

    pub all_tested : tested (module_of m) own (awaited_clauses m base env l) (drop old.mark (map value_of old.items))
        ≡ new.mark - old.mark
    all_tested =
        let end : new.mark ≡ length old.items = s.end ∙ ap length e in
        count_rest (module_of m) own (awaited_clauses m base env l) old.items old.mark (omega (arith, end, p.on))
        (λ k x low below at. p.all k x low (omega (arith, end, below)) at)
        ∙ ap (λ n. n - old.mark) (sym end)

  module _ (env' : List Term) (body : Operand) (s : TestsMarked m own base env l env' new (Some body)) (x : Term)
      (at : slice_get new.items new.mark ≡ Some x) where
    value_is : value_of s.message ≡ value_of x
    value_is = ap value_of (same_Some s.message x (sym s.there ∙ at))

    picks : Picked m base env env' (Some body) (picked (module_of m) own (awaited_clauses m base env l) (value_of x))
    picks = subst (λ v. Picked m base env env' (Some body) (picked (module_of m) own (awaited_clauses m base env l) v))
        value_is s.picks

    pub takes : (ys : List Term) → ys ≡ remove new.items new.mark
        → TakesMessage m own base env env' (clauses_over m.tables l) (map value_of old.items) (map value_of ys) body x
    takes ys r =
        subst (λ xs. TakesMessage m own base env env' (clauses_over m.tables l) (map value_of xs)
        (map value_of ys) body x) e
        (takes_at m own base env (clauses_over m.tables l) new.items new.mark x
        (slice_get_within new.items new.mark x at)
        (sym (get_or_from_slice_get new.items new.mark x x at)) passed env' ys body r picks)

    pub tested_to : tested (module_of m) own (awaited_clauses m base env l) (drop old.mark (map value_of old.items))
        ≡ new.mark - old.mark + 1
    tested_to =
        count_to (module_of m) own (awaited_clauses m base env l) old.items old.mark new.mark x
        (sub (activation env' base) (part_over m.tables body)) p.on p.all
        (ap (λ xs. slice_get xs new.mark) (sym e) ∙ at) (sym picks.body)
