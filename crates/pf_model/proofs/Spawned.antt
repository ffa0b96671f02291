-- A process that is spawned begins closed.
use Rattle.std.proofs.Common.{◌≡◌, ℕ, ◌+◌, Bool, true, false, Option, Some, None, refl, ap, ◌∙◌, subst, arith}
use Rattle.std.proofs.Common.{option_map, ◌==◌, if◌then◌else◌}
use Rattle.std.specs.Prelude.{slice_get}
use Rattle.std.proofs.lemmas.Grind.{common_steps}
use Rattle.std.proofs.lemmas.List.Quantifiers.{position-Some}
use Rattle.std.proofs.lemmas.Option.{get_or_from_slice_get}
use Rattle.pf_terms.specs.Value.{Values, none, more, count}
use Rattle.pf_syntax.specs.Tree.{Function, Program}
use Rattle.pf_syntax.specs.Module.{is_named, first_named}
use Rattle.pf_syntax.specs.Root.{exported_of, exported_at}
use Rattle.pf_model.specs.Module.{Module, exported_as}
use Rattle.pf_model.specs.Context.{literals}
use Rattle.pf_model.specs.Actions.{begun, start_of}
use Rattle.pf_model.specs.Closed.{tree_count, HasArity, AllAreClosed, StateIsClosed}

literals_count : (vs : Values) → tree_count (literals vs) ≡ count vs
literals_count none = refl
literals_count (more v vs) = ap (λ n. 1 + n) (literals_count vs)

literals_closed : (fs : Program) (vs : Values) → AllAreClosed fs 0 (literals vs)
literals_closed fs none = tt
literals_closed fs (more v vs) = (tt, literals_closed fs vs)

named_arity : (name k : ℕ) (g : Function) → is_named name k g ≡ true → g.arity ≡ k
named_arity name k g h = grind (arith, common_steps)

module _ (fs : Program) (name k : ℕ) where
  first_has : (i : ℕ) (g : Function) → first_named name k fs ≡ Some i → slice_get fs i ≡ Some g → g.arity ≡ k
  first_has i g h e =
      let p = (position-Some (is_named name k) fs i g h).1 in
      named_arity name k g (subst (λ x. is_named name k x ≡ true) (get_or_from_slice_get fs i g g e) p)

  pub exported_has : (f : ℕ) → exported_at fs (first_named name k fs) ≡ Some f → HasArity fs f k
  exported_has f = by (first_named name k fs) refl
    where
      at : (i : ℕ) → first_named name k fs ≡ Some i → (o : Option Function) → slice_get fs i ≡ o
          → exported_of i o ≡ Some f
          → HasArity fs f k
      at i h None e d = absurd (cc)
      at i h (Some g) e d = exported g.exported d
        where
          exported : (b : Bool) → (if b then Some i else None) ≡ Some f → HasArity fs f k
          exported false q = absurd (cc)
          exported true q =
              let r : i ≡ f = cc in
              subst (λ j. HasArity fs j k) r (ap (option_map (λ x. x.arity)) e ∙ ap (λ x. Some x) (first_has i g h e))

      by : (o : Option ℕ) → first_named name k fs ≡ o → exported_at fs o ≡ Some f → HasArity fs f k
      by None h d = absurd (cc)
      by (Some i) h d = at i h (slice_get fs i) refl d

begun_closed : (fs : Program) (o : Option ℕ) (vs : Values) → ((f : ℕ) → o ≡ Some f → HasArity fs f (count vs))
    → StateIsClosed fs (begun o vs)
begun_closed fs None vs h = tt
begun_closed fs (Some f) vs h = (rw (literals_count vs) (h f refl), literals_closed fs vs)

pub start_closed : (m : Module) (w name : ℕ) (vs : Values) → StateIsClosed m.functions (start_of m w name vs)
start_closed m w name vs = by (w == m.name)
  where
    by : (b : Bool) → StateIsClosed m.functions (begun (if b then exported_as m name (count vs) else None) vs)
    by true = begun_closed m.functions (exported_as m name (count vs)) vs (exported_has m.functions name (count vs))
    by false = tt
