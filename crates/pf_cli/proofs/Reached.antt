-- What is said of the words of a hunt, which go together or exclude each other.
use Rattle.std.proofs.Common.{◌≡◌, Bool, true, false, List, Some, None, ap, sym, inl, inr, ◌∙◌}
use Rattle.std.specs.Prelude.{◌⊎◌, Result, Ok, Err, IfOk, IfErr, if◌then◌else◌}
use Rattle.clap.specs.Words.{Row, kind_of}
use Rattle.clap.specs.declared.error.Error.{Error}
use Rattle.clap.specs.declared.error.kind.ErrorKind.TheVariants as kind
use Rattle.pf_cli.specs.Args.{HuntArgs, clashes_in, hunt_fault, hunt_of, hunt_of_values}

module _ (rows : List Row) where
  -- words that go together ask for what their values ask for
  taken : false ≡ clashes_in rows → hunt_of rows ≡ hunt_of_values rows
  taken e = ap (λ (b : Bool). if b then None else hunt_of_values rows) (sym e)

  valued : false ≡ clashes_in rows → hunt_fault rows ≡ kind.InvalidValue
  valued e = ap (λ (b : Bool). if b then kind.ArgumentConflict else kind.InvalidValue) (sym e)

  pub values_taken : {T : Type 0} (r : Result T Error) (view : T → HuntArgs) → false ≡ clashes_in rows
      → IfOk r (λ a. hunt_of_values rows ≡ Some (view a)) → IfOk r (λ a. hunt_of rows ≡ Some (view a))
  values_taken (Ok a) view e h = taken e ∙ h
  values_taken (Err x) view e h = tt

  pub values_refused : {T : Type 0} (r : Result T Error) → false ≡ clashes_in rows
      → IfErr r (λ x. (kind_of x ≡ kind.OutOfMemory) ⊎ ((kind_of x ≡ kind.InvalidValue) × (hunt_of_values rows ≡ None)))
      → IfErr r (λ x. (kind_of x ≡ kind.OutOfMemory) ⊎ ((kind_of x ≡ hunt_fault rows) × (hunt_of rows ≡ None)))
  values_refused (Ok a) e h = tt
  values_refused (Err x) e (inl h) = inl h
  values_refused (Err x) e (inr h) = inr (h.0 ∙ sym (valued e), taken e ∙ h.1)

  -- and those that don't ask for nothing
  pub clashing : (x : Error) → true ≡ clashes_in rows
      → (kind_of x ≡ kind.OutOfMemory) ⊎ (kind_of x ≡ kind.ArgumentConflict)
      → (kind_of x ≡ kind.OutOfMemory) ⊎ ((kind_of x ≡ hunt_fault rows) × (hunt_of rows ≡ None))
  clashing x e (inl h) = inl h
  clashing x e (inr h) = inr (
    h ∙ sym (ap (λ (b : Bool). if b then kind.ArgumentConflict else kind.InvalidValue) (sym e)),
    ap (λ (b : Bool). if b then None else hunt_of_values rows) (sym e),
  )
