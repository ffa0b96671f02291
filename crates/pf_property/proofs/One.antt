-- Bytes are at most one property: which one, but for its pattern, they say by themselves.
use Rattle.std.proofs.Common.{◌≡◌, ℕ, List, ◌++◌, sym, ap, ◌∙◌, subst}
use Rattle.std.specs.Prelude.{codes, if◌then◌else◌}
use Rattle.std.specs.Str.{bytes_eq}
use Rattle.pf_errors.specs.declared.code.Code.{Code}
use Rattle.pf_errors.specs.declared.fault.OrNoMemory.{OrNoMemory}
use Rattle.pf_errors.specs.declared.fault.OrNoMemory.TheVariants.{NoMemory, Fault}
use Rattle.pf_syntax.specs.Pattern.{Pattern, any}
use Rattle.pf_model.specs.Properties.{Property, returns, returns_true, no_crash, no_deadlock, within_limit, never}
use Rattle.pf_property.specs.Texts.{IsNoPatternText, IsNoPropertyText, ReadsPattern, ReadsProperty}
use Rattle.pf_property.proofs.Patterns_read.{one_pattern}

-- a property but for its pattern
abbrev bare : Property → Property
bare returns = returns
bare returns_true = returns_true
bare no_crash = no_crash
bare no_deadlock = no_deadlock
bare within_limit = within_limit
bare (never p) = never any

-- a property that has none
abbrev IsBare : Property → Type 0
IsBare returns = Unit {0}
IsBare returns_true = Unit {0}
IsBare no_crash = Unit {0}
IsBare no_deadlock = Unit {0}
IsBare within_limit = Unit {0}
IsBare (never p) = ⊥

-- what bytes are but for a pattern, where they are a property
abbrev reported : List ℕ → Property
reported bytes =
    if bytes_eq bytes (codes "returns") then returns
    else if bytes_eq bytes (codes "true") then returns_true
    else if bytes_eq bytes (codes "nocrash") then no_crash
    else if bytes_eq bytes (codes "nodeadlock") then no_deadlock
    else if bytes_eq bytes (codes "withinlimit") then within_limit
    else never any

only : (p q : Property) → IsBare q → bare p ≡ q → p ≡ q
only returns q b e = e
only returns_true q b e = e
only no_crash q b e = e
only no_deadlock q b e = e
only within_limit q b e = e
only (never p) q b e = absurd (subst IsBare (sym e) b)

same_rest : (text other : List ℕ) → codes "never:" ++ text ≡ codes "never:" ++ other → text ≡ other
same_rest text other e = cc

module _ (names : List (List ℕ)) (bytes : List ℕ) where
  reports : (p : Property) → ReadsProperty names bytes p → bare p ≡ reported bytes
  reports returns e = sym (ap reported e)
  reports returns_true e = sym (ap reported e)
  reports no_crash e = sym (ap reported e)
  reports no_deadlock e = sym (ap reported e)
  reports within_limit e = sym (ap reported e)
  reports (never p) h = sym (ap reported h.1)

  alike : (p q : Property) → ReadsProperty names bytes p → ReadsProperty names bytes q → bare p ≡ bare q
  alike p q a b = reports p a ∙ sym (reports q b)

  pub at_most_one : (p q : Property) → ReadsProperty names bytes p → ReadsProperty names bytes q → p ≡ q
  at_most_one returns q a b = sym (only q returns tt (alike q returns b a))
  at_most_one returns_true q a b = sym (only q returns_true tt (alike q returns_true b a))
  at_most_one no_crash q a b = sym (only q no_crash tt (alike q no_crash b a))
  at_most_one no_deadlock q a b = sym (only q no_deadlock tt (alike q no_deadlock b a))
  at_most_one within_limit q a b = sym (only q within_limit tt (alike q within_limit b a))
  at_most_one (never x) returns a b = only (never x) returns tt (alike (never x) returns a b)
  at_most_one (never x) returns_true a b = only (never x) returns_true tt (alike (never x) returns_true a b)
  at_most_one (never x) no_crash a b = only (never x) no_crash tt (alike (never x) no_crash a b)
  at_most_one (never x) no_deadlock a b = only (never x) no_deadlock tt (alike (never x) no_deadlock a b)
  at_most_one (never x) within_limit a b = only (never x) within_limit tt (alike (never x) within_limit a b)
  at_most_one (never x) (never y) a b =
      let rest = same_rest b.0 a.0 (sym b.1 ∙ a.1) in
      ap never (one_pattern names a.0 x y a.2 (subst (λ text. ReadsPattern names text y) rest b.2))

  -- no pattern follows `never:`, so the bytes are no property
  pub none_after : (text : List ℕ) → bytes ≡ codes "never:" ++ text → ((p : Pattern) → ReadsPattern names text p → ⊥)
      → (p : Property) → ReadsProperty names bytes p → ⊥
  none_after text e none returns h = subst IsBare (reports returns h ∙ ap reported e) tt
  none_after text e none returns_true h = subst IsBare (reports returns_true h ∙ ap reported e) tt
  none_after text e none no_crash h = subst IsBare (reports no_crash h ∙ ap reported e) tt
  none_after text e none no_deadlock h = subst IsBare (reports no_deadlock h ∙ ap reported e) tt
  none_after text e none within_limit h = subst IsBare (reports within_limit h ∙ ap reported e) tt
  none_after text e none (never p) h = none p
      (subst (λ rest. ReadsPattern names rest p) (same_rest h.0 text (sym h.1 ∙ e)) h.2)

  pub refused_after : (text : List ℕ) → bytes ≡ codes "never:" ++ text → (f : OrNoMemory Code)
      → IsNoPatternText names text f → IsNoPropertyText names bytes f
  refused_after text e NoMemory h = tt
  refused_after text e (Fault c) h = (h.0, none_after text e h.1)
