-- Which schedule a text has.
use Rattle.std.proofs.Common.{◌≡◌, ℕ, true, false, List, [], ◌∷◌, ◌++◌, drop, Option, Some, None}
use Rattle.std.proofs.Common.{unwrap_or, codes, map, refl, sym, ap, ◌∙◌, subst}
use Rattle.std.specs.Prelude.{option_map, MatchOption, if◌then◌else◌}
use Rattle.std.specs.Str.{IsCharBoundary, trim_end}
use Rattle.std.specs.Str.Lines.{lines}
use Rattle.std.specs.Str.Pattern.{FindsTextPrefix, StripsPrefix}
use Rattle.std.proofs.lemmas.List.{map-append}
use Rattle.std.proofs.lemmas.Str.Pattern.{starts_text}
use denote.Ref.{Bor}
use Rattle.pf_words.specs.Schedules.{last_reported, schedule_in, reported_in}

-- what a line has after the label
pub reported_from : (line : List ℕ) (r : Option (Bor (List ℕ)))
    → MatchOption r (FindsTextPrefix (codes "schedule ") line None)
    (λ x. StripsPrefix (FindsTextPrefix (codes "schedule ")) line x.now)
    → option_map (λ s. s.now) r ≡ reported_in line
reported_from line None h = ap (λ b. if b then Some (drop 9 line) else None) (starts_text false (codes "schedule ") line h)
reported_from line (Some x) h =
    ap Some (h.2 ∙ ap (λ n. drop n line) h.1.0)
    ∙ ap (λ b. if b then Some (drop 9 line) else None)
    (starts_text true (codes "schedule ") line (h.0, h.1, subst (IsCharBoundary line) (sym h.1.0) h.1.2))

-- one line more
pub last_more : (d : List ℕ) (ls : List (List ℕ)) (line : List ℕ)
    → last_reported d (ls ++ line ∷ []) ≡ unwrap_or (reported_in line) (last_reported d ls)
unfolding last_reported
last_more d [] line = refl
last_more d (l ∷ ls) line = last_more (unwrap_or (reported_in l) d) ls line

-- of the lines so far the last that holds a schedule has this one
abbrev pub IsLastOf : (found : Option (Bor (List ℕ))) → (passed : List (Bor (List ℕ))) → Type 0
IsLastOf found passed = (d : List ℕ) → last_reported d (map (λ x. x.now) passed)
    ≡ unwrap_or (option_map (λ s. s.now) found) d

pub none_passed : IsLastOf None []
unfolding last_reported
none_passed d = refl

module _ (found : Option (Bor (List ℕ))) (passed : List (Bor (List ℕ))) (line : Bor (List ℕ))
    (last : IsLastOf found passed) where
  more : (d : List ℕ) → last_reported d (map (λ x. x.now) (passed ++ line ∷ [])) ≡ unwrap_or (reported_in line.now)
      (unwrap_or (option_map (λ s. s.now) found) d)
  more d =
      ap (last_reported d) (map-append (λ x. x.now) passed (line ∷ [])) ∙ last_more d (map (λ x. x.now) passed) line.now
      ∙ ap (unwrap_or (reported_in line.now)) (last d)

  pub reported_now : (s : Bor (List ℕ)) → reported_in line.now ≡ Some s.now → IsLastOf (Some s) (passed ++ line ∷ [])
  reported_now s e d = more d ∙ ap (λ o. unwrap_or o (unwrap_or (option_map (λ s. s.now) found) d)) e

  pub reported_before : reported_in line.now ≡ None → IsLastOf found (passed ++ line ∷ [])
  reported_before e d = more d ∙ ap (λ o. unwrap_or o (unwrap_or (option_map (λ s. s.now) found) d)) e

-- all lines have passed
pub in_text : (text : List ℕ) (found : Option (Bor (List ℕ))) (passed : List (Bor (List ℕ))) → IsLastOf found passed
    → map (λ x. x.now) passed ≡ lines text
    → unwrap_or (option_map (λ s. s.now) found) (trim_end text) ≡ schedule_in text
unfolding schedule_in
in_text text found passed last all = sym (last (trim_end text)) ∙ ap (last_reported (trim_end text)) all
