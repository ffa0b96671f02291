-- Which file the word of a schedule names.
use Rattle.std.proofs.Common.{◌≡◌, ◌≢◌, ℕ, Bool, [], ◌∷◌, Option, Some, None, refl, ap, sym}
use Rattle.std.specs.Prelude.{MatchOption, ◌==◌, option_map, if◌then◌else◌}
use Rattle.std.proofs.lemmas.Bool.{ne_eqb}
use denote.Ref.{Bor}
use Rattle.clap.specs.Words.{Text}
use Rattle.pf_cli.specs.Args.{file_at}

unnamed : (c : ℕ) (name : Text) → ((rest : Text) → c ∷ name ≢ 64 ∷ rest) → None ≡ (if c == 64 then Some name else None)
unnamed c name h = sym (ap (λ (b : Bool). if b then Some name else None)
    (ne_eqb c 64 (λ e. h name (ap (λ (d : ℕ). d ∷ name) e))))

pub stripped : (word : Text) (r : Option (Bor Text))
    → MatchOption r ((rest : Text) → word ≢ 64 ∷ rest) (λ x. word ≡ 64 ∷ x.now)
    → option_map (λ s. s.now) r ≡ file_at word
stripped word (Some x) e = sym (ap file_at e)
stripped [] None h = refl
stripped (c ∷ name) None h = unnamed c name h
