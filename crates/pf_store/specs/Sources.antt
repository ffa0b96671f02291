-- The sources that are held, and how many hold the module of each.
use Rattle.std.specs.Prelude.{◌≡◌, ℕ, ◌+◌, ◌≤◌, if◌then◌else◌, List, All, unwrap_or}
use Rattle.std.specs.Map.{lookup}
use Rattle.std.specs.Str.{bytes_eq}

-- the sources that are kept, each with how many hold its module
abbrev pub Kept : Type 0
Kept = List (List ℕ × ℕ)

-- how many hold the module of a source: none where it isn't kept
abbrev pub holders : Kept → List ℕ → ℕ
holders kept source = unwrap_or (lookup (bytes_eq source) kept) 0

-- HeldOnceMore source k k': one more holds the module of a source, and each other source as many as before
abbrev pub HeldOnceMore : List ℕ → Kept → Kept → Type 0
HeldOnceMore source k k' = (s : List ℕ) → holders k' s ≡ holders k s + (if bytes_eq source s then 1 else 0)

-- HeldOnceLess source k k': one that held it gave it up
abbrev pub HeldOnceLess : List ℕ → Kept → Kept → Type 0
HeldOnceLess source k k' = HeldOnceMore source k' k

-- nothing is kept that nobody holds
abbrev pub IsAllHeld : Kept → Type 0
IsAllHeld kept = All (λ e. 1 ≤ e.1) kept
