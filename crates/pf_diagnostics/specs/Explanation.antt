-- The text that explains a refusal.
use Rattle.std.specs.Prelude.{ℕ, List, [], ◌∷◌, ◌++◌, Option, None, Some, take, drop, codes, flat_map}
use Rattle.std.specs.Fmt.{decimal}
use Rattle.pf_diagnostics.specs.Positions.{line_number, column}
use Rattle.pf_diagnostics.specs.Shown.{shown_line, caret_line}
use Rattle.pf_diagnostics.specs.declared.advice.Advice.{Advice}
use Rattle.pf_diagnostics.specs.declared.advice.Rewrite.{Rewrite}

-- words on a line of their own
abbrev pub line : List ℕ → List ℕ
line words = words ++ 10 ∷ []

-- the line and the column of a position, by the bytes before it
abbrev pub position_text : (front : List ℕ) → List ℕ
position_text front = codes "line " ++ decimal (line_number front) ++ codes ", column " ++ decimal (column front)

-- what is in the source, in an example, and what is written in its place
abbrev pub rewrite_text : Option Rewrite → List ℕ
rewrite_text None = []
rewrite_text (Some r) = line (codes "  instead of  " ++ r.instead.now) ++ line (codes "  write       " ++ r.write.now)

-- of a source and what is said of a position in it: the position, its line, a caret below the position, the sentence,
-- and the example if there is one; a position past the end is the end
abbrev pub explanation : (source : List ℕ) → Advice → List ℕ
explanation source a =
    let front = take a.position source in
    let after = drop a.position source in
    line (position_text front) ++ line (shown_line front after) ++ line (caret_line front) ++ line a.sentence.now
    ++ rewrite_text a.rewrite

-- of several things that are said of a source: the first, and each other one after an empty line
abbrev pub explanations : (source : List ℕ) → List Advice → List ℕ
explanations source [] = []
explanations source (a ∷ others) = explanation source a ++ flat_map (λ b. line [] ++ explanation source b) others
