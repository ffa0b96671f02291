-- Each mark and each reserved word is found in its table by how it is written.
use Rattle.std.proofs.Common.{◌≡◌, ℕ, ◌<◌, ltb, List, ◌++◌, length, Some, refl, sym, ap, ◌∙◌}
use Rattle.std.specs.Prelude.{slice_index}
use Rattle.std.specs.List.{find}
use Rattle.std.specs.Str.{bytes_eq}
use Rattle.std.proofs.lemmas.Bool.{ltb-true}
use Rattle.pf_tokens.specs.declared.bytes.Class.TheVariants.{Other}
use Rattle.pf_tokens.specs.declared.marks.TokenMark.{TokenMark}
use Rattle.pf_tokens.specs.declared.marks.TokenMark.TheVariants as symbols
use Rattle.pf_tokens.specs.declared.words.Reserved.{Reserved}
use Rattle.pf_tokens.specs.declared.words.Reserved.TheVariants as words
use Rattle.pf_tokens.specs.Bytes.{class_of}
use Rattle.pf_tokens.specs.TokenKinds.{mark_text, marks, reserved_text, reserved_of}
use Rattle.pf_tokens.proofs.Tables.{find_all}

-- a mark is found by its text
pub mark_found : (m : TokenMark) → find (λ other. bytes_eq (mark_text other) (mark_text m)) marks ≡ Some m
mark_found symbols.ExactlyEqual = refl
mark_found symbols.ExactlyUnequal = refl
mark_found symbols.Arrow = refl
mark_found symbols.Append = refl
mark_found symbols.Equal = refl
mark_found symbols.Unequal = refl
mark_found symbols.AtMost = refl
mark_found symbols.AtLeast = refl
mark_found symbols.Subtract = refl
mark_found symbols.Generator = refl
mark_found symbols.OpenParenthesis = refl
mark_found symbols.CloseParenthesis = refl
mark_found symbols.OpenBrace = refl
mark_found symbols.CloseBrace = refl
mark_found symbols.OpenBracket = refl
mark_found symbols.CloseBracket = refl
mark_found symbols.Comma = refl
mark_found symbols.Semicolon = refl
mark_found symbols.Bar = refl
mark_found symbols.Match = refl
mark_found symbols.Send = refl
mark_found symbols.Plus = refl
mark_found symbols.Minus = refl
mark_found symbols.Times = refl
mark_found symbols.Slash = refl
mark_found symbols.Less = refl
mark_found symbols.Greater = refl

-- a mark begins with a byte that begins nothing else
pub mark_class : (m : TokenMark) (rest : List ℕ) → class_of (slice_index (mark_text m ++ rest) 0) ≡ Other
mark_class symbols.ExactlyEqual rest = refl
mark_class symbols.ExactlyUnequal rest = refl
mark_class symbols.Arrow rest = refl
mark_class symbols.Append rest = refl
mark_class symbols.Equal rest = refl
mark_class symbols.Unequal rest = refl
mark_class symbols.AtMost rest = refl
mark_class symbols.AtLeast rest = refl
mark_class symbols.Subtract rest = refl
mark_class symbols.Generator rest = refl
mark_class symbols.OpenParenthesis rest = refl
mark_class symbols.CloseParenthesis rest = refl
mark_class symbols.OpenBrace rest = refl
mark_class symbols.CloseBrace rest = refl
mark_class symbols.OpenBracket rest = refl
mark_class symbols.CloseBracket rest = refl
mark_class symbols.Comma rest = refl
mark_class symbols.Semicolon rest = refl
mark_class symbols.Bar rest = refl
mark_class symbols.Match rest = refl
mark_class symbols.Send rest = refl
mark_class symbols.Plus rest = refl
mark_class symbols.Minus rest = refl
mark_class symbols.Times rest = refl
mark_class symbols.Slash rest = refl
mark_class symbols.Less rest = refl
mark_class symbols.Greater rest = refl

-- two marks that are written alike are one
pub one_mark : (a b : TokenMark) → mark_text a ≡ mark_text b → a ≡ b
one_mark a b e =
    let same : Some a ≡ Some b = sym (mark_found a) ∙ ap (λ t. find (λ other. bytes_eq (mark_text other) t) marks) e
    ∙ mark_found b in
    cc

-- no mark is empty
pub mark_some : (m : TokenMark) → 0 < length (mark_text m)
mark_some m = ltb-true 0 (length (mark_text m))
    (find_all (λ other. ltb 0 (length (mark_text other))) (λ other. bytes_eq (mark_text other) (mark_text m)) marks m
    refl (mark_found m))

-- a reserved word is found by its text
pub reserved_found : (r : Reserved) → reserved_of (reserved_text r) ≡ Some r
reserved_found words.After = refl
reserved_found words.And = refl
reserved_found words.Andalso = refl
reserved_found words.Band = refl
reserved_found words.Begin = refl
reserved_found words.Bnot = refl
reserved_found words.Bor = refl
reserved_found words.Bsl = refl
reserved_found words.Bsr = refl
reserved_found words.Bxor = refl
reserved_found words.Case = refl
reserved_found words.Catch = refl
reserved_found words.Cond = refl
reserved_found words.Div = refl
reserved_found words.End = refl
reserved_found words.Fun = refl
reserved_found words.If = refl
reserved_found words.Let = refl
reserved_found words.Not = refl
reserved_found words.Of = refl
reserved_found words.Or = refl
reserved_found words.Orelse = refl
reserved_found words.Receive = refl
reserved_found words.Rem = refl
reserved_found words.Try = refl
reserved_found words.When = refl
reserved_found words.Xor = refl
