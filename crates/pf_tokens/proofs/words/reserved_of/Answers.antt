use Rattle.std.proofs.Common.{◌≡◌, ◌∷◌, [], ◌∙◌, ◌≤◌, ℕ, List, Option, Some, None, length, get_or, drop, refl, sym}
use Rattle.std.proofs.Common.{subst, arith, rules, tests, option_map}
use Rattle.std.specs.List.{find}
use Rattle.std.specs.Str.{bytes_eq}
use Rattle.std.proofs.lemmas.Iterator.{YieldsList-from_slice}
use Rattle.std.proofs.lemmas.Iterator.Consumers.{YieldsList-from_copied}
use Rattle.std.proofs.lemmas.Iterator.Search.{find_from_yields_List}
use Rattle.pf_tokens.specs.declared.words.Reserved.{Reserved}
use Rattle.pf_tokens.specs.TokenKinds.{reserved_text, reserved_of}
use Rattle.pf_tokens.proofs.words.reserved_of.Goals as goal

-- a text of two bytes at least has a first
begins : (bytes : List ℕ) → 2 ≤ length bytes → bytes ≡ get_or bytes 0 0 ∷ drop 1 bytes
begins [] few = absurd (omega (arith, few))
begins (b ∷ bs) few = refl

same : {X : Type 0} (o : Option X) → option_map (λ x. x) o ≡ o
same None = refl
same (Some x) = refl

pub returns : goal.returns
returns c =
    let bytes = c.args.word.now in
    let test = λ (r : Reserved). bytes_eq (reserved_text r) bytes in
    let found : option_map (λ x. x) c.find.result ≡ find test c.beginning_with.result.now =
    find_from_yields_List test _ _ c.find.result c.find.ensures.ran
    (YieldsList-from_copied (YieldsList-from_slice c.beginning_with.result.now cc))
    (λ x b q k. search (rules, tests)) in
    let whole = begins bytes c.in-len2-up.len_at_least in
    let one = subst (λ (bs : List ℕ). find (λ (r : Reserved). bytes_eq (reserved_text r) bs) c.beginning_with.result.now
    ≡ reserved_of bs) (sym whole) (c.beginning_with.ensures (drop 1 bytes)) in
    sym (same c.find.result) ∙ found ∙ one
