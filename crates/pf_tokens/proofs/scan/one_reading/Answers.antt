use Rattle.std.proofs.Common.{◌≡◌, ◌⊎◌, inl, inr, ℕ, List, Ok, Err, sym, ap, ◌∙◌}
use Rattle.pf_errors.specs.declared.code.Code.{Code}
use Rattle.pf_tokens.specs.TokenKinds.{PlacedToken}
use Rattle.pf_tokens.specs.Rules.{HasSomeTokens, HasSomeFault}
use Rattle.pf_tokens.specs.Scan.{Read, tokens}
use Rattle.pf_tokens.proofs.Texts.{Reports, tokens_report, tokens_again, tokens_fail}
use Rattle.pf_tokens.proofs.scan.one_reading.Goals as goal

-- what is read is tokens or a fault
some : (text : List ℕ) (read : Read (List PlacedToken)) → Reports text read → HasSomeTokens text ⊎ HasSomeFault text
some text (Ok ts) reports = inl (ts, reports)
some text (Err e) reports = inr (e.0, e.1, reports)

abbrev found : List PlacedToken → Read (List PlacedToken)
found ts = Ok ts

one_list : (ts us : List PlacedToken) → found ts ≡ found us → ts ≡ us
one_list ts us e = cc

abbrev failed : Code → ℕ → Read (List PlacedToken)
failed fault offset = Err (fault, offset)

one_fault : (f g : Code) (m n : ℕ) → failed f m ≡ failed g n → (f ≡ g) × (m ≡ n)
one_fault f g m n e =
    let same : ◌≡◌ {A = Code × ℕ} (f, m) (g, n) = cc in
    (ap (λ (p : Code × ℕ). p.0) same, ap (λ (p : Code × ℕ). p.1) same)

pub returns-clause-either : goal.returns-clause-either
returns-clause-either c text = some text (tokens text) (tokens_report text)

pub returns-clause-apart : goal.returns-clause-apart
returns-clause-apart c text some none =
    let one = tokens_again text some.0 some.1 in
    let other = tokens_fail text none.0 none.1 none.2 in
    cc

pub returns-clause-tokens : goal.returns-clause-tokens
returns-clause-tokens c text ts us a b = one_list ts us (sym (tokens_again text ts a) ∙ tokens_again text us b)

pub returns-clause-fault : goal.returns-clause-fault
returns-clause-fault c text f g m n a b = one_fault f g m n (sym (tokens_fail text f m a) ∙ tokens_fail text g n b)
