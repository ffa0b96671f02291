use Rattle.std.proofs.Common.{◌≡◌, ℕ, List, Result, Ok, Err, Vec, Global, length, IfOk, IfErr, subst}
use Rattle.std.specs.Prelude.{map}
use Rattle.pf_tokens.specs.declared.token.Token.{Token}
use Rattle.pf_errors.specs.declared.fault.OrNoMemory.{OrNoMemory}
use Rattle.pf_errors.specs.declared.refusal.SourceRefusal.{SourceRefusal}
use Rattle.pf_errors.specs.declared.fault.OrNoMemory.TheVariants.{NoMemory, Fault}
use Rattle.pf_tokens.specs.TokenKinds.{PlacedToken, placed_of}
use Rattle.pf_tokens.specs.Rules.{HasTokens, IsOrdered, IsFaultOf}
use Rattle.pf_tokens.specs.Scan.{Read, Gives, tokens}
use Rattle.pf_tokens.proofs.Texts.{Reports, tokens_report, tokens_again, tokens_fail, ordered}
use Rattle.pf_tokens.proofs.scan.tokens.Goals as goal

abbrev Outcome : Type 0
Outcome = Result (Vec Token Global) (OrNoMemory SourceRefusal)

abbrev IsRead : List ℕ → Outcome → Type 0
IsRead text r = Gives (λ found. map placed_of found.items) r (tokens text)

has_tokens : (text : List ℕ) (r : Outcome) → IsRead text r
    → IfOk r (λ found. HasTokens text (map placed_of found.items))
has_tokens text (Ok v) is = subst (Reports text) is (tokens_report text)
has_tokens text (Err e) is = tt

in_order : (text : List ℕ) (r : Outcome) → IsRead text r
    → IfOk r (λ found. IsOrdered 0 (map placed_of found.items) (length text))
in_order text (Ok v) is = ordered text (map placed_of v.items) (has_tokens text (Ok v) is)
in_order text (Err e) is = tt

has_fault : (text : List ℕ) (r : Outcome) → IsRead text r → IfErr r (IsFaultOf text)
has_fault text (Ok v) is = tt
has_fault text (Err NoMemory) is = tt
has_fault text (Err (Fault r)) is = subst (Reports text) is (tokens_report text)

gives : (text : List ℕ) (r : Outcome) (read : Read (List PlacedToken)) → tokens text ≡ read → IsRead text r
    → Gives (λ found. map placed_of found.items) r read
gives text r read same is = subst (Gives (λ found. map placed_of found.items) r) same is

pub returns-clause-only : goal.returns-clause-only
returns-clause-only c ts h = gives c.args.source.now c.read.result (Ok ts)
    (tokens_again c.args.source.now ts h) c.read.ensures

pub returns-clause-only_fault : goal.returns-clause-only_fault
returns-clause-only_fault c fault offset h = gives c.args.source.now c.read.result (Err (fault, offset))
    (tokens_fail c.args.source.now fault offset h) c.read.ensures

pub returns-clause-found : goal.returns-clause-found
returns-clause-found c = has_tokens c.args.source.now c.read.result c.read.ensures

pub returns-clause-ordered : goal.returns-clause-ordered
returns-clause-ordered c = in_order c.args.source.now c.read.result c.read.ensures

pub returns-clause-fault : goal.returns-clause-fault
returns-clause-fault c = has_fault c.args.source.now c.read.result c.read.ensures
