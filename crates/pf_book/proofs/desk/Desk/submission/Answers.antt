use Rattle.std.proofs.Common.{rules, ◌≡◌, ℕ, ◌+◌, List, length, None, refl, sym, ap, subst}
use Rattle.pf_quota.specs.declared.charges.Charge.TheVariants as charge
use Rattle.pf_quota.specs.Checks.{refusal_of}
use Rattle.pf_quota.specs.Usage.{charged}
use Rattle.pf_request.specs.Calls as calls
use Rattle.pf_store.specs.Sources.{Kept, HeldOnceMore}
use Rattle.pf_desks.specs.Desk as desk
use Rattle.pf_book.proofs.Followed.{follows_module}
use Rattle.pf_book.proofs.Planned.{source_planned}
use Rattle.pf_book.proofs.desk.Desk.submission.Goals as goal

pub returns-in_ok-source_held-in-Ok-clause-plan : goal.returns-in_ok-source_held-in-Ok-clause-plan
returns-in_ok-source_held-in-Ok-clause-plan c =
    let d = c.args.self.now in
    let u = c.args.usage in
    let s = c.in-Ok.module in
    let text = c.args.source in
    let read = c.in-Ok.ensures.read in
    let many : c.len.result ≡ length d.modules = search rules in
    let size : length c.bytes.result.now ≡ length text = ap length c.bytes.ensures in
    let own : c.edition.result ≡ d.edition = c.edition.ensures.edition in
    let within : refusal_of d.edition u (charge.Module (length text)) ≡ None = search rules in
    let uses : c.charge.new.self ≡ charged u (charge.Module (length text)) = search rules in
    let noted : c.in_ok-source_held-in-Ok.field-0 ≡ text = search rules in
    source_planned d u c.requires.charged _ text within s read.0 read.1 refl
    (ap (λ n. desk.number (n + 1)) many) uses
    (λ i. desk.called (calls.submit (noted i)) (desk.number (many i + 1)))

pub returns-in_ok-source_held-in-Ok-clause-store : goal.returns-in_ok-source_held-in-Ok-clause-store
returns-in_ok-source_held-in-Ok-clause-store c =
    let s = c.in-Ok.module in
    let same : c.source_held.new.store ≡ c.take_or_read.new.self = search rules in
    let held : HeldOnceMore s.source c.args.store.now c.take_or_read.new.self =
    subst (λ (l : List ℕ). HeldOnceMore l c.args.store.now c.take_or_read.new.self) (sym c.in-Ok.ensures.read.0)
    c.in-Ok.ensures.held in
    follows_module c.args.self.now c.args.store.now c.source_held.new.store s
    (subst (λ (k : Kept). HeldOnceMore s.source c.args.store.now k) (sym same) held)
