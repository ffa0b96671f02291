use Rattle.std.proofs.Common.{◌≡◌, ◌+◌, List, vec_len, sym, ap, ◌∙◌, subst}
use Rattle.pf_request.specs.Job.{Job}
use Rattle.pf_farm_accounts.specs.declared.row.ClaimRow.{ClaimRow}
use Rattle.pf_farm_accounts.specs.Receipts.{EachOnce, gathering_of}
use Rattle.pf_book.specs.Profile.{ForRight}
use Rattle.pf_farm_laws.specs.Reported.{AgreesWithHistories}
use Rattle.pf_farm_state.specs.Clients.{all_receipts}
use Rattle.pf_farm_state.proofs.Grown.{saw_truly}
use Rattle.pf_farm_state.proofs.hall.Hall.settle.Goals as goal

pub returns-clause-reported : goal.returns-clause-reported
returns-clause-reported g c =
    subst (λ (x : List (ClaimRow Job)). ForRight (λ p. AgreesWithHistories x c.self.inside.book))
    (sym c.settle-2.ensures.rows) (λ p right. (c.self.invariant.0.0 p right).0)

pub returns-clause-receipts : goal.returns-clause-receipts
returns-clause-receipts g c =
    let log = c.self.inside.calls in
    let reported = all_receipts c.close-seats.result.items in
    let all : c.close-seats.new.gathering ≡ gathering_of log reported (c.args.calls.parts + vec_len c.args.clients) =
    c.close-seats.ensures.gathered ∙ ap (λ k. gathering_of k.log reported (k.parts + vec_len c.args.clients))
    c.gather-gathering.ensures in
    let once : EachOnce reported log = subst (λ k. EachOnce k.receipts k.log) all c.settle.ensures.once in
    λ p right. (log, once, (c.self.invariant.0.0 p right).1)

pub returns-clause-looks : goal.returns-clause-looks
returns-clause-looks g c = saw_truly c.self.inside.book c.self.inside.stopped c.self.inside.looks
    c.close-seats.result.items c.self.invariant.1 c.close-seats.ensures.among
