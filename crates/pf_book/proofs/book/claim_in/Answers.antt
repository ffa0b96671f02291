use Rattle.std.proofs.Common.{refl, sym}
use Rattle.pf_desks.specs.Desk.{no_desk}
use Rattle.pf_book.proofs.Placed.{desk_at_index, no_desk_at, claims_at, no_claim, none_queued}
use Rattle.pf_book.proofs.book.claim_in.Goals as goal

pub returns-in-Some : goal.returns-in-Some
returns-in-Some c =
    let es = c.args.desks.now.entries in
    let q = c.args.project in
    let d = c.index_mut.result.now in
    let d' = c.claim.new.self in
    let at = desk_at_index q es es c.in-Some.index d (sym c.in-Some.ensures.index) c.index_mut.ensures.value refl in
    claims_at q es c.args.ticket d d' at.here _ (at.put d') at.same c.claim.result c.claim.ensures.claim

pub returns-in-None : goal.returns-in-None
returns-in-None c =
    let es = c.args.desks.now.entries in
    let q = c.args.project in
    no_claim q es c.args.ticket no_desk (no_desk_at q es es (sym c.in-None.ensures.index) refl)
    (none_queued c.args.ticket) es refl
