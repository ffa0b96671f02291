use Rattle.std.proofs.Common.{rules, ◌≡◌, ℕ, true, List, [], ◌∷◌, ◌++◌, length, map, refl, sym, ap, subst}
use Rattle.std.specs.Prelude.{All}
use lib.ListN.{take, drop}
use Rattle.pf_farm.specs.Seats.{AllIdle, IsRing}
use Rattle.pf_clients.specs.declared.client.Client.{Client}
use Rattle.pf_clients.specs.Farms.{client_text}
use Rattle.pf_clients.specs.Pairs.{EachTwo}
use Rattle.pf_clients.specs.Served.{IsNew, IsServed}
use Rattle.pf_clients.proofs.Lines.{not_false}
use Rattle.pf_clients.proofs.Printed.{at_true}
use Rattle.pf_clients.proofs.Served.{farm_answered, farm_leaves, farm_prints}
use Rattle.pf_clients.proofs.run.run_farm.Goals as goal

front : {X : Type 0} (xs zs : List X) → take (length xs) (xs ++ zs) ≡ xs
front [] zs = refl
front (x ∷ xs) zs = ap (λ l. x ∷ l) (front xs zs)

-- what is written over the whole of a list is all that is left
whole : {X : Type 0} (n : ℕ) (xs ys : List X) → length xs ≡ n → take n (xs ++ drop (length xs) ys) ≡ xs
whole n xs ys len = subst (λ k. take k (xs ++ drop (length xs) ys) ≡ xs) len (front xs (drop (length xs) ys))

pub serve-begun-requires-clause-new : goal.serve-begun-requires-clause-new
serve-begun-requires-clause-new g c κs within =
    let T : Type 0 = Client g.row.N.Denot g.row.S.Denot g.row.V.Denot in
    subst (λ cs. All (λ (k : T). IsNew k.seat k.replies k.reported.items) cs) (sym c.deref_mut.ensures.value)
    c.in_ok-clients.ensures.new

pub close-closing-requires-clause-ring : goal.close-closing-requires-clause-ring
close-closing-requires-clause-ring g c =
    let now = c.serve-begun.new.seats in
    let len : length now ≡ c.in_ok-farm.field-0.seats.len = search rules in
    let was : c.deref_mut-2.result.now ≡ c.in_ok-farm.field-0.seats.items = c.deref_mut-2.ensures.value in
    subst IsRing (sym (whole c.in_ok-farm.field-0.seats.len now c.in_ok-farm.field-0.seats.items len))
    (c.serve-begun.ensures.ring (subst IsRing (sym was) c.in_ok-farm.ensures.ring))

pub close-closing-requires-clause-idle : goal.close-closing-requires-clause-idle
close-closing-requires-clause-idle g c =
    let now = c.serve-begun.new.seats in
    let len : length now ≡ c.in_ok-farm.field-0.seats.len = search rules in
    subst AllIdle (sym (whole c.in_ok-farm.field-0.seats.len now c.in_ok-farm.field-0.seats.items len))
    c.serve-begun.ensures.idle

pub returns-clause-answered : goal.returns-clause-answered
returns-clause-answered g c =
    let T : Type 0 = Client g.row.N.Denot g.row.S.Denot g.row.V.Denot in
    let gives = g.S.Source.gives in
    let lacks = g.S.Source.lacks in
    let remaining = g.S.File.Read.remaining in
    let contents = g.V.Write.contents in
    let vec = c.in_ok-clients.clients in
    let now = c.serve-begun.new.clients in
    let len : length now ≡ vec.len = search rules in
    let lent : c.deref_mut.result.now ≡ vec.items = c.deref_mut.ensures.value in
    let begun : c.serve-begun.result ≡ true = first_of (assumption c.if-not-begun.false, search (rules, not_false)) in
    let Served : T → T → Type 0 = λ x y. IsServed gives lacks remaining contents x.source y.replies
    x.seat.project y.seat y.reported.items y.ended in
    let served : EachTwo (λ k. Served) 1 vec.items now = subst (λ cs. EachTwo (λ k. Served) 1 cs now) lent
    (at_true c.serve-begun.result begun c.serve-begun.ensures.served) in
    let close = c.close-closing.ensures in
    let farm = farm_answered gives lacks remaining contents (λ (x : T). x.seat) (λ (x : T). x.source)
    (λ (x : T). x.replies) (λ (x : T). x.reported) (λ (x : T). x.ended)
    c.args.sources.items vec.items now
    (take vec.len (now ++ drop (length now) vec.items)) c.close-closing.result c.parted-reported.result.seats.items
    c.parted-reported.result.answers.items c.parted-reported.result.replies.items c.in_ok-clients.ensures.seated served
    (whole vec.len now vec.items len) c.parted-reported.ensures.seats c.parted-reported.ensures.answers
    c.parted-reported.ensures.replies close.seats
    close.receipts c.look_up.ensures close.full close.looks close.ended close.reported in
    farm_prints (λ k. gives) (λ k. lacks) remaining contents c.args.sources.items
    c.parted-reported.result.replies.items
    (map client_text c.parted-reported.result.answers.items) farm
    (g.W.Write.contents c.args.writer.now.inner)
    (g.W.Write.contents c.write_all-status.new.writer.inner) c.write_all-status.result
    c.write_all-status.ensures.printed

pub returns-clause-fault : goal.returns-clause-fault
returns-clause-fault g c =
    let T : Type 0 = Client g.row.N.Denot g.row.S.Denot g.row.V.Denot in
    let gives = g.S.Source.gives in
    let lacks = g.S.Source.lacks in
    let remaining = g.S.File.Read.remaining in
    let contents = g.V.Write.contents in
    let vec = c.in_ok-clients.clients in
    let now = c.serve-begun.new.clients in
    let len : length now ≡ vec.len = search rules in
    let lent : c.deref_mut.result.now ≡ vec.items = c.deref_mut.ensures.value in
    let begun : c.serve-begun.result ≡ true = first_of (assumption c.if-not-begun.false, search (rules, not_false)) in
    let Served : T → T → Type 0 = λ x y. IsServed gives lacks remaining contents x.source y.replies
    x.seat.project y.seat y.reported.items y.ended in
    let served : EachTwo (λ k. Served) 1 vec.items now = subst (λ cs. EachTwo (λ k. Served) 1 cs now) lent
    (at_true c.serve-begun.result begun c.serve-begun.ensures.served) in
    let close = c.close-closing.ensures in
    let farm = farm_answered gives lacks remaining contents (λ (x : T). x.seat) (λ (x : T). x.source)
    (λ (x : T). x.replies) (λ (x : T). x.reported) (λ (x : T). x.ended)
    c.args.sources.items vec.items now
    (take vec.len (now ++ drop (length now) vec.items)) c.close-closing.result c.parted-reported.result.seats.items
    c.parted-reported.result.answers.items c.parted-reported.result.replies.items c.in_ok-clients.ensures.seated served
    (whole vec.len now vec.items len) c.parted-reported.ensures.seats c.parted-reported.ensures.answers
    c.parted-reported.ensures.replies close.seats
    close.receipts c.look_up.ensures close.full close.looks close.ended close.reported in
    farm_leaves (λ k. gives) (λ k. lacks) remaining contents c.args.sources.items
    c.parted-reported.result.replies.items
    (map client_text c.parted-reported.result.answers.items) farm
    (g.W.Write.contents c.args.writer.now.inner)
    (g.W.Write.contents c.write_all-status.new.writer.inner) c.args.writer.now.failures.total
    c.write_all-status.new.writer.failures.total c.write_all-status.result c.write_all-status.ensures.in_part
