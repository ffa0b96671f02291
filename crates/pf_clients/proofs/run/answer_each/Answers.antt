use denote.Param.{param, arg}
use denote.Exit.{no}
use Rattle.std.proofs.Common.{rules, ◌≡◌, length, get_or, subst, sym}
use Rattle.pf_clients.specs.contracts.client.Client as Client
use Rattle.pf_clients.specs.declared.client.Client as declared
use denote.Param.Send.{arg_send, param_send, sendable}
use Rattle.pf_farm.proofs.Crossing.{closure_sync, floor_sync}
use Rattle.pf_clients.proofs.Crossing.{client_send}
use Rattle.pf_clients.proofs.Pairs.{two_by_place}
use Rattle.pf_clients.specs.Served.{IsNew, IsServed}
use Rattle.pf_clients.proofs.run.answer_each.Goals as goal

pub for_each_mut-requires-send-T : goal.for_each_mut-requires-send-T
for_each_mut-requires-send-T g c κs within = param_send 1
    (arg _ no (Client.the_row (param 0 g.row.N) (param 2 g.row.S) (param 1 g.row.V) g.N.FarmNames))
    (arg_send _ no _ (client_send (param 0 g.row.N) (param 2 g.row.S) (param 1 g.row.V) g.N.FarmNames
    c.type_bounds.send-S c.type_bounds.send-V))

pub for_each_mut-requires-sync-F : goal.for_each_mut-requires-sync-F
for_each_mut-requires-sync-F g c κs within =
    closure_sync _ _ _ 2 _ _ _ _ _ c.type_bounds.sync-T (floor_sync (param 0 g.row.N) g.N.FarmNames)
    c.type_bounds.sync-G

pub for_each_mut-requires-clause-accepts : goal.for_each_mut-requires-clause-accepts
for_each_mut-requires-clause-accepts g c κs within i p inside at =
    let T : Type 0 = declared.Client g.row.N.Denot g.row.S.Denot g.row.V.Denot in
    let b = c.type_bounds in
    let is = subst (λ (x : T). IsNew x.seat x.replies x.reported.items) (sym at) (c.requires.new i p.now inside) in (
      is,
      (
        param_send 0 _ (arg_send _ no _ b.send-N),
        param_send 1 _ (arg_send _ no _ b.send-V),
        param_send 2 _ (arg_send _ no _ b.send-S),
        param_send 5 _ (arg_send _ no _ b.send-S-File),
        first_of (assumption b.sync-N, search (b.sync-N, sendable) depth 20),
        first_of (assumption b.sync-T, search (b.sync-T, sendable) depth 20),
        first_of (assumption b.sync-G, search (b.sync-G, sendable) depth 20),
      ),
    )

pub returns-clause-served : goal.returns-clause-served
returns-clause-served g c =
    let T : Type 0 = declared.Client g.row.N.Denot g.row.S.Denot g.row.V.Denot in
    let P : T → T → Type 0 =
    λ x y. IsServed g.S.Source.gives g.S.Source.lacks g.S.File.Read.remaining g.V.Write.contents x.source y.replies
    x.seat.project y.seat y.reported.items y.ended in
    let old = c.args.clients.now in
    let new = c.for_each_mut.new.s in
    let len : length new ≡ length old = search rules in
    two_by_place P 1 old new len
    (λ i d inside.
    let made = (c.for_each_mut.ensures i d inside).1 in
    let call : P made.argument.now made.after_call.now = first_of (assumption made.call, search (rules, made.call)) in
    subst (P (get_or old i d)) made.left (subst (λ x. P x made.after_call.now) made.argument_is call))
