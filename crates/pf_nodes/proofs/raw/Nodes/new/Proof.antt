-- `new` makes an owner of nothing.
use Rattle.std.proofs.Common.{◌≡◌, [], ◌∷◌, refl}
use mir.MapTy.{inst_fn}
use mir.Val.{Val}
use base.Logic.{SProp, emp}
use base.Fml.{ftrue, flft}
use contract.Monad.{fact, fact_i}
use contract.Running.{tables}
use types.Kit.{‵, raw, ◌⊛◌, ◌$◌, ◌∵◌, !, qed, by, move, keep, split, use0, fjoin}
use types.Part.{agg}
use types.Run.{no_more, and_then, returns, enter}
use types.ByLocal.{alloc_all, pass_all, free_all, look_at, get, sets}
use denote.RattleType.{owns}
use denote.Signature.{types_at}
use denote.Steps.{nothing}
use denote.Triple.Walked.{Stays, walk_of}
use Rattle.std.proofs.raw_atomic.Walks.{proved_at, leaves}
use Rattle.pf_nodes.proofs.Memory.{args, Sr, Mark, mark, mark_made}
use Rattle.pf_nodes.specs.contracts.raw.Nodes.new.{ended, clauses}
use Rattle.pf_nodes.specs.contracts.raw.Nodes.new.Key.{name as #self}
use Rattle.pf_nodes.proofs.raw.Nodes.new.Statement.{statement}
use Rattle.pf_nodes.proofs.raw.Nodes.new.Code as code

pub new_spec : {M : Type 1} → statement M
new_spec 𝓤 𝓛 𝓜 𝓡 wired T L =
    let 𝓣 = tables 𝓤 𝓛.H 𝓜 𝓡 𝓡.env in let En = ended T in let c = clauses T 𝓛 𝓜.mem 𝓡.returns in
    let hs : Stays En.signature.params En.kept = tt in let fn = inst_fn (args T) code.function in
    proved_at 𝓛 En hs c 𝓜 𝓡 tt (#self (args T)) fn (code.unfolded 𝓤 𝓛.H 𝓜 𝓡 wired (T, tt)) (λ z are.
    let κs = z.0.0 in let qs = z.0.1 in let Post : Val → SProp 𝓤 = (walk_of 𝓛 En hs c).post z in
    let made : (Sr T).Denot = record { mark = record {}; items = [] } in
    qed 𝓛 (((‵ (flft κs.0 qs.0) ⊛ ‵ ftrue) ⊛ ‵ (owns (types_at En.signature.params κs) z.0.3 z.0.4))
    ∷ raw ((c κs z.0.3).requires z.1) ∷ []) ∵ split ! $ keep ! (0 ∷ []) $
    enter ! 𝓣.C 𝓣.Λ fn [] Post $ alloc_all ! (λ l. pass_all ! refl tt $
    sets ! (agg ! (no_more !)) refl (tt, tt) $ sets ! (agg ! (and_then ! (get ! refl) (no_more !))) refl
    (tt, (tt, tt)) $
    returns ! (look_at ! 0 refl) $ free_all ! refl $
    use0 𝓛 (raw (fact 𝓤 (made.items ≡ []))) (fact_i 𝓤 (made.items ≡ []) (emp 𝓤) refl) $
    nothing ! $ use0 𝓛 (‵ ((Mark T).own_val (tt, tt) (mark ∷ []))) (mark_made T 𝓛) $ fjoin ! $ nothing !
    $ move ! (3 ∷ 0 ∷ 1 ∷ 2 ∷ []) $
    by ! (leaves 𝓛 En hs c z mark made tt tt)))
