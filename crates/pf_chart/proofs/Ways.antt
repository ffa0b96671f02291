-- Signals that are sent and end.
use Rattle.std.proofs.Common.{◌≡◌, ℕ, ◌++◌, Option, sym, ap, ◌∙◌, subst}
use Rattle.std.specs.Prelude.{option_to_list}
use Rattle.std.specs.BTreeMap.{get}
use Rattle.pf_chart.specs.Traffic.{IsDelivered, KeepsOthers, Reaches, Way, items_of, waiting_signals, way_order}
use Rattle.pf_chart.specs.declared.arrows.Arrow.{Arrow}
use Rattle.pf_chart.specs.declared.on_way.OnWay.{OnWay}
use Rattle.pf_chart.specs.declared.traffic.Traffic.{Traffic}

-- nothing was written
pub same_waiting : (o p : OnWay) (w : Way) → p.ways ≡ o.ways → waiting_signals p w ≡ waiting_signals o w
same_waiting o p w e = ap (λ ws. items_of (λ q. q.items) (get way_order ws w)) e

pub same_others : (o p : OnWay) (w : Way) → p.ways ≡ o.ways → KeepsOthers w o p
same_others o p w e = λ v h. same_waiting o p v e

-- a signal of a way was taken, and its arrow ended
pub delivered : (w : Way) (a : Arrow) (s t : Traffic) (o : Option ℕ) (p : OnWay)
    → waiting_signals s.on_way w ≡ option_to_list o ++ waiting_signals p w
    → KeepsOthers w s.on_way p → t.on_way ≡ p → Reaches o a s.arrows.items t.arrows.items → IsDelivered w a s t
delivered w a s t o p first others same reaches = (
  o,
  first ∙ ap (λ (q : OnWay). option_to_list o ++ waiting_signals q w) (sym same),
  subst (λ (q : OnWay). KeepsOthers w s.on_way q) (sym same) others,
  reaches,
)
