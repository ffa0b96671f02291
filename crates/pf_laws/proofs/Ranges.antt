-- What tests of a range decide.
use Rattle.std.proofs.Common.{◌≡◌, ◌↔◌, ℕ, ◌≤◌, Bool, true, ◌&&◌, List, ap₂}
use Rattle.std.specs.Prelude.{nat_le}
use Rattle.std.proofs.lemmas.Bool.{and_parts, le-leb, leb-true}
use Rattle.pf_model.specs.Limits.{is_in_range}
use Rattle.pf_model.specs.Meaning.{weighted_seed}
use Rattle.pf_request.specs.Request.{may_shrink, may_weigh, shrink}

-- two tests hold together
both : (a b : Bool) → a ≡ true → b ≡ true → (a && b) ≡ true
both a b = ap₂ (λ x y. x && y)

range : (low high n : ℕ) → ((nat_le low n && nat_le n high) ≡ true) ↔ ((low ≤ n) × (n ≤ high))
range low high n = (
  λ e. let p = and_parts (nat_le low n) (nat_le n high) e in (leb-true low n p.0, leb-true n high p.1),
  λ h. both (nat_le low n) (nat_le n high) (le-leb low n h.0) (le-leb n high h.1),
)

pub runs : (schedule : List ℕ) (runs : ℕ) → (may_shrink (shrink schedule runs) ≡ true) ↔ ((1 ≤ runs) × (runs ≤ 1000))
runs schedule k = range 1 1000 k

pub in_range : (limit choices : ℕ) → (is_in_range limit choices ≡ true) ↔
    ((1 ≤ limit) × (limit ≤ 100000) × (choices ≤ 100000))
in_range limit choices = (
  λ e.
      let a = and_parts (nat_le 1 limit) (nat_le limit 100000 && nat_le choices 100000) e in
      let b = and_parts (nat_le limit 100000) (nat_le choices 100000) a.1 in
      (leb-true 1 limit a.0, leb-true limit 100000 b.0, leb-true choices 100000 b.1),
  λ h.
      both (nat_le 1 limit) (nat_le limit 100000 && nat_le choices 100000) (le-leb 1 limit h.0)
      (both (nat_le limit 100000) (nat_le choices 100000) (le-leb limit 100000 h.1) (le-leb choices 100000 h.2)),
)

pub weights : (seed run deliver : ℕ) → (may_weigh (weighted_seed seed run deliver) ≡ true) ↔
    ((1 ≤ run) × (run ≤ 9) × (1 ≤ deliver) × (deliver ≤ 9))
weights seed run deliver = (
  λ e.
      let a = and_parts (nat_le 1 run) (nat_le run 9 && (nat_le 1 deliver && nat_le deliver 9)) e in
      let b = and_parts (nat_le run 9) (nat_le 1 deliver && nat_le deliver 9) a.1 in
      let d = (range 1 9 deliver).0 b.1 in
      (leb-true 1 run a.0, leb-true run 9 b.0, d.0, d.1),
  λ h.
      both (nat_le 1 run) (nat_le run 9 && (nat_le 1 deliver && nat_le deliver 9)) (le-leb 1 run h.0)
      (both (nat_le run 9) (nat_le 1 deliver && nat_le deliver 9) (le-leb run 9 h.1)
      ((range 1 9 deliver).1 (h.2, h.3))),
)
