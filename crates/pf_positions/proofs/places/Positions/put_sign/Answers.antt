use Rattle.std.proofs.Common.{◌≡◌, ◌+◌, ◌<◌, ◌∙◌, ℕ, Option, Some, ap, sym, subst, get_or, length, true, arith}
use Rattle.std.specs.Prelude.{slice_get, option_map}
use Rattle.std.proofs.lemmas.List.Sums.{count_by_more_no, count_by_more_yes}
use Rattle.std.proofs.lemmas.Option.{slice_get-get_or}
use Rattle.pf_syntax.specs.declared.node.NodeId.{NodeId}
use Rattle.pf_positions.specs.declared.spot.Spot.{Spot}
use Rattle.pf_positions.specs.declared.places.Position.{Position}
use Rattle.pf_positions.specs.Placed.{has_number}
use Rattle.pf_positions.proofs.Placing.{SoFar, ended, line_is, no_node, no_spot, other_sign, put_here}
use Rattle.pf_positions.proofs.places.Positions.put_sign.Goals.{then-has_number, in-Some+in_ok-put, in_default}
use Rattle.pf_positions.proofs.places.Positions.put_sign.Goals.{else-has_number}
use Rattle.pf_positions.proofs.places.Positions.put_sign.Goals as goal

pub loop-spot-preserved : goal.loop-spot-preserved
loop-spot-preserved c =
    let number = c.args.number in
    let spots = c.args.spots.now in
    let ws = c.args.written.now in
    let i = c.loop-spot.spot-index in
    let s = get_or spots i no_spot in
    let invariant = c.loop-spot.invariant in
    let lt : i < length spots = omega arith in
    let is_there : slice_get spots i ≡ Some s = slice_get-get_or spots i no_spot lt in
    elim c.if-has_number.branch [
      | then-has_number w ↦ (
          let has : has_number number s.sign ≡ true = sym c.has_number.ensures ∙ w.if-has_number.true in
          let ranked = w.rank-is ∙ ap (λ (n : ℕ). n + 1) invariant.rank_is
          ∙ sym (count_by_more_yes (λ (x : Spot). has_number number x.sign) spots i no_spot lt has) in
          elim w.match-spot.branch [
            | in-Some+in_ok-put w' ↦ (
                let line = line_is number spots ws i s.sign w.deref.result.now c.in_ok-lines.lines.items
                c.loop-spot.rank w.line_of-line.result has
                w.deref.ensures.value c.in_ok-lines.ensures invariant.rank_is w.line_of-line.ensures in
                let place : Position = record { function = s.function; line = w.line_of-line.result } in
                let put = put_here number spots ws i c.loop-spot.self w'.put.new.self s w'.in-Some.node.0 place is_there
                has (ap (option_map (λ (n : NodeId). n.0)) w'.in-Some.is)
                (ap (λ (l : Option ℕ). record { function = s.function; line = l }) line)
                w'.in_ok-put.ensures invariant.so_far in
                record {
                  rank_is = ranked;
                  so_far =
                      subst (SoFar number spots ws (i + 1)) (sym (w.self-is ∙ w'.self-is)) put;
                })
            | in_default w' ↦ (
                let none = no_node number spots ws i c.loop-spot.self s is_there
                (ap (option_map (λ (n : NodeId). n.0)) w'.in_default.is) invariant.so_far in
                record {
                  rank_is = ranked;
                  so_far =
                      subst (SoFar number spots ws (i + 1)) (sym (w.self-is ∙ w'.self-is)) none;
                })
          ])
      | else-has_number w ↦ (
          let other = sym c.has_number.ensures ∙ w.if-has_number.false in
          let same = other_sign number spots ws i c.loop-spot.self s is_there other invariant.so_far in
          record {
            rank_is = w.rank-is ∙ invariant.rank_is
                ∙ sym (count_by_more_no (λ (x : Spot). has_number number x.sign) spots i no_spot lt other);
            so_far = subst (SoFar number spots ws (i + 1)) (sym w.self-is) same;
          })
    ]

pub returns : goal.returns
returns c = ended c.args.number c.args.spots.now c.args.written.now c.loop-spot.spot-index c.loop-spot.self
    (omega arith) c.loop-spot.invariant.so_far
