use Rattle.std.proofs.Common.{◌≡◌, ◌++◌, ◌∙◌, List, ℕ, ap, append_assoc}
use Rattle.std.specs.Prelude.{codes}
use Rattle.std.specs.Fmt.{decimal}
use Rattle.std.proofs.lemmas.Result.{on_ok_weaker}
use Rattle.pf_command.specs.Hunts.{verdict_text}
use Rattle.pf_command.proofs.seeds.put_row.Goals as goal

-- one text more, after those that are put
more : (o x y a b : List ℕ) → a ≡ o ++ x → b ≡ a ++ y → b ≡ o ++ (x ++ y)
more o x y a b e f = f ∙ ap (λ t. t ++ y) e ∙ append_assoc o x y

pub returns : goal.returns
returns c =
    let o = c.args.out.now.items in
    let row = c.args.row.now in
    let v = verdict_text row.verdict in
    let n = decimal row.count in
    let s = codes " seeds, least " in
    let l = decimal row.least in
    let t = codes ": " in
    let one = more o v n _ _ c.in_ok-put_verdict.ensures c.in_ok-put_number.ensures.ok in
    let two = more o (v ++ n) s _ _ one c.in_ok-put.ensures.ok in
    let three = more o (v ++ n ++ s) l _ _ two c.in_ok-put_number-2.ensures.ok in
    let four = more o (v ++ n ++ s ++ l) t _ _ three c.in_ok-put-2.ensures.ok in
    on_ok_weaker c.put_met.result (λ e. more o (v ++ n ++ s ++ l ++ t) _ _ _ four e) c.put_met.ensures
