use Rattle.std.proofs.Common.{◌≡◌, ◌++◌, ◌∙◌, List, ℕ, ap, append_assoc}
use Rattle.std.specs.Prelude.{codes}
use Rattle.std.specs.Fmt.{decimal}
use Rattle.std.proofs.lemmas.Result.{on_ok_weaker}
use Rattle.pf_command.proofs.stopping.put_stopped.Goals as goal

-- one text more, after those that are put
more : (o x y a b : List ℕ) → a ≡ o ++ x → b ≡ a ++ y → b ≡ o ++ (x ++ y)
more o x y a b e f = f ∙ ap (λ t. t ++ y) e ∙ append_assoc o x y

pub returns : goal.returns
returns c =
    let o = c.args.out.now.items in
    let s = codes "stopped after " in
    let n = decimal c.args.seeds in
    let one = more o s n _ _ c.in_ok-put.ensures.ok c.in_ok-put_number.ensures.ok in
    on_ok_weaker c.put-2.result (λ e. more o (s ++ n) (codes " seeds\n") _ _ one e) c.put-2.ensures.ok
