use Rattle.std.proofs.Common.{rules, ◌≡◌, ◌∷◌, ◌++◌, ap, sym, ◌∙◌, List, ℕ, append_assoc}
use Rattle.std.specs.Fmt.{decimal}
use Rattle.std.proofs.lemmas.Result.{on_ok_weaker}
use Rattle.pf_text.specs.Schedules.{schedule_text}
use Rattle.pf_text.proofs.Schedules.{after_commas, by_commas}
use Rattle.pf_text.proofs.numbers.put_schedule.Goals as goal

pub returns : goal.returns
returns c =
    let before = c.args.out.now.items in
    let n = c.in-Some.first.now in
    let ms = c.in-Some.others.now in
    let whole : c.args.numbers.now ≡ n ∷ ms = search rules in
    let first : c.put_number.new.out.items ≡ before ++ decimal n = search rules in
    let reported : (before ++ decimal n) ++ after_commas ms ≡ before ++ schedule_text c.args.numbers.now =
    append_assoc before (decimal n) (after_commas ms) ∙ ap (λ (t : List ℕ). before ++ t) (by_commas n ms)
    ∙ ap (λ (ns : List ℕ). before ++ schedule_text ns) (sym whole) in
    on_ok_weaker c.put_others.result (λ e. e ∙ ap (λ (t : List ℕ). t ++ after_commas ms) first ∙ reported)
    c.put_others.ensures
