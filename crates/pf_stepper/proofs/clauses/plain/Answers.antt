use Rattle.std.proofs.Common.{rules, ◌≡◌, length, ap, ◌∙◌, refl}
use Rattle.pf_syntax.specs.Over.{patterns_at}
use Rattle.pf_stepper.specs.Plain.{all_new}
use Rattle.pf_stepper.proofs.Plain.{none_in, single}
use Rattle.pf_stepper.proofs.clauses.plain.Goals as goal

pub returns-then-binds_anything : goal.returns-then-binds_anything
returns-then-binds_anything c =
    let x = c.index-clauses-0.result in
    let one : length c.args.clauses.now ≡ 1 = search rules in
    let free : length x.guard.alternatives.items ≡ 0 = search rules in
    let many : length x.parameters.items ≡ c.args.count = search rules in
    let new : patterns_at c.args.code.now.tables x.parameters.items ≡ all_new (length x.parameters.items) =
    search rules in
    record {
      only = x;
      whole = single c.args.clauses.now x one c.index-clauses-0.is;
      unguarded = none_in x.guard.alternatives.items free;
      takes = new ∙ ap all_new many;
      is = refl;
    }
