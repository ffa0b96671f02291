use Rattle.std.proofs.Common.{◌≡◌, ℕ, List, ◌+◌, ◌≤◌, ◌++◌, ◌∷◌, [], length, take, sym, ap, ◌∙◌, subst, arith}
use Rattle.std.proofs.lemmas.List.{take_all}
use Rattle.pf_syntax.specs.SyntaxTreeOver.{heads_over}
use Rattle.pf_syntax.specs.Over.{function_over}
use Rattle.std.specs.Prelude.{flat_map}
use Rattle.pf_rules.specs.Static.{names_of_module, head_faults}
use Rattle.pf_rules.specs.Formed.{FunctionFormed}
use Rattle.pf_rules.specs.Checks.{FunctionIs}
use Rattle.pf_lower.proofs.Knows_more.{next_function, length_mapped}
use Rattle.pf_lower.proofs.Heads_mean.{EachFunction, one_function_more, functions_are}
use Rattle.pf_lower.proofs.build.add_each.Goals as goal

pub loop-read-preserved : goal.loop-read-preserved
loop-read-preserved c =
    let i = c.loop-read.invariant in
    let b = c.args.syntax.now.node_table in
    let fs = c.args.syntax.now.functions in
    let es = c.args.syntax.now.exports in
    let n = names_of_module c.args.module.now.atoms fs in
    let d = c.in_ok-one.ensures in
    let added = c.in_ok-add_function.ensures.added in
    let k = c.loop-read.read-index in
    let made = function_over c.function.new.module.tables c.in_ok-one.one in
    let hs = heads_over b c.read-item.result in
    let means = subst (λ (a : List (List ℕ)). FunctionFormed hs → flat_map (head_faults (names_of_module a fs)) hs ≡ []
    → FunctionIs (names_of_module a fs) es hs made) (d.grown.atoms ∙ i.atoms) d.answer.means in
    let longer = one_function_more n es (take k fs) c.loop-read.module.functions hs made i.functions means in
    record {
      name = ap (λ m. m.name) added ∙ d.grown.name ∙ i.name;
      atoms = ap (λ m. m.atoms) added ∙ d.grown.atoms ∙ i.atoms;
      unbound = d.bound_is;
      functions =
          subst (EachFunction n es (take (k + 1) fs))
          (sym (ap (λ m. m.functions) added ∙ ap (λ l. l ++ made ∷ []) d.grown.functions))
          (subst (λ l. EachFunction n es l (c.loop-read.module.functions ++ made ∷ []))
          (sym (next_function b c.functions-read-items.result.now fs k c.read-item.result
          c.functions-read-items.ensures (omega arith) c.read-item.is)) longer);
    }

pub returns : goal.returns
returns c =
    let i = c.loop-read.invariant in
    let b = c.args.syntax.now.node_table in
    let fs = c.args.syntax.now.functions in
    let es = c.args.syntax.now.exports in
    let n = names_of_module c.args.module.now.atoms fs in
    let long : length fs ≤ c.loop-read.read-index =
    omega (
      arith,
      ap length c.functions-read-items.ensures,
      length_mapped (heads_over b) c.functions-read-items.result.now,
    ) in
    let each : EachFunction n es fs c.loop-read.module.functions =
    subst (λ l. EachFunction n es l c.loop-read.module.functions)
    (take_all c.loop-read.read-index fs long) i.functions in
    record { name = i.name; atoms = i.atoms; means = functions_are n es fs c.loop-read.module.functions each }
