use Rattle.std.proofs.Common.{◌∷◌, [], length, ap, ◌∙◌, arith}
use Rattle.std.proofs.lemmas.List.{length-append}
use Rattle.std.proofs.lemmas.Option.{slice_get_within}
use Rattle.pf_syntax.specs.Over.{function_over}
use Rattle.pf_model.specs.Module.{module_of}
use Rattle.pf_compile_patterns.specs.Maker.{code_of}
use Rattle.pf_compile.proofs.Compiled.{next_enters, past_all, sound_for}
use Rattle.pf_compile.proofs.functions.compiled.Goals as goal

pub loop-function-preserved : goal.loop-function-preserved
loop-function-preserved c =
    let code = c.args.code.now in
    let es = c.loop-function.entries.items in
    let f = function_over code.tables c.in-Some.function.now in
    let pushed = c.in_ok-push-2.ensures.items in
    let longer = ap length pushed ∙ length-append es (c.in_ok-entry.entry ∷ []) in
    let below = slice_get_within code.functions c.loop-function.index f c.in-Some.ensures in
    record {
      entered = next_enters (module_of code) (code_of c.loop-function.maker) (code_of c.enter.new.maker) es
          c.push-in-Some.new.self.items f c.loop-function.index c.in_ok-entry.entry c.loop-function.invariant.entered
          c.loop-function.invariant.counted c.in-Some.ensures c.in_ok-entry.ensures pushed;
      counted = omega (arith, longer, c.loop-function.invariant.counted, c.in_ok-index.ensures);
      within = omega (arith, below, c.in_ok-index.ensures);
    }

pub returns-clause-sound : goal.returns-clause-sound
returns-clause-sound c =
    let past = past_all c.args.code.now.functions c.loop-function.index c.in_default.ensures in
    sound_for (module_of c.args.code.now) (code_of c.loop-function.maker) c.loop-function.entries.items
    c.loop-function.invariant.entered (omega (arith, past, c.loop-function.invariant.counted))

pub returns-clause-entries : goal.returns-clause-entries
returns-clause-entries c =
    let past = past_all c.args.code.now.functions c.loop-function.index c.in_default.ensures in
    omega (arith, past, c.loop-function.invariant.counted, c.loop-function.invariant.within)
