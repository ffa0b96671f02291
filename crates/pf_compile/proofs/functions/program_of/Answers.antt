use Rattle.std.proofs.Common.{◌≡◌, ℕ, List, length, map, ap, ◌∙◌, subst}
use Rattle.pf_terms.specs.Term.{value_of}
use Rattle.pf_model.specs.Module.{module_of}
use Rattle.pf_code.specs.declared.instruction.Instruction.{Instruction}
use Rattle.pf_fuse.specs.Fused.{StaysSound}
use Rattle.pf_compile.proofs.functions.program_of.Goals as goal

pub returns-clause-sound : goal.returns-clause-sound
returns-clause-sound c =
    let made = c.in_ok-made.made in
    let fused = c.in_ok-fused.fused in
    let js = fused.instructions.items in
    let fs = fused.entries.items in
    let first : StaysSound made.instructions.items c.deref-2.result.now js fs =
    subst (λ (is : List Instruction). StaysSound is c.deref-2.result.now js fs) c.deref.ensures.value
    c.in_ok-fused.ensures.sound in
    let stays : StaysSound made.instructions.items made.entries.items js fs =
    subst (λ (es : List ℕ). StaysSound made.instructions.items es js fs) c.deref-2.ensures.value first in
    stays (module_of c.args.code.now) (map value_of made.constants.items) c.in_ok-made.ensures.entries
    c.in_ok-made.ensures.sound

pub returns-clause-entries : goal.returns-clause-entries
returns-clause-entries c =
    c.in_ok-fused.ensures.count ∙ ap length c.deref-2.ensures.value ∙ c.in_ok-made.ensures.entries
