use Rattle.std.proofs.Common.{◌≡◌, ◌≤◌, ◌-◌, length}
use Rattle.pf_model.specs.Module.{module_of}
use Rattle.pf_compile_patterns.specs.Maker.{code_of}
use Rattle.pf_compile.proofs.Compiled.{AllEnter}
use Rattle.pf_compile.proofs.functions.compiled.Given as goal

-- the functions before this one are compiled
abbrev pub invariant-loop-function : goal.invariant-loop-function
invariant-loop-function l = record {
  entered : AllEnter (module_of l.code) (code_of l.maker) l.entries.items;
  counted : l.index ≡ length l.entries.items;
  within : l.index ≤ length l.code.functions;
}

abbrev pub decreases-loop-function : goal.decreases-loop-function
decreases-loop-function l = length l.code.functions - l.index
