use Rattle.std.proofs.Common.{◌≡◌, length, false, Some, sym}
use Rattle.std.specs.Prelude.{slice_get}
use Rattle.std.specs.List.{list_any}
use Rattle.std.specs.Str.{bytes_eq}
use Rattle.pf_terms.specs.Atoms.{name_of}
use Rattle.pf_terms.specs.Order.{Distinguishes}
use Rattle.pf_syntax.specs.Over.{function_over}
use Rattle.pf_syntax.proofs.Roots.{no_atom, no_function, no_slot, exported, not_exported}
use Rattle.pf_syntax.proofs.module.Module.root.Goals as goal

pub returns-in_err-atom : goal.returns-in_err-atom
returns-in_err-atom c =
    let m = c.args.self.now in
    let absent : list_any (bytes_eq c.args.name.now) m.atoms ≡ false =
    rw c.atoms-2.ensures at c.in_err-atom.ensures.absent in
    rw c.from_residual.ensures (sym (no_atom c.args.name.now m.atoms m.functions absent))

pub returns-in_err-id : goal.returns-in_err-id
returns-in_err-id c =
    let m = c.args.self.now in
    let apart : Distinguishes (name_of m.atoms) (length m.atoms) = rw c.atoms.ensures at c.len-names.ensures.distinct in
    let named : slice_get m.atoms c.in_ok-atom.atom.0 ≡ Some c.args.name.now =
    rw c.atoms-2.ensures at c.in_ok-atom.ensures.found in
    rw c.from_residual-in_err-id.ensures (sym (no_function c.args.name.now m.atoms m.functions c.in_ok-atom.atom.0 apart
    named c.in_err-id.ensures))

pub returns-in_err-function : goal.returns-in_err-function
returns-in_err-function c =
    let m = c.args.self.now in
    let apart : Distinguishes (name_of m.atoms) (length m.atoms) = rw c.atoms.ensures at c.len-names.ensures.distinct in
    let named : slice_get m.atoms c.in_ok-atom.atom.0 ≡ Some c.args.name.now =
    rw c.atoms-2.ensures at c.in_ok-atom.ensures.found in
    rw c.from_residual-in_err-function.ensures
    (sym (no_slot c.args.name.now m.atoms m.functions c.in_ok-atom.atom.0 apart named c.in_ok-id.id.0
    c.in_ok-id.ensures c.in_err-function.ensures))

pub returns-then-function : goal.returns-then-function
returns-then-function c =
    let m = c.args.self.now in
    let apart : Distinguishes (name_of m.atoms) (length m.atoms) = rw c.atoms.ensures at c.len-names.ensures.distinct in
    let named : slice_get m.atoms c.in_ok-atom.atom.0 ≡ Some c.args.name.now =
    rw c.atoms-2.ensures at c.in_ok-atom.ensures.found in
    sym (exported c.args.name.now m.atoms m.functions c.in_ok-atom.atom.0 apart named c.in_ok-id.id.0
    (function_over m.tables c.in_ok-function.function.now) c.in_ok-id.ensures c.in_ok-function.ensures
    c.if-function.true)

pub returns-else-function : goal.returns-else-function
returns-else-function c =
    let m = c.args.self.now in
    let apart : Distinguishes (name_of m.atoms) (length m.atoms) = rw c.atoms.ensures at c.len-names.ensures.distinct in
    let named : slice_get m.atoms c.in_ok-atom.atom.0 ≡ Some c.args.name.now =
    rw c.atoms-2.ensures at c.in_ok-atom.ensures.found in
    sym (not_exported c.args.name.now m.atoms m.functions c.in_ok-atom.atom.0 apart named c.in_ok-id.id.0
    (function_over m.tables c.in_ok-function.function.now) c.in_ok-id.ensures c.in_ok-function.ensures
    c.if-function.false)
