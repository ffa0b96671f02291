use Rattle.std.proofs.Common.{sym, ap, subst}
use Rattle.std.specs.Prelude.{flat_map, []}
use Rattle.pf_syntax.specs.Scope.{no_scope}
use Rattle.pf_syntax.specs.ExprModule.{tree_of}
use Rattle.pf_rules.specs.Static.{defined_faults, export_fault, unlike_faults, head_faults, faults_of, names_of_module}
use Rattle.pf_static_check.specs.Earliest.{earliest_kept, IsLeastFault}
use Rattle.pf_static_check.specs.Marks.{KnowsScope, is_bound, is_marked_unsafe}
use Rattle.pf_static_check.proofs.Leasts.{first_of_all, reported_none, reported_some}
use Rattle.pf_static_check.proofs.faults.first_fault.Goals as goal

pub returns : goal.returns
returns c =
    let m = c.args.syntax.now in
    let all = faults_of c.args.atoms.now (tree_of m) in
    let nothing : KnowsScope c.new.result no_scope = record {
      bound = λ x. sym (ap is_bound (c.new.ensures.new x));
      unsafe = λ x. sym (ap is_marked_unsafe (c.new.ensures.new x));
    } in
    let least = first_of_all (defined_faults c.args.atoms.now [] m.functions)
    (flat_map (export_fault m.functions) m.exports) (flat_map unlike_faults m.functions)
    (flat_map (flat_map (head_faults (names_of_module c.args.atoms.now m.functions))) m.functions)
    (earliest_kept c.new-first.result) (earliest_kept c.own_functions.new.first)
    (earliest_kept c.note_exports.new.first) (earliest_kept c.note_unlike.new.first)
    (earliest_kept c.functions.new.self.first)
    c.new-first.ensures c.in_ok-own.ensures.found c.note_exports.ensures c.note_unlike.ensures
    (c.in_ok-functions.ensures.found nothing) in
    let reported = subst (IsLeastFault all) (sym c.found.ensures) least in
    record { none = reported_none c.found.result all reported; first = reported_some c.found.result all reported }
