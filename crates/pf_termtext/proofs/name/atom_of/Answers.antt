use Rattle.std.proofs.Common.{◌≡◌, sym, Some, None, Option}
use Rattle.std.specs.Prelude.{option_map, IfSome, IfNone, slice_get, false}
use Rattle.std.specs.List.{list_any}
use Rattle.std.specs.Str.{bytes_eq}
use Rattle.pf_terms.specs.declared.atoms.AtomId.{AtomId}
use Rattle.pf_termtext.specs.Reading.{atom_of}
use Rattle.pf_termtext.proofs.Names.{atom_at, atom_absent}
use Rattle.pf_termtext.proofs.name.atom_of.Goals as goal

pub returns : goal.returns
returns c = by c.find.result c.find.ensures.found c.find.ensures.absent
  where
    by : (o : Option AtomId) → IfSome o (λ a. slice_get c.args.atoms.now a.0 ≡ Some c.args.name.now)
        → IfNone o (list_any (bytes_eq c.args.name.now) c.args.atoms.now ≡ false)
        → option_map (λ a. a.0) o ≡ atom_of c.args.atoms.now c.args.name.now
    by (Some a) found absent = sym (atom_at c.args.atoms.now c.args.name.now a.0 c.len-names.ensures.distinct found)
    by None found absent = sym (atom_absent c.args.atoms.now c.args.name.now absent)
