-- The texts of a module that is read.
use Rattle.std.proofs.Common.{ℕ, List, [], refl, sym, subst}
use Rattle.pf_terms.specs.Atoms.{name_of}
use Rattle.pf_check.specs.Reads.{ReadOutcome, accepted, refused, Reads, token_fault, no_head, no_tree, static, checked}
use Rattle.pf_laws.specs.Printable.{ReadModulesPrintVisibly}
use Rattle.pf_laws.proofs.Names.{AreQuotable, atoms_quotable, name_quotable}
use Rattle.pf_laws.proofs.Texts.{prints_visibly}

-- the atoms of a source that is a module
abbrev atoms_in : ReadOutcome → List (List ℕ)
atoms_in (accepted name atoms functions) = atoms
atoms_in (refused code at) = []

read_quotable : (bytes : List ℕ) (o : ReadOutcome) → Reads bytes o → AreQuotable (atoms_in o)
read_quotable bytes _ (token_fault code at h) = refl
read_quotable bytes _ (no_head ts has h) = refl
read_quotable bytes _ (no_tree ts at has head h i) = refl
read_quotable bytes _ (static ts m f has tree h) = refl
read_quotable bytes _ (checked ts m c has tree none is) =
    subst AreQuotable (sym is.atoms_are) (atoms_quotable bytes ts has)

pub read_modules_print_visibly : ReadModulesPrintVisibly
read_modules_print_visibly bytes name atoms functions h =
    prints_visibly (name_of atoms) (λ a. name_quotable atoms a (read_quotable bytes (accepted name atoms functions) h))
