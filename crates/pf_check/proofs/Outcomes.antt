-- A source whose tokens have a tree is read as its checked module, or as the first fault of that.
use Rattle.std.proofs.Common.{◌≡◌, ℕ, List, [], subst}
use Rattle.std.specs.Prelude.{Result, Ok, Err, IfOk, IfErr}
use Rattle.pf_errors.specs.declared.fault.OrNoMemory.{OrNoMemory}
use Rattle.pf_errors.specs.declared.fault.OrNoMemory.TheVariants.{NoMemory, Fault}
use Rattle.pf_errors.specs.declared.refusal.SourceRefusal.{SourceRefusal}
use Rattle.pf_errors.specs.declared.code.Code.{Code}
use Rattle.pf_errors.specs.declared.code.Code.TheVariants.{NoHead, NotGrammar}
use Rattle.pf_tokens.specs.TokenKinds.{PlacedToken}
use Rattle.pf_tokens.specs.Rules.{HasTokens, IsFaultOf}
use Rattle.pf_syntax.specs.Module.{Checked}
use Rattle.pf_tokens.specs.NumberedTokens.{atoms_of, numbered_tokens}
use Rattle.pf_grammar.specs.Grammar.{DerivesTree}
use Rattle.pf_syntax.specs.ExprModule.{Tree}
use Rattle.pf_reader.specs.Outcome.{IsRefusedSource, IsTreeFault}
use Rattle.pf_rules.specs.Static.{faults_of}
use Rattle.pf_rules.specs.Checks.{IsModule}
use Rattle.pf_rules.specs.Formed.{AreFormed}
use Rattle.pf_check.proofs.Derived.{tree_formed}
use Rattle.pf_check.specs.Reads.{Reads, token_fault, no_head, no_tree, static, checked, refused, accepted_as, IsFirstOf}
use Rattle.pf_check.specs.Reads.{IsRefusalOf}
use Rattle.std.proofs.Common.{length, sym}

-- ---- where there is no tree

pub tokens_refused : (bytes : List ℕ) (f : OrNoMemory SourceRefusal) → IsFaultOf bytes f → IsRefusalOf bytes f
tokens_refused bytes NoMemory h = tt
tokens_refused bytes (Fault r) h = token_fault r.code r.offset h

module _ (bytes : List ℕ) (ts : List PlacedToken) (has : HasTokens bytes ts) where
  grammar_refused : (code : Code) (offset : ℕ)
      → IsRefusedSource (atoms_of ts) (numbered_tokens ts) (length bytes) code offset
      → Reads bytes (refused code offset)
  grammar_refused NoHead offset h = subst (λ at. Reads bytes (refused NoHead at)) (sym h.1) (no_head ts has h.0)
  grammar_refused NotGrammar offset h = no_tree ts offset has h.0 h.1 h.2
  grammar_refused _ offset h = absurd h

  pub tree_refused : (f : OrNoMemory SourceRefusal) → IsTreeFault (atoms_of ts) (numbered_tokens ts) (length bytes) f
      → IsRefusalOf bytes f
  tree_refused NoMemory h = tt
  tree_refused (Fault r) h = grammar_refused r.code r.offset h

-- ---- where there is one

module _ (bytes : List ℕ) (ts : List PlacedToken) (atoms : List (List ℕ)) (m : Tree) (has : HasTokens bytes ts)
    (e : atoms ≡ atoms_of ts) (derives : DerivesTree (atoms_of ts) m (numbered_tokens ts)) where
  pub reads_module : (r : Result Checked (OrNoMemory SourceRefusal))
      → IfOk r (λ c. (faults_of atoms m ≡ []) × (AreFormed m.functions → IsModule atoms m c))
      → IfOk r (λ c. Reads bytes (accepted_as c))
  reads_module (Ok c) h =
      let both = subst (λ (names : List (List ℕ)). (faults_of names m ≡ []) × (AreFormed m.functions
      → IsModule names m c)) e h in
      checked ts m c has derives both.0 (both.1 (tree_formed (atoms_of ts) m (numbered_tokens ts) derives))
  reads_module (Err f) h = tt

  refused_first : (f : OrNoMemory SourceRefusal) → IsFirstOf (faults_of (atoms_of ts) m) f → IsRefusalOf bytes f
  refused_first NoMemory h = tt
  refused_first (Fault r) h = static ts m r has derives h

  pub reads_fault : (r : Result Checked (OrNoMemory SourceRefusal)) → IfErr r (IsFirstOf (faults_of atoms m))
      → IfErr r (IsRefusalOf bytes)
  reads_fault (Ok c) h = tt
  reads_fault (Err f) h = refused_first f (subst (λ (names : List (List ℕ)). IsFirstOf (faults_of names m) f) e h)
