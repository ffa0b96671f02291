-- A source is read in one way.
use Rattle.std.proofs.Common.{◌≡◌, inl, inr, ℕ, Bool, List, [], ◌∷◌, length, Ok, Err, refl, sym, ap, ap₂, ◌∙◌, subst}
use Rattle.std.proofs.Common.{arith}
use Rattle.pf_errors.specs.Codes.{rank_of}
use Rattle.pf_errors.specs.declared.code.Code.{Code}
use Rattle.pf_errors.specs.declared.code.Code.TheVariants.{NoHead, NotGrammar}
use Rattle.pf_errors.specs.declared.refusal.SourceRefusal.{SourceRefusal}
use Rattle.pf_errors.proofs.Ranks.{rank_apart}
use Rattle.pf_tokens.specs.TokenKinds.{PlacedToken}
use Rattle.pf_tokens.specs.Rules.{HasTokens, HasFault}
use Rattle.pf_tokens.specs.Scan.{Read}
use Rattle.pf_tokens.proofs.Texts.{tokens_again, tokens_fail}
use Rattle.pf_syntax.specs.Tree.{Function, FunctionClause}
use Rattle.pf_syntax.specs.Module.{Checked}
use Rattle.pf_syntax.specs.SyntaxTree.{Export, Head}
use Rattle.pf_syntax.specs.Naming.{Names, HeadIs}
use Rattle.pf_tokens.specs.NumberedTokens.{atoms_of, numbered_tokens}
use Rattle.pf_grammar.specs.Grammar.{HasHead, DerivesTree}
use Rattle.pf_syntax.specs.ExprModule.{Tree}
use Rattle.pf_grammar.proofs.Whole.{one_tree}
use Rattle.pf_rules.specs.Static.{faults_of, names_of_module, NotAfter, IsFirst}
use Rattle.pf_rules.specs.Checks.{Pairwise, FunctionIs, IsModule}
use Rattle.pf_check.specs.Reads.{ReadOutcome, refused, Reads, token_fault, no_head, no_tree, static, checked}
use Rattle.pf_check.specs.Reads.{SameOutcome, accepted_as}
use Rattle.pf_check.proofs.Apart.{apart}
use Rattle.pf_check.proofs.Unique.{Apart, one_head}

-- ---- tokens

one_list : (ts us : List PlacedToken) → ◌≡◌ {A = Read (List PlacedToken)} (Ok ts) (Ok us) → ts ≡ us
one_list ts us e = cc

one_error : (f g : Code) (m n : ℕ) → ◌≡◌ {A = Read (List PlacedToken)} (Err (f, m)) (Err (g, n)) → (f ≡ g) × (m ≡ n)
one_error f g m n e =
    let same : ◌≡◌ {A = Code × ℕ} (f, m) (g, n) = cc in
    (ap (λ (p : Code × ℕ). p.0) same, ap (λ (p : Code × ℕ). p.1) same)

one_tokens : (text : List ℕ) (ts us : List PlacedToken) → HasTokens text ts → HasTokens text us → us ≡ ts
one_tokens text ts us a b = one_list us ts (sym (tokens_again text us b) ∙ tokens_again text ts a)

one_fault : (text : List ℕ) (f g : Code) (m n : ℕ) → HasFault text f m → HasFault text g n → (f ≡ g) × (m ≡ n)
one_fault text f g m n a b = one_error f g m n (sym (tokens_fail text f m a) ∙ tokens_fail text g n b)

tokens_or_fault : (text : List ℕ) (ts : List PlacedToken) (f : Code) (m : ℕ) → HasTokens text ts → HasFault text f m → ⊥
tokens_or_fault text ts f m a b =
    let one = tokens_again text ts a in
    let other = tokens_fail text f m b in
    cc

-- ---- the first fault

same_offset : (f g : SourceRefusal) → NotAfter f g → NotAfter g f → (f.code ≡ g.code) × (f.offset ≡ g.offset)
same_offset f g (inl a) (inl b) = absurd (omega (arith, a, b))
same_offset f g (inl a) (inr b) = let e = b.0 in absurd (omega (arith, a, e))
same_offset f g (inr a) (inl b) = let e = a.0 in absurd (omega (arith, b, e))
same_offset f g (inr a) (inr b) =
    let e = a.1 in
    let k = b.1 in
    let same : rank_of f.code ≡ rank_of g.code = omega (arith, e, k) in
    (rank_apart f.code g.code same, a.0)

one_first : (all : List SourceRefusal) (f g : SourceRefusal) → IsFirst all f → IsFirst all g
    → (f.code ≡ g.code) × (f.offset ≡ g.offset)
one_first all f g a b = same_offset f g (a.1 g b.0) (b.1 f a.0)

none_first : (all : List SourceRefusal) (f : SourceRefusal) → all ≡ [] → IsFirst all f → ⊥
none_first all f e h =
    let k = h.0.1 in
    let z : length all ≡ 0 = ap length e in
    omega (arith, k, z)

-- ---- the module

one_each : {A B : Type 0} (R : A → B → Type 0) → ((a : A) (b c : B) → R a b → R a c → b ≡ c)
    → (xs : List A) (ys zs : List B) → Pairwise R xs ys → Pairwise R xs zs → ys ≡ zs
one_each R one [] [] [] h k = refl
one_each R one [] [] (z ∷ zs) h k = absurd k
one_each R one [] (y ∷ ys) zs h k = absurd h
one_each R one (x ∷ xs) [] zs h k = absurd h
one_each R one (x ∷ xs) (y ∷ ys) [] h k = absurd k
one_each R one (x ∷ xs) (y ∷ ys) (z ∷ zs) h k =
    ap₂ (λ c cs. c ∷ cs) (one x y z h.0 k.0) (one_each R one xs ys zs h.1 k.1)

same_parts : (a a2 k k2 : ℕ) (e e2 : Bool) (cs cs2 : List FunctionClause) → a ≡ a2 → k ≡ k2 → e ≡ e2 → cs ≡ cs2
    → ◌≡◌ {A = Function} (record { name = a; arity = k; exported = e; clauses = cs })
    (record { name = a2; arity = k2; exported = e2; clauses = cs2 })
same_parts a a2 k k2 e e2 cs cs2 h1 h2 h3 h4 = cc

one_function : (n : Names) → Apart n → (exports : List Export) (hs : List Head) (f g : Function)
    → FunctionIs n exports hs f → FunctionIs n exports hs g → f ≡ g
one_function n apart exports [] f g a b = absurd a
one_function n apart exports (h ∷ hs) f g a b =
    same_parts f.name g.name f.arity g.arity f.exported g.exported f.clauses g.clauses (a.0 ∙ sym b.0) (a.1 ∙ sym b.1)
    (a.2 ∙ sym b.2)
    (one_each (HeadIs n) (one_head n apart) (h ∷ hs) f.clauses g.clauses a.3 b.3)

-- without a fault no call is both of an own function and of a built-in one
one_module : (atoms : List (List ℕ)) (m : Tree) (c d : Checked) → faults_of atoms m ≡ [] → IsModule atoms m c
    → IsModule atoms m d
    → SameOutcome (accepted_as c) (accepted_as d)
one_module atoms m c d none a b =
    let n = names_of_module atoms m.functions in (
      a.name ∙ sym b.name,
      a.atoms_are ∙ sym b.atoms_are,
      one_each (FunctionIs n m.exports) (one_function n (apart atoms m none) m.exports) m.functions c.functions
          d.functions a.functions b.functions,
    )

-- ---- outcomes

module _ (bytes : List ℕ) where
  fault_only : (f : Code) (at : ℕ) → HasFault bytes f at → (p : ReadOutcome) → Reads bytes p
      → SameOutcome (refused f at) p
  fault_only f at h _ (token_fault g to k) = let e = one_fault bytes f g at to h k in (e.0, λ _. e.1)
  fault_only f at h _ (no_head us has none) = absurd (tokens_or_fault bytes us f at has h)
  fault_only f at h _ (no_tree us to has head none there) = absurd (tokens_or_fault bytes us f at has h)
  fault_only f at h _ (static us m g has derives first) = absurd (tokens_or_fault bytes us f at has h)
  fault_only f at h _ (checked us m c has derives none is) = absurd (tokens_or_fault bytes us f at has h)

  module _ (ts : List PlacedToken) (has : HasTokens bytes ts) where
    -- the same holds of the same tokens
    head_here : (us : List PlacedToken) → HasTokens bytes us → HasHead (atoms_of us) (numbered_tokens us)
        → HasHead (atoms_of ts) (numbered_tokens ts)
    head_here us k = subst (λ l. HasHead (atoms_of l) (numbered_tokens l)) (one_tokens bytes ts us has k)

    tree_here : (us : List PlacedToken) (m : Tree) → HasTokens bytes us
        → DerivesTree (atoms_of us) m (numbered_tokens us) → DerivesTree (atoms_of ts) m (numbered_tokens ts)
    tree_here us m k = subst (λ l. DerivesTree (atoms_of l) m (numbered_tokens l)) (one_tokens bytes ts us has k)

    head_of_tree : (us : List PlacedToken) (m : Tree) → HasTokens bytes us
        → DerivesTree (atoms_of us) m (numbered_tokens us) → HasHead (atoms_of ts) (numbered_tokens ts)
    head_of_tree us m k d = let e = tree_here us m k d in (m.name, e.rest, e.begins)

    headless_only : (HasHead (atoms_of ts) (numbered_tokens ts) → ⊥) → (p : ReadOutcome) → Reads bytes p
        → SameOutcome (refused NoHead 0) p
    headless_only h _ (token_fault g to k) = absurd (tokens_or_fault bytes ts g to has k)
    headless_only h _ (no_head us k none) = (refl, λ _. refl)
    headless_only h _ (no_tree us to k head none there) = absurd (h (head_here us k head))
    headless_only h _ (static us m g k derives first) = absurd (h (head_of_tree us m k derives))
    headless_only h _ (checked us m c k derives none is) = absurd (h (head_of_tree us m k derives))

    treeless_only : (at : ℕ) → HasHead (atoms_of ts) (numbered_tokens ts)
        → ((m : Tree) → DerivesTree (atoms_of ts) m (numbered_tokens ts) → ⊥)
        → (p : ReadOutcome) → Reads bytes p → SameOutcome (refused NotGrammar at) p
    treeless_only at head h _ (token_fault g to k) = absurd (tokens_or_fault bytes ts g to has k)
    treeless_only at head h _ (no_head us k none) =
        absurd (none (subst (λ l. HasHead (atoms_of l) (numbered_tokens l)) (sym (one_tokens bytes ts us has k)) head))
    treeless_only at head h _ (no_tree us to k other none there) = (refl, λ elsewhere. absurd (elsewhere refl))
    treeless_only at head h _ (static us m g k derives first) = absurd (h m (tree_here us m k derives))
    treeless_only at head h _ (checked us m c k derives none is) = absurd (h m (tree_here us m k derives))

    module _ (m : Tree) (derives : DerivesTree (atoms_of ts) m (numbered_tokens ts)) where
      no_head_not : (us : List PlacedToken) → HasTokens bytes us → (HasHead (atoms_of us) (numbered_tokens us) → ⊥) → ⊥
      no_head_not us k none =
          none (subst (λ l. HasHead (atoms_of l) (numbered_tokens l)) (sym (one_tokens bytes ts us has k))
          (m.name, derives.rest, derives.begins))

      no_tree_not : (us : List PlacedToken) → HasTokens bytes us
          → ((o : Tree) → DerivesTree (atoms_of us) o (numbered_tokens us) → ⊥) → ⊥
      no_tree_not us k none =
          none m (subst (λ l. DerivesTree (atoms_of l) m (numbered_tokens l))
          (sym (one_tokens bytes ts us has k)) derives)

      tree_is : (us : List PlacedToken) (o : Tree) → HasTokens bytes us
          → DerivesTree (atoms_of us) o (numbered_tokens us) → o ≡ m
      tree_is us o k d = one_tree (atoms_of ts) (numbered_tokens ts) o m (tree_here us o k d) derives

      -- what is true of the atoms and the tree that were read holds of these
      reported_here : (P : List (List ℕ) → Tree → Type 0) → (us : List PlacedToken) (o : Tree) → HasTokens bytes us
          → DerivesTree (atoms_of us) o (numbered_tokens us)
          → P (atoms_of us) o → P (atoms_of ts) m
      reported_here P us o k d h =
          subst (P (atoms_of ts)) (tree_is us o k d) (subst (λ l. P (atoms_of l) o) (one_tokens bytes ts us has k) h)

      static_only : (f : SourceRefusal) → IsFirst (faults_of (atoms_of ts) m) f → (p : ReadOutcome) → Reads bytes p
          → SameOutcome (refused f.code f.offset) p
      static_only f first _ (token_fault g to k) = absurd (tokens_or_fault bytes ts g to has k)
      static_only f first _ (no_head us k none) = absurd (no_head_not us k none)
      static_only f first _ (no_tree us to k head none there) = absurd (no_tree_not us k none)
      static_only f first _ (static us o g k d other) =
          let e = one_first (faults_of (atoms_of ts) m) f g first
          (reported_here (λ atoms tree. IsFirst (faults_of atoms tree) g) us o k d other) in
          (e.0, λ _. e.1)
      static_only f first _ (checked us o c k d none is) =
          absurd (none_first (faults_of (atoms_of ts) m) f
          (reported_here (λ atoms tree. faults_of atoms tree ≡ []) us o k d none) first)

      checked_only : (c : Checked) → faults_of (atoms_of ts) m ≡ [] → IsModule (atoms_of ts) m c → (p : ReadOutcome)
          → Reads bytes p → SameOutcome (accepted_as c) p
      checked_only c none is _ (token_fault g to k) = absurd (tokens_or_fault bytes ts g to has k)
      checked_only c none is _ (no_head us k h) = absurd (no_head_not us k h)
      checked_only c none is _ (no_tree us to k head h there) = absurd (no_tree_not us k h)
      checked_only c none is _ (static us o g k d other) =
          absurd (none_first (faults_of (atoms_of ts) m) g none
          (reported_here (λ atoms tree. IsFirst (faults_of atoms tree) g) us o k d other))
      checked_only c none is _ (checked us o b k d none_too is_too) =
          one_module (atoms_of ts) m c b none is (reported_here (λ atoms tree. IsModule atoms tree b) us o k d is_too)

  pub same_outcome : (o p : ReadOutcome) → Reads bytes o → Reads bytes p → SameOutcome o p
  same_outcome _ p (token_fault f at h) r = fault_only f at h p r
  same_outcome _ p (no_head ts has none) r = headless_only ts has none p r
  same_outcome _ p (no_tree ts at has head none there) r = treeless_only ts has at head none p r
  same_outcome _ p (static ts m f has derives first) r = static_only ts has m derives f first p r
  same_outcome _ p (checked ts m c has derives none is) r = checked_only ts has m derives c none is p r
