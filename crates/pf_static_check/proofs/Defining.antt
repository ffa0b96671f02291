-- Functions that are listed one after another, and their faults.
use Rattle.std.proofs.Common.{◌≡◌, ℕ, suc, ◌+◌, ◌≤◌, List, [], ◌∷◌, ◌++◌, length, take, Bool, true, false, cond, refl}
use Rattle.std.proofs.Common.{sym, ap, ◌∙◌, subst, arith}
use Rattle.std.specs.Prelude.{◌==◌, ◌&&◌, ◌||◌, not, nat_lt, is_some, Some, None, position, flat_map}
use Rattle.std.specs.List.{list_any, position_or_len}
use Rattle.std.proofs.lemmas.Bool.Decides.{nat_tests}
use Rattle.std.proofs.lemmas.List.{append-nil, take-append-drop, at_drop_all}
use Rattle.std.proofs.lemmas.List.Folds.{list_any-append}
use Rattle.std.proofs.lemmas.List.Sums.{fold-append}
use Rattle.pf_errors.specs.declared.refusal.SourceRefusal.{SourceRefusal}
use Rattle.pf_errors.specs.declared.code.Code.TheVariants.{DefinedTwice}
use Rattle.pf_syntax.specs.SyntaxTree.{Head}
use Rattle.pf_syntax.specs.Scope.{no_scope}
use Rattle.pf_rules.specs.Static.{fault_if, own_in, is_named_by_head, is_builtin, parameters_of, defined_faults}
use Rattle.pf_static_check.specs.Earliest.{earlier, earliest, earliest_kept}
use Rattle.pf_rules.specs.Listing.{ListsFunctions, lists}
use Rattle.pf_static_check.specs.Defines.{Defines, defined_fault}
use Rattle.pf_static_check.specs.Marks.{KnowsScope}
use Rattle.pf_static_check.specs.Walking.{BeginsAnew}
use Rattle.pf_static_check.specs.declared.first.FirstFault.{FirstFault}
use Rattle.pf_rules.specs.declared.signatures.Signatures.{Signatures}
use Rattle.pf_static_check.specs.declared.walk.ClauseWalk.{ClauseWalk}

-- ---- an offset, or none

some_cond : (b : Bool) (n : ℕ) → is_some (cond b (Some n) None) ≡ b
some_cond true n = refl
some_cond false n = refl

first_or_later : (b : Bool) (a n : ℕ) → nat_lt (cond (not b) (1 + a) 0) (suc n) ≡ (b || nat_lt a n)
first_or_later true a n = grind (arith, nat_tests)
first_or_later false a n = grind (arith, nat_tests)

offset_any : {X : Type 0} (p : X → Bool) (xs : List X) → nat_lt (position_or_len p xs) (length xs) ≡ list_any p xs
offset_any p [] = refl
offset_any p (x ∷ xs) = first_or_later (p x) (position_or_len p xs) (length xs) ∙ ap (λ (v : Bool). p x || v)
    (offset_any p xs)

pub some_position : {X : Type 0} (p : X → Bool) (xs : List X) → is_some (position p xs) ≡ list_any p xs
some_position p xs = some_cond (nat_lt (position_or_len p xs) (length xs)) (position_or_len p xs) ∙ offset_any p xs

-- one more function
own_push : (fs : List (List Head)) (hs : List Head) (f arity : ℕ)
    → is_some (own_in (fs ++ hs ∷ []) f arity) ≡ (is_some (own_in fs f arity) || is_named_by_head f arity hs)
own_push fs hs f arity =
    some_position (is_named_by_head f arity) (fs ++ hs ∷ []) ∙ list_any-append (is_named_by_head f arity) fs (hs ∷ [])
    ∙ ap (λ (v : Bool). list_any (is_named_by_head f arity) fs || v) (or_no (is_named_by_head f arity hs))
    ∙ ap (λ (v : Bool). v || is_named_by_head f arity hs) (sym (some_position (is_named_by_head f arity) fs))
  where
    or_no : (a : Bool) → (a || false) ≡ a
    or_no true = refl
    or_no false = refl

pub lists_nothing : (o : Signatures) → ((f arity : ℕ) → lists o f arity ≡ false) → ListsFunctions o []
lists_nothing o h = record { same = h }

-- ---- one function

pub defines : (atoms : List (List ℕ)) (h : Head) (hs : List Head) (k : ℕ) (old new : Signatures)
    (before after : FirstFault)
    → ((f a : ℕ) → lists new f a ≡ (lists old f a || ((h.name == f) && (k == a)))) → k ≡ parameters_of h.parameters
    → earliest_kept after ≡ earliest (earliest_kept before)
    (fault_if (lists old h.name k || is_builtin atoms h.name k) DefinedTwice h.offset)
    → Defines atoms (h ∷ hs) old new before after
defines atoms h hs k old new before after added e found =
    record {
      lists = λ fs l. record {
        same = λ f a.
            added f a ∙ ap (λ (v : Bool). v || ((h.name == f) && (k == a))) (l.same f a)
            ∙ ap (λ (n : ℕ). is_some (own_in fs f a) || ((h.name == f) && (n == a))) e ∙ sym (own_push fs (h ∷ hs) f a);
      };
      found = λ fs l.
          found
          ∙ ap (λ (v : Bool). earliest (earliest_kept before)
          (fault_if (v || is_builtin atoms h.name k) DefinedTwice h.offset)) (l.same h.name k)
          ∙ ap (λ (n : ℕ). earliest (earliest_kept before)
          (fault_if (is_some (own_in fs h.name n) || is_builtin atoms h.name n) DefinedTwice h.offset)) e;
    }

pub noted_fault : (b : Bool) (before after : FirstFault) (offset : ℕ) → b ≡ true
    → earliest_kept after ≡ earlier (earliest_kept before) (record { code = DefinedTwice; offset = offset })
    → earliest_kept after ≡ earliest (earliest_kept before) (fault_if b DefinedTwice offset)
noted_fault true before after offset e k = k
noted_fault false before after offset e k = absurd (cc)

pub noted_nothing : (b : Bool) (before : FirstFault) (offset : ℕ) → b ≡ false
    → earliest_kept before ≡ earliest (earliest_kept before) (fault_if b DefinedTwice offset)
noted_nothing true before offset e = absurd (cc)
noted_nothing false before offset e = refl

pub defines_nothing : (atoms : List (List ℕ)) (o : Signatures) (first : FirstFault) → Defines atoms [] o o first first
defines_nothing atoms o first = record {
  lists = λ fs l. record { same = λ f a. l.same f a ∙ sym (own_push fs [] f a ∙ or_no (is_some (own_in fs f a))) };
  found = λ fs l. refl;
}
  where
    or_no : (a : Bool) → (a || false) ≡ a
    or_no true = refl
    or_no false = refl

-- what was listed before is no fresh name
pub listed_before : (fresh a b : Bool) → fresh ≡ not a → fresh ≡ false → (a || b) ≡ true
listed_before fresh true b e f = refl
listed_before fresh false b e f = absurd (cc)

pub listed_builtin : (a b r : Bool) → r ≡ b → r ≡ true → (a || b) ≡ true
listed_builtin true b r e f = refl
listed_builtin false b r e f = sym e ∙ f

pub listed_nowhere : (fresh a b r : Bool) → fresh ≡ not a → fresh ≡ true → r ≡ b → r ≡ false → (a || b) ≡ false
listed_nowhere fresh true b r e f g h = absurd (cc)
listed_nowhere fresh false b r e f g h = sym g ∙ h

-- ---- functions one after another

-- those that are listed, and the faults of those that are left
pub record Defined (atoms : List (List ℕ)) (o : Signatures) (first now : FirstFault)
    (done left all : List (List Head)) : Type 0 where
  pub lists : ListsFunctions o done
  pub found : earliest (earliest_kept now) (defined_faults atoms done left) ≡ earliest (earliest_kept first)
      (defined_faults atoms [] all)

defined_next : (atoms : List (List ℕ)) (done left : List (List Head)) (hs : List Head)
    → defined_faults atoms done (hs ∷ left) ≡ defined_fault atoms done hs ++ defined_faults atoms (done ++ hs ∷ []) left
defined_next atoms done left [] = refl
defined_next atoms done left (h ∷ hs) = refl

pub defined_more : (atoms : List (List ℕ)) (o p : Signatures) (first now next : FirstFault)
    (done after rest left all : List (List Head)) (hs : List Head) → left ≡ hs ∷ rest → after ≡ done ++ hs ∷ []
    → Defined atoms o first now done left all → Defines atoms hs o p now next
    → Defined atoms p first next after rest all
defined_more atoms o p first now next done after rest left all hs e a d x =
    subst (λ (fs : List (List Head)). Defined atoms p first next fs rest all) (sym a) (record {
      lists = x.lists done d.lists;
      found =
          ap (λ k. earliest k (defined_faults atoms (done ++ hs ∷ []) rest)) (x.found done d.lists)
          ∙ sym (fold-append earlier (earliest_kept now) (defined_fault atoms done hs)
          (defined_faults atoms (done ++ hs ∷ []) rest))
          ∙ ap (earliest (earliest_kept now)) (sym (ap (defined_faults atoms done) e ∙ defined_next atoms done rest hs))
          ∙ d.found;
    })

-- the front of a list of which nothing is left
pub whole_front : {X : Type 0} (xs : List X) (i : ℕ) → length xs ≤ i → take i xs ≡ xs
whole_front xs i h = sym (append-nil (take i xs)) ∙ ap (λ r. take i xs ++ r) (sym (at_drop_all (λ ys. ys) xs i h))
    ∙ take-append-drop i xs

-- ---- parts that begin with no variable

-- the faults of the parts that are left
pub record Onward (old now : ClauseWalk) (left all : List SourceRefusal) : Type 0 where
  pub is_there : KnowsScope old.variables no_scope → KnowsScope now.variables no_scope
  pub found : KnowsScope old.variables no_scope
      → earliest (earliest_kept now.first) left ≡ earliest (earliest_kept old.first) all

pub onward_first : (w : ClauseWalk) (all : List SourceRefusal) → Onward w w all all
onward_first w all = record { is_there = λ st. st; found = λ st. refl }

pub onward_more : {X : Type 0} (F : X → List SourceRefusal) (old now next : ClauseWalk) (left rest : List X) (x : X)
    (all : List SourceRefusal) → left ≡ x ∷ rest → Onward old now (flat_map F left) all → BeginsAnew now next (F x)
    → Onward old next (flat_map F rest) all
onward_more F old now next left rest x all e u b = record {
  is_there = λ st. b.is_there (u.is_there st);
  found = λ st.
      ap (λ k. earliest k (flat_map F rest)) (b.found (u.is_there st))
      ∙ sym (fold-append earlier (earliest_kept now.first) (F x) (flat_map F rest))
      ∙ ap (λ xs. earliest (earliest_kept now.first) (flat_map F xs)) (sym e)
      ∙ u.found st;
}

pub onward_all : {X : Type 0} (F : X → List SourceRefusal) (old now : ClauseWalk) (left : List X)
    (all : List SourceRefusal) → left ≡ [] → Onward old now (flat_map F left) all → BeginsAnew old now all
onward_all F old now left all e u = record {
  is_there = u.is_there;
  found = λ st. ap (λ xs. earliest (earliest_kept now.first) (flat_map F xs)) (sym e) ∙ u.found st;
}
