-- A scan of a mailbox, from its oldest message.
use Rattle.std.proofs.Common.{◌≡◌, ℕ, suc, ◌+◌, ◌<◌, ◌≤◌, List, [], ◌∷◌, ◌++◌, map, length, take, drop, get_or, Some}
use Rattle.std.proofs.Common.{None, refl, sym, ap, ◌∙◌, subst, arith}
use Rattle.std.specs.List.{remove}
use Rattle.std.proofs.lemmas.List.{take_all, take_more, drop_more, take-append-drop}
use Rattle.std.proofs.lemmas.Option.{slice_get_read}
use Rattle.pf_terms.specs.Value.{Value}
use Rattle.pf_terms.specs.Term.{value_of}
use Rattle.pf_terms.specs.declared.term.Term.{Term}
use Rattle.pf_syntax.specs.Tree.{Clauses}
use Rattle.pf_syntax.specs.Module.{Checked}
use Rattle.pf_syntax.specs.Over.{part_over}
use Rattle.pf_syntax.specs.declared.node.Operand.{Operand}
use Rattle.pf_patterns.specs.Slots.{activation}
use Rattle.pf_patterns.specs.Substitution.{sub, sub_clauses}
use Rattle.pf_model.specs.Module.{Module, module_of}
use Rattle.pf_model.specs.Contraction.{picked}
use Rattle.pf_model.specs.Receive.{ReceiveTakes, and_before, taken_or_later, selected, FitsNone}
use Rattle.pf_model.proofs.Receives.{receive_is_a_relation}
use Rattle.pf_stepper.specs.MicroSteps.{Picked}
use Rattle.pf_stepper.specs.Selected.{TakesMessage, TakesNothing}

map_append : (xs ys : List Term) → map value_of (xs ++ ys) ≡ map value_of xs ++ map value_of ys
map_append [] ys = refl
map_append (x ∷ xs) ys = ap (λ l. value_of x ∷ l) (map_append xs ys)

next : (i : ℕ) → suc i ≡ i + 1
next i = omega arith

-- two readings of one index
pub same_read : (xs : List Term) (i : ℕ) (x y : Term) → i < length xs → x ≡ get_or xs i x → y ≡ get_or xs i y → x ≡ y
same_read xs i x y h e f = let a = slice_get_read xs (length xs) i x refl h e in
    let b = slice_get_read xs (length xs) i y refl h f in cc

module _ (m : Module) (own : ℕ) (ks : Clauses) where
  fits_push : (vs : List Value) (v : Value) → FitsNone m own ks vs → picked m own ks v ≡ None
      → FitsNone m own ks (vs ++ v ∷ [])
  fits_push [] v h e = (e, tt)
  fits_push (w ∷ vs) v h e = (h.0, fits_push vs v h.1 e)

  -- no clause picks any, so none is selected
  none_selected : (vs : List Value) → FitsNone m own ks vs → selected m own ks vs ≡ None
  none_selected [] h = refl
  none_selected (v ∷ vs) h = ap (λ o. taken_or_later o v vs (selected m own ks vs)) h.0 ∙ ap (and_before v)
      (none_selected vs h.1)

-- no clause picks any of these messages
abbrev pub Passed : Checked → ℕ → ℕ → List Term → Clauses → List Term → Type 0
Passed m own base env ks xs = FitsNone (module_of m) own (sub_clauses (activation env base) ks) (map value_of xs)

module _ (m : Checked) (own base : ℕ) (env : List Term) (ks : Clauses) (xs : List Term) (i : ℕ) (x : Term)
    (h : i < length xs) (e : x ≡ get_or xs i x)
    (p : Passed m own base env ks (take i xs)) where
  pub passed_more : (env' : List Term) → Picked m base env env' None
      (picked (module_of m) own (sub_clauses (activation env base) ks) (value_of x))
      → Passed m own base env ks (take (i + 1) xs)
  passed_more env' k =
      let seen = sub_clauses (activation env base) ks in
      let all : map value_of (take (i + 1) xs) ≡ map value_of (take i xs) ++ value_of x ∷ [] =
      ap (map value_of) (take_more xs i x h ∙ ap (λ y. take i xs ++ y ∷ []) (sym e))
      ∙ map_append (take i xs) (x ∷ []) in
      subst (FitsNone (module_of m) own seen) (sym all)
      (fits_push (module_of m) own seen (map value_of (take i xs)) (value_of x) p (sym k.body))

  pub takes_at : (env' ys : List Term) (body : Operand) → ys ≡ remove xs i
      → Picked m base env env' (Some body) (picked (module_of m) own
      (sub_clauses (activation env base) ks) (value_of x))
      → TakesMessage m own base env env' ks (map value_of xs) (map value_of ys) body x
  takes_at env' ys body r k =
      let seen = sub_clauses (activation env base) ks in
      let front = map value_of (take i xs) in
      let back = map value_of (drop (i + 1) xs) in
      let takes : ReceiveTakes (module_of m) own seen (map value_of xs)
      (record {
        body = sub (activation env' base) (part_over m.tables body);
        message = value_of x;
        others =
            map value_of ys;
      }) =
      record {
        front = front;
        back = back;
        mailbox_is =
            ap (map value_of) (sym (take-append-drop i xs) ∙ ap (λ l. take i xs ++ l)
            (drop_more xs i x h ∙ ap (λ y. y ∷ drop (i + 1) xs) (sym e)))
            ∙ map_append (take i xs) (x ∷ drop (i + 1) xs);
        others_are = ap (map value_of) (r ∙ ap (λ n. take i xs ++ drop n xs) (next i)) ∙ map_append (take i xs)
            (drop (i + 1) xs);
        none_before = p;
        picks = sym k.body;
      } in
      record {
        added = k.added;
        grown = k.grown;
        taken =
            (receive_is_a_relation (module_of m) own seen (map value_of xs)).only _ takes;
      }

-- all messages were passed
pub takes_none : (m : Checked) (own base : ℕ) (env env' : List Term) (ks : Clauses) (xs ys : List Term) (i : ℕ)
    → ys ≡ xs → env' ≡ env → length ys ≤ i
    → Passed m own base env ks (take i ys) → TakesNothing m own base env env' ks (map value_of xs) (map value_of ys)
takes_none m own base env env' ks xs ys i e s h p =
    record {
      nothing = none_selected (module_of m) own (sub_clauses (activation env base) ks) (map value_of xs)
          (subst (Passed m own base env ks) (take_all i ys h ∙ e) p);
      mailbox = ap (map value_of) e;
      slots = s;
    }
