use Rattle.std.proofs.Common.{◌≡◌, ℕ, List, ◌∷◌, [], ◌++◌, length, Some, None, cond, arith, sym, ap, ◌∙◌, subst}
use Rattle.std.specs.Prelude.{slice_get, IfSome}
use Rattle.std.specs.declared.option.Option.{Option}
use Rattle.std.specs.Str.{bytes_eq}
use Rattle.std.specs.Ordering.{nat_cmp}
use Rattle.std.specs.Cmp.Lexicographic.{slice_cmp}
use Rattle.std.specs.BTreeMap.{get_by}
use Rattle.pf_terms.proofs.Names.{present}
use Rattle.pf_terms.proofs.Fronts.{get-after}
use Rattle.pf_terms.proofs.ByName.{updates_bytes, index_more, index_back}
use Rattle.pf_terms.proofs.atom_numbers.AtomNumbers.enter.Goals as goal

pub returns-in-Some-clause-names : goal.returns-in-Some-clause-names
returns-in-Some-clause-names c =
    let there = ap (λ names. slice_get names c.in-Some.atom.0) (sym c.self.view_is) ∙ c.in-Some.ensures.found in
    sym (present c.args.self.now c.args.name.now c.in-Some.atom.0 there)

pub returns-in-Some-get-clause-names : goal.returns-in-Some-get-clause-names
returns-in-Some-get-clause-names c =
    let n = c.in-Some-get.number.now in
    let P : Option ℕ → Type 0 = λ o. IfSome o (λ n. slice_get c.self.inside.table n ≡ Some c.args.name.now) in
    let there : slice_get c.self.inside.table n ≡ Some c.args.name.now =
    subst P (sym c.in-Some-get.ensures.value) (c.self.invariant.found c.args.name.now) in
    sym (present c.args.self.now c.args.name.now n (ap (λ names. slice_get names n) (sym c.self.view_is) ∙ there))

pub invariant_of-self-in-Ok : goal.invariant_of-self-in-Ok
invariant_of-self-in-Ok c =
    let names = c.self.inside.table in
    let name = c.args.name.now in
    let put : (q : List ℕ) → get_by (λ k. slice_cmp nat_cmp q k.items) c.insert.new.self ≡ cond (bytes_eq name q)
    (Some (length names)) (get_by (λ k. slice_cmp nat_cmp q k.items) c.self.inside.numbers) = λ q.
    updates_bytes (λ k. k.items) c.in_ok-key.key.items c.self.inside.numbers c.insert.new.self _
    c.in_ok-insert.ensures.updates q
    ∙ ap (λ bs. cond (bytes_eq bs q) (Some c.len.result)
    (get_by (λ k. slice_cmp nat_cmp q k.items) c.self.inside.numbers)) c.in_ok-key.ensures.items
    ∙ ap (λ n. cond (bytes_eq name q) (Some n) (get_by (λ k. slice_cmp nat_cmp q k.items) c.self.inside.numbers))
    c.len.ensures.len in
    let more = index_more names name _ (λ q. get_by (λ k. slice_cmp nat_cmp q k.items) c.insert.new.self)
    c.self.invariant put in
    rw c.in-Ok.ensures.names more

pub invariant_of-self-in-Err : goal.invariant_of-self-in-Err
invariant_of-self-in-Err c =
    let names = c.self.inside.table in
    let name = c.args.name.now in
    let put : (q : List ℕ) → get_by (λ k. slice_cmp nat_cmp q k.items) c.insert.new.self ≡ cond (bytes_eq name q)
    (Some c.len.result) (get_by (λ k. slice_cmp nat_cmp q k.items) c.self.inside.numbers) = λ q.
    updates_bytes (λ k. k.items) c.in_ok-key.key.items c.self.inside.numbers c.insert.new.self _
    c.in_ok-insert.ensures.updates q
    ∙ ap (λ bs. cond (bytes_eq bs q) (Some c.len.result)
    (get_by (λ k. slice_cmp nat_cmp q k.items) c.self.inside.numbers)) c.in_ok-key.ensures.items in
    let taken : (q : List ℕ) → get_by (λ k. slice_cmp nat_cmp q k.items) c.remove.new.self ≡ cond (bytes_eq name q) None
    (get_by (λ k. slice_cmp nat_cmp q k.items) c.insert.new.self) =
    updates_bytes (λ k. k.items) name c.insert.new.self c.remove.new.self None c.remove.ensures.updates in
    let none : get_by (λ k. slice_cmp nat_cmp name k.items) c.self.inside.numbers ≡ None =
    sym c.in_default-get.ensures.value in
    let same = index_back names name _ _ (λ q. get_by (λ k. slice_cmp nat_cmp q k.items) c.remove.new.self)
    (Some c.len.result) c.self.invariant none put taken in
    rw c.in-Err.ensures.err same

pub returns-in-Ok-clause-entered : goal.returns-in-Ok-clause-entered
returns-in-Ok-clause-entered c =
    let names = c.self.inside.table in
    let name = c.args.name.now in
    let at : slice_get (names ++ name ∷ []) (length names) ≡ Some name =
    ap (slice_get (names ++ name ∷ [])) (omega arith) ∙ get-after names (name ∷ []) 0 in
    ap (λ all. slice_get all c.in-Ok.atom.0) c.in-Ok.ensures.names
    ∙ ap (slice_get (names ++ name ∷ [])) c.in-Ok.ensures.number ∙ at
