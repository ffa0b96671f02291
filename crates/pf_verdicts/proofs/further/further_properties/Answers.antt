use Rattle.std.proofs.Common.{rules, map, length, get_or, ◌≡◌, ◌<◌, ◌+◌, ◌++◌, ◌∷◌, [], List, ℕ, suc, take, Bor, Some}
use Rattle.std.proofs.Common.{sym, ap, ◌∙◌, subst, arith}
use Rattle.std.specs.Prelude.{slice_get}
use Rattle.std.proofs.Math.Seq.{take-suc}
use Rattle.std.proofs.lemmas.List.{get_or-map, length-map, map-append, take-map}
use Rattle.std.proofs.lemmas.Option.{slice_get-get_or}
use Rattle.pf_property.specs.Texts.{IsNoPropertyText, ReadsProperty}
use Rattle.pf_property.specs.Views.{property_of}
use Rattle.pf_verdicts.specs.Further.{AreProperties, AreRefused}
use Rattle.pf_verdicts.proofs.Texts.{one_text_more, refused_by}
use Rattle.pf_verdicts.proofs.further.further_properties.Goals as goal

abbrev no_text : Bor (List ℕ)
no_text = record { ref_ptr = (0, 0); now = [] }

abbrev text_of : Bor (List ℕ) → List ℕ
text_of s = s.now

pub returns-in_err-property-clause-fault : goal.returns-in_err-property-clause-fault
returns-in_err-property-clause-fault c =
    let atoms = c.args.module.now.code.atoms in
    let all = c.args.texts.now in
    let i = c.loop-text.text-index in
    let t = c.as_bytes.result.now in
    let within : i < length (map text_of all) = rw (length-map all text_of) c.loop-text-test.true in
    let is : get_or (map text_of all) i [] ≡ t =
    get_or-map text_of all i no_text [] c.loop-text-test.true ∙ sym c.as_bytes.ensures.value in
    let at : slice_get (map text_of all) i ≡ Some t = slice_get-get_or (map text_of all) i [] within ∙ ap Some is in
    let same : c.atoms.result.now ≡ atoms = search rules in
    let isnt : IsNoPropertyText atoms t c.in_err-property.field-0.0 =
    subst (λ (a : List (List ℕ)). IsNoPropertyText a t c.in_err-property.field-0.0) same
    c.in_err-property.ensures.fault in
    let reported : AreRefused atoms (map text_of all) c.in_err-property.field-0.0 =
    refused_by atoms (map text_of all) i t c.in_err-property.field-0.0 at isnt in
    search rules

pub loop-text-preserved : goal.loop-text-preserved
loop-text-preserved c =
    let atoms = c.args.module.now.code.atoms in
    let all = c.args.texts.now in
    let i = c.loop-text.text-index in
    let t = c.as_bytes.result.now in
    let ps = c.loop-text.properties.items in
    let p = c.in_ok-property.property in
    let within : i < length (map text_of all) = rw (length-map all text_of) c.loop-text-test.true in
    let is : get_or (map text_of all) i [] ≡ t =
    get_or-map text_of all i no_text [] c.loop-text-test.true ∙ sym c.as_bytes.ensures.value in
    let next : i + 1 ≡ suc i = omega arith in
    let texts_more : map text_of (take (i + 1) all) ≡ map text_of (take i all) ++ t ∷ [] =
    sym (take-map text_of (i + 1) all) ∙ (ap (λ n. take n (map text_of all)) next
    ∙ (take-suc (map text_of all) i [] within
    ∙ (ap (λ (xs : List (List ℕ)). xs ++ get_or (map text_of all) i [] ∷ []) (take-map text_of i all)
    ∙ ap (λ (x : List ℕ). map text_of (take i all) ++ x ∷ []) is))) in
    let properties_more : map property_of c.push.new.self.items ≡ map property_of ps ++ property_of p ∷ [] =
    ap (map property_of) c.in_ok-push.ensures.items ∙ map-append property_of ps (p ∷ []) in
    let same : c.atoms.result.now ≡ atoms = search rules in
    let read : ReadsProperty atoms t (property_of p) =
    subst (λ (a : List (List ℕ)). ReadsProperty a t (property_of p)) same c.in_ok-property.ensures.read in
    subst (λ xs. AreProperties atoms xs (map property_of c.push.new.self.items)) (sym texts_more)
    (subst (λ qs. AreProperties atoms (map text_of (take i all) ++ t ∷ []) qs) (sym properties_more)
    (one_text_more atoms (map text_of (take i all)) (map property_of ps) t (property_of p) c.loop-text.invariant read))
