-- Texts that are in a document stay where they are.
use Rattle.std.proofs.Common.{◌≡◌, ◌+◌, ◌<◌, ◌≤◌, inl, inr, ℕ, true, List, [], ◌++◌, Some, length, get_or, sym, ap, ◌∙◌}
use Rattle.std.proofs.Common.{subst, append_assoc, append-nil, arith}
use Rattle.std.specs.Prelude.{flat_map, slice_get}
use Rattle.std.proofs.lemmas.Bool.Decides.{eqb_tells}
use Rattle.std.proofs.lemmas.Option.{same_Some, slice_get-get_or, slice_get_within}
use Rattle.pf_svg.specs.Document.{DrawsFrom, drawn, part_text}
use Rattle.pf_chart.specs.Lines.{HaveLines, Holds}
use Rattle.pf_chart.specs.Sheets.{Page, is_here, line_of}
use Rattle.pf_chart.specs.Words.{ClosesGroup, DrawsInChart, OpensGroup}
use Rattle.pf_chart.specs.declared.arrows.Arrow.{Arrow}
use Rattle.pf_chart.proofs.Sending.{Reports}

-- a text was put at the end
pub record Grows (old new : List ℕ) : Type 0 where
  pub more : List ℕ
  pub is : new ≡ old ++ more

pub grows_by : (x y more : List ℕ) → y ≡ x ++ more → Grows x y
grows_by x y more e = record { more = more; is = e }

grows_from : {own ls : List (List ℕ)} {p q : _} {x y : List ℕ} → DrawsFrom own p ls q x y → Grows x y
grows_from (drawn parts e f l w) = record { more = flat_map part_text parts; is = e }

pub drawn_grows : (ls : List (List ℕ)) (x y : List ℕ) → DrawsInChart ls x y → Grows x y
drawn_grows ls x y d = grows_from (d [])

pub opened_grows : (ls : List (List ℕ)) (x y : List ℕ) → OpensGroup ls x y → Grows x y
opened_grows ls x y d = grows_from (d [])

pub closed_grows : (ls : List (List ℕ)) (x y : List ℕ) → ClosesGroup ls x y → Grows x y
closed_grows ls x y d = grows_from (d [])

pub grown_on : {x y z : List ℕ} → Grows x y → Grows y z → Grows x z
grown_on {x} {y} {z} a b = record {
  more = a.more ++ b.more;
  is = b.is ∙ ap (λ (t : List ℕ). t ++ b.more) a.is
      ∙ append_assoc x a.more b.more;
}

-- a text that is put is there
pub holds_put : (text x y : List ℕ) → y ≡ x ++ text → Holds text x y
holds_put text x y e = record { front = []; back = []; is = e ∙ ap (λ (t : List ℕ). x ++ t) (sym (append-nil text)) }

-- it is there still when more is put after it
pub holds_then : {text x y z : List ℕ} → Holds text x y → Grows y z → Holds text x z
holds_then {text} {x} {y} {z} h g = record {
  front = h.front;
  back = h.back ++ g.more;
  is = g.is ∙ ap (λ (t : List ℕ). t ++ g.more) h.is ∙ append_assoc x (h.front ++ (text ++ h.back)) g.more
      ∙ ap (λ (t : List ℕ). x ++ t) (append_assoc h.front (text ++ h.back) g.more ∙ ap (λ (t : List ℕ). h.front ++ t)
      (append_assoc text h.back g.more));
}

-- and where more was before it
pub then_holds : {text x y z : List ℕ} → Grows x y → Holds text y z → Holds text x z
then_holds {text} {x} {y} {z} g h = record {
  front = g.more ++ h.front;
  back = h.back;
  is = h.is ∙ ap (λ (t : List ℕ). t ++ (h.front ++ (text ++ h.back))) g.is ∙ append_assoc x g.more
      (h.front ++ (text ++ h.back))
      ∙ ap (λ (t : List ℕ). x ++ t) (sym (append_assoc g.more h.front (text ++ h.back)));
}

-- a document that was made by itself, after what is elsewhere
pub holds_elsewhere : {text x y : List ℕ} (before after : List ℕ) → x ≡ [] → after ≡ before ++ y → Holds text x y
    → Holds text before after
holds_elsewhere {text} {x} {y} before after none e h = record {
  front = h.front;
  back = h.back;
  is = e ∙ ap (λ (t : List ℕ). before ++ t) (h.is ∙ ap (λ (t : List ℕ). t ++ (h.front ++ (text ++ h.back))) none);
}

-- ---- arrows

-- the first of them have their lines
abbrev pub HaveLinesTo : Page → (columns count : ℕ) → List Arrow → (before after : List ℕ) → Type 0
HaveLinesTo p n k arrows x y =
    (i : ℕ) (a : Arrow) → i < k → slice_get arrows i ≡ Some a → a.from < n → a.to < n → is_here p a ≡ true
    → Holds (line_of p a) x y

pub lines_next : (p : Page) (n k : ℕ) (arrows : List Arrow) (d : Arrow) {x y z : List ℕ} → HaveLinesTo p n k arrows x y
    → k < length arrows → Grows x y → Grows y z
    → ((get_or arrows k d).from < n → (get_or arrows k d).to < n → is_here p (get_or arrows k d) ≡ true
    → Holds (line_of p (get_or arrows k d)) y z)
    → HaveLinesTo p n (k + 1) arrows x z
lines_next p n k arrows d {x} {y} {z} lines low before after one i b less is from to here = by (eqb_tells i k)
  where
    by : Reports i k → Holds (line_of p b) x z
    by (inl same) =
        let this : get_or arrows k d ≡ b = same_Some (get_or arrows k d) b
        (sym (slice_get-get_or arrows k d low) ∙ ap (slice_get arrows) (sym same.1) ∙ is) in
        then_holds before
        (subst (λ (c : Arrow). Holds (line_of p c) y z) this
        (one (subst (λ (c : Arrow). c.from < n) (sym this) from) (subst (λ (c : Arrow). c.to < n) (sym this) to)
        (subst (λ (c : Arrow). is_here p c ≡ true) (sym this) here)))
    by (inr other) = holds_then (lines i b (omega (arith, less, other.1)) is from to here) after

pub lines_all : (p : Page) (n k : ℕ) (arrows : List Arrow) {x y : List ℕ} → HaveLinesTo p n k arrows x y
    → length arrows ≤ k → HaveLines p n arrows x y
lines_all p n k arrows lines all i a is from to here = lines i a (omega (arith, all, slice_get_within arrows i a is))
    is from to here

-- they have them where more is around
pub lines_within : (p : Page) (n : ℕ) (arrows : List Arrow) {x y z v : List ℕ} → Grows x y → HaveLines p n arrows y z
    → Grows z v → HaveLines p n arrows x v
lines_within p n arrows before lines after i a is from to here =
    then_holds before (holds_then (lines i a is from to here) after)

-- of the same page, as many columns and the same arrows
pub lines_of : (p q : Page) (n m : ℕ) (xs ys : List Arrow) (x y : List ℕ) → p ≡ q → n ≡ m → xs ≡ ys
    → HaveLines p n xs x y → HaveLines q m ys x y
lines_of p q n m xs ys x y pages counts arrows lines =
    subst (λ (r : Page). HaveLines r m ys x y) pages
    (subst (λ (k : ℕ). HaveLines p k ys x y) counts (subst (λ (zs : List Arrow). HaveLines p n zs x y) arrows lines))
