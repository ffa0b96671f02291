-- Texts that are written by way of a buffer of a fixed size.
use Rattle.std.proofs.Common.{◌≡◌, ◌<◌, ◌+◌, ℕ, List, [], ◌∷◌, ◌++◌, Option, Result, Ok, Err, length, map, take, drop}
use Rattle.std.proofs.Common.{get_or, sym, ap, ◌∙◌, subst, append_assoc}
use Rattle.std.specs.Prelude.{codes, OnErr}
use Rattle.std.specs.Fmt.{decimal}
use Rattle.std.specs.Io.KnownBytes.{Appends}
use Rattle.std.proofs.lemmas.List.{append-nil, map-append, map_more, take-append-drop}
use Rattle.std.proofs.lemmas.Grind.{flat_map-append}
use Rattle.pf_streams.specs.Streams.{AppendsFront}
use Rattle.pf_streams.proofs.Writes.{appends_both}
use Rattle.pf_text.specs.Schedules.{schedule_text}
use Rattle.pf_model.specs.declared.report.Event.{Event}
use Rattle.pf_text.proofs.Schedules.{by_commas}
use Rattle.pf_trace.proofs.Fronts.{front_of_both, front_of_more}
use Rattle.pf_command.specs.Waiting.{Adds, after_commas}

-- two texts are one
pub adds_both : (g a g1 b g2 : List ℕ) (w0 w1 w2 : Option (List ℕ)) → Adds g a g1 w0 w1 → Adds g1 b g2 w1 w2
    → Adds g (a ++ b) g2 w0 w2
adds_both g a g1 b g2 w0 w1 w2 h k = (
  h.0 ++ k.0,
  appends_both w0 w1 w2 h.0 k.0 h.1 k.1,
  append_assoc h.0 k.0 g2 ∙ ap (λ (t : List ℕ). h.0 ++ t) k.2 ∙ sym (append_assoc h.0 g1 b)
      ∙ ap (λ (t : List ℕ). t ++ b) h.2 ∙ append_assoc g a b,
)

-- a beginning of a second text is one of both
pub front_after : (g a g1 b : List ℕ) (w0 w1 w2 : Option (List ℕ)) → Adds g a g1 w0 w1 → AppendsFront w1 w2 (g1 ++ b)
    → AppendsFront w0 w2 (g ++ (a ++ b))
front_after g a g1 b w0 w1 w2 h k = (
  h.0 ++ k.0,
  k.1,
  sym (append_assoc g a b) ∙ ap (λ (t : List ℕ). t ++ b) (sym h.2) ∙ append_assoc h.0 g1 b
      ∙ ap (λ (t : List ℕ). h.0 ++ t) k.2 ∙ sym (append_assoc h.0 k.0 k.1),
  appends_both w0 w1 w2 h.0 k.0 h.1 k.3,
)

-- a beginning is one of a longer text
pub front_longer : (g a b : List ℕ) (w0 w1 : Option (List ℕ)) → AppendsFront w0 w1 (g ++ a)
    → AppendsFront w0 w1 (g ++ (a ++ b))
front_longer g a b w0 w1 h = subst (AppendsFront w0 w1) (append_assoc g a b) (front_of_more w0 w1 (g ++ a) b h)

-- all was written
pub adds_out : (g a g1 : List ℕ) (w0 w1 w2 : Option (List ℕ)) → Adds g a g1 w0 w1 → Appends w1 w2 g1
    → Appends w0 w2 (g ++ a)
adds_out g a g1 w0 w1 w2 h k = subst (Appends w0 w2) h.2 (appends_both w0 w1 w2 h.0 g1 h.1 k)

-- a second text in turn, and what is after it
pub front_of_second : (g a g1 b c : List ℕ) (w0 w1 w2 : Option (List ℕ)) → Adds g a g1 w0 w1
    → AppendsFront w1 w2 (g1 ++ b) → AppendsFront w0 w2 (g ++ (a ++ b ++ c))
front_of_second g a g1 b c w0 w1 w2 h k = front_longer g (a ++ b) c w0 w2 (front_after g a g1 b w0 w1 w2 h k)

-- a fault comes with a front
pub at_fault : {T E : Type 0} {P : Type 0} (r : Result T E) → P → OnErr r P
at_fault (Ok x) p = tt
at_fault (Err e) p = p

-- a fault before what waits was written
pub front_out : (g a g1 : List ℕ) (w0 w1 w2 : Option (List ℕ)) → Adds g a g1 w0 w1 → AppendsFront w1 w2 g1
    → AppendsFront w0 w2 (g ++ a)
front_out g a g1 w0 w1 w2 h k = subst (AppendsFront w0 w2) h.2 (front_of_both w0 w1 w2 h.0 g1 h.1 k)

-- ---- a beginning of the first of several texts

pub longer_2 : (a b c : List ℕ) (w0 w1 : Option (List ℕ)) → AppendsFront w0 w1 a → AppendsFront w0 w1 (a ++ b ++ c)
longer_2 a b c w0 w1 h = front_of_more w0 w1 (a ++ b) c (front_of_more w0 w1 a b h)

pub longer_3 : (a b c d : List ℕ) (w0 w1 : Option (List ℕ)) → AppendsFront w0 w1 a
    → AppendsFront w0 w1 (a ++ b ++ c ++ d)
longer_3 a b c d w0 w1 h = front_of_more w0 w1 (a ++ b ++ c) d (longer_2 a b c w0 w1 h)

pub longer_4 : (a b c d e : List ℕ) (w0 w1 : Option (List ℕ)) → AppendsFront w0 w1 a
    → AppendsFront w0 w1 (a ++ b ++ c ++ d ++ e)
longer_4 a b c d e w0 w1 h = front_of_more w0 w1 (a ++ b ++ c ++ d) e (longer_3 a b c d w0 w1 h)

-- ---- events, each of which adds a comma and its choice

module _ (es : List Event) (i : ℕ) (x : Event) (in_list : i < length es) (is : x ≡ get_or es i x) where
  abbrev pub one : List ℕ
  one = codes "," ++ decimal x.choice

  abbrev pub so_far : List ℕ
  so_far = after_commas (map (λ (e : Event). e.choice) (take i es))

  one_more : after_commas (map (λ (e : Event). e.choice) (take (i + 1) es)) ≡ so_far ++ one
  one_more =
      ap after_commas (map_more (λ (e : Event). e.choice) es i x in_list)
      ∙ flat_map-append (λ n. codes "," ++ decimal n) (map (λ (e : Event). e.choice) (take i es))
      ((get_or es i x).choice ∷ [])
      ∙ ap (λ (t : List ℕ). so_far ++ t) (append-nil (codes "," ++ decimal (get_or es i x).choice)
      ∙ ap (λ (e : Event). codes "," ++ decimal e.choice) (sym is))

  pub adds_next : (g g1 g2 : List ℕ) (w0 w1 w2 : Option (List ℕ)) → Adds g so_far g1 w0 w1 → Adds g1 one g2 w1 w2
      → Adds g (after_commas (map (λ (e : Event). e.choice) (take (i + 1) es))) g2 w0 w2
  adds_next g g1 g2 w0 w1 w2 h k = subst (λ t. Adds g t g2 w0 w2) (sym one_more)
      (adds_both g so_far g1 one g2 w0 w1 w2 h k)

  pub front_next : (g g1 : List ℕ) (w0 w1 w2 : Option (List ℕ)) → Adds g so_far g1 w0 w1
      → AppendsFront w1 w2 (g1 ++ one)
      → AppendsFront w0 w2 (g ++ after_commas (map (λ (e : Event). e.choice) es))
  front_next g g1 w0 w1 w2 h k =
      let rest = map (λ (e : Event). e.choice) (drop (i + 1) es) in
      let now = map (λ (e : Event). e.choice) (take (i + 1) es) in
      let front = subst (λ t. AppendsFront w0 w2 (g ++ t)) (sym one_more) (front_after g so_far g1 one w0 w1 w2 h k) in
      let all : after_commas now ++ after_commas rest ≡ after_commas (map (λ (e : Event). e.choice) es) =
      sym (flat_map-append (λ n. codes "," ++ decimal n) now rest)
      ∙ ap after_commas (sym (map-append (λ (e : Event). e.choice) (take (i + 1) es) (drop (i + 1) es))
      ∙ ap (map (λ (e : Event). e.choice)) (take-append-drop (i + 1) es)) in
      subst (λ t. AppendsFront w0 w2 (g ++ t)) all (front_longer g (after_commas now) (after_commas rest) w0 w2 front)

-- a number, and others each after a comma
pub schedule_of_more : (xs ys : List Event) (x : Event) → xs ≡ x ∷ ys
    → decimal x.choice ++ after_commas (map (λ (e : Event). e.choice) ys) ≡ schedule_text
    (map (λ (e : Event). e.choice) xs)
schedule_of_more xs ys x e = by_commas x.choice (map (λ (e : Event). e.choice) ys)
    ∙ ap (λ zs. schedule_text (map (λ (e : Event). e.choice) zs)) (sym e)
