-- What is printed, file by file.
use Rattle.std.proofs.Common.{◌≡◌, ℕ, zero, suc, ◌+◌, ◌-◌, ◌<◌, ◌≤◌, Bool, true, false, not, is_some, List, [], ◌∷◌}
use Rattle.std.proofs.Common.{◌++◌, length, get_or, set, slice_get, take, drop, map, Option, Some, None, refl, sym, ap}
use Rattle.std.proofs.Common.{◌∙◌, subst, arith, append-nil, append_assoc}
use Rattle.std.specs.Bool.{OnTrue}
use Rattle.std.specs.Global.{Vec}
use Rattle.std.specs.Io.KnownBytes.{Appends}
use Rattle.std.proofs.KnownBytes.{Appends-nil}
use Rattle.std.proofs.lemmas.List.{take_more, take_all, take-append-drop}
use Rattle.pf_errors.specs.declared.fault.OrNoMemory.{OrNoMemory}
use Rattle.pf_errors.specs.declared.fault.OrNoMemory.TheVariants.{Fault, NoMemory}
use Rattle.pf_streams.specs.declared.stream.StreamFault.{StreamFault}
use Rattle.pf_streams.specs.declared.stream.StreamFault.TheVariants.{Read, Write}
use Rattle.pf_streams.specs.Streams.{AppendsFront, CountsWrite}
use Rattle.pf_streams.proofs.Writes.{appends_both}
use Rattle.pf_trace.proofs.Fronts.{front_of_both, front_of_more}
use Rattle.pf_wire.proofs.Adding.{added_both, front_of_second}
use Rattle.pf_wire.proofs.Leaving.{IsAdded}
use Rattle.pf_wire.specs.Whole.{whole_text, with_report}
use Rattle.pf_wire.specs.declared.reported.WrittenAnswer.{WrittenAnswer}
use Rattle.pf_clients.specs.declared.end.FileEnd.{FileEnd}
use Rattle.pf_clients.specs.declared.end.FileEnd.TheVariants.{Answered, NoCommand, Unread, Unwritten}
use Rattle.pf_clients.specs.declared.end.FileEnd.TheVariants.{NoMemory as OutOfMemory}
use Rattle.pf_clients.specs.Faults.{CountsFault}
use Rattle.pf_clients.specs.Farms.{ClientText, stop_at, or_else, first_stop, unless, printed, status_at, status_of}
use Rattle.pf_clients.specs.Farms.{Prints, PrintsInPart}
use Rattle.pf_clients.specs.Texts.{reported_text}

pub reported_more : (ts : List WrittenAnswer) (t : WrittenAnswer)
    → reported_text (ts ++ t ∷ []) ≡ reported_text ts ++ whole_text t
reported_more [] t = append-nil (whole_text t)
reported_more (x ∷ ts) t = ap (λ (y : List ℕ). whole_text x ++ y) (reported_more ts t)
    ∙ sym (append_assoc (whole_text x) (reported_text ts) (whole_text t))

pub reported_both : (ts us : List WrittenAnswer) → reported_text (ts ++ us) ≡ reported_text ts ++ reported_text us
reported_both [] us = refl
reported_both (t ∷ ts) us = ap (λ (y : List ℕ). whole_text t ++ y) (reported_both ts us)
    ∙ sym (append_assoc (whole_text t) (reported_text ts) (reported_text us))

-- ---- replies that are gathered

module _ (ts : List WrittenAnswer) (i : ℕ) (g1 g2 : List ℕ) (w0 w1 w2 : Option (List ℕ))
    (so_far : IsAdded [] (reported_text (take i ts)) g1 w0 w1) where
  one_reply : (t : WrittenAnswer) → i < length ts → t ≡ get_or ts i t
      → reported_text (take (i + 1) ts) ≡ reported_text (take i ts) ++ whole_text t
  one_reply t within is = ap reported_text (take_more ts i t within) ∙ reported_more (take i ts) (get_or ts i t)
      ∙ ap (λ x. reported_text (take i ts) ++ whole_text x) (sym is)

  pub adds_reply : (t : WrittenAnswer) → i < length ts → t ≡ get_or ts i t → IsAdded g1 (whole_text t) g2 w1 w2
      → IsAdded [] (reported_text (take (i + 1) ts)) g2 w0 w2
  adds_reply t within is h =
      added_both [] g1 g2 (reported_text (take i ts)) (whole_text t) (reported_text (take (i + 1) ts)) w0 w1 w2
      (sym (one_reply t within is)) so_far h

  pub front_at_reply : (t : WrittenAnswer) → i < length ts → t ≡ get_or ts i t → AppendsFront w1 w2 (g1 ++ whole_text t)
      → AppendsFront w0 w2 (reported_text ts)
  front_at_reply t within is h =
      let front : AppendsFront w0 w2 (reported_text (take (i + 1) ts)) =
      front_of_second [] g1 (reported_text (take i ts)) (whole_text t) (reported_text (take (i + 1) ts)) w0 w1 w2
      (sym (one_reply t within is)) so_far h in
      let all : reported_text (take (i + 1) ts) ++ reported_text (drop (i + 1) ts) ≡ reported_text ts =
      sym (reported_both (take (i + 1) ts) (drop (i + 1) ts)) ∙ ap reported_text (take-append-drop (i + 1) ts) in
      subst (AppendsFront w0 w2) all (front_of_more w0 w2 (reported_text (take (i + 1) ts))
      (reported_text (drop (i + 1) ts)) front)

  all_added : length ts ≤ i → so_far.0 ++ g1 ≡ reported_text ts
  all_added over = so_far.2 ∙ ap reported_text (take_all i ts over)

  pub all_sent : length ts ≤ i → Appends w1 w2 g1 → Appends w0 w2 (reported_text ts)
  all_sent over h = subst (Appends w0 w2) (all_added over) (appends_both w0 w1 w2 so_far.0 g1 so_far.1 h)

  pub front_sent : length ts ≤ i → AppendsFront w1 w2 g1 → AppendsFront w0 w2 (reported_text ts)
  front_sent over h = subst (AppendsFront w0 w2) (all_added over) (front_of_both w0 w1 w2 so_far.0 g1 so_far.1 h)

-- ---- files that were printed before

-- nothing stops after this file, nor after those that follow it
goes_on : (c : ClientText) (cs : List ClientText) → first_stop (c ∷ cs) ≡ None
    → (stop_at c.ended ≡ None) × (first_stop cs ≡ None)
goes_on c cs h = by (stop_at c.ended) refl
  where
    by : (o : Option (OrNoMemory StreamFault)) → stop_at c.ended ≡ o → (stop_at c.ended ≡ None) × (first_stop cs ≡ None)
    by None e = (e, ap (λ (x : Option (OrNoMemory StreamFault)). or_else x (first_stop cs)) (sym e) ∙ h)
    by (Some x) e = let k : Some x ≡ None = ap (λ (y : Option (OrNoMemory StreamFault)). or_else y (first_stop cs))
        (sym e) ∙ h in absurd (cc)

pub printed_both : (cs ds : List ClientText) → first_stop cs ≡ None → printed (cs ++ ds) ≡ printed cs ++ printed ds
printed_both [] ds h = refl
printed_both (c ∷ cs) ds h =
    let k = goes_on c cs h in
    ap (λ (o : Option (OrNoMemory StreamFault)). c.text ++ unless o (printed (cs ++ ds))) k.0
    ∙ ap (λ (t : List ℕ). c.text ++ t) (printed_both cs ds k.1)
    ∙ sym (append_assoc c.text (printed cs) (printed ds))
    ∙ ap (λ (o : Option (OrNoMemory StreamFault)). (c.text ++ unless o (printed cs)) ++ printed ds) (sym k.0)

pub stop_both : (cs ds : List ClientText) → first_stop cs ≡ None → first_stop (cs ++ ds) ≡ first_stop ds
stop_both [] ds h = refl
stop_both (c ∷ cs) ds h =
    let k = goes_on c cs h in
    ap (λ (o : Option (OrNoMemory StreamFault)). or_else o (first_stop (cs ++ ds))) k.0 ∙ stop_both cs ds k.1

two_apart : (b : FileEnd) (n : ℕ) → 2 ≡ status_at b 2
two_apart Answered n = refl
two_apart (NoCommand r) n = refl
two_apart (Unread e) n = refl
two_apart (Unwritten e) n = refl
two_apart OutOfMemory n = refl

status_apart : (a b : FileEnd) (n : ℕ) → status_at a (status_at b n) ≡ status_at b (status_at a n)
status_apart Answered b n = refl
status_apart (Unread e) b n = refl
status_apart OutOfMemory b n = refl
status_apart (NoCommand r) b n = two_apart b n
status_apart (Unwritten e) b n = two_apart b n

pub status_more : (cs : List ClientText) (c : ClientText) → status_of (cs ++ c ∷ []) ≡ status_at c.ended (status_of cs)
status_more [] c = refl
status_more (x ∷ cs) c = ap (status_at x.ended) (status_more cs c) ∙ status_apart x.ended c.ended (status_of cs)

-- ---- the files so far

-- what these clients were answered was printed, and the next file is printed after them
pub record PrintedSoFar (cs : List ClientText) (status : ℕ) (w0 w : Option (List ℕ)) : Type 0 where
  pub goes_on : first_stop cs ≡ None
  pub out : Appends w0 w (printed cs)
  pub status_is : status ≡ status_of cs

pub none_printed : (w : Option (List ℕ)) → PrintedSoFar [] 0 w w
none_printed w = record { goes_on = refl; out = Appends-nil w; status_is = refl }

module _ (cs : List ClientText) (n : ℕ) (w0 w : Option (List ℕ)) (f : PrintedSoFar cs n w0 w) where
  pub one_printed : (c : ClientText) (w' : Option (List ℕ)) (n' : ℕ) → Appends w w' c.text → stop_at c.ended ≡ None
      → n' ≡ status_at c.ended n → PrintedSoFar (cs ++ c ∷ []) n' w0 w'
  one_printed c w' n' out goes next =
      let one : printed (c ∷ []) ≡ c.text = ap (λ (o : Option (OrNoMemory StreamFault)). c.text ++ unless o []) goes
      ∙ append-nil c.text in
      record {
        goes_on = stop_both cs (c ∷ []) f.goes_on ∙ ap (λ (o : Option (OrNoMemory StreamFault)). or_else o None) goes;
        out = subst (Appends w0 w') (sym (printed_both cs (c ∷ []) f.goes_on ∙ ap (λ (t : List ℕ). printed cs ++ t)
            one)) (appends_both w0 w w' (printed cs) c.text f.out out);
        status_is = next ∙ ap (status_at c.ended) f.status_is ∙ sym (status_more cs c);
      }

  pub all_printed : Prints cs n w0 w
  all_printed = (f.goes_on, f.status_is, f.out)

  -- a write failed
  pub printed_front : (all : List ClientText) (c : ClientText) (rest : List ClientText) → all ≡ cs ++ c ∷ rest
      → (w' : Option (List ℕ)) → AppendsFront w w' c.text
      → AppendsFront w0 w' (printed all)
  printed_front all c rest is w' front = (
    printed cs ++ front.0,
    front.1 ++ unless (stop_at c.ended) (printed rest),
    ap printed is ∙ printed_both cs (c ∷ rest) f.goes_on
        ∙ ap (λ (t : List ℕ). printed cs ++ (t ++ unless (stop_at c.ended) (printed rest))) front.2
        ∙ ap (λ (t : List ℕ). printed cs ++ t) (append_assoc front.0 front.1 (unless (stop_at c.ended) (printed rest)))
        ∙ sym (append_assoc (printed cs) front.0 (front.1 ++ unless (stop_at c.ended) (printed rest))),
    appends_both w0 w w' (printed cs) front.0 f.out front.3,
  )

  -- nothing is printed after this file
  pub stops_printing : (all : List ClientText) (c : ClientText) (rest : List ClientText) (e : OrNoMemory StreamFault)
      → all ≡ cs ++ c ∷ rest → (w' : Option (List ℕ))
      → Appends w w' c.text → stop_at c.ended ≡ Some e → (first_stop all ≡ Some e) × Appends w0 w' (printed all)
  stops_printing all c rest e is w' out stops =
      let last : printed (c ∷ rest) ≡ c.text =
      ap (λ (o : Option (OrNoMemory StreamFault)). c.text ++ unless o (printed rest)) stops ∙ append-nil c.text in (
        ap first_stop is ∙ stop_both cs (c ∷ rest) f.goes_on ∙ ap (λ (o : Option (OrNoMemory StreamFault)).
            or_else o (first_stop rest)) stops,
        subst (Appends w0 w') (sym (ap printed is ∙ printed_both cs (c ∷ rest) f.goes_on
            ∙ ap (λ (t : List ℕ). printed cs ++ t) last)) (appends_both w0 w w' (printed cs) c.text f.out out),
      )

-- a fault of a writer
pub in_part_by_writer : (cs : List ClientText) (e : StreamFault) (w0 w1 : Option (List ℕ)) (n0 n1 : ℕ)
    → CountsWrite e n0 n1 → AppendsFront w0 w1 (printed cs) → PrintsInPart cs (Fault e) w0 w1 n0 n1
in_part_by_writer cs (Read e) w0 w1 n0 n1 counts front = absurd counts
in_part_by_writer cs (Write e) w0 w1 n0 n1 counts front = (counts, front)

-- what stops a file is no fault of the writer
pub in_part_by_stop : (cs : List ClientText) (c : FileEnd) (e : OrNoMemory StreamFault) (w0 w1 : Option (List ℕ))
    (n0 n1 : ℕ) → stop_at c ≡ Some e → n1 ≡ n0
    → (first_stop cs ≡ Some e) × Appends w0 w1 (printed cs) → PrintsInPart cs e w0 w1 n0 n1
in_part_by_stop cs Answered e w0 w1 n0 n1 is same h = absurd (cc)
in_part_by_stop cs (NoCommand r) e w0 w1 n0 n1 is same h = absurd (cc)
in_part_by_stop cs (Unwritten x) e w0 w1 n0 n1 is same h = absurd (cc)
in_part_by_stop cs (Unread x) e w0 w1 n0 n1 is same h =
    let stop : Fault (Read x) ≡ e = cc in
    subst (λ k. PrintsInPart cs k w0 w1 n0 n1) stop (same, h.0 ∙ ap Some (sym stop), h.1)
in_part_by_stop cs OutOfMemory e w0 w1 n0 n1 is same h =
    let stop : NoMemory ≡ e = cc in
    subst (λ k. PrintsInPart cs k w0 w1 n0 n1) stop (same, h.0 ∙ ap Some (sym stop), h.1)

-- what it counts
pub in_part_counts : (cs : List ClientText) (e : OrNoMemory StreamFault) (w0 w1 : Option (List ℕ)) (n0 n1 : ℕ)
    → PrintsInPart cs e w0 w1 n0 n1 → CountsFault e n0 n1
in_part_counts cs (Fault (Write e)) w0 w1 n0 n1 h = h.0
in_part_counts cs (Fault (Read e)) w0 w1 n0 n1 h = h.0
in_part_counts cs NoMemory w0 w1 n0 n1 h = h.0

-- ---- the last text

pub at_true : {P : Type 0} (b : Bool) → b ≡ true → OnTrue b P → P
at_true true is h = h
at_true false is h = absurd (cc)

pub on_true : {P : Type 0} (b : Bool) → P → OnTrue b P
on_true true h = h
on_true false h = tt

pub none_if_not_some : {X : Type 0} (o : Option X) (b : Bool) → b ≡ is_some o → b ≡ false → o ≡ None
none_if_not_some None b is not = refl
none_if_not_some (Some x) b is not = absurd (cc)

pub none_if_none : {X : Type 0} (o : Option X) (b : Bool) → is_some o ≡ not b → b ≡ true → o ≡ None
none_if_none None b is h = refl
none_if_none (Some x) b is h = let other : true ≡ not true = is ∙ ap not h in absurd (cc)

-- there is one
pub some_last : (ts : List WrittenAnswer) (t : WrittenAnswer) → slice_get ts (length ts - 1) ≡ Some t → 0 < length ts
some_last [] t is = absurd (cc)
some_last (u ∷ ts) t is = omega arith

pub none_in : (last t : WrittenAnswer) → Some last ≡ Some t → last.report ≡ None → t.report ≡ None
none_in last t is none = let same : last ≡ t = cc in subst (λ (x : WrittenAnswer). x.report ≡ None) same none

-- that of two which have no report, as one
pub joined_text : (t reported : WrittenAnswer) (text : Vec ℕ) → t.report ≡ None → reported.report ≡ None
    → text.items ≡ t.text.items ++ reported.text.items
    → with_report text.items t.report ≡ whole_text t ++ whole_text reported
joined_text t reported text none none_reported both =
    ap (with_report text.items) none ∙ both ∙ sym
    (λ i. with_report t.text.items (none i) ++ with_report reported.text.items (none_reported i))

-- it is longer by a text
pub longer_last : (ts : List WrittenAnswer) (i : ℕ) (t x : WrittenAnswer) (more : List ℕ) → length ts ≡ i + 1
    → slice_get ts i ≡ Some t → whole_text x ≡ whole_text t ++ more
    → reported_text (set ts i x) ≡ reported_text ts ++ more
longer_last [] i t x more len is longer = absurd (cc)
longer_last (u ∷ []) zero t x more len is longer =
    let same : u ≡ t = cc in
    ap (λ (y : List ℕ). y ++ []) (longer ∙ ap (λ z. whole_text z ++ more) (sym same)) ∙ append_assoc (whole_text u) more
    [] ∙ ap (λ (y : List ℕ). whole_text u ++ y) (append-nil more)
    ∙ ap (λ (y : List ℕ). y ++ more) (sym (append-nil (whole_text u)))
longer_last (u ∷ v ∷ ts) zero t x more len is longer = absurd (omega (arith, len))
longer_last (u ∷ ts) (suc i) t x more len is longer =
    ap (λ (y : List ℕ). whole_text u ++ y) (longer_last ts i t x more (omega (arith, len)) is longer)
    ∙ sym (append_assoc (whole_text u) (reported_text ts) more)
