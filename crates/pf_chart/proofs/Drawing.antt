-- What one event adds to the arrows of a chart.
use Rattle.std.proofs.Common.{◌≡◌, ◌+◌, ◌<◌, inl, inr, ℕ, zero, suc, List, [], ◌∷◌, ◌++◌, Some, None, length, refl, sym}
use Rattle.std.proofs.Common.{ap, ◌∙◌, subst, arith}
use Rattle.std.specs.Prelude.{◌==◌, if◌then◌else◌, slice_get}
use Rattle.std.proofs.lemmas.Bool.Decides.{eqb_tells}
use Rattle.std.proofs.lemmas.Option.{same_Some}
use Rattle.pf_model.specs.Channels.{Signal}
use Rattle.pf_model.specs.Labels.{Label, Suffix, as_message, delivers, dropped, ending_with, no_process, took_effect}
use Rattle.pf_model.specs.Meaning.{Event}
use Rattle.pf_model.specs.declared.report.Actor.TheVariants.{Channel}
use Rattle.pf_chart.specs.Processes.{Process}
use Rattle.pf_chart.specs.Signals.{AreArrows, BeginsIn, Delivers, EndsIn, HasPid, IsArrow, IsDeliveredIn, marked}
use Rattle.pf_chart.specs.Traffic.{AreOnWay, AreSentIn, AreWaiting, IsDelivered, IsOnWay, Sends, Way, kind_of}
use Rattle.pf_chart.specs.Traffic.{signal_kind_number, reach_of, open_arrow, unreported, way_of}
use Rattle.pf_chart.specs.declared.arrows.Arrow.{Arrow}
use Rattle.pf_chart.specs.declared.arrows.ArrowEnd.TheVariants as reach
use Rattle.pf_chart.specs.declared.arrows.SignalKind.{SignalKind}
use Rattle.pf_chart.specs.declared.arrows.SignalKind.TheVariants as kind
use Rattle.pf_chart.specs.declared.arrows.ArrowStart.{ArrowStart}
use Rattle.pf_chart.specs.declared.arrows.ArrowStart.TheVariants as start
use Rattle.pf_chart.specs.declared.traffic.Traffic.{Traffic}
use Rattle.pf_chart.proofs.Sending.{Reports, at_seam, one_ends, other_stays, stays_in}

-- ---- arrows by their columns and kinds

-- the kinds differ by their numbers
abbrev kind_at : ℕ → SignalKind
kind_at n =
    if n == 0 then kind.Message
    else (if n == 1 then kind.Link
    else (if n == 2 then kind.Unlink
    else (if n == 3 then kind.Monitor
    else (if n == 4 then kind.Demonitor
    else (if n == 5 then kind.Down
    else kind.Exit)))))

number_back : (k : SignalKind) → kind_at (signal_kind_number k) ≡ k
number_back kind.Message = refl
number_back kind.Link = refl
number_back kind.Unlink = refl
number_back kind.Monitor = refl
number_back kind.Demonitor = refl
number_back kind.Down = refl
number_back kind.Exit = refl

same_kind : (a b c d : ℕ) (k l : SignalKind) → way_of a b k ≡ way_of c d l → k ≡ l
same_kind a b c d k l e = sym (number_back k) ∙ ap (λ (w : Way). kind_at w.2) e ∙ number_back l

-- the same signal, however it ends
alike : (ps : List Process) (a b : Arrow) (x : Suffix) (e : Event) → b.kind ≡ a.kind → b.from ≡ a.from → b.to ≡ a.to
    → Delivers ps a x e → Delivers ps b x e
alike ps a b x e kinds froms tos d = record {
  from = d.from;
  to = d.to;
  signal = d.signal;
  actor = d.actor;
  label = d.label;
  kind = kinds ∙ d.kind;
  sender = subst (λ (i : ℕ). HasPid ps i d.from) (sym froms) d.sender;
  receiver = subst (λ (i : ℕ). HasPid ps i d.to) (sym tos) d.receiver;
}

begins_alike : (es : List Event) (ps : List Process) (a b : Arrow) (s : ArrowStart) → b.kind ≡ a.kind → b.from ≡ a.from
    → b.to ≡ a.to → BeginsIn es ps a s → BeginsIn es ps b s
begins_alike es ps a b (start.In n) kinds froms tos (e, at, has) =
    (e, at, subst (λ (i : ℕ). HasPid ps i (marked e.actor)) (sym froms) has)
begins_alike es ps a b (start.Above n) kinds froms tos (x, d) = (x, (d.0, d.1, alike ps a b x d.0 kinds froms tos d.2))

ends_by : (es : List Event) (ps : List Process) (a : Arrow) (x : Suffix) (n : ℕ) → IsDeliveredIn es ps a x n
    → EndsIn es ps a (reach_of x n)
ends_by es ps a no_process n d = (no_process, d, refl)
ends_by es ps a dropped n d = (dropped, d, refl)
ends_by es ps a took_effect n d = (took_effect, d, refl)
ends_by es ps a as_message n d = (as_message, d, refl)
ends_by es ps a (ending_with r) n d = (ending_with r, d, refl)

abbrev suffix_in : Label → Suffix
suffix_in (delivers signal x) = x
suffix_in l = took_effect

same_suffix : (f g : Signal) (x y : Suffix) → delivers f x ≡ delivers g y → x ≡ y
same_suffix f g x y h = ap suffix_in h

-- what is delivered is somewhere
delivered_somewhere : (x : Suffix) (n : ℕ) → reach_of x n ≡ reach.Nowhere → ⊥
delivered_somewhere no_process n h = absurd (cc)
delivered_somewhere dropped n h = absurd (cc)
delivered_somewhere took_effect n h = absurd (cc)
delivered_somewhere as_message n h = absurd (cc)
delivered_somewhere (ending_with r) n h = absurd (cc)

module _ (es : List Event) (ps : List Process) where
  -- ---- what is written

  put_after : (xs more : List Arrow) → ((i : ℕ) (a : Arrow) → slice_get xs i ≡ Some a → IsArrow es ps a)
      → ((i : ℕ) (a : Arrow) → slice_get more i ≡ Some a → IsArrow es ps a)
      → (i : ℕ) (a : Arrow) → slice_get (xs ++ more) i ≡ Some a → IsArrow es ps a
  put_after [] more h k i a at = k i a at
  put_after (x ∷ xs) more h k zero a at = h zero a at
  put_after (x ∷ xs) more h k (suc i) a at = put_after xs more (λ j b. h (suc j) b) k i a at

  sent_is : (n a : ℕ) (e : Event) → slice_get es n ≡ Some e → HasPid ps a (marked e.actor) → (more : List Arrow)
      → AreSentIn n a more
      → (i : ℕ) (x : Arrow) → slice_get more i ≡ Some x → IsArrow es ps x
  sent_is n a e at has [] h i x is = absurd (cc)
  sent_is n a e at has (y ∷ more) ((b, k, same), rest) zero x is =
      let one : x ≡ open_arrow n a b k = sym (same_Some y x is) ∙ same in
      subst (λ (z : Arrow). IsArrow es ps z) (sym one) (record { begins = (e, at, has); ends = refl })
  sent_is n a e at has (y ∷ more) (one, rest) (suc i) x is = sent_is n a e at has more rest i x is

  pub sends_drawn : (n a c : ℕ) (e : Event) (s t : Traffic) → slice_get es n ≡ Some e → HasPid ps a (marked e.actor)
      → Sends n a s t
      → AreArrows es ps c s.arrows.items → AreArrows es ps c t.arrows.items
  sends_drawn n a c e s t at has h d =
      let xs = s.arrows.items in
      subst (λ (ys : List Arrow). AreArrows es ps c ys) (sym h.after) (record {
        each = put_after xs h.more d.each (sent_is n a e at has h.more h.are_sent);
        all = λ m f p q i j signal x low is actor label sender receiver.
            (let had = d.all m f p q i j signal x low is actor label sender receiver in
            (had.0, had.1, stays_in xs h.more had.0 had.1 had.2, had.3, had.4));
      })

  -- ---- one event more

  -- which is no delivery between two processes
  pub one_more : (n : ℕ) (e : Event) (xs : List Arrow) → slice_get es n ≡ Some e
      → ((p q i j : ℕ) (signal : Signal) (x : Suffix) → e.actor ≡ Channel p q → e.label ≡ delivers signal x
      → HasPid ps i p → HasPid ps j q → ⊥)
      → AreArrows es ps n xs → AreArrows es ps (n + 1) xs
  one_more n e xs at never d = record {
    each = d.each;
    all = λ m f p q i j signal x low is actor label sender receiver.
        all m f p q i j signal x low is actor label sender receiver (eqb_tells m n);
  }
    where
      all : (m : ℕ) (f : Event) (p q i j : ℕ) (signal : Signal) (x : Suffix) → m < n + 1 → slice_get es m ≡ Some f
          → f.actor ≡ Channel p q → f.label ≡ delivers signal x → HasPid ps i p → HasPid ps j q → Reports m n
          → (k : ℕ) × (a : Arrow) × (slice_get xs k ≡ Some a) × Delivers ps a x f × (a.reach ≡ reach_of x m)
      all m f p q i j signal x low is actor label sender receiver (inl same) =
          let one : f ≡ e = same_Some f e (sym is ∙ ap (slice_get es) same.1 ∙ at) in
          absurd (never p q i j signal x (ap (λ (z : Event). z.actor) (sym one) ∙ actor)
          (ap (λ (z : Event). z.label) (sym one) ∙ label) sender receiver)
      all m f p q i j signal x low is actor label sender receiver (inr other) =
          d.all m f p q i j signal x (let less : m < n = omega (arith, low, other.1) in less) is actor label
          sender receiver

  -- ---- what is delivered

  -- an arrow that ends is one still
  ended_is : (a : Arrow) (x : Suffix) (n : ℕ) (b : Arrow) → b ≡ record a { reach = reach_of x n }
      → IsDeliveredIn es ps a x n → IsArrow es ps a → IsArrow es ps b
  ended_is a x n b is d h =
      let c : Arrow = record a { reach = reach_of x n } in
      subst (λ (z : Arrow). IsArrow es ps z) (sym is) (record {
        begins = begins_alike es ps a c a.start refl refl refl h.begins;
        ends = ends_by es ps c x n (d.0, d.1, alike ps a c x d.0 refl refl refl d.2);
      })

  module _ (n a b p q : ℕ) (e : Event) (signal : Signal) (x : Suffix) (at : slice_get es n ≡ Some e)
      (actor : e.actor ≡ Channel p q)
      (label : e.label ≡ delivers signal x) (sender : HasPid ps a p) (receiver : HasPid ps b q) where
    abbrev k : SignalKind
    k = kind_of signal

    abbrev alone : Arrow
    alone = unreported n a b k (reach_of x n)

    abbrev delivers_it : (y : Arrow) → way_of y.from y.to y.kind ≡ way_of a b k → IsDeliveredIn es ps y x n
    delivers_it y way = (
      e,
      at,
      record {
        from = p;
        to = q;
        signal = signal;
        actor = actor;
        label = label;
        kind = same_kind y.from y.to a b y.kind k way;
        sender = subst (λ (i : ℕ). HasPid ps i p) (sym (ap (λ (w : Way). w.0) way)) sender;
        receiver = subst (λ (i : ℕ). HasPid ps i q) (sym (ap (λ (w : Way). w.1) way)) receiver;
      },
    )

    alone_is : IsArrow es ps alone
    alone_is = record { begins = (x, delivers_it alone refl); ends = ends_by es ps alone x n (delivers_it alone refl) }

    pub arrived_drawn : (s t : Traffic) → IsDelivered (way_of a b k) alone s t → AreWaiting s
        → AreArrows es ps n s.arrows.items → AreArrows es ps (n + 1) t.arrows.items
    arrived_drawn s t (None, first, others, arrows) wait d = subst (λ (ys : List Arrow). AreArrows es ps (n + 1) ys)
        (sym arrows) (record {
          each = put_after xs (alone ∷ []) d.each only;
          all = λ m f v w i j g y low is acts labelled from to. all m f v w i j g y low is acts labelled from to
              (eqb_tells m n);
        })
      where
        xs : List Arrow
        xs = s.arrows.items

        only : (i : ℕ) (z : Arrow) → slice_get (alone ∷ []) i ≡ Some z → IsArrow es ps z
        only zero z is = subst (λ (u : Arrow). IsArrow es ps u) (same_Some alone z is) alone_is
        only (suc i) z is = absurd (cc)

        all : (m : ℕ) (f : Event) (v w i j : ℕ) (g : Signal) (y : Suffix) → m < n + 1 → slice_get es m ≡ Some f
            → f.actor ≡ Channel v w → f.label ≡ delivers g y → HasPid ps i v → HasPid ps j w → Reports m n
            → (l : ℕ) × (z : Arrow) × (slice_get (xs ++ alone ∷ []) l ≡ Some z) × Delivers ps z y f
            × (z.reach ≡ reach_of y m)
        all m f v w i j g y low is acts labelled from to (inl same) =
            let one : e ≡ f = same_Some e f (sym at ∙ ap (slice_get es) (sym same.1) ∙ is) in
            let suffixes : delivers signal x ≡ delivers g y = sym label ∙ ap (λ (z : Event). z.label) one
            ∙ labelled in (
              length xs,
              alone,
              at_seam xs alone [],
              subst (λ (u : Suffix). Delivers ps alone u f) (same_suffix signal g x y suffixes)
                  (subst (Delivers ps alone x) one (delivers_it alone refl).2),
              ap (λ (u : Suffix). reach_of u n) (same_suffix signal g x y suffixes) ∙ ap (reach_of y) (sym same.1),
            )
        all m f v w i j g y low is acts labelled from to (inr other) =
            let had = d.all m f v w i j g y (let less : m < n = omega (arith, low, other.1) in less) is acts
            labelled from to in
            (had.0, had.1, stays_in xs (alone ∷ []) had.0 had.1 had.2, had.3, had.4)
    arrived_drawn s t (Some j, first, others, ended) wait d =
        record {
          each = each;
          all = λ m f v w i o g y low is acts labelled from to.
              all m f v w i o g y low is acts labelled from to (eqb_tells m n);
        }
      where
        xs : List Arrow
        xs = s.arrows.items

        ys : List Arrow
        ys = t.arrows.items

        on : IsOnWay xs (way_of a b k) j
        on = (subst (λ is. AreOnWay xs (way_of a b k) is) first (wait (way_of a b k))).0

        each : (i : ℕ) (z : Arrow) → slice_get ys i ≡ Some z → IsArrow es ps z
        each i z is = by (eqb_tells i j)
          where
            from : (y : Arrow) × (slice_get xs i ≡ Some y)
                × (z ≡ (if i == j then record y { reach = reach_of x n } else y))
            from = ended.1 i z is

            by : Reports i j → IsArrow es ps z
            by (inl e') =
                let there : slice_get xs j ≡ Some from.0 = ap (slice_get xs) (sym e'.1) ∙ from.1 in
                let one : on.0 ≡ from.0 = same_Some on.0 from.0 (sym on.1 ∙ there) in
                ended_is from.0 x n z (from.2 ∙ ap (λ c. if c then record from.0 { reach = reach_of x n }
                else from.0) e'.0)
                (delivers_it from.0 (ap (λ (u : Arrow). way_of u.from u.to u.kind) (sym one) ∙ on.2))
                (d.each i from.0 from.1)
            by (inr e') =
                subst (λ (u : Arrow). IsArrow es ps u)
                (sym (from.2 ∙ ap (λ c. if c then record from.0 { reach = reach_of x n } else from.0) e'.0))
                (d.each i from.0 from.1)

        all : (m : ℕ) (f : Event) (v w i o : ℕ) (g : Signal) (y : Suffix) → m < n + 1 → slice_get es m ≡ Some f
            → f.actor ≡ Channel v w → f.label ≡ delivers g y → HasPid ps i v → HasPid ps o w → Reports m n
            → (l : ℕ) × (z : Arrow) × (slice_get ys l ≡ Some z) × Delivers ps z y f × (z.reach ≡ reach_of y m)
        all m f v w i o g y low is acts labelled from to (inl same) =
            let one : e ≡ f = same_Some e f (sym at ∙ ap (slice_get es) (sym same.1) ∙ is) in
            let suffixes : delivers signal x ≡ delivers g y = sym label ∙ ap (λ (z : Event). z.label) one ∙ labelled in
            let z : Arrow = record on.0 { reach = reach_of x n } in (
              j,
              z,
              one_ends j (reach_of x n) xs ys ended on.0 on.1,
              subst (λ (u : Suffix). Delivers ps z u f) (same_suffix signal g x y suffixes)
                  (subst (Delivers ps z x) one (delivers_it z on.2).2),
              ap (λ (u : Suffix). reach_of u n) (same_suffix signal g x y suffixes) ∙ ap (reach_of y) (sym same.1),
            )
        all m f v w i o g y low is acts labelled from to (inr other) =
            let had = d.all m f v w i o g y (let less : m < n = omega (arith, low, other.1) in less) is acts
            labelled from to in (
              had.0,
              had.1,
              other_stays j (reach_of x n) xs ys ended had.0 had.1 had.2 (unended had.0 had.1 had.2 had.4),
              had.3,
              had.4,
            )
          where
            unended : (l : ℕ) (z : Arrow) → slice_get xs l ≡ Some z → z.reach ≡ reach_of y m → l ≡ j → ⊥
            unended l z there reaches e' =
                let one : z ≡ on.0 = same_Some z on.0 (sym there ∙ ap (slice_get xs) e' ∙ on.1) in
                absurd (delivered_somewhere y m (sym reaches ∙ ap (λ (u : Arrow). u.reach) one ∙ on.3))
