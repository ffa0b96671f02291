-- Lists with separators, for each kind of item: what is read derives the tokens that it took, and what derives tokens
-- is read.
use Rattle.std.proofs.Common.{◌≡◌, ℕ, zero, suc, ◌≤◌, ◌<◌, List, [], ◌∷◌, ◌++◌, length, false, Option, Some, None, refl}
use Rattle.std.proofs.Common.{sym, ap, subst, ◌∙◌, arith, append_assoc}
use Rattle.std.proofs.lemmas.List.{length-append}
use Rattle.pf_tokens.specs.declared.marks.TokenMark.TheVariants as marks
use Rattle.pf_tokens.specs.NumberedTokens.{NumberedKind, mark, NumberedToken}
use Rattle.pf_grammar.specs.Grammar.{Before, Apart}
use Rattle.pf_grammar.specs.Parse.{◌>>=◌, Parse, is, after_kind, items_step, items, until_step, until, Listed}
use Rattle.pf_grammar.specs.Parse.{tail_step, listed_step, listed}
use Rattle.pf_grammar.proofs.Single.{bind_some, some_is, after_some, after_here, after_other, after_none, Plain}

-- ---- a part at the front

-- the tokens are a part and what is left
pub record Took (P : List NumberedToken → Type 0) (ts rest : List NumberedToken) : Type 0 where
  pub front : List NumberedToken
  pub parts : ts ≡ front ++ rest
  pub holds : P front

-- what is read derives what it took
abbrev pub SoundFor : {A : Type 0} → Parse A → (A → List NumberedToken → Type 0) → Type 0
SoundFor {A = A} p P = (ts : List NumberedToken) (x : A × List NumberedToken) → p ts ≡ Some x → Took (P x.0) ts x.1

-- what derives a front is read, where what follows it ends it
abbrev pub CompleteFor : {A : Type 0} → Parse A → (A → List NumberedToken → Type 0)
    → (List NumberedToken → Type 0) → Type 0
CompleteFor {A = A} p P Ends = (x : A) (front rest : List NumberedToken) → P x front → Ends rest
    → p (front ++ rest) ≡ Some (x, rest)

-- whatever follows
abbrev pub Any : List NumberedToken → Type 0
Any rest = Unit {0}

-- what was taken for one answer is taken for the same answer
pub took_is : {A : Type 0} (P : A → List NumberedToken → Type 0) (ts : List NumberedToken)
    (y x : A × List NumberedToken) → Some y ≡ Some x → Took (P y.0) ts y.1 → Took (P x.0) ts x.1
took_is P ts y x e t = subst (λ (z : _ × List NumberedToken). Took (P z.0) ts z.1) (some_is y x e) t

-- two parts, one after the other
pub grow : (ts front r c rest : List NumberedToken) → ts ≡ front ++ r → r ≡ c ++ rest → ts ≡ (front ++ c) ++ rest
grow ts front r c rest e f = e ∙ ap (λ (l : List NumberedToken). front ++ l) f ∙ sym (append_assoc front c rest)

-- the same with a token between them
pub grow_apart : (ts front r : List NumberedToken) (t : NumberedToken) (mid c rest : List NumberedToken)
    → ts ≡ front ++ r → r ≡ t ∷ mid → mid ≡ c ++ rest → ts ≡ (front ++ t ∷ c) ++ rest
grow_apart ts front r t mid c rest e f g = grow ts front r (t ∷ c) rest e (f ∙ ap (λ (l : List NumberedToken). t ∷ l) g)

-- ---- items with a kind of token between them

abbrev pub Separated : {A : Type 0} → NumberedKind → (A → List NumberedToken → Type 0) → List A
    → List NumberedToken → Type 0
Separated s P [] ts = ts ≡ []
Separated s P (x ∷ []) ts = P x ts
Separated s P (x ∷ y ∷ xs) ts = Apart s (P x) (Separated s P (y ∷ xs)) ts

-- some items
abbrev pub Several : {A : Type 0} → NumberedKind → (A → List NumberedToken → Type 0) → List A
    → List NumberedToken → Type 0
Several s P xs ts = Separated s P xs ts × (xs ≡ [] → ⊥)

-- a part begins with a token that isn't this kind of token
pub record Opens (s : NumberedKind) (front : List NumberedToken) : Type 0 where
  pub first : NumberedToken
  pub others : List NumberedToken
  pub whole : front ≡ first ∷ others
  pub differs : is s first.kind ≡ false

pub opens_front : (s : NumberedKind) (front rest : List NumberedToken) → Opens s front
    → after_kind s (front ++ rest) ≡ None
opens_front s front rest o = ap (λ (l : List NumberedToken). after_kind s (l ++ rest)) o.whole ∙ after_other s o.first
    (o.others ++ rest) o.differs

pub opens_length : (s : NumberedKind) (front : List NumberedToken) → Opens s front → 0 < length front
opens_length s front o = let w = ap length o.whole in omega arith

-- a part that begins a longer one
pub opens_on : (s : NumberedKind) (front more whole : List NumberedToken) → whole ≡ front ++ more → Opens s front
    → Opens s whole
opens_on s front more whole e o = record {
  first = o.first;
  others = o.others ++ more;
  whole =
      e ∙ ap (λ (l : List NumberedToken). l ++ more) o.whole;
  differs = o.differs;
}

module _ (A : Type 0) (s : NumberedKind) (P : A → List NumberedToken → Type 0) (item : Parse A) where
  one_more : (x : A) (us : List A) (xs ys : List NumberedToken) (t : NumberedToken) → (us ≡ [] → ⊥) → t.kind ≡ s
      → P x xs → Separated s P us ys → Separated s P (x ∷ us) (xs ++ t ∷ ys)
  one_more x [] xs ys t h e p q = absurd (h refl)
  one_more x (y ∷ us) xs ys t h e p q = (xs, t, ys, e, refl, p, q)

  step_sound : (go : Parse (List A)) → SoundFor go (Several s P)
      → (ts : List NumberedToken) (x : A) (r : List NumberedToken) → Took (P x) ts r → (o : Option (List NumberedToken))
      → after_kind s r ≡ o → (y : List A × List NumberedToken) → items_step go x r o ≡ Some y
      → Took (Several s P y.0) ts y.1
  step_sound go sound ts x r took None e y f =
      took_is (Several s P) ts (x ∷ [], r) y f
      (record { front = took.front; parts = took.parts; holds = (took.holds, λ h. cc) })
  step_sound go sound ts x r took (Some rest) e y f =
      let b = bind_some (go rest) (λ more. Some (x ∷ more.0, more.1)) y f in
      let sep = after_some s r rest e in
      let more = sound rest b.0 b.1 in
      let parts = grow ts took.front r (sep.0 ∷ more.front) b.0.1 took.parts
      (sep.2 ∙ ap (λ (l : List NumberedToken). sep.0 ∷ l) more.parts) in
      let whole = one_more x b.0.0 took.front more.front sep.0 more.holds.1 sep.1 took.holds more.holds.0 in
      took_is (Several s P) ts (x ∷ b.0.0, b.0.1) y b.2 (record { front = _; parts = parts; holds = (whole, λ h. cc) })

  pub items_sound : SoundFor item P → (n : ℕ) → SoundFor (items s item n) (Several s P)
  unfolding items
  items_sound sound zero ts y e = absurd cc
  items_sound sound (suc n) ts y e =
      let b = bind_some (item ts) (λ x. items_step (items s item n) x.0 x.1 (after_kind s x.1)) y e in
      step_sound (items s item n) (items_sound sound n) ts b.0.0 b.0.1 (sound ts b.0 b.1)
      (after_kind s b.0.1) refl y b.2

  module _ (Ends : List NumberedToken → Type 0) (plain : Plain s) (complete : CompleteFor item P Ends)
      (some : (x : A) (front : List NumberedToken) → P x front → 0 < length front)
      (ends : (t : NumberedToken) (ts : List NumberedToken) → t.kind ≡ s → Ends (t ∷ ts)) where
    pub items_complete : (xs : List A) (front rest : List NumberedToken) (n : ℕ) → Several s P xs front → Ends rest
        → after_kind s rest ≡ None → length front ≤ n → items s item n (front ++ rest) ≡ Some (xs, rest)
    unfolding items
    items_complete [] front rest n h stop last le = absurd (h.1 refl)
    items_complete (x ∷ []) front rest zero h stop last le = absurd (let l = some x front h.0 in omega arith)
    items_complete (x ∷ []) front rest (suc n) h stop last le = let one = complete x front rest h.0 stop in
        rw (one, last) refl
    items_complete (x ∷ y ∷ xs) front rest zero h stop last le =
        absurd (let a = h.0 in let w = ap length a.4 in omega (arith, w, length-append a.0 (a.1 ∷ a.2)))
    items_complete (x ∷ y ∷ xs) front rest (suc n) h stop last le =
        let a = h.0 in
        let after = a.1 ∷ (a.2 ++ rest) in
        let regroup : front ++ rest ≡ a.0 ++ after = ap (λ (l : List NumberedToken). l ++ rest) a.4 ∙ append_assoc a.0
        (a.1 ∷ a.2) rest in
        let one = complete x a.0 after a.5 (ends a.1 (a.2 ++ rest) a.3) in
        let sep = after_here s a.1 (a.2 ++ rest) plain a.3 in
        let shorter : length a.2 ≤ n = let w = ap length a.4 in
        omega (arith, w, length-append a.0 (a.1 ∷ a.2), some x a.0 a.5) in
        let others = items_complete (y ∷ xs) a.2 rest n (a.6, λ e. cc) stop last shorter in
        ap (items s item (suc n)) regroup ∙ rw (one, sep, others) refl

-- ---- items with commas up to a closing kind of token

-- items with commas, or none, and this kind of token after them
abbrev pub Closed : {A : Type 0} → NumberedKind → (A → List NumberedToken → Type 0) → List A
    → List NumberedToken → Type 0
Closed last P xs = Before last (Separated (mark marks.Comma) P xs)

module _ (A : Type 0) (last : NumberedKind) (P : A → List NumberedToken → Type 0) (item : Parse A) where
  until_step_sound : SoundFor item P → (ts : List NumberedToken) (o : Option (List NumberedToken))
      → after_kind last ts ≡ o → (y : List A × List NumberedToken) → until_step last item ts o ≡ Some y
      → Took (Closed last P y.0) ts y.1
  until_step_sound sound ts (Some rest) e y f =
      let m = after_some last ts rest e in
      took_is (Closed last P) ts ([], rest) y f
      (record { front = m.0 ∷ []; parts = m.2; holds = ([], m.0, m.1, refl, refl) })
  until_step_sound sound ts None e y f =
      let b = bind_some (items (mark marks.Comma) item (length ts) ts) (λ x. after_kind last x.1 >>= λ rest.
      Some (x.0, rest)) y f in
      let c = bind_some (after_kind last b.0.1) (λ rest. Some (b.0.0, rest)) y b.2 in
      let m = after_some last b.0.1 c.0 c.1 in
      let l = items_sound A (mark marks.Comma) P item sound (length ts) ts b.0 b.1 in
      let parts = grow ts l.front b.0.1 (m.0 ∷ []) c.0 l.parts m.2 in
      took_is (Closed last P) ts (b.0.0, c.0) y c.2
      (record { front = l.front ++ m.0 ∷ []; parts = parts; holds = (l.front, m.0, m.1, refl, l.holds.0) })

  pub until_sound : SoundFor item P → SoundFor (until last item) (Closed last P)
  until_sound sound ts y e = until_step_sound sound ts (after_kind last ts) refl y e

  module _ (Ends : List NumberedToken → Type 0) (plain : Plain last) (no_comma : is (mark marks.Comma) last ≡ false)
      (complete : CompleteFor item P Ends) (opens : (x : A) (front : List NumberedToken) → P x front → Opens last front)
      (comma_ends : (t : NumberedToken) (ts : List NumberedToken) → t.kind ≡ mark marks.Comma → Ends (t ∷ ts))
      (last_ends : (t : NumberedToken) (ts : List NumberedToken) → t.kind ≡ last → Ends (t ∷ ts)) where
    list_opens : (xs : List A) (front : List NumberedToken) → Several (mark marks.Comma) P xs front → Opens last front
    list_opens [] front h = absurd (h.1 refl)
    list_opens (x ∷ []) front h = opens x front h.0
    list_opens (x ∷ y ∷ xs) front h = let a = h.0 in opens_on last a.0 (a.1 ∷ a.2) front a.4 (opens x a.0 a.5)

    several_complete : (xs : List A) (mid rest : List NumberedToken) (t : NumberedToken) → t.kind ≡ last
        → Several (mark marks.Comma) P xs mid → until last item (mid ++ t ∷ rest) ≡ Some (xs, rest)
    several_complete xs mid rest t e h =
        let non = opens_front last mid (t ∷ rest) (list_opens xs mid h) in
        let closes = after_here last t rest plain e in
        let comma : after_kind (mark marks.Comma) (t ∷ rest) ≡ None =
        after_other (mark marks.Comma) t rest (rw e no_comma) in
        let some : (x : A) (front : List NumberedToken) → P x front
        → 0 < length front = λ x front p. opens_length last front (opens x front p) in
        let listed = items_complete A (mark marks.Comma) P item Ends refl complete some comma_ends xs mid (t ∷ rest)
        (length (mid ++ t ∷ rest)) h (last_ends t rest e) comma (omega (arith, length-append mid (t ∷ rest))) in
        rw (non, listed, closes) refl

    inside_complete : (xs : List A) (mid rest : List NumberedToken) (t : NumberedToken) → t.kind ≡ last
        → Separated (mark marks.Comma) P xs mid → until last item (mid ++ t ∷ rest) ≡ Some (xs, rest)
    inside_complete [] mid rest t e h = let closes = after_here last t rest plain e in
        ap (λ (l : List NumberedToken). until last item (l ++ t ∷ rest)) h ∙ rw closes refl
    inside_complete (x ∷ xs) mid rest t e h = several_complete (x ∷ xs) mid rest t e (h, λ w. cc)

    pub until_complete : (xs : List A) (front rest : List NumberedToken) → Closed last P xs front
        → until last item (front ++ rest) ≡ Some (xs, rest)
    until_complete xs front rest h =
        let regroup : front ++ rest ≡ h.0 ++ h.1 ∷ rest = ap (λ (l : List NumberedToken). l ++ rest) h.3
        ∙ append_assoc h.0 (h.1 ∷ []) rest in
        ap (until last item) regroup ∙ inside_complete xs h.0 rest h.1 h.2 h.4

-- ---- lists: items with commas and perhaps a bar and a last item, up to a closing bracket

abbrev pub ListedIs : {A : Type 0} → (A → List NumberedToken → Type 0) → Listed A → List NumberedToken → Type 0
ListedIs P (xs, None) = Closed (mark marks.CloseBracket) P xs
ListedIs P (xs, Some y) = Before (mark marks.CloseBracket)
    (Apart (mark marks.Bar) (Several (mark marks.Comma) P xs) (P y))

module _ (A : Type 0) (P : A → List NumberedToken → Type 0) (item : Parse A) where
  tail_sound : SoundFor item P → (ts : List NumberedToken) (xs : List A) (r : List NumberedToken)
      → Took (Several (mark marks.Comma) P xs) ts r → (o : Option (List NumberedToken))
      → after_kind (mark marks.Bar) r ≡ o → (y : Listed A × List NumberedToken) → tail_step item xs r o ≡ Some y
      → Took (ListedIs P y.0) ts y.1
  tail_sound sound ts xs r took None e y f =
      let b = bind_some (after_kind (mark marks.CloseBracket) r) _ y f in
      let m = after_some (mark marks.CloseBracket) r b.0 b.1 in
      let parts = grow ts took.front r (m.0 ∷ []) b.0 took.parts m.2 in
      took_is (ListedIs P) ts ((xs, None), b.0) y b.2
      (record { front = took.front ++ m.0 ∷ []; parts = parts; holds = (took.front, m.0, m.1, refl, took.holds.0) })
  tail_sound sound ts xs r took (Some rest) e y f =
      let a = bind_some (item rest) _ y f in
      let b = bind_some (after_kind (mark marks.CloseBracket) a.0.1) _ y a.2 in
      let bar = after_some (mark marks.Bar) r rest e in
      let last = after_some (mark marks.CloseBracket) a.0.1 b.0 b.1 in
      let i = sound rest a.0 a.1 in
      let mid : List NumberedToken = took.front ++ bar.0 ∷ i.front in
      let upto : ts ≡ mid ++ a.0.1 = grow ts took.front r (bar.0 ∷ i.front) a.0.1 took.parts
      (bar.2 ∙ ap (λ (l : List NumberedToken). bar.0 ∷ l) i.parts) in
      let parts = grow ts mid a.0.1 (last.0 ∷ []) b.0 upto last.2 in
      took_is (ListedIs P) ts ((xs, Some a.0.0), b.0) y b.2
      (record {
        front = mid ++ last.0 ∷ [];
        parts = parts;
        holds =
            (mid, last.0, last.1, refl, (took.front, bar.0, i.front, bar.1, refl, took.holds, i.holds));
      })

  listed_step_sound : SoundFor item P → (ts : List NumberedToken) (o : Option (List NumberedToken))
      → after_kind (mark marks.CloseBracket) ts ≡ o → (y : Listed A × List NumberedToken)
      → listed_step item ts o ≡ Some y → Took (ListedIs P y.0) ts y.1
  listed_step_sound sound ts (Some rest) e y f =
      let m = after_some (mark marks.CloseBracket) ts rest e in
      took_is (ListedIs P) ts (([], None), rest) y f
      (record { front = m.0 ∷ []; parts = m.2; holds = ([], m.0, m.1, refl, refl) })
  listed_step_sound sound ts None e y f =
      let b = bind_some (items (mark marks.Comma) item (length ts) ts) _ y f in
      let l = items_sound A (mark marks.Comma) P item sound (length ts) ts b.0 b.1 in
      tail_sound sound ts b.0.0 b.0.1 l (after_kind (mark marks.Bar) b.0.1) refl y b.2

  pub listed_sound : SoundFor item P → SoundFor (listed item) (ListedIs P)
  listed_sound sound ts y e = listed_step_sound sound ts (after_kind (mark marks.CloseBracket) ts) refl y e

  module _ (Ends : List NumberedToken → Type 0) (complete : CompleteFor item P Ends)
      (opens : (x : A) (front : List NumberedToken) → P x front → Opens (mark marks.CloseBracket) front)
      (comma_ends : (t : NumberedToken) (ts : List NumberedToken) → t.kind ≡ mark marks.Comma → Ends (t ∷ ts))
      (bar_ends : (t : NumberedToken) (ts : List NumberedToken) → t.kind ≡ mark marks.Bar → Ends (t ∷ ts))
      (last_ends : (t : NumberedToken) (ts : List NumberedToken) → t.kind ≡ mark marks.CloseBracket
      → Ends (t ∷ ts)) where
    bracket_opens : (xs : List A) (front : List NumberedToken) → Several (mark marks.Comma) P xs front
        → Opens (mark marks.CloseBracket) front
    bracket_opens [] front h = absurd (h.1 refl)
    bracket_opens (x ∷ []) front h = opens x front h.0
    bracket_opens (x ∷ y ∷ xs) front h = let a = h.0 in opens_on (mark marks.CloseBracket) a.0 (a.1 ∷ a.2) front a.4
        (opens x a.0 a.5)

    -- the items, before a token that ends the last one
    listed_items : (xs : List A) (mid rest : List NumberedToken) → Several (mark marks.Comma) P xs mid → Ends rest
        → after_kind (mark marks.Comma) rest ≡ None → items (mark marks.Comma) item (length (mid ++ rest)) (mid ++ rest)
        ≡ Some (xs, rest)
    listed_items xs mid rest h stop comma =
        let some : (x : A) (front : List NumberedToken) → P x front
        → 0 < length front = λ x front p. opens_length (mark marks.CloseBracket) front (opens x front p) in
        items_complete A (mark marks.Comma) P item Ends refl complete some comma_ends xs mid rest (length (mid ++ rest))
        h stop comma (omega (arith, length-append mid rest))

    listed_plain : (xs : List A) (mid rest : List NumberedToken) (t : NumberedToken) → t.kind ≡ mark marks.CloseBracket
        → Separated (mark marks.Comma) P xs mid → listed item (mid ++ t ∷ rest) ≡ Some ((xs, None), rest)
    listed_plain [] mid rest t e h = let closes = after_here (mark marks.CloseBracket) t rest refl e in
        ap (λ (l : List NumberedToken). listed item (l ++ t ∷ rest)) h ∙ rw closes refl
    listed_plain (x ∷ xs) mid rest t e h =
        let all : Several (mark marks.Comma) P (x ∷ xs) mid = (h, λ w. cc) in
        let non = opens_front (mark marks.CloseBracket) mid (t ∷ rest) (bracket_opens (x ∷ xs) mid all) in
        let read = listed_items (x ∷ xs) mid (t ∷ rest) all (last_ends t rest e)
        (after_none (mark marks.Comma) (mark marks.CloseBracket) t rest e refl) in
        let bar = after_none (mark marks.Bar) (mark marks.CloseBracket) t rest e refl in
        let closes = after_here (mark marks.CloseBracket) t rest refl e in
        rw (non, read, bar, closes) refl

    listed_tail : (xs : List A) (y : A) (mid last rest : List NumberedToken) (b t : NumberedToken)
        → b.kind ≡ mark marks.Bar → t.kind ≡ mark marks.CloseBracket → Several (mark marks.Comma) P xs mid → P y last
        → listed item (mid ++ b ∷ (last ++ t ∷ rest)) ≡ Some ((xs, Some y), rest)
    listed_tail xs y mid last rest b t f e h p =
        let after = last ++ t ∷ rest in
        let non = opens_front (mark marks.CloseBracket) mid (b ∷ after) (bracket_opens xs mid h) in
        let read = listed_items xs mid (b ∷ after) h (bar_ends b after f)
        (after_none (mark marks.Comma) (mark marks.Bar) b after f refl) in
        let bar = after_here (mark marks.Bar) b after refl f in
        let one = complete y last (t ∷ rest) p (last_ends t rest e) in
        let closes = after_here (mark marks.CloseBracket) t rest refl e in
        rw (non, read, bar, one, closes) refl

    pub listed_complete : (x : Listed A) (front rest : List NumberedToken) → ListedIs P x front
        → listed item (front ++ rest) ≡ Some (x, rest)
    listed_complete (xs, None) front rest h =
        let regroup : front ++ rest ≡ h.0 ++ h.1 ∷ rest = ap (λ (l : List NumberedToken). l ++ rest) h.3
        ∙ append_assoc h.0 (h.1 ∷ []) rest in
        ap (listed item) regroup ∙ listed_plain xs h.0 rest h.1 h.2 h.4
    listed_complete (xs, Some y) front rest h =
        let a = h.4 in
        let regroup : front ++ rest ≡ a.0 ++ a.1 ∷ (a.2 ++ h.1 ∷ rest) = ap (λ (l : List NumberedToken). l ++ rest) h.3
        ∙ append_assoc h.0 (h.1 ∷ []) rest ∙ ap (λ (l : List NumberedToken). l ++ h.1 ∷ rest) a.4 ∙ append_assoc a.0
        (a.1 ∷ a.2) (h.1 ∷ rest) in
        ap (listed item) regroup ∙ listed_tail xs y a.0 a.2 rest a.1 h.1 a.3 h.2 a.5 a.6
