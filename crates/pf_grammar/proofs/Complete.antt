-- Each expression and each element that derives tokens and is no deeper than the limit is read, where what follows it
-- ends it.
use Rattle.std.proofs.Common.{◌≡◌, ℕ, zero, suc, ◌-◌, ◌≤◌, ◌<◌, List, ◌∷◌, ◌++◌, length, Bool, false, Option, Some}
use Rattle.std.proofs.Common.{None, refl, sym, ap, ◌∙◌, arith, append_assoc}
use Rattle.std.proofs.lemmas.Bool.{le-leb}
use Rattle.std.proofs.lemmas.List.{length-append}
use Rattle.pf_tokens.specs.declared.marks.TokenMark.TheVariants as marks
use Rattle.pf_syntax.specs.ExprPattern.{ExprPattern}
use Rattle.pf_syntax.specs.Expr as p
use Rattle.pf_syntax.specs.Expr.{Expr, expr_depth}
use Rattle.pf_tokens.specs.NumberedTokens.{mark, NumberedToken}
use Rattle.pf_grammar.specs.Grammar.{TokenNames, Joined, infix_of, level_of, left_level, right_level, top}
use Rattle.pf_grammar.specs.Grammar.{element as body_level, Derives}
use Rattle.pf_grammar.specs.declared.infix.Infix.{Infix}
use Rattle.pf_grammar.specs.declared.infix.Infix.TheVariants.{Operator, AndAlso, OrElse, Send}
use Rattle.pf_grammar.specs.Parse.{Parse, after_kind, joined_exprs, within, infix_ahead, more_step, more, unary}
use Rattle.pf_grammar.specs.Parse.{level_with, pattern, match_ahead, element_step, parse_expr_with, prim_with, readers}
use Rattle.pf_grammar.specs.Parse.{parse_expr, element}
use Rattle.pf_grammar.proofs.Single.{bind_some, some_is, after_some, after_here, level_low, level_high, left_low}
use Rattle.pf_grammar.proofs.Single.{left_most, right_low, right_most, infix_here}
use Rattle.pf_grammar.proofs.Lists.{CompleteFor, opens_front}
use Rattle.pf_grammar.proofs.Patterns.{pattern_sound, pattern_complete}
use Rattle.pf_grammar.proofs.Groups.{some_depth, Fits}
use Rattle.pf_grammar.proofs.Sound.{up}
use Rattle.pf_grammar.proofs.Stops.{Stops, stops_below, stops_infix, stops_kind, stops_ahead, spine_stops, starts_opens}
use Rattle.pf_grammar.proofs.Stops.{part_starts, pattern_expression}
use Rattle.pf_grammar.proofs.CompleteClauses.{ElementEnds, ExpressionsRead, ElementsRead}
use Rattle.pf_grammar.proofs.CompleteParts.{prim_complete}

within_is : (limit : ℕ) (e : Expr) (ts : List NumberedToken) → expr_depth e ≤ limit → within limit e ts ≡ Some (e, ts)
within_is limit e ts le = let fits = le-leb (expr_depth e) limit le in rw fits refl

-- ---- the right operand

-- the level at which the right operand of an expression is read; a part has none
spine : Expr → ℕ
spine (p.binary o a b) = right_level (Operator o)
spine (p.and_also a b) = right_level AndAlso
spine (p.or_else a b) = right_level OrElse
spine (p.send a b) = right_level Send
spine _ = 0

-- an infix ends the right operand of its left operand
spine_low : (n : TokenNames) (g : Bool) (i : Infix) (e : Expr) (front : List NumberedToken)
    → Derives n g e (left_level i) front → spine e < level_of i
unfolding spine
spine_low n g i (p.binary o a b) front h = spine_stops i (Operator o) h.0
spine_low n g i (p.and_also a b) front h = spine_stops i AndAlso h.0
spine_low n g i (p.or_else a b) front h = spine_stops i OrElse h.0
spine_low n g i (p.send a b) front h = spine_stops i Send h.0
spine_low n g i (p.integer z) front h = omega (arith, level_low i)
spine_low n g i _ front h = omega (arith, level_low i)

spine_most : (n : TokenNames) (g : Bool) (e : Expr) (level : ℕ) (front : List NumberedToken) → Derives n g e level front
    → spine e ≤ level
unfolding spine
spine_most n g (p.binary o a b) level front h = omega (arith, h.0, right_most (Operator o))
spine_most n g (p.and_also a b) level front h = omega (arith, h.0, right_most AndAlso)
spine_most n g (p.or_else a b) level front h = omega (arith, h.0, right_most OrElse)
spine_most n g (p.send a b) level front h = omega (arith, h.0, right_most Send)
spine_most n g (p.integer z) level front h = omega arith
spine_most n g _ level front h = omega arith

-- ---- infixes and their operands

module _ (deeper : ℕ → Parse Expr) (g : Bool) (limit level : ℕ) where
  more_stops : (turns floor : ℕ) (left : Expr) (ts : List NumberedToken) → infix_ahead g floor level ts ≡ None
      → more deeper g limit level turns floor left ts ≡ Some (left, ts)
  unfolding more
  more_stops zero floor left ts e = refl
  more_stops (suc turns) floor left ts e = ap (more_step deeper limit (more deeper g limit level turns) left ts) e

  more_goes : (turns fewer floor : ℕ) (left : Expr) (ts : List NumberedToken) (i : Infix) (after : List NumberedToken)
      (right : Expr) (rest : List NumberedToken) → turns ≡ suc fewer → infix_ahead g floor level ts ≡ Some (i, after)
      → deeper (right_level i) after ≡ Some (right, rest) → expr_depth (joined_exprs i left right) ≤ limit
      → more deeper g limit level turns floor left ts ≡ more deeper g limit level fewer (level_of i)
      (joined_exprs i left right) rest
  unfolding more
  more_goes turns fewer floor left ts i after right rest k e f le =
      let deep = within_is limit (joined_exprs i left right) rest le in rw (k, e, f, deep) refl

module _ (n : TokenNames) (d : ℕ) (parse_exprs : ExpressionsRead n d) (g : Bool) (part : Parse Expr)
    (part_complete : CompleteFor part (Fits n g 0 (suc d)) (Stops g 0)) where
  unary_part : (e : Expr) (front rest : List NumberedToken) → Fits n g 0 (suc d) e front → Stops g 0 rest
      → unary part (suc d) (front ++ rest) ≡ Some (e, rest)
  unary_part e front rest fits stops =
      let non = opens_front (mark marks.Minus) front rest
      (starts_opens false (mark marks.Minus) front refl (part_starts n g e front fits.0)) in
      let one = part_complete e front rest fits stops in
      rw non one

  unary_negate : (a : Expr) (front rest : List NumberedToken) → Fits n g 1 (suc d) (p.negate a) front → Stops g 0 rest
      → unary part (suc d) (front ++ rest) ≡ Some (p.negate a, rest)
  unary_negate a front rest fits stops =
      let h = fits.0 in
      let b = h.1 in
      let w = b.3 in
      let minus = after_here (mark marks.Minus) b.0 (b.1 ++ rest) refl b.2 in
      let one = part_complete a b.1 rest (b.4, omega (arith, fits.1)) stops in
      let deep = within_is (suc d) (p.negate a) rest fits.1 in
      rw (w, minus, one) deep

  -- reading at a level up to the tree, and going on from there
  record ReadsUpTo (level m : ℕ) (e : Expr) (front r : List NumberedToken) : Type 0 where
    turns : ℕ
    floor : ℕ
    low : floor ≤ m
    enough : length r ≤ turns
    reads : level_with part (parse_expr n g d) g (suc d) level (front ++ r) ≡ more (parse_expr n g d) g (suc d) level
        turns floor e r

  reads_at_once : (level m : ℕ) (e : Expr) (front r : List NumberedToken) → 1 ≤ m
      → unary part (suc d) (front ++ r) ≡ Some (e, r) → ReadsUpTo level m e front r
  reads_at_once level m e front r le one = record {
    turns = length r;
    floor = 1;
    low = le;
    enough = omega arith;
    reads = rw one refl;
  }

  -- the left operand was read, and then come the infix and the right one
  reads_joined : (level m : ℕ) (i : Infix) (a b : Expr) (front r : List NumberedToken) → m ≤ level
      → (h : Joined g i m (Derives n g a) (Derives n g b) front) → expr_depth (joined_exprs i a b) ≤ suc d
      → expr_depth b ≤ d → Stops g (right_level i) r
      → ReadsUpTo level (left_level i) a h.2.0 (h.2.1 ∷ (h.2.2 ++ r)) → ReadsUpTo level m (joined_exprs i a b) front r
  reads_joined level m i a b front r le h deep shallow stops left =
      let q = h.2 in
      let after = q.2 ++ r in
      let k : left.turns ≡ suc (left.turns - 1) = omega (arith, left.enough) in
      let ahead = infix_here g left.floor level i q.1 after q.3 h.1 left.low (let binds = h.0 in
      omega (arith, le, binds)) in
      let right = parse_exprs g (right_level i) (right_low i) (omega (arith, right_most i, level_high i)) b q.2 r
      (q.6, shallow) stops in
      let goes = more_goes (parse_expr n g d) g (suc d) level left.turns (left.turns - 1) left.floor a (q.1 ∷ after) i
      after b r k ahead right deep in
      let regroup : front ++ r ≡ q.0 ++ q.1 ∷ after = ap (λ (l : List NumberedToken). l ++ r) q.4 ∙ append_assoc q.0
      (q.1 ∷ q.2) r in
      record {
        turns = left.turns - 1;
        floor = level_of i;
        low = h.0;
        enough =
            omega (arith, left.enough, length-append q.2 r);
        reads =
            ap (level_with part (parse_expr n g d) g (suc d) level) regroup ∙ left.reads ∙ goes;
      }

  left_stops : (i : Infix) (a : Expr) (xs : List NumberedToken) (t : NumberedToken) (ts : List NumberedToken)
      → infix_of t.kind ≡ Some i → Derives n g a (left_level i) xs → Stops g (spine a) (t ∷ ts)
  left_stops i a xs t ts e h = stops_infix g (spine a) i t ts e (spine_low n g i a xs h)

  reads_part : (level m : ℕ) (e : Expr) (front r : List NumberedToken) → 1 ≤ m → Derives n g e 0 front
      → expr_depth e ≤ suc d → Stops g 0 r → ReadsUpTo level m e front r
  reads_part level m e front r one h deep stops =
      reads_at_once level m e front r one (unary_part e front r (h, deep) stops)

  reads_up_to : (level m : ℕ) (e : Expr) (front r : List NumberedToken) → 1 ≤ m → m ≤ level → level ≤ top
      → Derives n g e m front → expr_depth e ≤ suc d → Stops g (spine e) r → ReadsUpTo level m e front r
  unfolding spine
  reads_up_to level m (p.binary o a b) front r one le high h deep stops =
      let i = Operator o in
      let q = h.2 in
      let left = reads_up_to level (left_level i) a q.0 (q.1 ∷ (q.2 ++ r)) (left_low i)
      (omega (arith, h.0, le, left_most i)) high q.5 (omega arith) (left_stops i a q.0 q.1 (q.2 ++ r) q.3 q.5) in
      reads_joined level m i a b front r le h deep (omega arith) stops left
  reads_up_to level m (p.and_also a b) front r one le high h deep stops =
      let i = AndAlso in
      let q = h.2 in
      let left = reads_up_to level (left_level i) a q.0 (q.1 ∷ (q.2 ++ r)) (left_low i)
      (omega (arith, h.0, le, left_most i)) high q.5 (omega arith) (left_stops i a q.0 q.1 (q.2 ++ r) q.3 q.5) in
      reads_joined level m i a b front r le h deep (omega arith) stops left
  reads_up_to level m (p.or_else a b) front r one le high h deep stops =
      let i = OrElse in
      let q = h.2 in
      let left = reads_up_to level (left_level i) a q.0 (q.1 ∷ (q.2 ++ r)) (left_low i)
      (omega (arith, h.0, le, left_most i)) high q.5 (omega arith) (left_stops i a q.0 q.1 (q.2 ++ r) q.3 q.5) in
      reads_joined level m i a b front r le h deep (omega arith) stops left
  reads_up_to level m (p.send a b) front r one le high h deep stops =
      let i = Send in
      let q = h.2 in
      let left = reads_up_to level (left_level i) a q.0 (q.1 ∷ (q.2 ++ r)) (left_low i)
      (omega (arith, h.0, le, left_most i)) high q.5 (omega arith) (left_stops i a q.0 q.1 (q.2 ++ r) q.3 q.5) in
      reads_joined level m i a b front r le h deep (omega arith) stops left
  reads_up_to level m (p.negate a) front r one le high h deep stops = reads_at_once level m (p.negate a) front r one
      (unary_negate a front r ((omega arith, h.1), deep) stops)
  reads_up_to level m (p.match q a) front r one le high h deep stops = absurd (omega (arith, h.0, le, high))
  reads_up_to level m (p.integer z) front r one le high h deep stops =
      reads_part level m (p.integer z) front r one h deep stops
  reads_up_to level m e front r one le high h deep stops = reads_part level m e front r one h deep stops

  level_complete : (level : ℕ) → 1 ≤ level → level ≤ top
      → CompleteFor (level_with part (parse_expr n g d) g (suc d) level) (Fits n g level (suc d)) (Stops g level)
  level_complete level one high e front rest fits stops =
      let c = reads_up_to level level e front rest one (omega arith) high fits.0 fits.1
      (stops_below g (spine e) level rest (spine_most n g e level front fits.0) stops) in
      c.reads ∙ more_stops (parse_expr n g d) g (suc d) level c.turns c.floor e rest
      (stops_ahead g c.floor level rest stops)

-- ---- elements of bodies

-- an expression that a pattern and `=` begin isn't followed by another token: a pattern is an expression too, and no
-- tokens have two
module _ (n : TokenNames) (d : ℕ) (plain : Parse Expr) (plain_complete : CompleteFor plain (Fits n false top (suc d))
    (Stops false top)) where
  match_after : (e : Expr) (front rest : List NumberedToken) (x : ExprPattern × List NumberedToken)
      → Fits n false top (suc d) e front → Stops false top rest → match_ahead (pattern n d) (front ++ rest) ≡ Some x
      → after_kind (mark marks.Match) rest ≡ Some x.1
  match_after e front rest x fits stops h =
      let a = bind_some (pattern n d (front ++ rest)) _ x h in
      let b = bind_some (after_kind (mark marks.Match) a.0.1) (λ r. Some (a.0.0, r)) x a.2 in
      let m = after_some (mark marks.Match) a.0.1 b.0 b.1 in
      let took = pattern_sound n d (front ++ rest) a.0 a.1 in
      let holds = took.holds in
      let other = pattern_expression n false a.0.0 took.front holds.0 in
      let stops_here : Stops false top a.0.1 = let w = m.2 in
      rw w (stops_kind false top (mark marks.Match) m.0 b.0 m.1 refl refl) in
      let one = plain_complete e front rest fits stops in
      let two = plain_complete other.0 took.front a.0.1 (
        up n false other.0 1 top took.front (omega arith) other.1,
        omega (arith, other.2, holds.1),
      ) stops_here in
      let same = some_is (e, rest) (other.0, a.0.1) (sym one ∙ ap plain took.parts ∙ two) in
      let last = some_is (a.0.0, b.0) x b.2 in
      ap (λ (y : Expr × List NumberedToken). after_kind (mark marks.Match) y.1) same ∙ b.1
      ∙ ap (λ (y : ExprPattern × List NumberedToken). Some y.1) last

  no_match : (e : Expr) (front rest : List NumberedToken) → Fits n false top (suc d) e front → ElementEnds rest
      → match_ahead (pattern n d) (front ++ rest) ≡ None
  no_match e front rest fits ends = none (match_ahead (pattern n d) (front ++ rest)) refl
    where
      none : (o : Option (ExprPattern × List NumberedToken)) → match_ahead (pattern n d) (front ++ rest) ≡ o → o ≡ None
      none None h = refl
      none (Some x) h = absurd (let yes = match_after e front rest x fits ends.0 h in let non = ends.1 in cc)

  module _ (elements : ElementsRead n d) where
    element_plain : (e : Expr) (front rest : List NumberedToken) → Derives n false e top front → expr_depth e ≤ suc d
        → ElementEnds rest → element_step plain (element n d) (suc d) (front ++ rest)
        (match_ahead (pattern n d) (front ++ rest)) ≡ Some (e, rest)
    element_plain e front rest h deep ends =
        let non = no_match e front rest (h, deep) ends in
        let one = plain_complete e front rest (h, deep) ends.0 in
        ap (element_step plain (element n d) (suc d) (front ++ rest)) non ∙ one

    element_match : (q : ExprPattern) (a : Expr) (front rest : List NumberedToken)
        → Fits n false body_level (suc d) (p.match q a) front → ElementEnds rest
        → element_step plain (element n d) (suc d) (front ++ rest) (match_ahead (pattern n d) (front ++ rest))
        ≡ Some (p.match q a, rest)
    element_match q a front rest fits ends =
        let h = fits.0 in
        let b = h.1 in
        let shallow = fits.1 in
        let after = b.1 ∷ (b.2 ++ rest) in
        let regroup : front ++ rest ≡ b.0 ++ after = ap (λ (l : List NumberedToken). l ++ rest) b.4 ∙ append_assoc b.0
        (b.1 ∷ b.2) rest in
        let left = pattern_complete n d q b.0 after (b.5, omega (arith, shallow)) tt in
        let kind = after_here (mark marks.Match) b.1 (b.2 ++ rest) refl b.3 in
        let ahead : match_ahead (pattern n d) (b.0 ++ after) ≡ Some (q, b.2 ++ rest) = rw (left, kind) refl in
        let one = elements a b.2 rest (b.6, omega (arith, shallow)) ends in
        let deep = within_is (suc d) (p.match q a) rest fits.1 in
        ap (λ (l : List NumberedToken). element_step plain (element n d) (suc d) l (match_ahead (pattern n d) l))
        regroup ∙ ap (element_step plain (element n d) (suc d) (b.0 ++ after)) ahead ∙ rw one deep

    element_complete_step : (e : Expr) (front rest : List NumberedToken) → Fits n false body_level (suc d) e front
        → ElementEnds rest → element_step plain (element n d) (suc d) (front ++ rest)
        (match_ahead (pattern n d) (front ++ rest)) ≡ Some (e, rest)
    element_complete_step (p.match q a) front rest fits ends = element_match q a front rest fits ends
    element_complete_step (p.negate a) front rest fits ends = let h = fits.0 in
        element_plain (p.negate a) front rest (omega arith, h.1) fits.1 ends
    element_complete_step (p.binary o a b) front rest fits ends = let h = fits.0 in
        element_plain (p.binary o a b) front rest (level_high (Operator o), h.1, h.2) fits.1 ends
    element_complete_step (p.and_also a b) front rest fits ends = let h = fits.0 in
        element_plain (p.and_also a b) front rest (level_high AndAlso, h.1, h.2) fits.1 ends
    element_complete_step (p.or_else a b) front rest fits ends = let h = fits.0 in
        element_plain (p.or_else a b) front rest (level_high OrElse, h.1, h.2) fits.1 ends
    element_complete_step (p.send a b) front rest fits ends = let h = fits.0 in
        element_plain (p.send a b) front rest (level_high Send, h.1, h.2) fits.1 ends
    element_complete_step (p.integer z) front rest fits ends = element_plain (p.integer z) front rest fits.0 fits.1 ends
    element_complete_step e front rest fits ends = element_plain e front rest fits.0 fits.1 ends

-- ---- both

both_complete : (n : TokenNames) (d : ℕ) → ExpressionsRead n d × ElementsRead n d
unfolding parse_expr element
both_complete n zero = (
  λ g level one high e front rest fits stops. absurd (omega (arith, some_depth e, fits.1)),
  λ e front rest fits stops. absurd (omega (arith, some_depth e, fits.1)),
)
both_complete n (suc d) =
    let below = both_complete n d in
    let plain : ExpressionsRead n (suc d) = λ g.
    level_complete n d below.0 g (prim_with n (readers n d) g (parse_expr n g d top))
    (prim_complete n d below.0 below.1 g) in (
      plain,
      element_complete_step n d (parse_expr_with n (readers n d) false (parse_expr n false d) (suc d) top)
          (plain false top (omega arith) (omega arith)) below.1,
    )

pub parse_expr_complete : (n : TokenNames) (d : ℕ) → ExpressionsRead n d
parse_expr_complete n d = (both_complete n d).0

pub element_complete : (n : TokenNames) (d : ℕ) → ElementsRead n d
element_complete n d = (both_complete n d).1
