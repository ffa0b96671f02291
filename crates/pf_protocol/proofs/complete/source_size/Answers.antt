use Rattle.std.proofs.Common.{◌≡◌, ◌∷◌, ℕ, List, [], Bool, true, false, Option, Some, None, refl, sym, ap, ◌∙◌}
use Rattle.std.specs.Prelude.{codes, ◌&&◌, nat_lt, not, if◌then◌else◌}
use Rattle.std.specs.Option.{option_map}
use Rattle.std.specs.Str.{bytes_eq}
use Rattle.pf_text.specs.Numbers.{number_of_digits, schedule_of}
use Rattle.pf_request.specs.Calls.{Call, fetch, status, drop_trial, withdraw, usage, log, edition}
use Rattle.pf_request.specs.Request.{RequestKind, run}
use Rattle.pf_request.specs.declared.step.Chore.{Chore}
use Rattle.pf_request.specs.declared.step.Chore.TheVariants.{Claim, Slice, Park, TakeUp, File, HandBack}
use Rattle.pf_world.specs.Steps.{WorldStep, client_calls, worker_does}
use Rattle.pf_protocol.specs.Commands.{LineContent, choices_at, made, one_number, with_two, with_three, with_four}
use Rattle.pf_protocol.specs.Commands.{with_order, with_runs, of_call, of_chore, of_one, of_order, of_project}
use Rattle.pf_protocol.specs.Commands.{of_shrink, of_two, of_three, of_four, slice_of, theft_of, work_asked}
use Rattle.pf_protocol.specs.Commands.{content_of_line, words_of_line, is_line_word}
use Rattle.pf_protocol.specs.Complete.{size_in}
use Rattle.pf_protocol.proofs.complete.source_size.Goals as goal

-- what is made wants no source
with_one_made : (f : ℕ → WorldStep) (a : Option ℕ) → size_in (one_number (λ m. made (f m)) a) ≡ None
with_one_made f None = refl
with_one_made f (Some m) = refl

with_two_made : (f : ℕ → ℕ → WorldStep) (a b : Option ℕ) → size_in (with_two (λ m n. made (f m n)) a b) ≡ None
with_two_made f None b = refl
with_two_made f (Some m) None = refl
with_two_made f (Some m) (Some n) = refl

one_made : (f : ℕ → WorldStep) (ws : List (List ℕ)) → size_in (of_one (λ m. made (f m)) ws) ≡ None
one_made f [] = refl
one_made f (a ∷ []) = with_one_made f (number_of_digits a)
one_made f (a ∷ b ∷ ws) = refl

two_made : (f : ℕ → ℕ → WorldStep) (ws : List (List ℕ)) → size_in (of_two (λ m n. made (f m n)) ws) ≡ None
two_made f [] = refl
two_made f (a ∷ []) = refl
two_made f (a ∷ b ∷ []) = with_two_made f (number_of_digits a) (number_of_digits b)
two_made f (a ∷ b ∷ c ∷ ws) = refl

with_three_made : (f : ℕ → ℕ → ℕ → WorldStep) (a b c : Option ℕ)
    → size_in (with_three (λ l m n. made (f l m n)) a b c) ≡ None
with_three_made f None b c = refl
with_three_made f (Some l) None c = refl
with_three_made f (Some l) (Some m) None = refl
with_three_made f (Some l) (Some m) (Some n) = refl

three_made : (f : ℕ → ℕ → ℕ → WorldStep) (ws : List (List ℕ)) → size_in (of_three (λ l m n. made (f l m n)) ws) ≡ None
three_made f [] = refl
three_made f (a ∷ []) = refl
three_made f (a ∷ b ∷ []) = refl
three_made f (a ∷ b ∷ c ∷ []) = with_three_made f (number_of_digits a) (number_of_digits b) (number_of_digits c)
three_made f (a ∷ b ∷ c ∷ d ∷ ws) = refl

with_four_made : (f : ℕ → ℕ → ℕ → ℕ → Option LineContent) → ((k l m n : ℕ) → size_in (f k l m n) ≡ None)
    → (a b c d : Option ℕ) → size_in (with_four f a b c d) ≡ None
with_four_made f h None b c d = refl
with_four_made f h (Some k) None c d = refl
with_four_made f h (Some k) (Some l) None d = refl
with_four_made f h (Some k) (Some l) (Some m) None = refl
with_four_made f h (Some k) (Some l) (Some m) (Some n) = h k l m n

four_made : (f : ℕ → ℕ → ℕ → ℕ → Option LineContent) → ((k l m n : ℕ) → size_in (f k l m n) ≡ None)
    → (ws : List (List ℕ)) → size_in (of_four f ws) ≡ None
four_made f h [] = refl
four_made f h (a ∷ []) = refl
four_made f h (a ∷ b ∷ []) = refl
four_made f h (a ∷ b ∷ c ∷ []) = refl
four_made f h (a ∷ b ∷ c ∷ d ∷ []) = with_four_made f h (number_of_digits a) (number_of_digits b) (number_of_digits c)
    (number_of_digits d)
four_made f h (a ∷ b ∷ c ∷ d ∷ e ∷ ws) = refl

with_order_made : (root property : List ℕ) (p n : Option ℕ) (k : Option RequestKind) (l : Option ℕ)
    → size_in (with_order root property p n k l) ≡ None
with_order_made root property None n k l = refl
with_order_made root property (Some p) None k l = refl
with_order_made root property (Some p) (Some n) None l = refl
with_order_made root property (Some p) (Some n) (Some k) None = refl
with_order_made root property (Some p) (Some n) (Some k) (Some l) = refl

pick_none : (c : Bool) (x y : Option LineContent) → size_in x ≡ None → size_in y ≡ None
    → size_in (if◌then◌else◌ {A = Option LineContent} c x y) ≡ None
pick_none true x y h k = h
pick_none false x y h k = k

-- neither an order of one run nor one of a shrinking wants a source
kind_made : (root property : List ℕ) (p n : Option ℕ) (k : Option RequestKind) (l : Option ℕ)
    → size_in (if◌then◌else◌ {A = Option LineContent} (is_line_word root && is_line_word property)
    (with_order root property p n k l) None) ≡ None
kind_made root property p n k l = pick_none (is_line_word root && is_line_word property)
    (with_order root property p n k l) None (with_order_made root property p n k l) refl

order_made : (ws : List (List ℕ)) → size_in (of_order ws) ≡ None
order_made [] = refl
order_made (a ∷ []) = refl
order_made (a ∷ b ∷ []) = refl
order_made (a ∷ b ∷ c ∷ []) = refl
order_made (a ∷ b ∷ c ∷ d ∷ []) = refl
order_made (a ∷ b ∷ c ∷ d ∷ e ∷ []) = refl
order_made (p ∷ m ∷ root ∷ property ∷ choices ∷ limit ∷ []) =
    kind_made root property (number_of_digits p) (number_of_digits m) (option_map run (choices_at choices))
    (number_of_digits limit)
order_made (a ∷ b ∷ c ∷ d ∷ e ∷ f ∷ g ∷ ws) = refl

shrink_made : (ws : List (List ℕ)) → size_in (of_shrink ws) ≡ None
shrink_made [] = refl
shrink_made (a ∷ []) = refl
shrink_made (a ∷ b ∷ []) = refl
shrink_made (a ∷ b ∷ c ∷ []) = refl
shrink_made (a ∷ b ∷ c ∷ d ∷ []) = refl
shrink_made (a ∷ b ∷ c ∷ d ∷ e ∷ []) = refl
shrink_made (a ∷ b ∷ c ∷ d ∷ e ∷ f ∷ []) = refl
shrink_made (p ∷ m ∷ root ∷ property ∷ numbers ∷ runs ∷ limit ∷ []) =
    kind_made root property (number_of_digits p) (number_of_digits m)
    (with_runs (schedule_of numbers) (number_of_digits runs)) (number_of_digits limit)
shrink_made (a ∷ b ∷ c ∷ d ∷ e ∷ f ∷ g ∷ h ∷ ws) = refl

not_true : (b : Bool) → not b ≡ true → b ≡ false
not_true true h = absurd cc
not_true false h = refl

-- a line that is a call asks for no source
project_made : (c : Call) (ws : List (List ℕ)) → size_in (of_project c ws) ≡ None
project_made c ws = one_made (λ p. client_calls p c) ws

call_made : (f : ℕ → Call) (ws : List (List ℕ)) → size_in (of_call f ws) ≡ None
call_made f ws = two_made (λ p n. client_calls p (f n)) ws

-- nor does one that is a chore
chore_made : (k : Chore) (ws : List (List ℕ)) → size_in (of_chore k ws) ≡ None
chore_made k ws = three_made (λ w p t. worker_does w p t k) ws

slice_made : (w p t turns : ℕ) → size_in (slice_of w p t turns) ≡ None
slice_made w p t turns = pick_none (nat_lt 0 turns) (Some (made (worker_does w p t (Slice turns)))) None refl refl

work_made : (w : List ℕ) (ws : List (List ℕ)) → size_in (work_asked w ws) ≡ None
work_made w ws =
    let from_back = pick_none (bytes_eq w (codes "back")) (of_chore HandBack ws) None (chore_made HandBack ws) refl in
    let from_file = pick_none (bytes_eq w (codes "file")) (of_chore File ws) _ (chore_made File ws) from_back in
    let from_steal = pick_none (bytes_eq w (codes "steal")) (of_four theft_of ws) _
    (four_made theft_of (λ k l m n. refl) ws) from_file in
    let from_take = pick_none (bytes_eq w (codes "take")) (of_chore TakeUp ws) _ (chore_made TakeUp ws) from_steal in
    let from_park = pick_none (bytes_eq w (codes "park")) (of_chore Park ws) _ (chore_made Park ws) from_take in
    let from_slice = pick_none (bytes_eq w (codes "slice")) (of_four slice_of ws) _
    (four_made slice_of slice_made ws) from_park in
    pick_none (bytes_eq w (codes "claim")) (of_chore Claim ws) _ (chore_made Claim ws) from_slice

-- only a submission wants a source
others_want_none : (w : List ℕ) (ws : List (List ℕ)) → bytes_eq w (codes "submit") ≡ false
    → size_in (content_of_line (w ∷ ws)) ≡ None
others_want_none w ws h =
    let from_edition = pick_none (bytes_eq w (codes "edition")) (of_call edition ws) _ (call_made edition ws)
    (work_made w ws) in
    let from_log = pick_none (bytes_eq w (codes "log")) (of_project log ws) _ (project_made log ws) from_edition in
    let from_usage = pick_none (bytes_eq w (codes "usage")) (of_project usage ws) _ (project_made usage ws) from_log in
    let from_withdraw = pick_none (bytes_eq w (codes "withdraw")) (of_call withdraw ws) _
    (call_made withdraw ws) from_usage in
    let from_drop = pick_none (bytes_eq w (codes "drop")) (of_call drop_trial ws) _ (call_made drop_trial ws)
    from_withdraw in
    let from_status = pick_none (bytes_eq w (codes "status")) (of_call status ws) _ (call_made status ws) from_drop in
    let from_fetch = pick_none (bytes_eq w (codes "fetch")) (of_call fetch ws) _ (call_made fetch ws) from_status in
    let from_shrink = pick_none (bytes_eq w (codes "shrink")) (of_shrink ws) _ (shrink_made ws) from_fetch in
    let from_order = pick_none (bytes_eq w (codes "order")) (of_order ws) _ (order_made ws) from_shrink in
    rw h from_order

pub returns-then-ne : goal.returns-then-ne
returns-then-ne c =
    let name = c.in_ok-name.name.now in
    let words = words_of_line c.in_ok-name.words.now in
    let other : bytes_eq name (codes "submit") ≡ false = ap (bytes_eq name) (sym c.as_slice.ensures)
    ∙ not_true _ (sym c.if-ne.ensures) in
    sym (ap (λ (ws : List (List ℕ)). size_in (content_of_line ws)) c.in_ok-name.ensures
    ∙ others_want_none name words other)
