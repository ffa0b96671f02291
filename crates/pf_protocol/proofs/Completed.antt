-- A complete command stays what it is, whatever follows.
use Rattle.std.proofs.Common.{◌≡◌, ◌≤◌, ◌<◌, ◌==◌, ℕ, Bool, true, false, List, [], ◌∷◌, ◌++◌, length, drop, Option}
use Rattle.std.proofs.Common.{Some, None, refl, sym, ap, ◌∙◌, arith, length-append, length-drop}
use Rattle.std.specs.Prelude.{◌&&◌, nat_le, take, if◌then◌else◌}
use Rattle.std.proofs.lemmas.Bool.{ltb-true, lt-ltb, le-leb}
use Rattle.std.proofs.lemmas.List.{take-append-le, drop-append-le}
use Rattle.pf_request.specs.Calls.{submit}
use Rattle.pf_world.specs.Steps.{WorldStep, client_calls}
use Rattle.pf_protocol.specs.Commands.{Line, with_byte, first_line, LineContent, made, submission, content_of_line}
use Rattle.pf_protocol.specs.Commands.{words_of_line, after_source, with_source, complete_command, command_at}
use Rattle.pf_protocol.specs.Complete.{size_in, has_source, is_complete}
use Rattle.pf_errors.proofs.Bools.{both}

-- ---- lines

-- an ended line with more after it
abbrev with_rest : Line → List ℕ → Line
with_rest l more = record { text = l.text; is_ended = true; rest = l.rest ++ more }

abbrev line_of : Bool → ℕ → List ℕ → Line → Line
line_of ends b bs l = if◌then◌else◌ {A = Line} ends (record { text = []; is_ended = true; rest = bs }) (with_byte b l)

line_with_byte : (ends : Bool) (b : ℕ) (bs more : List ℕ) (l m : Line) → (l.is_ended ≡ true → m ≡ with_rest l more)
    → (line_of ends b bs l).is_ended ≡ true
    → line_of ends b (bs ++ more) m ≡ with_rest (line_of ends b bs l) more
line_with_byte true b bs more l m same h = refl
line_with_byte false b bs more l m same h = ap (with_byte b) (same h)

line_stays : (bs more : List ℕ) → (first_line bs).is_ended ≡ true
    → first_line (bs ++ more) ≡ with_rest (first_line bs) more
line_stays [] more h = absurd cc
line_stays (b ∷ bs) more h = line_with_byte (b == 10) b bs more (first_line bs) (first_line (bs ++ more))
    (line_stays bs more) h

open_with_byte : (ends : Bool) (b : ℕ) (bs cs : List ℕ) (l m : Line) → (l.is_ended ≡ false → m.is_ended ≡ false)
    → (line_of ends b bs l).is_ended ≡ false
    → (line_of ends b cs m).is_ended ≡ false
open_with_byte true b bs cs l m same h = absurd cc
open_with_byte false b bs cs l m same h = same h

-- no line ends among bytes and more bytes if none ends among either
pub open_stays : (bs more : List ℕ) → (first_line bs).is_ended ≡ false → (first_line more).is_ended ≡ false
    → (first_line (bs ++ more)).is_ended ≡ false
open_stays [] more h k = k
open_stays (b ∷ bs) more h k = open_with_byte (b == 10) b bs (bs ++ more) (first_line bs) (first_line (bs ++ more))
    (λ e. open_stays bs more e k) h

-- nothing is complete if no line ends
pub open_is_unfinished : (bs : List ℕ) → (first_line bs).is_ended ≡ false → is_complete bs ≡ false
open_is_unfinished bs h = ap (λ (c : Bool). c && has_source
    (size_in (content_of_line (words_of_line (first_line bs).text))) (first_line bs).rest) h

-- ---- commands

abbrev pub with_more : List ℕ → Option (WorldStep × List ℕ) → Option (WorldStep × List ℕ)
with_more more None = None
with_more more (Some p) = Some (p.0, p.1 ++ more)

end_stays : (ends : Bool) (s : WorldStep) (bs more : List ℕ)
    → if◌then◌else◌ {A = Option (WorldStep × List ℕ)} ends (Some (s, bs ++ more)) None
    ≡ with_more more (if◌then◌else◌ {A = Option (WorldStep × List ℕ)} ends (Some (s, bs)) None)
end_stays true s bs more = refl
end_stays false s bs more = refl

after_stays : (s : WorldStep) (bs more : List ℕ) → 0 < length bs
    → after_source s (bs ++ more) ≡ with_more more (after_source s bs)
after_stays s [] more h = absurd (omega arith)
after_stays s (b ∷ bs) more h = end_stays (b == 10) s bs more

abbrev cut_source : Bool → WorldStep → List ℕ → Option (WorldStep × List ℕ)
cut_source fits s after = if◌then◌else◌ {A = Option (WorldStep × List ℕ)} fits (after_source s after) None

source_stays : (project size : ℕ) (rest more : List ℕ) → size < length rest
    → with_source true project size (rest ++ more) ≡ with_more more (with_source true project size rest)
source_stays project size rest more lt =
    let le : size ≤ length rest = omega (arith, lt) in
    let fits : nat_le size (length rest) ≡ true = le-leb size (length rest) le in
    let fits_both : nat_le size (length (rest ++ more)) ≡ true =
    le-leb size (length (rest ++ more)) (omega (arith, lt, length-append rest more)) in
    let source = take-append-le size rest more le in
    let after = drop-append-le size rest more le in
    let some : 0 < length (drop size rest) = omega (arith, lt, length-drop size rest) in
    ap (λ (c : Bool). cut_source c (client_calls project (submit (take size (rest ++ more))))
    (drop size (rest ++ more))) fits_both
    ∙ ap (λ (t : List ℕ). after_source (client_calls project (submit t)) (drop size (rest ++ more))) source
    ∙ ap (after_source (client_calls project (submit (take size rest)))) after
    ∙ after_stays (client_calls project (submit (take size rest))) (drop size rest) more some
    ∙ ap (λ (c : Bool). with_more more (cut_source c (client_calls project (submit (take size rest))) (drop size rest)))
    (sym fits)

asked_stays : (o : Option LineContent) (rest more : List ℕ) → has_source (size_in o) rest ≡ true
    → complete_command o true (rest ++ more) ≡ with_more more (complete_command o true rest)
asked_stays None rest more h = refl
asked_stays (Some (made s)) rest more h = refl
asked_stays (Some (submission project size)) rest more h =
    source_stays project size rest more (ltb-true size (length rest) h)

has_stays : (o : Option ℕ) (rest more : List ℕ) → has_source o rest ≡ true → has_source o (rest ++ more) ≡ true
has_stays None rest more h = refl
has_stays (Some size) rest more h = lt-ltb size (length (rest ++ more))
    (omega (arith, ltb-true size (length rest) h, length-append rest more))

abbrev line_command : Line → Option (WorldStep × List ℕ)
line_command l = complete_command (content_of_line (words_of_line l.text)) l.is_ended l.rest

abbrev line_is_complete : Line → Bool
line_is_complete l = l.is_ended && has_source (size_in (content_of_line (words_of_line l.text))) l.rest

pub command_stays : (bs more : List ℕ) → is_complete bs ≡ true
    → command_at (bs ++ more) ≡ with_more more (command_at bs)
command_stays bs more h =
    let l = first_line bs in
    let asked = content_of_line (words_of_line l.text) in
    let ended : l.is_ended ≡ true = (both l.is_ended (has_source (size_in asked) l.rest) h).0 in
    let source = (both l.is_ended (has_source (size_in asked) l.rest) h).1 in
    ap line_command (line_stays bs more ended)
    ∙ asked_stays asked l.rest more source
    ∙ ap (λ (c : Bool). with_more more (complete_command asked c l.rest)) (sym ended)

pub complete_stays : (bs more : List ℕ) → is_complete bs ≡ true → is_complete (bs ++ more) ≡ true
complete_stays bs more h =
    let l = first_line bs in
    let size = size_in (content_of_line (words_of_line l.text)) in
    let ended : l.is_ended ≡ true = (both l.is_ended (has_source size l.rest) h).0 in
    ap line_is_complete (line_stays bs more ended) ∙ has_stays size l.rest more
    (both l.is_ended (has_source size l.rest) h).1
