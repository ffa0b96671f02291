-- What follows a command is shorter than what began with it.
use Rattle.std.proofs.Common.{◌≡◌, ◌≤◌, ◌==◌, ℕ, Bool, true, false, List, [], ◌∷◌, length, drop, Option, Some, None}
use Rattle.std.proofs.Common.{refl, sym, ap, arith, length-drop}
use Rattle.std.specs.Prelude.{◌&&◌, nat_le, take, if◌then◌else◌}
use Rattle.pf_request.specs.Calls.{submit}
use Rattle.pf_world.specs.Steps.{WorldStep, client_calls, worker_does}
use Rattle.pf_protocol.specs.Commands.{Line, with_byte, first_line, LineContent, made, submission, content_of_line}
use Rattle.pf_protocol.specs.Commands.{words_of_line, after_source, complete_command, command_at}
use Rattle.pf_protocol.specs.Clients.{ClientLine, calls, awaits, awaited_ticket, own_call, own_command, own_line}
use Rattle.pf_protocol.specs.Clients.{client_line_at}
use Rattle.pf_desks.proofs.Isolated.{pick}

line_left : (bs : List ℕ) → length (first_line bs).rest ≤ length bs
line_left [] = omega arith
line_left (b ∷ bs) =
    let rest = line_left bs in
    pick (λ (l : Line). length l.rest ≤ length (b ∷ bs)) (b == 10) (record { text = []; is_ended = true; rest = bs })
    (with_byte b (first_line bs)) (omega arith) (omega arith)

-- a line that begins with a byte takes it
line_shorter : (b : ℕ) (bs : List ℕ) → length (first_line (b ∷ bs)).rest ≤ length bs
line_shorter b bs =
    let rest = line_left bs in
    pick (λ (l : Line). length l.rest ≤ length bs) (b == 10) (record { text = []; is_ended = true; rest = bs })
    (with_byte b (first_line bs)) (omega arith) (omega arith)

abbrev rest_of : List ℕ → Option (WorldStep × List ℕ) → List ℕ
rest_of none None = none
rest_of none (Some p) = p.1

same_rest : (s t : WorldStep) (xs ys : List ℕ) → ◌≡◌ {A = Option (WorldStep × List ℕ)} (Some (s, xs)) (Some (t, ys))
    → ys ≡ xs
same_rest s t xs ys e = sym (ap (rest_of xs) e)

line_end : (c : Bool) (s t : WorldStep) (bs rest : List ℕ)
    → if◌then◌else◌ {A = Option (WorldStep × List ℕ)} c (Some (s, bs)) None ≡ Some (t, rest) → rest ≡ bs
line_end true s t bs rest e = same_rest s t bs rest e
line_end false s t bs rest e = absurd cc

source_left : (s t : WorldStep) (bs rest : List ℕ) → after_source s bs ≡ Some (t, rest) → length rest ≤ length bs
source_left s t [] rest e = let same = same_rest s t [] rest e in omega (arith, ap length same)
source_left s t (b ∷ bs) rest e = let same = line_end (b == 10) s t bs rest e in omega (arith, ap length same)

source_shorter : (c : Bool) (project size : ℕ) (bs : List ℕ) (t : WorldStep) (rest : List ℕ)
    → if◌then◌else◌ {A = Option (WorldStep × List ℕ)} c
    (after_source (client_calls project (submit (take size bs))) (drop size bs)) None ≡ Some (t, rest)
    → length rest ≤ length bs
source_shorter true project size bs t rest e = omega (arith, source_left _ t (drop size bs) rest e, length-drop size bs)
source_shorter false project size bs t rest e = absurd cc

asked_left : (o : Option LineContent) (ended : Bool) (bs : List ℕ) (t : WorldStep) (rest : List ℕ)
    → complete_command o ended bs ≡ Some (t, rest) → length rest ≤ length bs
asked_left None ended bs t rest e = absurd cc
asked_left (Some (made s)) ended bs t rest e = let same = same_rest s t bs rest e in omega (arith, ap length same)
asked_left (Some (submission project size)) ended bs t rest e =
    source_shorter (ended && nat_le size (length bs)) project size bs t rest e

pub command_shorter : (b : ℕ) (bs : List ℕ) (s : WorldStep) (rest : List ℕ) → command_at (b ∷ bs) ≡ Some (s, rest)
    → length rest ≤ length bs
command_shorter b bs s rest e =
    let line = first_line (b ∷ bs) in
    omega (
      arith,
      asked_left (content_of_line (words_of_line line.text)) line.is_ended line.rest s rest e,
      line_shorter b bs,
    )

-- ---- lines of clients

abbrev left_of : List ℕ → Option (ClientLine × List ℕ) → List ℕ
left_of none None = none
left_of none (Some p) = p.1

same_left : (l m : ClientLine) (xs ys : List ℕ) → ◌≡◌ {A = Option (ClientLine × List ℕ)} (Some (l, xs)) (Some (m, ys))
    → ys ≡ xs
same_left l m xs ys e = sym (ap (left_of xs) e)

own_left : (c : Bool) (l m : ClientLine) (bs rest : List ℕ)
    → if◌then◌else◌ {A = Option (ClientLine × List ℕ)} c (Some (l, bs)) None ≡ Some (m, rest) → rest ≡ bs
own_left true l m bs rest e = same_left l m bs rest e
own_left false l m bs rest e = absurd cc

call_left : (project : ℕ) (s : WorldStep) (bs rest : List ℕ) (m : ClientLine)
    → own_call project s bs ≡ Some (m, rest) → rest ≡ bs
call_left project (client_calls p c) bs rest m e = own_left (p == project) (calls c) m bs rest e
call_left project (worker_does w p t k) bs rest m e = absurd cc

command_left : (project b : ℕ) (bs rest : List ℕ) (m : ClientLine) (o : Option (WorldStep × List ℕ))
    → command_at (b ∷ bs) ≡ o → own_command project o ≡ Some (m, rest)
    → length rest ≤ length bs
command_left project b bs rest m None h e = absurd cc
command_left project b bs rest m (Some s) h e =
    let same = call_left project s.0 s.1 rest m e in
    omega (arith, ap length same, command_shorter b bs s.0 s.1 h)

line_of_own : (project b : ℕ) (bs rest : List ℕ) (m : ClientLine) (a : Option (ℕ × ℕ))
    → own_line project a (b ∷ bs) (first_line (b ∷ bs)).rest ≡ Some (m, rest)
    → length rest ≤ length bs
line_of_own project b bs rest m None e = command_left project b bs rest m (command_at (b ∷ bs)) refl e
line_of_own project b bs rest m (Some a) e =
    let same = own_left (a.0 == project) (awaits a.1) m (first_line (b ∷ bs)).rest rest e in
    omega (arith, ap length same, line_shorter b bs)

-- what follows a client's line is shorter too
pub client_line_shorter : (project b : ℕ) (bs : List ℕ) (m : ClientLine) (rest : List ℕ)
    → client_line_at project (b ∷ bs) ≡ Some (m, rest) → length rest ≤ length bs
client_line_shorter project b bs m rest e = line_of_own project b bs rest m
    (awaited_ticket (words_of_line (first_line (b ∷ bs)).text)) e
