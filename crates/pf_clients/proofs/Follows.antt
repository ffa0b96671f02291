-- A line of a client that is due stays what it is, whatever follows.
use Rattle.std.proofs.Common.{◌≡◌, ◌==◌, ℕ, Bool, true, false, List, [], ◌∷◌, ◌++◌, Option, Some, None, refl, sym, ap}
use Rattle.std.proofs.Common.{◌∙◌, append-nil}
use Rattle.std.specs.Prelude.{◌&&◌, if◌then◌else◌}
use Rattle.pf_errors.proofs.Bools.{both}
use Rattle.pf_world.specs.Steps.{WorldStep, client_calls, worker_does}
use Rattle.pf_protocol.specs.Commands.{Line, with_byte, first_line, words_of_line, content_of_line, command_at}
use Rattle.pf_protocol.specs.Complete.{size_in, has_source, is_complete, is_due}
use Rattle.pf_protocol.specs.Clients.{ClientLine, calls, awaits, awaited_ticket, own_call, own_command, own_line}
use Rattle.pf_protocol.specs.Clients.{client_line_at}
use Rattle.pf_protocol.proofs.Completed.{with_more, command_stays}
use Rattle.pf_wire.specs.Turns.{MayFollow}
use Rattle.pf_wire.proofs.Refusing.{due_text}

-- what follows the first line

abbrev line_of : Bool → ℕ → List ℕ → Line → Line
line_of ends b bs l = if◌then◌else◌ {A = Line} ends (record { text = []; is_ended = true; rest = bs }) (with_byte b l)

same_rest : (ends : Bool) (b : ℕ) (bs more : List ℕ) (l m : Line) → (l.is_ended ≡ true → m.rest ≡ l.rest ++ more)
    → (line_of ends b bs l).is_ended ≡ true
    → (line_of ends b (bs ++ more) m).rest ≡ (line_of ends b bs l).rest ++ more
same_rest true b bs more l m same h = refl
same_rest false b bs more l m same h = same h

rest_stays : (bs more : List ℕ) → (first_line bs).is_ended ≡ true
    → (first_line (bs ++ more)).rest ≡ (first_line bs).rest ++ more
rest_stays [] more h = absurd cc
rest_stays (b ∷ bs) more h = same_rest (b == 10) b bs more (first_line bs) (first_line (bs ++ more))
    (rest_stays bs more) h

-- ---- what it asks for

abbrev pub and_more : List ℕ → Option (ClientLine × List ℕ) → Option (ClientLine × List ℕ)
and_more more None = None
and_more more (Some p) = Some (p.0, p.1 ++ more)

own_stays : (c : Bool) (l : ClientLine) (rest more : List ℕ)
    → if◌then◌else◌ {A = Option (ClientLine × List ℕ)} c (Some (l, rest ++ more)) None
    ≡ and_more more (if◌then◌else◌ {A = Option (ClientLine × List ℕ)} c (Some (l, rest)) None)
own_stays true l rest more = refl
own_stays false l rest more = refl

call_stays : (q : ℕ) (s : WorldStep) (rest more : List ℕ)
    → own_call q s (rest ++ more) ≡ and_more more (own_call q s rest)
call_stays q (client_calls p c) rest more = own_stays (p == q) (calls c) rest more
call_stays q (worker_does w p t k) rest more = refl

own_command_stays : (q : ℕ) (o : Option (WorldStep × List ℕ)) (more : List ℕ)
    → own_command q (with_more more o) ≡ and_more more (own_command q o)
own_command_stays q None more = refl
own_command_stays q (Some s) more = call_stays q s.0 s.1 more

own_line_stays : (q : ℕ) (a : Option (ℕ × ℕ)) (bs rest more : List ℕ)
    → command_at (bs ++ more) ≡ with_more more (command_at bs)
    → own_line q a (bs ++ more) (rest ++ more) ≡ and_more more (own_line q a bs rest)
own_line_stays q None bs rest more h = ap (own_command q) h ∙ own_command_stays q (command_at bs) more
own_line_stays q (Some a) bs rest more h = own_stays (a.0 == q) (awaits a.1) rest more

complete_stays : (q : ℕ) (bs more : List ℕ) → is_complete bs ≡ true
    → client_line_at q (bs ++ more) ≡ and_more more (client_line_at q bs)
complete_stays q bs more h =
    let l = first_line bs in
    let ended : l.is_ended ≡ true =
    (both l.is_ended (has_source (size_in (content_of_line (words_of_line l.text))) l.rest) h).0 in
    let text = due_text false bs more h (λ (o : false ≡ true). absurd cc) in
    ap (λ (t : List ℕ). own_line q (awaited_ticket (words_of_line t)) (bs ++ more) (first_line (bs ++ more)).rest) text
    ∙ ap (λ (r : List ℕ). own_line q (awaited_ticket (words_of_line l.text)) (bs ++ more) r) (rest_stays bs more ended)
    ∙ own_line_stays q (awaited_ticket (words_of_line l.text)) bs l.rest more (command_stays bs more h)

and_none : (o : Option (ClientLine × List ℕ)) → and_more [] o ≡ o
and_none None = refl
and_none (Some p) = ap (λ (bs : List ℕ). Some (p.0, bs)) (append-nil p.1)

pub due_stays : (over : Bool) (q : ℕ) (bs more : List ℕ) → is_due over bs ≡ true → MayFollow over more
    → client_line_at q (bs ++ more) ≡ and_more more (client_line_at q bs)
due_stays false q bs more due f = complete_stays q bs more due
due_stays true q bs more due f =
    rw (f refl) (ap (client_line_at q) (append-nil bs) ∙ sym (and_none (client_line_at q bs)))

-- the line in front is the same, with more after what follows it
pub line_stays : (over : Bool) (q : ℕ) (bs more : List ℕ) (m : ClientLine) (rest : List ℕ) → is_due over bs ≡ true
    → MayFollow over more → client_line_at q bs ≡ Some (m, rest)
    → client_line_at q (bs ++ more) ≡ Some (m, rest ++ more)
line_stays over q bs more m rest due f at = due_stays over q bs more due f ∙ ap (and_more more) at

-- no command stays none
pub none_stays : (over : Bool) (q : ℕ) (bs more : List ℕ) → is_due over bs ≡ true → MayFollow over more
    → client_line_at q bs ≡ None → client_line_at q (bs ++ more) ≡ None
none_stays over q bs more due f none = due_stays over q bs more due f ∙ ap (and_more more) none
