-- The clients of a farm that is closed.
use Rattle.std.proofs.Common.{◌≡◌, ◌⊎◌, ℕ, zero, suc, List, [], ◌∷◌, map, Option, Some, None, Result, Ok, Err, IfOk}
use Rattle.std.proofs.Common.{IfErr, refl, sym, ap, ◌∙◌, subst, inl, inr}
use Rattle.std.specs.Prelude.{All}
use Rattle.std.specs.Global.{Vec}
use Rattle.std.proofs.lemmas.List.Elements.{All-nil, All-cons}
use Rattle.pf_errors.specs.declared.fault.OrNoMemory.{OrNoMemory}
use Rattle.pf_streams.specs.declared.stream.StreamFault.{StreamFault}
use Rattle.pf_farm_accounts.specs.Rows.{HaveEnded}
use Rattle.pf_book.specs.Profile.{ForRight}
use Rattle.pf_farm_laws.specs.Reported.{AgreesWithHistories}
use Rattle.pf_farm_state.specs.Clients.{ClientView, all_receipts, closed_as, empty_client, AreFull, AreLegal}
use Rattle.pf_farm_state.specs.Clients.{AreTheCalls, SawTruly}
use Rattle.pf_farm_state.specs.declared.client.ClosedSeat.{ClosedSeat}
use Rattle.pf_farm_state.specs.declared.closing.Closing.{Closing}
use Rattle.pf_wire.specs.declared.reported.WrittenAnswer.{WrittenAnswer}
use Rattle.pf_clients.specs.declared.reported.ClientAnswers.{ClientAnswers}
use Rattle.pf_clients.specs.declared.end.FileEnd.{FileEnd}
use Rattle.pf_clients.specs.declared.streams.ClientStreams.{ClientStreams}
use Rattle.pf_clients.specs.Farms.{answers_of, client_text, ClientText, AreAnswered, FarmLeaves, FarmOf, FarmPrints}
use Rattle.pf_clients.specs.Farms.{IsAnswered, IsTaken, IsUnopened, Prints, PrintsInPart}
use Rattle.pf_clients.specs.Lines.{AnswersFile}
use Rattle.pf_clients.specs.Pairs.{EachTwo}
use Rattle.pf_clients.specs.Replies.{Takes}
use Rattle.pf_clients.specs.Served.{unopened, AnswersClient, IsNew, IsServed}
use Rattle.pf_clients.specs.Texts.{reported_text}

pub new_seat : (s : ClientView) (k : ℕ) → s ≡ empty_client k → s ≡ empty_client s.project
new_seat s k e = e ∙ ap empty_client (sym (ap (λ (x : ClientView). x.project) e))

module _ {X F V C : Type 0} (gives : X → ClientStreams F V → Type 0) (lacks : X → StreamFault → Type 0)
    (remaining : F → Option (List ℕ)) (contents : V → Option (List ℕ)) (seat : C → ClientView)
    (source : C → Option X) (replies : C → Option V) (reported : C → Vec WrittenAnswer) (ended : C → FileEnd) where
  abbrev IsSeated : ℕ → X → C → Type 0
  IsSeated k x c = (seat c ≡ empty_client k) × (source c ≡ Some x) × (replies c ≡ None) × ((reported c).items ≡ [])

  -- a client was served
  abbrev pub Serves : ℕ → C → C → Type 0
  Serves n c d = IsServed gives lacks remaining contents (source c) (replies d) (seat c).project (seat d)
      (reported d).items (ended d)

  pub all_new : (k : ℕ) (xs : List X) (cs : List C) → EachTwo IsSeated k xs cs
      → All (λ c. IsNew (seat c) (replies c) (reported c).items) cs
  all_new k [] [] h = All-nil (λ c. IsNew (seat c) (replies c) (reported c).items)
  all_new k [] (c ∷ cs) h = absurd h
  all_new k (x ∷ xs) [] h = absurd h
  all_new k (x ∷ xs) (c ∷ cs) h =
      let one : IsNew (seat c) (replies c) (reported c).items = (new_seat (seat c) k h.0.0, h.0.2, h.0.3) in
      All-cons (λ c. IsNew (seat c) (replies c) (reported c).items) c cs one (all_new (suc k) xs cs h.1)

  -- what its writer took, or what was kept
  is_taken : (v w : Option V) (kept : List WrittenAnswer) (text : List ℕ) → Takes contents v w [] kept text
      → IsTaken contents v w (reported_text kept) text
  is_taken None None kept text h = h
  is_taken None (Some w) kept text h = absurd h
  is_taken (Some v) None kept text h = absurd h
  is_taken (Some v) (Some w) kept text h = (ap reported_text h.0, h.1)

  -- the client of a project was answered or can't be, and this is its seat
  abbrev IsEither : ℕ → X → C → ClosedSeat → Type 0
  IsEither k x d s =
      IsAnswered (λ j. gives) (λ j. lacks) remaining contents k x (replies d) s
      (client_text (answers_of (reported d) (ended d)))
      ⊎ IsUnopened (λ j. gives) (λ j. lacks) remaining contents k x (replies d) s
      (client_text (answers_of (reported d) (ended d)))

  served_as : (k : ℕ) (x : X) (c d : C) (s : ClosedSeat) → (seat c).project ≡ k → closed_as s ≡ seat d
      → ((streams : ClientStreams F V) × gives x streams
      × AnswersClient remaining contents streams.file streams.replies (replies d) (seat c).project (seat d)
      (reported d).items (ended d))
      ⊎ ((e : StreamFault) × lacks x e × (ended d ≡ unopened e) × (seat d ≡ empty_client (seat c).project)
      × (replies d ≡ None) × ((reported d).items ≡ []))
      → IsEither k x d s
  served_as k x c d s q same (inl h) =
      let P : ℕ × ClientView → Type 0 = λ p. AnswersFile p.0 (remaining h.0.file) p.1 h.2.0 (ended d) in
      inl (
        h.0,
        h.2.0,
        h.1,
        subst P (λ i. (q i, sym same i)) h.2.1,
        is_taken h.0.replies (replies d) (reported d).items h.2.0 h.2.2,
      )
  served_as k x c d s q same (inr h) =
      inr (h.0, h.1, h.2, same ∙ h.3 ∙ ap empty_client q, h.4, ap reported_text h.5)

  client_answered : (k : ℕ) (x : X) (c d : C) (s : ClosedSeat) → IsSeated k x c → Serves k c d
      → closed_as s ≡ seat d → IsEither k x d s
  client_answered k x c d s seated served same =
      served_as k x c d s (ap (λ (v : ClientView). v.project) seated.0) same
      (subst (λ o. IsServed gives lacks remaining contents o (replies d) (seat c).project (seat d) (reported d).items
      (ended d)) seated.1 served)

  pub all_answered : (k j : ℕ) (xs : List X) (cs ds : List C) (ss : List ClosedSeat)
      → EachTwo IsSeated k xs cs → EachTwo Serves j cs ds → map closed_as ss ≡ map seat ds
      → AreAnswered (λ i. gives) (λ i. lacks) remaining contents k xs (map replies ds) ss
      (map client_text (map (λ d. answers_of (reported d) (ended d)) ds))
  all_answered k j [] [] [] [] seated served same = tt
  all_answered k j [] [] [] (s ∷ ss) seated served same = absurd (cc)
  all_answered k j [] [] (d ∷ ds) ss seated served same = absurd served
  all_answered k j [] (c ∷ cs) ds ss seated served same = absurd seated
  all_answered k j (x ∷ xs) [] ds ss seated served same = absurd seated
  all_answered k j (x ∷ xs) (c ∷ cs) [] ss seated served same = absurd served
  all_answered k j (x ∷ xs) (c ∷ cs) (d ∷ ds) [] seated served same = absurd (cc)
  all_answered k j (x ∷ xs) (c ∷ cs) (d ∷ ds) (s ∷ ss) seated served same =
      let head : closed_as s ≡ seat d = cc in
      let tail : map closed_as ss ≡ map seat ds = cc in (
        client_answered k x c d s seated.0 served.0 head,
        all_answered (suc k) (suc j) xs cs ds ss seated.1 served.1 tail,
      )

  -- the clients of a farm that is closed after them
  pub farm_answered : (xs : List X) (cs ds whole : List C) (closing : Closing)
      (seats : List ClientView) (answers : List ClientAnswers) (left : List (Option V))
      → EachTwo IsSeated 1 xs cs → EachTwo Serves 1 cs ds → whole ≡ ds
      → seats ≡ map seat whole → answers ≡ map (λ d. answers_of (reported d) (ended d)) whole
      → left ≡ map replies whole → map closed_as closing.seats.items ≡ seats
      → ForRight (λ p. AreTheCalls (all_receipts closing.seats.items) closing.book)
      → ForRight (λ p. AreLegal p closing.seats.items closing.book)
      → ForRight (λ p. AreFull closing.seats.items closing.book)
      → ForRight (λ p. SawTruly p closing.seats.items closing.book closing.stopped) → HaveEnded closing.rows.items
      → ForRight (λ p. AgreesWithHistories closing.rows.items closing.book)
      → FarmOf (λ i. gives) (λ i. lacks) remaining contents xs left (map client_text answers)
  farm_answered xs cs ds whole closing seats answers left seated served all are_seats are_answers are_left same receipts
      legal full looks over are_reported =
      let same_seats = same ∙ are_seats ∙ ap (λ (ks : List C). map seat ks) all in
      let same_answers : answers ≡ map (λ d. answers_of (reported d) (ended d)) ds =
      are_answers ∙ ap (λ (ks : List C). map (λ d. answers_of (reported d) (ended d)) ks) all in
      let same_left : left ≡ map replies ds = are_left ∙ ap (λ (ks : List C). map replies ks) all in
      let P : List (Option V) × List ClientAnswers → Type 0 =
      λ p. AreAnswered (λ i. gives) (λ i. lacks) remaining contents 1 xs p.0 closing.seats.items
      (map client_text p.1) in
      record {
        closing = closing;
        answered = subst P (λ i. (sym same_left i, sym same_answers i))
            (all_answered 1 1 xs cs ds closing.seats.items seated served same_seats);
        receipts = receipts;
        legal = legal;
        full = full;
        looks = looks;
        ended = over;
        reported = are_reported;
      }

module _ {X F V : Type 0} (gives : ℕ → X → ClientStreams F V → Type 0) (lacks : ℕ → X → StreamFault → Type 0)
    (remaining : F → Option (List ℕ)) (contents : V → Option (List ℕ)) (xs : List X) (left : List (Option V))
    (clients : List ClientText) (farm : FarmOf gives lacks remaining contents xs left clients)
    (w0 w1 : Option (List ℕ)) where
  pub farm_prints : (r : Result ℕ (OrNoMemory StreamFault)) → IfOk r (λ s. Prints clients s w0 w1)
      → IfOk r (λ s. FarmPrints gives lacks remaining contents xs left s w0 w1)
  farm_prints (Ok s) h = (clients, farm, h)
  farm_prints (Err e) h = tt

  pub farm_leaves : (n0 n1 : ℕ) (r : Result ℕ (OrNoMemory StreamFault))
      → IfErr r (λ e. PrintsInPart clients e w0 w1 n0 n1)
      → IfErr r (λ e. FarmLeaves gives lacks remaining contents xs left e w0 w1 n0 n1)
  farm_leaves n0 n1 (Ok s) h = tt
  farm_leaves n0 n1 (Err e) h = inr (clients, farm, h)
