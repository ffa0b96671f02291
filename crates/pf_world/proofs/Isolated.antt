-- A step does to a project's desk what it does to one desk, and nothing where it doesn't belong to the project.
use Rattle.std.proofs.Common.{◌≡◌, ℕ, ◌==◌, Bool, true, false, ◌&&◌, List, [], ◌∷◌, ◌++◌, Option, Some, None, refl, sym}
use Rattle.std.proofs.Common.{ap, ◌∙◌, subst, arith}
use Rattle.std.specs.Prelude.{if◌then◌else◌, nat_lt, length, unwrap_or, filter_map}
use Rattle.std.specs.List.{cons_option}
use Rattle.std.proofs.lemmas.Bool.Decides.{nat_tests}
use Rattle.pf_desks.specs.Desk.{Profile, Desk, Reply, held_at}
use Rattle.pf_desks.specs.declared.mark.FileMark.{FileMark}
use Rattle.pf_desks.specs.Calls.{after_call}
use Rattle.pf_desks.specs.Work.{claim_step, file_step, hand_back_step}
use Rattle.pf_desks.specs.Desks.{Desks, DeskStep, desk_at, put_desk, worked, desk_after, desk_replies, replies_along}
use Rattle.pf_desks.proofs.Isolated.{desk_placed}
use Rattle.pf_world.specs.World.{RunProfile, RunProgress, going, over, ClaimedRun, Hand, Deque, World, new_world}
use Rattle.pf_world.specs.Chores.{Response, Effect, MOST_PARKED, is_run_of, is_going, hand_emptied, file_effect}
use Rattle.pf_world.specs.Chores.{free_effect, busy_effect, chore_effect}
use Rattle.pf_request.specs.declared.step.Chore.{Chore}
use Rattle.pf_request.specs.declared.step.Chore.TheVariants.{Claim, Slice, Park, TakeUp, Steal, File, HandBack}
use Rattle.pf_world.specs.Steps.{WorldStep, client_calls, worker_does, deque_owner, with_effect, effect_of, take_step}
use Rattle.pf_world.specs.Steps.{responses, all_responses}
use Rattle.pf_world.specs.Alone.{project_of, took_place, is_own, own_part, replies_of, heard, at_desk, heard_alone}
use Rattle.pf_world.proofs.Effects.{from_some, where_so, where_claimed, where_from_deque, where_done, all_at}
use Rattle.pf_world.proofs.Whole.{IsWholeProgress, IsWhole, IsWholeHand, IsWholeWorld, whole_step, whole_new}

-- ---- what a step at one desk makes of it and replies, and nothing where there is none

abbrev pub desk_done : Profile → Option DeskStep → Desk → Desk
desk_done p None d = d
desk_done p (Some x) d = desk_after p d x

abbrev pub replies_done : Profile → Option DeskStep → Desk → List Reply
replies_done p None d = []
replies_done p (Some x) d = desk_replies p d x

replies_of_more : (p : Profile) (d : Desk) (o : Option DeskStep) (ss : List DeskStep)
    → replies_done p o d ++ replies_along p (desk_done p o d) ss ≡ replies_along p d (cons_option o ss)
replies_of_more p d None ss = refl
replies_of_more p d (Some x) ss = refl

silence : (p : Profile) (w q t : ℕ) (k : Chore) (d : Desk) → replies_done p (at_desk (worker_does w q t k)) d ≡ []
silence p w q t Claim d = refl
silence p w q t (Slice n) d = refl
silence p w q t Park d = refl
silence p w q t TakeUp d = refl
silence p w q t (Steal v) d = refl
silence p w q t File d = refl
silence p w q t HandBack d = refl

module _ (p : RunProfile) where
  -- ---- what a chore does to the desk that it names, and that it says nothing

  abbrev pub IsDoneAs : (w q t : ℕ) → Chore → Desk → Effect → Type 0
  IsDoneAs w q t k d e =
      (unwrap_or e.desk d ≡ desk_done p.profile (at_desk (worker_does w q t k)) d) × (took_place e.response ≡ true)
      × (replies_of e.response ≡ [])

  emptied_as : (w q t : ℕ) (k : Chore) (d : Desk) (o : Option Desk)
      → unwrap_or o d ≡ desk_done p.profile (at_desk (worker_does w q t k)) d → IsDoneAs w q t k d (hand_emptied o)
  emptied_as w q t k d (Some x) h = (h, refl, refl)
  emptied_as w q t k d None h = (h, refl, refl)

  free_done : (w q t : ℕ) (k : Chore) (d : Desk) (rs : Deque) (e : Effect) → free_effect q t k d rs ≡ Some e
      → IsDoneAs w q t k d e
  free_done w q t Claim d rs e h =
      where_claimed (IsDoneAs w q t Claim d) q t (held_at d.trials t) (claim_step d t) e h (λ x k i j.
      (sym (ap (λ (o : Option Desk). unwrap_or o d) j), refl, refl))
  free_done w q t TakeUp d rs e h = where_from_deque (IsDoneAs w q t TakeUp d) q t rs e h
      (λ r ks i is. (refl, refl, refl))
  free_done w q t (Steal v) d rs e h = where_from_deque (IsDoneAs w q t (Steal v) d) q t rs e h
      (λ r ks i is. (refl, refl, refl))
  free_done w q t (Slice n) d rs e h = absurd (cc)
  free_done w q t Park d rs e h = absurd (cc)
  free_done w q t File d rs e h = absurd (cc)
  free_done w q t HandBack d rs e h = absurd (cc)

  busy_done : (w q t : ℕ) (k : Chore) (d : Desk) (r : ClaimedRun) (rs : Deque) (e : Effect)
      → busy_effect p t k d r rs ≡ Some e → IsWhole r → IsDoneAs w q t k d e
  busy_done w q t (Slice n) d r rs e h one =
      where_so (IsDoneAs w q t (Slice n) d) (is_going r.progress && nat_lt 0 n) _ e h (λ is. (refl, refl, refl))
  busy_done w q t Park d r rs e h one =
      where_so (IsDoneAs w q t Park d) (is_going r.progress && nat_lt (length rs) MOST_PARKED) _ e h
      (λ is. (refl, refl, refl))
  busy_done w q t File d r rs e h one = by r.progress h one
    where
      by : (g : RunProgress) → file_effect p t d g ≡ Some e → IsWholeProgress g → IsDoneAs w q t File d e
      by (going k) h one = absurd (cc)
      by (over m) h one =
          from_some (IsDoneAs w q t File d) _ e h (
          emptied_as w q t File d (file_step p.profile d t m)
          (ap (λ (m : FileMark). unwrap_or (file_step p.profile d t m) d) one)
          )
  busy_done w q t HandBack d r rs e h one =
      from_some (IsDoneAs w q t HandBack d) _ e h (emptied_as w q t HandBack d (hand_back_step d t) refl)
  busy_done w q t Claim d r rs e h one = absurd (cc)
  busy_done w q t TakeUp d r rs e h one = absurd (cc)
  busy_done w q t (Steal v) d r rs e h one = absurd (cc)

  pub chore_done : (w q t : ℕ) (k : Chore) (d : Desk) (hand : Hand) (rs : Deque) (e : Effect)
      → chore_effect p q t k d hand rs ≡ Some e → IsWholeHand hand → IsDoneAs w q t k d e
  chore_done w q t k d None rs e h one = free_done w q t k d rs e h
  chore_done w q t k d (Some r) rs e h one = by (is_run_of q t r) h
    where
      by : (b : Bool) → (if b then busy_effect p t k d r rs else None) ≡ Some e → IsDoneAs w q t k d e
      by true h = busy_done w q t k d r rs e h one
      by false h = absurd (cc)

  pub effect_done : (s : World) (w q t : ℕ) (k : Chore) (e : Effect)
      → effect_of p s w q t k ≡ Some e → IsWholeWorld s → IsDoneAs w q t k (desk_at q s.desks) e
  effect_done s w q t k e i h =
      where_done (IsDoneAs w q t k (desk_at q s.desks)) p s w q t k e i (λ hand rs x y done.
      chore_done w q t k (desk_at q s.desks) hand rs e done (all_at IsWholeHand s.hands w hand x h.0))

-- ---- one project's desk among all

pub same_project : (q r : ℕ) → (r == q) ≡ true → r ≡ q
same_project q r h = grind (arith, nat_tests)

-- what holds of each desk that a project's is made or kept as
desk_made : (q r : ℕ) (f : Desk → Desk) (ds : Desks)
    → desk_at q (put_desk r (f (desk_at r ds)) ds) ≡ (if r == q then f (desk_at q ds) else desk_at q ds)
desk_made q r f ds = desk_placed q r (f (desk_at r ds)) ds ∙ by (r == q) refl
  where
    by : (b : Bool) → (r == q) ≡ b → (if b then f (desk_at r ds) else desk_at q ds)
        ≡ (if b then f (desk_at q ds) else desk_at q ds)
    by true h = ap (λ k. f (desk_at k ds)) (same_project q r h)
    by false h = refl

desk_kept : (q r : ℕ) (f : Desk → Desk) (ds : Desks) → desk_at r ds ≡ f (desk_at r ds)
    → desk_at q ds ≡ (if r == q then f (desk_at q ds) else desk_at q ds)
desk_kept q r f ds h = by (r == q) refl
  where
    by : (b : Bool) → (r == q) ≡ b → desk_at q ds ≡ (if b then f (desk_at q ds) else desk_at q ds)
    by true e = (let P : ℕ → Type 0 = λ k. desk_at k ds ≡ f (desk_at k ds) in subst P (same_project q r e) h)
    by false e = refl

desk_with : (q r : ℕ) (f : Desk → Desk) (o : Option Desk) (ds : Desks) → unwrap_or o (desk_at r ds) ≡ f (desk_at r ds)
    → desk_at q (worked r ds o).0 ≡ (if r == q then f (desk_at q ds) else desk_at q ds)
desk_with q r f (Some d) ds h = ap (λ (k : Desk). desk_at q (put_desk r k ds)) h ∙ desk_made q r f ds
desk_with q r f None ds h = desk_kept q r f ds h

replies_made : (q r : ℕ) (f : Desk → List Reply) (ds : Desks)
    → (if r == q then f (desk_at r ds) else []) ≡ (if r == q then f (desk_at q ds) else [])
replies_made q r f ds = by (r == q) refl
  where
    by : (b : Bool) → (r == q) ≡ b → (if b then f (desk_at r ds) else []) ≡ (if b then f (desk_at q ds) else [])
    by true h = ap (λ k. f (desk_at k ds)) (same_project q r h)
    by false h = refl

none_either_way : (b : Bool) (rs : List Reply) → rs ≡ [] → (if b then rs else []) ≡ []
none_either_way true rs h = h
none_either_way false rs h = refl

-- ---- steps

-- what a step with this world and response does to one project
abbrev IsLocal : RunProfile → ℕ → World → WorldStep → World × Response → Type 0
IsLocal p q s x r =
    ((if project_of x == q then replies_of r.1 else [])
    ≡ (if is_own q x r.1 then replies_done p.profile (at_desk x) (desk_at q s.desks) else []))
    × (desk_at q r.0.desks ≡ (if is_own q x r.1 then desk_done p.profile (at_desk x) (desk_at q s.desks)
    else desk_at q s.desks))

module _ (p : RunProfile) where
  local_effect : (q : ℕ) (s : World) (w r t : ℕ) (k : Chore) (e : Effect) → IsDoneAs p w r t k (desk_at r s.desks) e
      → IsLocal p q s (worker_does w r t k) (with_effect s w (deque_owner w k) r (Some e))
  local_effect q s w r t k e h = by (took_place e.response) h.1
    where
      x : WorldStep
      x = worker_does w r t k

      said : List Reply
      said = replies_done p.profile (at_desk x) (desk_at q s.desks)

      by : (b : Bool) → b ≡ true → ((if r == q then replies_of e.response else []) ≡ (if (if b then r == q else false)
          then said else []))
          × (desk_at q (worked r s.desks e.desk).0 ≡ (if (if b then r == q else false) then
          desk_done p.profile (at_desk x) (desk_at q s.desks) else desk_at q s.desks))
      by true i = (
        none_either_way (r == q) (replies_of e.response) h.2
            ∙ sym (none_either_way (r == q) said (silence p.profile w r t k (desk_at q s.desks))),
        desk_with q r (desk_done p.profile (at_desk x)) e.desk s.desks h.0,
      )
      by false i = absurd (cc)

  local : (q : ℕ) (s : World) (x : WorldStep) → IsWholeWorld s → IsLocal p q s x (take_step p s x)
  local q s (client_calls r c) h = (
    replies_made q r (replies_done p.profile (at_desk (client_calls r c))) s.desks,
    desk_made q r (λ d. after_call p.profile d c) s.desks,
  )
  local q s (worker_does w r t k) h = by (effect_of p s w r t k) refl
    where
      by : (o : Option Effect) → effect_of p s w r t k ≡ o
          → IsLocal p q s (worker_does w r t k) (with_effect s w (deque_owner w k) r o)
      by None i = (none_either_way (r == q) [] refl, refl)
      by (Some e) i = local_effect q s w r t k e (effect_done p s w r t k e i h)

  joined : (q : ℕ) (x : WorldStep) (a : Response) (xs : List WorldStep) (ans : List Response) (d d' : Desk)
      → (if project_of x == q then replies_of a else [])
      ≡ (if is_own q x a then replies_done p.profile (at_desk x) d else [])
      → d' ≡ (if is_own q x a then desk_done p.profile (at_desk x) d else d)
      → heard q xs ans ≡ replies_along p.profile d' (filter_map at_desk (own_part q xs ans))
      → (if project_of x == q then replies_of a else []) ++ heard q xs ans
      ≡ replies_along p.profile d (filter_map at_desk (if is_own q x a then x ∷ own_part q xs ans
      else own_part q xs ans))
  joined q x a xs ans d d' said is rest = by (is_own q x a) said is
    where
      own : List DeskStep
      own = filter_map at_desk (own_part q xs ans)

      by : (b : Bool) → (if project_of x == q then replies_of a else [])
          ≡ (if b then replies_done p.profile (at_desk x) d else [])
          → d' ≡ (if b then desk_done p.profile (at_desk x) d else d)
          → (if project_of x == q then replies_of a else []) ++ heard q xs ans
          ≡ replies_along p.profile d (filter_map at_desk (if b then x ∷ own_part q xs ans else own_part q xs ans))
      by true said is =
          (λ i. said i ++ rest i)
          ∙ ap (λ k. replies_done p.profile (at_desk x) d ++ replies_along p.profile k own) is
          ∙ replies_of_more p.profile d (at_desk x) own
      by false said is = (λ i. said i ++ rest i) ∙ ap (λ k. replies_along p.profile k own) is

  isolated_from : (q : ℕ) (s : World) (xs : List WorldStep) → IsWholeWorld s
      → heard q xs (responses p s xs) ≡ replies_along p.profile (desk_at q s.desks)
      (filter_map at_desk (own_part q xs (responses p s xs)))
  isolated_from q s [] h = refl
  isolated_from q s (x ∷ xs) h =
      let l : IsLocal p q s x (take_step p s x) = local q s x h in
      joined q x (take_step p s x).1 xs (responses p (take_step p s x).0 xs) (desk_at q s.desks)
      (desk_at q (take_step p s x).0.desks) l.0 l.1 (
      isolated_from q (take_step p s x).0 xs (whole_step p s x h)
      )

  pub isolated : (n q : ℕ) (xs : List WorldStep) → heard q xs (all_responses p n xs) ≡ heard_alone p n q xs
  isolated n q xs = isolated_from q (new_world n) xs (whole_new n)
