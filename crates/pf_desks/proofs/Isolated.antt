-- A step does to a project's desk what it does to one desk, and nothing where it doesn't belong to the project.
use Rattle.std.proofs.Common.{◌≡◌, ℕ, ◌==◌, Bool, true, false, List, [], ◌∷◌, ◌++◌, Option, Some, None, refl, sym, ap}
use Rattle.std.proofs.Common.{◌∙◌, arith}
use Rattle.std.specs.Prelude.{if◌then◌else◌, unwrap_or}
use Rattle.std.proofs.lemmas.Bool.Decides.{nat_tests}
use Rattle.pf_request.specs.Calls.{Call}
use Rattle.pf_desks.specs.Desk.{Profile, Desk, Reply}
use Rattle.pf_desks.specs.Calls.{after_call}
use Rattle.pf_desks.specs.Work.{DeskWork, worker_step}
use Rattle.pf_desks.specs.Desks.{DeskStep, client, worker, Answer, Desks, desk_at, put_desk, worked, step, answers}
use Rattle.pf_desks.specs.Desks.{all_answers, project_named, belongs, replies_in, replies_to, own_steps, desk_after}
use Rattle.pf_desks.specs.Desks.{desk_replies, replies_along, alone}

pub pick : {A : Type 0} (P : A → Type 0) (b : Bool) (x y : A) → P x → P y → P (if b then x else y)
pick P true x y f g = f
pick P false x y f g = g

pub desk_placed : (q r : ℕ) (d : Desk) (w : Desks) → desk_at q (put_desk r d w) ≡ (if r == q then d else desk_at q w)
desk_placed q r d [] = grind (arith, nat_tests)
desk_placed q r d (e ∷ es) = grind (arith, nat_tests, desk_placed q r d es)

-- the desk that was put there
pub desk_there : (q : ℕ) (d : Desk) (w : Desks) → desk_at q (put_desk q d w) ≡ d
desk_there q d w = desk_placed q q d w ∙ by (q == q) (grind (arith, nat_tests))
  where
    by : (b : Bool) → b ≡ true → (if b then d else desk_at q w) ≡ d
    by true e = refl
    by false e = absurd (cc)

pub same_project : (q r : ℕ) → (r == q) ≡ true → r ≡ q
same_project q r h = grind (arith, nat_tests)

-- what is made of the named project's desk is made of this project's, where they are one
desk_made : (q r : ℕ) (f : Desk → Desk) (w : Desks)
    → desk_at q (put_desk r (f (desk_at r w)) w) ≡ (if r == q then f (desk_at q w) else desk_at q w)
desk_made q r f w = desk_placed q r (f (desk_at r w)) w ∙ by (r == q) refl
  where
    by : (b : Bool) → (r == q) ≡ b → (if b then f (desk_at r w) else desk_at q w)
        ≡ (if b then f (desk_at q w) else desk_at q w)
    by true h = ap (λ k. f (desk_at k w)) (same_project q r h)
    by false h = refl

replies_made : (q r : ℕ) (f : Desk → List Reply) (w : Desks)
    → (if r == q then f (desk_at r w) else []) ≡ (if r == q then f (desk_at q w) else [])
replies_made q r f w = by (r == q) refl
  where
    by : (b : Bool) → (r == q) ≡ b → (if b then f (desk_at r w) else []) ≡ (if b then f (desk_at q w) else [])
    by true h = ap (λ k. f (desk_at k w)) (same_project q r h)
    by false h = refl

abbrev silence : List Reply
silence = []

no_replies : (b : Bool) → (if b then silence else silence) ≡ silence
no_replies true = refl
no_replies false = refl

-- what a step with these desks and this answer does to one project
abbrev IsLocal : Profile → ℕ → Desks → DeskStep → Desks × Answer → Type 0
IsLocal p q w s r =
    ((if project_named s == q then replies_in r.1 else [])
    ≡ (if belongs q s r.1 then desk_replies p (desk_at q w) s else []))
    × (desk_at q r.0 ≡ (if belongs q s r.1 then desk_after p (desk_at q w) s else desk_at q w))

local_call : (p : Profile) (q : ℕ) (w : Desks) (r : ℕ) (c : Call) → IsLocal p q w (client r c) (step p w (client r c))
local_call p q w r c = (
  replies_made q r (λ d. desk_replies p d (client r c)) w,
  desk_made q r (λ d. after_call p d c) w,
)

-- a worker's step that can be done at the named project's desk is done at this project's, where they are one
work_made : (p : Profile) (q r : ℕ) (k : DeskWork) (d : Desk) (w : Desks) → worker_step p (desk_at r w) k ≡ Some d
    → desk_at q (put_desk r d w) ≡ (if r == q then unwrap_or (worker_step p (desk_at q w) k) (desk_at q w)
    else desk_at q w)
work_made p q r k d w h = desk_placed q r d w ∙ by (r == q) refl
  where
    by : (b : Bool) → (r == q) ≡ b → (if b then d else desk_at q w)
        ≡ (if b then unwrap_or (worker_step p (desk_at q w) k) (desk_at q w) else desk_at q w)
    by true e =
        sym (ap (λ (n : ℕ). unwrap_or (worker_step p (desk_at n w) k) (desk_at n w)) (sym (same_project q r e))
        ∙ ap (λ (o : Option Desk). unwrap_or o (desk_at r w)) h)
    by false e = refl

local_work : (p : Profile) (q : ℕ) (w : Desks) (r : ℕ) (k : DeskWork) (o : Option Desk)
    → worker_step p (desk_at r w) k ≡ o → IsLocal p q w (worker r k) (worked r w o)
local_work p q w r k (Some d) h = (refl, work_made p q r k d w h)
local_work p q w r k None h = (no_replies (r == q), refl)

local : (p : Profile) (q : ℕ) (w : Desks) (s : DeskStep) → IsLocal p q w s (step p w s)
local p q w (client r c) = local_call p q w r c
local p q w (worker r k) = local_work p q w r k (worker_step p (desk_at r w) k) refl

joined : (p : Profile) (q : ℕ) (s : DeskStep) (a : Answer) (ss : List DeskStep) (xs : List Answer) (d d' : Desk)
    → (if project_named s == q then replies_in a else []) ≡ (if belongs q s a then desk_replies p d s else [])
    → d' ≡ (if belongs q s a then desk_after p d s else d)
    → replies_to q ss xs ≡ replies_along p d' (own_steps q ss xs)
    → (if project_named s == q then replies_in a else []) ++ replies_to q ss xs ≡ replies_along p d
    (if belongs q s a then s ∷ own_steps q ss xs else own_steps q ss xs)
joined p q s a ss xs d d' said is rest = by (belongs q s a) said is
  where
    by : (b : Bool) → (if project_named s == q then replies_in a else []) ≡ (if b then desk_replies p d s else [])
        → d' ≡ (if b then desk_after p d s else d)
        → (if project_named s == q then replies_in a else []) ++ replies_to q ss xs ≡ replies_along p d
        (if b then s ∷ own_steps q ss xs else own_steps q ss xs)
    by true said is = (λ i. said i ++ rest i) ∙ ap (λ k. desk_replies p d s ++ replies_along p k (own_steps q ss xs)) is
    by false said is = (λ i. said i ++ rest i) ∙ ap (λ k. replies_along p k (own_steps q ss xs)) is

-- from any desks
isolated_from : (p : Profile) (q : ℕ) (w : Desks) (ss : List DeskStep)
    → replies_to q ss (answers p w ss) ≡ replies_along p (desk_at q w) (own_steps q ss (answers p w ss))
isolated_from p q w [] = refl
isolated_from p q w (s ∷ ss) =
    let l : IsLocal p q w s (step p w s) = local p q w s in
    joined p q s (step p w s).1 ss (answers p (step p w s).0 ss) (desk_at q w) (desk_at q (step p w s).0) l.0 l.1
    (isolated_from p q (step p w s).0 ss)

pub isolated : (p : Profile) (q : ℕ) (ss : List DeskStep) → replies_to q ss (all_answers p ss) ≡ alone p q ss
isolated p q ss = isolated_from p q [] ss
