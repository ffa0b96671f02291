-- How the logic stores worlds.
use Rattle.std.specs.Prelude.{◌≡◌, ◌⊎◌, ℕ, zero, suc, refl}
use Rattle.std.proofs.Common.{inl, inr}
use Rattle.std.specs.Coded.{Coded, code_by, coded×, coded⊎, coded_ℕ, coded_list, coded_option}
use Rattle.pf_request.specs.Encoding.{coded_job}
use Rattle.pf_desks.specs.declared.mark.FileMark.TheVariants.{Whole, Memory}
use Rattle.pf_desks.specs.Encoding.{coded_desks}
use Rattle.pf_world.specs.World.{RunProgress, going, over, ClaimedRun, Deque, World}

-- a run that is over is 0 if it is whole, and 1 if an allocation failed in it
abbrev pub parts_of_progress : RunProgress → ℕ ⊎ ℕ
parts_of_progress (going n) = inl n
parts_of_progress (over Whole) = inr 0
parts_of_progress (over Memory) = inr 1

abbrev pub progress_from : ℕ ⊎ ℕ → RunProgress
progress_from (inl n) = going n
progress_from (inr zero) = over Whole
progress_from (inr (suc n)) = over Memory

pub progress_from-parts_of : (g : RunProgress) → progress_from (parts_of_progress g) ≡ g
progress_from-parts_of (going n) = refl
progress_from-parts_of (over Whole) = refl
progress_from-parts_of (over Memory) = refl

abbrev pub coded_progress : Coded RunProgress
coded_progress = code_by _ (coded⊎ coded_ℕ coded_ℕ) parts_of_progress progress_from progress_from-parts_of

abbrev pub coded_claimed_run : Coded ClaimedRun
coded_claimed_run =
    code_by _ (coded× coded_ℕ (coded× coded_ℕ (coded× coded_job coded_progress)))
    (λ r. (r.project, (r.ticket, (r.job, r.progress))))
    (λ x. record { project = x.0; ticket = x.1.0; job = x.1.1.0; progress = x.1.1.1 }) (λ _. refl)

abbrev pub coded_deque : Coded Deque
coded_deque = coded_list coded_claimed_run

abbrev pub coded_world : Coded World
coded_world =
    code_by _ (coded× coded_desks (coded× (coded_list (coded_option coded_claimed_run)) (coded_list coded_deque)))
    (λ s. (s.desks, (s.hands, s.deques))) (λ x. record { desks = x.0; hands = x.1.0; deques = x.1.1 }) (λ _. refl)
