-- How the logic stores signals, queues, rows and channels.
use Rattle.std.specs.Prelude.{◌≡◌, ◌⊎◌, ℕ, zero, suc, Bool, refl}
use Rattle.std.proofs.Common.{inl, inr}
use Rattle.std.specs.Coded.{Coded, code_by, coded×, coded⊎, coded_ℕ, coded_list, coded_bool}
use Rattle.pf_terms.specs.Value.{Value}
use Rattle.pf_terms.specs.Encoding.{coded_value}
use Rattle.pf_model.specs.Channels.{Signal, message, link, unlink, monitor, demonitor, down, exit, Queue, SenderRow}
use Rattle.pf_model.specs.Channels.{Channels}

-- a message; a monitor; a demonitor; a down; an exit; a link or an unlink
abbrev pub Parts : Type 0
Parts = Value ⊎ (ℕ ⊎ (ℕ ⊎ ((ℕ × Value) ⊎ ((Bool × Value) ⊎ ℕ))))

abbrev pub parts_of : Signal → Parts
parts_of (message v) = inl v
parts_of (monitor r) = inr (inl r)
parts_of (demonitor r) = inr (inr (inl r))
parts_of (down r v) = inr (inr (inr (inl (r, v))))
parts_of (exit b v) = inr (inr (inr (inr (inl (b, v)))))
parts_of link = inr (inr (inr (inr (inr 0))))
parts_of unlink = inr (inr (inr (inr (inr 1))))

abbrev pub link_from : ℕ → Signal
link_from zero = link
link_from (suc n) = unlink

abbrev pub signal_from : Parts → Signal
signal_from (inl v) = message v
signal_from (inr (inl r)) = monitor r
signal_from (inr (inr (inl r))) = demonitor r
signal_from (inr (inr (inr (inl p)))) = down p.0 p.1
signal_from (inr (inr (inr (inr (inl p))))) = exit p.0 p.1
signal_from (inr (inr (inr (inr (inr n))))) = link_from n

pub signal_from-parts_of : (s : Signal) → signal_from (parts_of s) ≡ s
signal_from-parts_of (message v) = refl
signal_from-parts_of (monitor r) = refl
signal_from-parts_of (demonitor r) = refl
signal_from-parts_of (down r v) = refl
signal_from-parts_of (exit b v) = refl
signal_from-parts_of link = refl
signal_from-parts_of unlink = refl

abbrev pub coded_signal : Coded Signal
coded_signal =
    code_by _
    (coded⊎ coded_value
    (coded⊎ coded_ℕ (coded⊎ coded_ℕ (coded⊎ (coded× coded_ℕ coded_value)
    (coded⊎ (coded× coded_bool coded_value) coded_ℕ)))))
    parts_of signal_from signal_from-parts_of

abbrev pub coded_queue : Coded Queue
coded_queue =
    code_by _ (coded× coded_signal (coded_list coded_signal)) (λ q. (q.first, q.rest))
    (λ p. record { first = p.0; rest = p.1 }) (λ _. refl)

abbrev pub coded_row : Coded SenderRow
coded_row = coded_list (coded× coded_ℕ coded_queue)

abbrev pub coded_channels : Coded Channels
coded_channels = coded_list coded_row
