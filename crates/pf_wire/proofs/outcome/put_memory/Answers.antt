use Rattle.std.proofs.Common.{◌≡◌, ◌++◌, ℕ, List, sym, ap, ◌∙◌}
use Rattle.std.specs.Prelude.{codes}
use Rattle.std.proofs.lemmas.Result.{on_ok_weaker}
use Rattle.pf_errors.specs.Codes.{no_memory_text}
use Rattle.pf_desks.specs.Reported.{to_project}
use Rattle.pf_world.specs.Steps.{WorldStep, client_calls, worker_does}
use Rattle.pf_world.specs.Reported.{memory_text, to_worker}
use Rattle.pf_wire.specs.Outcomes.{requester_of}
use Rattle.pf_wire.specs.declared.outcome.Requester.TheVariants.{Client, Worker}
use Rattle.pf_wire.proofs.outcome.put_memory.Goals as goal

-- a client's step is refused as out of memory, and a worker has none
to_client : (q : ℕ) (s : WorldStep) → Client q ≡ requester_of s
    → to_project q (codes "refused " ++ no_memory_text) ≡ memory_text s
to_client q (client_calls r c) e = let same : q ≡ r = cc in
    ap (λ (n : ℕ). to_project n (codes "refused " ++ no_memory_text)) same
to_client q (worker_does w r t k) e = absurd cc

to_its_worker : (w q : ℕ) (s : WorldStep) → Worker w q ≡ requester_of s
    → to_worker w (codes "no memory") ≡ memory_text s
to_its_worker w q (client_calls r c) e = absurd cc
to_its_worker w q (worker_does v r t k) e = let same : w ≡ v = cc in
    ap (λ (n : ℕ). to_worker n (codes "no memory")) same

pub returns-in-Client : goal.returns-in-Client
returns-in-Client c = λ s e.
    on_ok_weaker c.put_call_memory.result (λ h. h ∙ ap (λ (t : List ℕ). c.args.out.now.items ++ t)
    (to_client c.in-Client.project s (sym c.in-Client.is ∙ e)))
    c.put_call_memory.ensures

pub returns-in-Worker : goal.returns-in-Worker
returns-in-Worker c = λ s e.
    on_ok_weaker c.put_chore_memory.result
    (λ h. h ∙ ap (λ (t : List ℕ). c.args.out.now.items ++ t)
    (to_its_worker c.in-Worker.worker c.in-Worker.project s (sym c.in-Worker.is ∙ e)))
    c.put_chore_memory.ensures
