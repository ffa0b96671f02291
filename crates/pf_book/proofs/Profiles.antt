-- What right profiles say of a source that was read, and of an order.
use Rattle.std.proofs.Common.{◌≡◌, ℕ, ◌+◌, List, [], ◌∷◌, ◌++◌, length, Option, Some, Result, sym, ap, ◌∙◌}
use Rattle.pf_errors.specs.declared.code.Code.{Code}
use Rattle.pf_check.specs.Reads.{accepted, refused, Reads}
use Rattle.pf_model.specs.Properties.{Property}
use Rattle.pf_request.specs.Job.{Job, job_of}
use Rattle.pf_check.specs.Module.{ReadModule}
use Rattle.pf_request.specs.Request.{Request}
use Rattle.pf_request.specs.View.{view_of_request}
use Rattle.pf_request.specs.declared.call.Order.{Order}
use Rattle.pf_check.specs.Reading.{IsReadAs}
use Rattle.pf_desks.specs.Desk as desk
use Rattle.pf_desks.specs.Desk.{Profile, Desk, Reply, number, held_at, job_ordered}
use Rattle.pf_desks.specs.Calls.{submitted}
use Rattle.pf_sched.specs.Asked.{Asks}
use Rattle.pf_book.specs.Orders.{OrderAsksFor}
use Rattle.pf_book.specs.Profile.{IsRight}

module _ (p : Profile) (right : IsRight p) where
  -- what a source is answered with that was read as a module
  pub submitted_read : (d : Desk) (bytes : List ℕ) (s : ReadModule) → s.source ≡ bytes → IsReadAs bytes s
      → ◌≡◌ {A = Desk × Reply} (record d { modules = d.modules ++ Some s ∷ [] }, number (length d.modules + 1))
      (submitted d bytes (p.reading bytes))
  submitted_read d bytes s same h =
      let text : s ≡ record { source = bytes; code = s.code } = λ i. record { source = same i; code = s.code } in
      ap (λ (m : ReadModule). (record d { modules = d.modules ++ Some m ∷ [] }, number (length d.modules + 1))) text
      ∙ ap (submitted d bytes) (sym (right.reads bytes (accepted s.code.name s.code.atoms s.code.functions) h))

  -- what a source is answered with that was refused
  pub submitted_refused : (d : Desk) (bytes : List ℕ) (code : Code) (index : ℕ) → Reads bytes (refused code index)
      → ◌≡◌ {A = Desk × Reply} (d, desk.refused code) (submitted d bytes (p.reading bytes))
  submitted_refused d bytes code index h = ap (submitted d bytes) (sym (right.reads bytes (refused code index) h))

  -- a request that results in this job, or is refused for this, does so to the profile
  request_so : (m : ReadModule) (e : ℕ) (r : Request) (x : Result Job Code) → Asks m e r x
      → job_ordered p e (Some m) r ≡ x
  request_so m e r x h = ap (λ (q : Option Property). job_of m e q r) (right.properties m.code.atoms r.property h.0 h.1)
      ∙ h.2

-- an order asks for what its request of its module results in
pub order_asks : (e : ℕ) (modules : List (Option ReadModule)) (o : Order) (m : ReadModule) (x : Result Job Code)
    → held_at modules o.module ≡ Some m → Asks m e (view_of_request o.request) x → OrderAsksFor e modules o x
order_asks e modules o m x found asks p right =
    ap (λ (held : Option ReadModule). job_ordered p e held (view_of_request o.request)) found
    ∙ request_so p right m e (view_of_request o.request) x asks
