-- What the code's own requests, orders and calls stand for.
use Rattle.pf_model.specs.Meaning as model
use Rattle.pf_request.specs.Request as request
use Rattle.pf_request.specs.Calls as calls
use Rattle.pf_request.specs.declared.choices.RunChoices.{RunChoices}
use Rattle.pf_request.specs.declared.choices.RunChoices.TheVariants.{Seed, Schedule, Weighted}
use Rattle.pf_request.specs.declared.request.RequestKind.{RequestKind}
use Rattle.pf_request.specs.declared.request.RequestKind.TheVariants.{Run, Shrink}
use Rattle.pf_request.specs.declared.request.Request.{Request}
use Rattle.pf_request.specs.declared.call.Order.{Order}
use Rattle.pf_request.specs.declared.call.Call.{Call}
use Rattle.pf_request.specs.declared.call.Call.TheVariants as call

abbrev pub view_of_choices : RunChoices → model.Choices
view_of_choices (Seed n) = model.seed n
view_of_choices (Schedule numbers) = model.schedule numbers.value.items
view_of_choices (Weighted n run deliver) = model.weighted_seed n run deliver

abbrev pub view_of_kind : RequestKind → request.RequestKind
view_of_kind (Run cs) = request.run (view_of_choices cs)
view_of_kind (Shrink numbers runs) = request.shrink numbers.value.items runs

abbrev pub view_of_request : Request → request.Request
view_of_request r = record {
  root = r.root.items;
  property = r.property.items;
  kind = view_of_kind r.kind;
  limit = r.limit;
}

abbrev pub view_of_order : Order → calls.Call
view_of_order o = calls.order o.module (view_of_request o.request)

abbrev pub view_of_call : Call → calls.Call
view_of_call (call.Submit s) = calls.submit s
view_of_call (call.Order o) = view_of_order o
view_of_call (call.Fetch t) = calls.fetch t
view_of_call (call.Status t) = calls.status t
view_of_call (call.DropTrial t) = calls.drop_trial t
view_of_call (call.Withdraw n) = calls.withdraw n
view_of_call call.Usage = calls.usage
view_of_call call.Log = calls.log
view_of_call (call.Edition e) = calls.edition e
