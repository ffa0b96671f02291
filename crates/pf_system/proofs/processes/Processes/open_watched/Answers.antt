use Rattle.std.proofs.Common.{◌≡◌, ◌∙◌, subst, length}
use Rattle.std.proofs.lemmas.Result.{IfOk-weaker}
use Rattle.pf_model.specs.declared.bond.Bond.TheVariants.{Watching}
use Rattle.pf_ties.specs.Ties.{opened_watched}
use Rattle.pf_system.specs.Acts.{ReportsSpawn, answer}
use Rattle.pf_system.proofs.Spawning.{opens_tied}
use Rattle.pf_system.proofs.processes.Processes.open_watched.Goals as goal

pub returns : goal.returns
returns c =
    let w = c.args.self.now in
    let k = c.in_ok-pid.ensures in
    let n : c.in_ok-pid.pid ≡ length w.slots.items = k.pid ∙ c.requires.shaped.ties in
    IfOk-weaker c.reported_watched.result _ _
    (λ v h. let r = answer v c.reported_watched.new.shown in record {
      opens = opens_tied w c.enter.new.self c.args.life (opened_watched w.shared.ties c.args.watcher)
          c.open_watched.new.self k.opened c.in_ok-enter.ensures;
      reports = subst (λ z. ReportsSpawn Watching z w.shared.ties.next_reference r) n
          (subst (λ z. ReportsSpawn Watching c.in_ok-pid.pid z r) k.reference h);
    })
    c.reported_watched.ensures
