use Rattle.std.proofs.Common.{◌≡◌, sym, subst, arith, length, IfOk}
use Rattle.pf_model.specs.declared.bond.Bond.TheVariants as bonds
use Rattle.pf_system.specs.Acts.{OpensProcess, ReportsSpawn, answer}
use Rattle.pf_system.proofs.processes.Processes.open_by.Goals as goal

pub returns-in_ok-open-in-Unbound : goal.returns-in_ok-open-in-Unbound
returns-in_ok-open-in-Unbound c =
    let w = c.args.self.now in
    let r = w.shared.ties.next_reference in
    let n : c.len-pid.result ≡ length w.slots.items = omega (arith, c.len-pid.ensures) in
    let reported = answer c.reported.result c.reported.new.shown in
    subst (λ b. OpensProcess b c.args.other w c.args.life reported c.open.new.self) (sym c.in-Unbound.is)
    (record {
      opens = c.in_ok-open-in-Unbound.ensures;
      reports = subst (λ z. ReportsSpawn bonds.Unbound z r reported) n
          (c.reported.ensures r);
    })

pub returns-in_ok-open-in-Linking : goal.returns-in_ok-open-in-Linking
returns-in_ok-open-in-Linking c =
    let w = c.args.self.now in
    let r = w.shared.ties.next_reference in
    let n : c.len-pid.result ≡ length w.slots.items = omega (arith, c.len-pid.ensures) in
    let reported = answer c.reported-in-Linking.result c.reported-in-Linking.new.shown in
    subst (λ b. OpensProcess b c.args.other w c.args.life reported c.open-in-Linking.new.self) (sym c.in-Linking.is)
    (record {
      opens = c.in_ok-open-in-Linking.ensures;
      reports = subst (λ z. ReportsSpawn bonds.Linking z r reported) n
          (c.reported-in-Linking.ensures r);
    })

pub returns-in-Watching : goal.returns-in-Watching
returns-in-Watching c =
    let w = c.args.self.now in
    subst (λ b. IfOk c.open_watched.result (λ v. OpensProcess b c.args.other w c.args.life
    (answer v c.open_watched.new.shown) c.open_watched.new.self))
    (sym c.in-Watching.is) c.open_watched.ensures
