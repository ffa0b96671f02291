use Rattle.std.proofs.Common.{sym, ap}
use Rattle.std.proofs.lemmas.Result.{on_ok_weaker}
use Rattle.pf_chart.specs.Origins.{labels_of_origin}
use Rattle.pf_svg.proofs.Drawn.{renamed}
use Rattle.pf_chart.proofs.heads.put_origin.Goals as goal

pub returns-in-Root : goal.returns-in-Root
returns-in-Root c = on_ok_weaker c.put_name.result (λ h. renamed (ap labels_of_origin (sym c.in-Root.is)) h)
    c.put_name.ensures

pub returns-in-Named : goal.returns-in-Named
returns-in-Named c = on_ok_weaker c.put_name-in-Named.result (λ h. renamed (ap labels_of_origin (sym c.in-Named.is)) h)
    c.put_name-in-Named.ensures

pub returns-in-Unnamed : goal.returns-in-Unnamed
returns-in-Unnamed c = on_ok_weaker c.text.result
    (λ h. renamed (ap labels_of_origin (sym c.in-Unnamed.is)) h) c.text.ensures
