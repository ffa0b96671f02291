use Rattle.std.proofs.Common.{arith, ◌≡◌, ◌-◌, None, Some, ap, sym, ◌∙◌}
use Rattle.std.specs.Prelude.{option_map}
use Rattle.pf_json.specs.Names.{named_at}
use Rattle.pf_json.specs.Views.{views_of}
use Rattle.pf_json.proofs.Below.{longest}
use Rattle.pf_json.proofs.names.named.Goals as goal

pub returns-in-Some : goal.returns-in-Some
returns-in-Some c =
    let line = c.args.line.now in
    let at = c.loop-end in
    let k = at.end - 1 in
    let facts = views_of c.in-Some.facts.items in
    let reported : Some facts ≡ named_at line k =
    sym (ap (option_map (λ v. views_of v.items)) c.in-Some.is) ∙ c.in_ok-facts.ensures in
    sym (at.invariant.none ∙ longest line at.end k (Some facts) (omega (arith, c.loop-end-test.true)) reported)

pub loop-end-preserved : goal.loop-end-preserved
loop-end-preserved c =
    let line = c.args.line.now in
    let at = c.loop-end in
    let k = at.end - 1 in
    let nothing : None ≡ named_at line k =
    sym (ap (option_map (λ v. views_of v.items)) c.in_default.is) ∙ c.in_ok-facts.ensures in
    record {
      within = omega (arith, at.invariant.within);
      none = at.invariant.none ∙ longest line at.end k None (omega (arith, c.loop-end-test.true)) nothing;
    }
