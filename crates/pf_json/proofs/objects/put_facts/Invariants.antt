use Rattle.std.proofs.Common.{◌≡◌, ◌++◌, take}
use Rattle.std.specs.Prelude.{flat_map}
use Rattle.pf_json.specs.Objects.{fact_tokens}
use Rattle.pf_json.specs.Views.{view_of_fact}
use Rattle.pf_json.proofs.objects.put_facts.Given as goal

-- the facts so far have been written
abbrev pub invariant-loop-fact : goal.invariant-loop-fact
invariant-loop-fact l =
    record {
      tokens : l.writer.tokens ≡ l.fn.writer.tokens ++ flat_map (λ f. fact_tokens (view_of_fact f))
          (take l.fact-index l.facts);
      before : l.writer.before ≡ l.fn.writer.before;
    }
