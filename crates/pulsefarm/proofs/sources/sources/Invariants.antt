use Rattle.std.proofs.Common.{◌≡◌, map, take}
use Rattle.std.specs.Prelude.{option_map}
use Rattle.std.specs.String.{string_bytes}
use Rattle.std.specs.List.{list_any}
use Rattle.pf_clients.specs.Pairs.{EachTwo}
use Rattle.pulsefarm.specs.Sources.{is_input, IsSource}
use Rattle.pulsefarm.proofs.sources.sources.Given as goal

-- where the clients of the words so far have their streams is known, and whether one of these words names the standard
-- input
abbrev pub invariant-names : goal.invariant-names
invariant-names g l = record {
  sources : EachTwo (λ k w x. IsSource g.R.Opens.opens (option_map (λ s. s.now) l.folder) k w x.name.now x.file
      (option_map (λ s. string_bytes s) x.replies)) 1 (map (λ w. w.now) (take l.name-index l.names)) l.sources.items;
  is_read : l.is_read ≡ list_any is_input (map (λ w. w.now) (take l.name-index l.names));
  number : l.number ≡ l.name-index;
}
