use Rattle.std.proofs.Common.{◌≡◌, ◌++◌, take}
use Rattle.std.specs.Prelude.{flat_map}
use Rattle.pf_page.specs.Pages.{name_item}
use Rattle.pf_page.proofs.document.put_names.Given as goal

-- the names so far have gone out
abbrev pub invariant-loop-name : goal.invariant-loop-name
invariant-loop-name l = l.out.items ≡ l.fn.out.items ++ flat_map (λ n. name_item n.items) (take l.name-index l.names)
