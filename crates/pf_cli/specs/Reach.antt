-- Which sources the words of a hunt name, which of their roots are hunted, and which of these words exclude each other.
use Rattle.std.specs.Prelude.{ℕ, List, [], ◌∷◌, codes, Option, Some, None}
use Rattle.std.specs.Prelude.{is_some, length, drop, map, Bool, true, false, ◌&&◌}
use Rattle.std.specs.Prelude.{◌||◌, nat_le, if◌then◌else◌}
use Rattle.pf_cli.specs.declared.args.Roots.{Roots}
use Rattle.pf_cli.specs.declared.args.Roots.TheVariants.{Main, Named, Every}
use Rattle.pf_cli.specs.declared.reach.HuntScope as reach_code

-- what a hunt goes over: the sources whose names come after the first, and which roots of each; whether it ends after
-- the first root that fails; and what fails a seed beside a first property: one of further ones, and perhaps that
-- processes still wait though its root returned
pub record HuntScope : Type 0 where
  pub more : List (List ℕ)
  pub roots : Roots
  pub fail_fast : Bool
  pub further : List (List ℕ)
  pub leaks : Bool

-- the names of the sources as they are given
abbrev pub names_given : Option (List (List ℕ)) → List (List ℕ)
names_given None = []
names_given (Some names) = names

-- they are at most 4,096; the first is given by itself
abbrev pub more_named : (names : List (List ℕ)) → Option (List (List ℕ))
more_named names = if nat_le (length names) 4096 then Some (drop 1 names) else None

-- every root is hunted, or the one that is named; where neither is said it is `main`, and of several sources every one
abbrev pub roots_named : (every : Bool) → (root : Option (List ℕ)) → Roots
roots_named true root = Every
roots_named false None = Main
roots_named false (Some name) = Named

-- beside `returns` a hunt looks for these where no property is named, unless each outcome is sought
abbrev pub looked_for : (all : Bool) → List (List ℕ)
looked_for all = if all then [] else codes "nocrash" ∷ codes "nodeadlock" ∷ []

-- the properties after the first
abbrev pub further_named : (all : Bool) → (properties : List (List ℕ)) → List (List ℕ)
further_named all [] = looked_for all
further_named all (p ∷ ps) = ps

abbrev pub reach_asked : (more : Option (List (List ℕ))) → Roots → (fail_fast : Bool) → (further : List (List ℕ))
    → (leaks : Bool) → Option HuntScope
reach_asked None roots fail_fast further leaks = None
reach_asked (Some more) roots fail_fast further leaks =
    Some (record { more = more; roots = roots; fail_fast = fail_fast; further = further; leaks = leaks })

-- every root doesn't go with one that is named, nor each outcome with a shrinking or with several properties; and
-- neither each outcome nor a shrinking with leaks, every root or several sources
abbrev pub clashes : (every leaks several many all : Bool) → (root shrink : Option (List ℕ)) → Bool
clashes every leaks several many all root shrink =
    (every && is_some root) || ((all && is_some shrink) || ((all && many)
    || ((all || is_some shrink) && (leaks || (every || several)))))

-- what the code's own stands for
abbrev pub view_of_reach : reach_code.HuntScope → HuntScope
view_of_reach r =
    record {
      more = map (λ s. s.now) r.more.items;
      roots = r.roots;
      fail_fast = r.fail_fast;
      further = map (λ s. s.now) r.further.items;
      leaks = r.leaks;
    }
