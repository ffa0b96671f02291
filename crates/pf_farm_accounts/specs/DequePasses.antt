-- What the thief has.
use Rattle.std.specs.Prelude.{◌≡◌, List, Option}
use Rattle.crossbeam_deque.specs.Handles.{Pass, view}
use Rattle.pf_farm_accounts.specs.declared.deque_part.HolderPart.{HolderPart}
use Rattle.pf_farm_accounts.specs.DequeParts.{thief_part}

module _ {T A : Type 0} where
  -- what was stolen by it
  abbrev pub stolen_by : Pass (Option T) (HolderPart T) A → List T
  stolen_by p = (view p).stolen

  -- it may steal and nothing else
  abbrev pub IsThief : Pass (Option T) (HolderPart T) A → Type 0
  IsThief p = view p ≡ thief_part (stolen_by p)
