-- The laws of legal histories.
use Rattle.std.specs.Prelude.{◌≡◌, ℕ, List, ◌∷◌, ◌++◌, Some}
use Rattle.pf_model.specs.Shrinking.{Result}
use Rattle.pf_request.specs.Calls.{fetch}
use Rattle.pf_desks.specs.Desk.{Profile, Trial, Desk, no_desk, Entry, called, result, held_at}
use Rattle.pf_desks.specs.declared.mark.FileMark.TheVariants.{Whole}
use Rattle.pf_desks.specs.Calls.{reply_to}
use Rattle.pf_desks.specs.History.{IsLegal, IsLegalDesk, replies_noted}
use Rattle.pf_desks.specs.Work.{result_marked}
use Rattle.pf_world.specs.Laws.{AgreeWhereSettled}
use Rattle.pf_farm_laws.specs.Notes.{NoneForMemory, calls_of}

-- a ticket's trial is held, and this is what its job means, with the names of the job's atoms
abbrev pub IsMeant : Profile → Desk → (ticket : ℕ) → (atoms : List (List ℕ)) → Result → Type 0
IsMeant p d t atoms r =
    (x : Trial) × (held_at d.trials t ≡ Some x) × (atoms ≡ x.job.asked.code.atoms) × (r ≡ result_marked p Whole x.job)

-- at a legal desk with no file marked for memory, what a `fetch` is answered is what the job of its trial means
abbrev pub ReportsAreMeant : Type 0
ReportsAreMeant =
    (p : Profile) (d : Desk) (t : ℕ) (atoms : List (List ℕ)) (r : Result) → IsLegalDesk p d → NoneForMemory d.history
    → reply_to p d (fetch t) ≡ result atoms r → IsMeant p d t atoms r

-- what a legal history with no file marked for memory notes that a `fetch` was answered is what the job of its trial
-- means, at the desk of the entries before it
abbrev pub NotedReportsAreMeant : Type 0
NotedReportsAreMeant =
    (p : Profile) (d : Desk) (before after : List Entry) (t : ℕ) (atoms : List (List ℕ)) (r : Result)
    → IsLegalDesk p d → NoneForMemory d.history → d.history ≡ before ++ called (fetch t) (result atoms r) ∷ after
    → (k : Desk) × IsLegal p no_desk before k × IsMeant p k t atoms r

-- two legal desks with no file marked for memory, whose histories note the same calls in the same order, gave the same
-- replies to settled calls
abbrev pub SettledHistories : Type 0
SettledHistories =
    (p : Profile) (d e : Desk) → IsLegalDesk p d → IsLegalDesk p e → NoneForMemory d.history → NoneForMemory e.history
    → calls_of d.history ≡ calls_of e.history
    → AgreeWhereSettled (calls_of d.history) (replies_noted d.history) (replies_noted e.history)
