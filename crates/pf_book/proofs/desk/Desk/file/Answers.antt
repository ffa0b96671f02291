use Rattle.std.proofs.Common.{◌≡◌, ◌-◌, [], ◌∷◌, ◌++◌, map, true, ◌+◌, ◌≤◌, rules, refl, sym, ap, ◌∙◌, subst, arith}
use Rattle.std.proofs.lemmas.List.{map_push}
use Rattle.pf_desks.specs.Desk.{Desk, Trial, running, done, filed, held_at}
use Rattle.pf_desks.specs.Work.{is_running, file, result_marked}
use Rattle.pf_book.specs.Answers.{with_result, DeskFiles}
use Rattle.pf_book.specs.Kept.{desk_in}
use Rattle.pf_book.specs.Running.{running_among}
use Rattle.pf_book.specs.Trials.{JobAt}
use Rattle.pf_book.specs.View.{mark_of, view_of_entry}
use Rattle.pf_book.specs.declared.desk.Desk.TheInside.{Inside}
use Rattle.pf_book.specs.declared.entry.Entry.TheVariants.{Filed}
use Rattle.pf_desks.proofs.Always.{of_file}
use Rattle.pf_desks.proofs.Histories.{legal_work}
use Rattle.pf_book.proofs.Worked.{file_is, running_at, same_job_at, some_run, worked_valid}
use Rattle.pf_book.proofs.desk.Desk.file.Goals as goal
use Rattle.pf_desks.specs.declared.mark.FileMark.{FileMark}

pub file-requires : goal.file-requires
file-requires c =
    same_job_at c.deref.result.now c.self.inside.trials.items c.args.ticket c.deref-2.result.now c.args.finished.job
    c.deref.ensures.value (c.deref-2.ensures ∙ c.job.ensures) c.if-not-runs_job.ensures.1

pub overflow_sub-self : goal.overflow_sub-self
overflow_sub-self c =
    let b = c.self.inside in
    let runs : is_running (held_at b.trials.items c.args.ticket) ≡ true = search rules in
    let ran : b.running ≡ running_among b.trials.items = c.self.invariant.running in
    omega (arith, ran, some_run b.trials.items c.args.ticket runs)

pub push_reserved-requires : goal.push_reserved-requires
push_reserved-requires c =
    let b = c.self.inside in
    let runs : is_running (held_at b.trials.items c.args.ticket) ≡ true = search rules in
    let ran : b.running ≡ running_among b.trials.items = c.self.invariant.running in
    omega (arith, ran, some_run b.trials.items c.args.ticket runs, c.self.invariant.room)

pub invariant_of-self : goal.invariant_of-self
invariant_of-self c =
    let b = c.self.inside in
    let d = desk_in b in
    let t = c.args.ticket in
    let f = c.args.finished in
    let m = c.mark_of-mark.result in
    let runs : is_running (held_at d.trials t) ≡ true = search rules in
    let own : JobAt d.trials t f.job =
    same_job_at c.deref.result.now d.trials c.args.ticket c.deref-2.result.now c.args.finished.job c.deref.ensures.value
    (c.deref-2.ensures ∙ c.job.ensures) c.if-not-runs_job.ensures.1 in
    let ran : b.running ≡ running_among d.trials = c.self.invariant.running in
    let some : 1 ≤ b.running = omega (arith, ran, some_run d.trials t runs) in
    let b' : Inside = record {
      edition = b.edition;
      modules = b.modules;
      trials = c.file.new.trials;
      history =
          c.push_reserved.new.self;
      users = b.users;
      usage = b.usage;
      running = b.running - 1;
    } in
    let history : map view_of_entry c.push_reserved.new.self.items ≡ d.history ++ filed t (mark_of f.result) ∷ [] =
    ap (map view_of_entry) c.push_reserved.ensures.items ∙ map_push view_of_entry b.history.items (Filed t m)
    ∙ ap (λ (k : FileMark). d.history ++ filed t k ∷ []) c.mark_of-mark.ensures.mark in
    let is : desk_in b' ≡ with_result d t f.result = λ i. record {
      edition = d.edition;
      modules = d.modules;
      trials =
          c.file.ensures i;
      history = history i;
    } in
    let as_many : b.running - 1 + 1 ≡ b.running + 0 = omega (arith, some) in
    worked_valid b b' t running (done f.result) (filed t (mark_of f.result)) (running_at (held_at d.trials t) runs)
    (of_file t (mark_of f.result)) refl refl c.file.ensures history refl refl
    as_many
    (omega (arith, c.self.invariant.room, some, c.push_reserved.ensures.len, c.push_reserved.ensures.capacity))
    (λ p right. legal_work p d (desk_in b') (file t (mark_of f.result))
    (file_is d (desk_in b') t p (mark_of f.result) f.result f.job runs own
    (ap (λ (k : FileMark). result_marked p k f.job) (sym c.mark_of-mark.ensures.mark)
    ∙ c.mark_of-mark.ensures.puts p right) is)
    (c.self.invariant.legal p right))
    c.self.invariant

pub returns-clause-file : goal.returns-clause-file
returns-clause-file c =
    let b = c.self.inside in
    let d = desk_in b in
    let t = c.args.ticket in
    let f = c.args.finished in
    let m = c.mark_of-mark.result in
    let runs : is_running (held_at d.trials t) ≡ true = search rules in
    let own : JobAt d.trials t f.job =
    same_job_at c.deref.result.now d.trials c.args.ticket c.deref-2.result.now c.args.finished.job c.deref.ensures.value
    (c.deref-2.ensures ∙ c.job.ensures) c.if-not-runs_job.ensures.1 in
    let history : map view_of_entry c.push_reserved.new.self.items ≡ d.history ++ filed t (mark_of f.result) ∷ [] =
    ap (map view_of_entry) c.push_reserved.ensures.items ∙ map_push view_of_entry b.history.items (Filed t m)
    ∙ ap (λ (k : FileMark). d.history ++ filed t k ∷ []) c.mark_of-mark.ensures.mark in
    let d' : Desk = record {
      edition = d.edition;
      modules = d.modules;
      trials = c.file.new.trials.items;
      history =
          map view_of_entry c.push_reserved.new.self.items;
    } in
    let is : d' ≡ with_result d t f.result = λ i. record {
      edition = d.edition;
      modules = d.modules;
      trials =
          c.file.ensures i;
      history = history i;
    } in
    let done_so : DeskFiles d t f true d' = (
      runs,
      is,
      λ p right. file_is d d' t p (mark_of f.result) f.result f.job runs own
          (ap (λ (k : FileMark). result_marked p k f.job) (sym c.mark_of-mark.ensures.mark)
          ∙ c.mark_of-mark.ensures.puts p right) is,
    ) in
    subst (λ (k : Desk). DeskFiles k t f true d') c.self.view_is done_so

pub returns-clause-own : goal.returns-clause-own
returns-clause-own c =
    let d = desk_in c.self.inside in
    let own : JobAt d.trials c.args.ticket c.args.finished.job =
    same_job_at c.deref.result.now d.trials c.args.ticket c.deref-2.result.now c.args.finished.job c.deref.ensures.value
    (c.deref-2.ensures ∙ c.job.ensures) c.if-not-runs_job.ensures.1 in
    subst (λ (k : Desk). JobAt k.trials c.args.ticket c.args.finished.job) c.self.view_is own
