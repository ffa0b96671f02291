-- What is used after one thing more, and after one thing less.
use Rattle.std.proofs.Common.{◌≡◌, ℕ, ◌+◌, List, [], ◌∷◌, ◌++◌, length, map, Option, Some, None, refl, sym, ap, ◌∙◌}
use Rattle.std.proofs.Common.{subst, arith}
use Rattle.std.specs.List.{sum_by}
use Rattle.std.proofs.lemmas.List.Sums.{sum_by-append, sum_by-cons}
use Rattle.pf_quota.specs.declared.usage.Usage.{Usage}
use Rattle.pf_quota.specs.declared.charges.Holding.{Holding}
use Rattle.pf_quota.specs.declared.charges.Holding.TheVariants as held
use Rattle.pf_quota.specs.declared.charges.Charge.TheVariants as charge
use Rattle.pf_quota.specs.Charges.{steps_of_trial}
use Rattle.pf_quota.specs.Usage.{usage_of, charged, refunded, Covers, charge_of, module_count, byte_count, trial_count}
use Rattle.pf_quota.specs.Usage.{step_count}
use Rattle.pf_request.specs.Calls.{Call}
use Rattle.pf_check.specs.Module.{ReadModule}
use Rattle.pf_desks.specs.Desk.{Trial, Desk, Entry, Reply, called, claimed, filed, handed_back, held_at, with_held}
use Rattle.pf_desks.specs.Desk.{all_held}
use Rattle.pf_desks.specs.declared.mark.FileMark.{FileMark}
use Rattle.pf_desks.specs.Calls.{calls_in, held_by, usage_in}
use Rattle.pf_desks.proofs.Always.{OfWork, of_claim, of_file, of_back}
use Rattle.pf_desks.proofs.Held.{OneMore, one_pushed, one_gone, Around, around}

-- ---- calls

pub calls_more : (es : List Entry) (c : Call) (r : Reply) → calls_in (es ++ called c r ∷ []) ≡ calls_in es + 1
calls_more [] c r = refl
calls_more (called x y ∷ es) c r = omega (arith, calls_more es c r)
calls_more (claimed t ∷ es) c r = calls_more es c r
calls_more (filed t m ∷ es) c r = calls_more es c r
calls_more (handed_back t ∷ es) c r = calls_more es c r

pub calls_claimed : (es : List Entry) (t : ℕ) → calls_in (es ++ claimed t ∷ []) ≡ calls_in es
calls_claimed [] t = refl
calls_claimed (called x y ∷ es) t = ap (λ n. 1 + n) (calls_claimed es t)
calls_claimed (claimed x ∷ es) t = calls_claimed es t
calls_claimed (filed x m ∷ es) t = calls_claimed es t
calls_claimed (handed_back x ∷ es) t = calls_claimed es t

pub calls_filed : (es : List Entry) (t : ℕ) (m : FileMark) → calls_in (es ++ filed t m ∷ []) ≡ calls_in es
calls_filed [] t m = refl
calls_filed (called x y ∷ es) t m = ap (λ n. 1 + n) (calls_filed es t m)
calls_filed (claimed x ∷ es) t m = calls_filed es t m
calls_filed (filed x k ∷ es) t m = calls_filed es t m
calls_filed (handed_back x ∷ es) t m = calls_filed es t m

pub calls_handed_back : (es : List Entry) (t : ℕ) → calls_in (es ++ handed_back t ∷ []) ≡ calls_in es
calls_handed_back [] t = refl
calls_handed_back (called x y ∷ es) t = ap (λ n. 1 + n) (calls_handed_back es t)
calls_handed_back (claimed x ∷ es) t = calls_handed_back es t
calls_handed_back (filed x m ∷ es) t = calls_handed_back es t
calls_handed_back (handed_back x ∷ es) t = calls_handed_back es t

pub calls_worked : (es : List Entry) (e : Entry) → OfWork e → calls_in (es ++ e ∷ []) ≡ calls_in es
calls_worked es (called c r) of = elim of [ ]
calls_worked es (claimed t) (of_claim _) = calls_claimed es t
calls_worked es (filed t m) (of_file _ _) = calls_filed es t m
calls_worked es (handed_back t) (of_back _) = calls_handed_back es t

-- ---- a thing among things

between : (f : Holding → ℕ) (before after : List Holding) (x : Holding)
    → sum_by f (before ++ x ∷ after) ≡ sum_by f (before ++ after) + f x
between f before after x = omega (
  arith,
  sum_by-append f before (x ∷ after),
  sum_by-cons f x after,
  sum_by-append f before after,
)

same_usage : (u v : Usage) → u.modules ≡ v.modules → u.bytes ≡ v.bytes → u.trials ≡ v.trials → u.steps ≡ v.steps
    → u.calls ≡ v.calls → u ≡ v
same_usage u v a b c d e = λ i. record { modules = a i; bytes = b i; trials = c i; steps = d i; calls = e i }

module _ (before after : List Holding) (n : ℕ) where
  charged_with : (x : Holding) → charged (usage_of (before ++ after) n) (charge_of x) ≡ usage_of (before ++ x ∷ after) n
  charged_with (held.Module bytes) =
      let x = held.Module bytes in
      same_usage _ (usage_of (before ++ x ∷ after) n)
      (sym (between module_count before after x)) (sym (between byte_count before after x))
      (omega (arith, between trial_count before after x)) (omega (arith, between step_count before after x)) refl
  charged_with (held.Trial steps) =
      let x = held.Trial steps in
      same_usage _ (usage_of (before ++ x ∷ after) n)
      (omega (arith, between module_count before after x)) (omega (arith, between byte_count before after x))
      (sym (between trial_count before after x)) (sym (between step_count before after x)) refl

  covers_with : (x : Holding) → Covers (usage_of (before ++ x ∷ after) n) x
  covers_with (held.Module bytes) =
      let x = held.Module bytes in
      (omega (arith, between module_count before after x), omega (arith, between byte_count before after x))
  covers_with (held.Trial steps) =
      let x = held.Trial steps in
      (omega (arith, between trial_count before after x), omega (arith, between step_count before after x))

  refunded_with : (x : Holding) → refunded (usage_of (before ++ x ∷ after) n) x ≡ usage_of (before ++ after) n
  refunded_with (held.Module bytes) =
      let x = held.Module bytes in
      same_usage _ (usage_of (before ++ after) n)
      (omega (arith, between module_count before after x)) (omega (arith, between byte_count before after x))
      (omega (arith, between trial_count before after x)) (omega (arith, between step_count before after x)) refl
  refunded_with (held.Trial steps) =
      let x = held.Trial steps in
      same_usage _ (usage_of (before ++ after) n)
      (omega (arith, between module_count before after x)) (omega (arith, between byte_count before after x))
      (omega (arith, between trial_count before after x)) (omega (arith, between step_count before after x)) refl

-- what is used of these things, and one of them more
record Among (n : ℕ) (less more : List Holding) (x : Holding) : Type 0 where
  charge : charged (usage_of less n) (charge_of x) ≡ usage_of more n
  covers : Covers (usage_of more n) x
  refund : refunded (usage_of more n) x ≡ usage_of less n

among : (n : ℕ) (less more before after : List Holding) (x : Holding) → less ≡ before ++ after
    → more ≡ before ++ x ∷ after → Among n less more x
among n less more before after x is is' = record {
  charge = ap (λ (l : List Holding). charged (usage_of l n) (charge_of x)) is ∙ charged_with before after n x
      ∙ ap (λ (l : List Holding). usage_of l n) (sym is');
  covers = subst (λ (l : List Holding). Covers (usage_of l n) x) (sym is') (covers_with before after n x);
  refund = ap (λ (l : List Holding). refunded (usage_of l n) x) is' ∙ refunded_with before after n x
      ∙ ap (λ (l : List Holding). usage_of l n) (sym is);
}

-- ---- modules and trials of a desk

abbrev pub held_module : ReadModule → Holding
held_module m = held.Module (length m.source)

abbrev pub held_trial : Trial → Holding
held_trial t = held.Trial (steps_of_trial t.job.asked.limit t.job.asked.runs)

split_front : {X : Type 0} (f : X → Holding) (b a : List X) (x : X) (rest : List Holding)
    → map f (b ++ x ∷ a) ++ rest ≡ map f b ++ f x ∷ (map f a ++ rest)
split_front f [] a x rest = refl
split_front f (y ∷ b) a x rest = ap (λ (l : List Holding). f y ∷ l) (split_front f b a x rest)

join_front : {X : Type 0} (f : X → Holding) (b a : List X) (rest : List Holding)
    → map f (b ++ a) ++ rest ≡ map f b ++ (map f a ++ rest)
join_front f [] a rest = refl
join_front f (y ∷ b) a rest = ap (λ (l : List Holding). f y ∷ l) (join_front f b a rest)

split_back : {X : Type 0} (f : X → Holding) (b a : List X) (x : X) (front : List Holding)
    → front ++ map f (b ++ x ∷ a) ≡ (front ++ map f b) ++ f x ∷ map f a
split_back f [] a x [] = refl
split_back f (y ∷ b) a x [] = ap (λ (l : List Holding). f y ∷ l) (split_back f b a x [])
split_back f b a x (z ∷ front) = ap (λ (l : List Holding). z ∷ l) (split_back f b a x front)

join_back : {X : Type 0} (f : X → Holding) (b a : List X) (front : List Holding)
    → front ++ map f (b ++ a) ≡ (front ++ map f b) ++ map f a
join_back f [] a [] = refl
join_back f (y ∷ b) a [] = ap (λ (l : List Holding). f y ∷ l) (join_back f b a [])
join_back f b a (z ∷ front) = ap (λ (l : List Holding). z ∷ l) (join_back f b a front)

-- a desk with one module more than another
module _ (d : Desk) (ms : List (Option ReadModule)) (m : ReadModule) (one : OneMore d.modules ms m) where
  modules_among : Among (calls_in d.history) (held_by d) (held_by (record d { modules = ms })) (held_module m)
  modules_among =
      let ts = map held_trial (all_held d.trials) in
      among (calls_in d.history) (held_by d) (held_by (record d { modules = ms })) (map held_module one.before)
      (map held_module one.after ++ ts) (held_module m)
      (ap (λ (l : List ReadModule). map held_module l ++ ts) one.less ∙ join_front held_module one.before one.after ts)
      (ap (λ (l : List ReadModule). map held_module l ++ ts) one.more ∙ split_front held_module one.before
      one.after m ts)

-- a desk with one trial more than another
module _ (d : Desk) (ts : List (Option Trial)) (t : Trial) (one : OneMore d.trials ts t) where
  trials_among : Among (calls_in d.history) (held_by d) (held_by (record d { trials = ts })) (held_trial t)
  trials_among =
      let ms = map held_module (all_held d.modules) in
      among (calls_in d.history) (held_by d) (held_by (record d { trials = ts })) (ms ++ map held_trial one.before)
      (map held_trial one.after) (held_trial t)
      (ap (λ (l : List Trial). ms ++ map held_trial l) one.less ∙ join_back held_trial one.before one.after ms)
      (ap (λ (l : List Trial). ms ++ map held_trial l) one.more ∙ split_back held_trial one.before one.after t ms)

module _ (d : Desk) where
  pub module_charged : (m : ReadModule) → charged (usage_in d) (charge.Module (length m.source))
      ≡ usage_in (record d { modules = d.modules ++ Some m ∷ [] })
  module_charged m = (modules_among d (d.modules ++ Some m ∷ []) m (one_pushed d.modules m)).charge

  pub trial_charged : (t : Trial) → charged (usage_in d)
      (charge.Trial (steps_of_trial t.job.asked.limit t.job.asked.runs))
      ≡ usage_in (record d { trials = d.trials ++ Some t ∷ [] })
  trial_charged t = (trials_among d (d.trials ++ Some t ∷ []) t (one_pushed d.trials t)).charge

  module _ (n : ℕ) (m : ReadModule) (h : held_at d.modules n ≡ Some m) where
    module_gone : Among (calls_in d.history) (held_by (record d { modules = with_held d.modules n None })) (held_by d)
        (held_module m)
    module_gone = modules_among (record d { modules = with_held d.modules n None }) d.modules m
        (one_gone d.modules n m h)

    pub module_covers : Covers (usage_in d) (held.Module (length m.source))
    module_covers = module_gone.covers

    pub module_refunded : refunded (usage_in d) (held.Module (length m.source))
        ≡ usage_in (record d { modules = with_held d.modules n None })
    module_refunded = module_gone.refund

  module _ (n : ℕ) (t : Trial) (h : held_at d.trials n ≡ Some t) where
    trial_gone : Among (calls_in d.history) (held_by (record d { trials = with_held d.trials n None }))
        (held_by d) (held_trial t)
    trial_gone = trials_among (record d { trials = with_held d.trials n None }) d.trials t (one_gone d.trials n t h)

    pub trial_covers : Covers (usage_in d) (held.Trial (steps_of_trial t.job.asked.limit t.job.asked.runs))
    trial_covers = trial_gone.covers

    pub trial_refunded : refunded (usage_in d) (held.Trial (steps_of_trial t.job.asked.limit t.job.asked.runs))
        ≡ usage_in (record d { trials = with_held d.trials n None })
    trial_refunded = trial_gone.refund

    -- a trial of the same job under its number uses what was used
    pub trial_same : (t' : Trial) → t'.job ≡ t.job
        → map held_trial (all_held (with_held d.trials n (Some t'))) ≡ map held_trial (all_held d.trials)
    trial_same t' same =
        let a : Around d.trials n t = around d.trials n t h in
        ap (map held_trial) (a.other t')
        ∙ at_other a.before a.after
        ∙ ap (map held_trial) (sym a.is)
      where
        at_other : (b a : List Trial) → map held_trial (b ++ t' ∷ a) ≡ map held_trial (b ++ t ∷ a)
        at_other [] a = ap (λ j. held.Trial (steps_of_trial j.asked.limit j.asked.runs) ∷ map held_trial a) same
        at_other (x ∷ b) a = ap (λ (l : List Holding). held_trial x ∷ l) (at_other b a)
