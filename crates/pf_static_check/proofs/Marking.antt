-- What is known of one variable, before a step and after it.
use Rattle.std.proofs.Common.{◌≡◌, Bool, true, false, refl, sym, ap, ◌∙◌}
use Rattle.std.specs.Prelude.{◌||◌, ◌&&◌, not, if◌then◌else◌}
use Rattle.pf_static_check.specs.Marks.{StatusMoved, is_bound, is_marked_unsafe, is_marked}
use Rattle.pf_static_check.specs.declared.variable_states.Status.{Status}
use Rattle.pf_static_check.specs.declared.variable_states.Status.TheVariants.{New, Bound, Unsafe}

pub unmarked_new : (a : Status) → is_marked a ≡ false → a ≡ New
unmarked_new New h = refl
unmarked_new Bound h = absurd (cc)
unmarked_new Unsafe h = absurd (cc)

pub marked_is : (a : Status) → (is_bound a || is_marked_unsafe a) ≡ is_marked a
marked_is New = refl
marked_is Bound = refl
marked_is Unsafe = refl

-- two moves in turn
pub moved_then : (h k : Bool) (a b c : Status) → StatusMoved h a b → StatusMoved k b c → StatusMoved (h || k) a c
moved_then true true a b c m n = absurd (cc (m.1, n.0))
moved_then true false a b c m n = (m.0, ap is_marked n ∙ m.1)
moved_then false true a b c m n = (ap is_marked (sym m) ∙ n.0, n.1)
moved_then false false a b c m n = n ∙ m

-- a variable that is set to what marks it
pub moved_one : (b : Bool) (a c s : Status) → (b ≡ true → is_marked a ≡ false) → is_marked s ≡ true
    → c ≡ (if b then s else a) → StatusMoved (b || false) a c
moved_one true a c s f m e = (f refl, ap is_marked e ∙ m)
moved_one false a c s f m e = e

-- names that were moved and are new again
pub moved_back : (h : Bool) (a b c : Status) → StatusMoved h a b → c ≡ (if h then New else b) → c ≡ a
moved_back true a b c m e = e ∙ sym (unmarked_new a m.0)
moved_back false a b c m e = e ∙ m

-- a name is in the trail where it was new and is marked
pub moved_named : (h : Bool) (a b : Status) → StatusMoved h a b → h ≡ (not (is_marked a) && is_marked b)
moved_named true New Bound m = refl
moved_named true New Unsafe m = refl
moved_named true a New m = absurd (cc (m.1))
moved_named true Bound b m = absurd (cc (m.0))
moved_named true Unsafe b m = absurd (cc (m.0))
moved_named false New b m = sym (ap is_marked m)
moved_named false Bound b m = refl
moved_named false Unsafe b m = refl

pub moved_fresh : (h : Bool) (a b : Status) → StatusMoved h a b → h ≡ true → is_marked a ≡ false
moved_fresh true a b m e = m.0
moved_fresh false a b m e = absurd (cc)

-- names that were new become unsafe
pub moved_unsafe : (h : Bool) (a c : Status) → (h ≡ true → is_marked a ≡ false) → c ≡ (if h then Unsafe else a)
    → StatusMoved h a c
moved_unsafe true a c f e = (f refl, ap is_marked e)
moved_unsafe false a c f e = e

-- one more variable is bound
pub bound_one : (b h : Bool) (a c : Status) → h ≡ is_bound a → c ≡ (if b then Bound else a)
    → (h || (b || false)) ≡ is_bound c
bound_one true true a c p e = sym (ap is_bound e)
bound_one true false a c p e = sym (ap is_bound e)
bound_one false true a c p e = p ∙ sym (ap is_bound e)
bound_one false false a c p e = p ∙ sym (ap is_bound e)

pub unsafe_one : (b h : Bool) (a c : Status) → (b ≡ true → h ≡ false) → h ≡ is_marked_unsafe a
    → c ≡ (if b then Bound else a) → h ≡ is_marked_unsafe c
unsafe_one true h a c f p e = f refl ∙ sym (ap is_marked_unsafe e)
unsafe_one false h a c f p e = p ∙ sym (ap is_marked_unsafe e)

-- the names that clauses leave are unsafe, where they were new
pub bound_left : (h : Bool) (a c : Status) → (h ≡ true → is_marked a ≡ false) → c ≡ (if h then Unsafe else a)
    → is_bound a ≡ is_bound c
bound_left true a c f e = ap is_bound (unmarked_new a (f refl)) ∙ sym (ap is_bound e)
bound_left false a c f e = sym (ap is_bound e)

pub unsafe_left : (h n : Bool) (a c : Status) → h ≡ (not (is_marked a) && n) → c ≡ (if h then Unsafe else a)
    → (is_marked_unsafe a || (not (is_bound a) && n)) ≡ is_marked_unsafe c
unsafe_left true true New c p e = sym (ap is_marked_unsafe e)
unsafe_left false false New c p e = sym (ap is_marked_unsafe e)
unsafe_left true false New c p e = absurd (cc)
unsafe_left false true New c p e = absurd (cc)
unsafe_left true n Bound c p e = absurd (cc)
unsafe_left true n Unsafe c p e = absurd (cc)
unsafe_left false n Bound c p e = sym (ap is_marked_unsafe e)
unsafe_left false n Unsafe c p e = sym (ap is_marked_unsafe e)
