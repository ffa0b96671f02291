-- Which calls of built-in functions ask for an action or end the process.
use Rattle.std.proofs.Common.{◌≡◌, ℕ, ◌≤◌, List, [], ◌∷◌, length, Option, None, refl}
use Rattle.std.proofs.Common.{arith, subst, get_or}
use Rattle.pf_terms.specs.Value.{Value, Values, none, more}
use Rattle.pf_syntax.specs.declared.operator.Builtin.{Builtin}
use Rattle.pf_syntax.specs.declared.operator.Builtin.TheVariants as builtins
use Rattle.pf_heap.specs.Heap.{Cell, word_value, word_values}
use Rattle.pf_heap.specs.declared.word.Word.{Word}
use Rattle.pf_model.specs.Contraction.{Act, called}
use Rattle.pf_actions.specs.Acts.{act_asked_by, exit_by}

-- no action has four arguments
none_of_four : (own : ℕ) (h : List Cell) (f : Builtin) (v w x y : Value) (vs : Values)
    → None ≡ act_asked_by (called own f (more v (more w (more x (more y vs)))))
none_of_four own h builtins.SelfPid v w x y vs = refl
none_of_four own h builtins.Hd v w x y vs = refl
none_of_four own h builtins.Tl v w x y vs = refl
none_of_four own h builtins.Length v w x y vs = refl
none_of_four own h builtins.Element v w x y vs = refl
none_of_four own h builtins.TupleSize v w x y vs = refl
none_of_four own h builtins.IsInteger v w x y vs = refl
none_of_four own h builtins.IsAtom v w x y vs = refl
none_of_four own h builtins.IsTuple v w x y vs = refl
none_of_four own h builtins.IsList v w x y vs = refl
none_of_four own h builtins.IsPid v w x y vs = refl
none_of_four own h builtins.IsReference v w x y vs = refl
none_of_four own h builtins.Exit v w x y vs = refl
none_of_four own h builtins.Spawn v w x y vs = refl
none_of_four own h builtins.SpawnLink v w x y vs = refl
none_of_four own h builtins.Link v w x y vs = refl
none_of_four own h builtins.Unlink v w x y vs = refl
none_of_four own h builtins.Monitor v w x y vs = refl
none_of_four own h builtins.Demonitor v w x y vs = refl
none_of_four own h builtins.ExitOther v w x y vs = refl
none_of_four own h builtins.ProcessFlag v w x y vs = refl
none_of_four own h builtins.Register v w x y vs = refl
none_of_four own h builtins.Unregister v w x y vs = refl
none_of_four own h builtins.Whereis v w x y vs = refl
none_of_four own h builtins.MakeRef v w x y vs = refl
none_of_four own h builtins.SpawnMonitor v w x y vs = refl
none_of_four own h builtins.DemonitorWith v w x y vs = refl

pub none_of_many : (own : ℕ) (h : List Cell) (f : Builtin) (ws : List Word) → 4 ≤ length ws
    → None ≡ act_asked_by (called own f (word_values h ws))
none_of_many own h f [] l = absurd (omega arith)
none_of_many own h f (t ∷ []) l = absurd (omega arith)
none_of_many own h f (t ∷ u ∷ []) l = absurd (omega arith)
none_of_many own h f (t ∷ u ∷ v ∷ []) l = absurd (omega arith)
none_of_many own h f (t ∷ u ∷ v ∷ w ∷ ws) l = none_of_four own h f (word_value h t) (word_value h u) (word_value h v)
    (word_value h w) (word_values h ws)

-- ---- slices of so many words

pub one_word : (h : List Cell) (ws : List Word) (d : Word) → 1 ≤ length ws → length ws ≤ 1
    → more (word_value h (get_or ws 0 d)) none ≡ word_values h ws
one_word h [] d l k = absurd (omega (arith, l))
one_word h (w ∷ []) d l k = refl
one_word h (w ∷ v ∷ ws) d l k = absurd (omega (arith, k))

pub two_words : (h : List Cell) (ws : List Word) (d e : Word) → 2 ≤ length ws → length ws ≤ 2
    → more (word_value h (get_or ws 0 d)) (more (word_value h (get_or ws 1 e)) none) ≡ word_values h ws
two_words h [] d e l k = absurd (omega (arith, l))
two_words h (w ∷ []) d e l k = absurd (omega (arith, l))
two_words h (w ∷ v ∷ []) d e l k = refl
two_words h (w ∷ v ∷ u ∷ ws) d e l k = absurd (omega (arith, k))

pub three_words : (h : List Cell) (ws : List Word) (d e f : Word) → 3 ≤ length ws → length ws ≤ 3
    → more (word_value h (get_or ws 0 d)) (more (word_value h (get_or ws 1 e))
    (more (word_value h (get_or ws 2 f)) none))
    ≡ word_values h ws
three_words h [] d e f l k = absurd (omega (arith, l))
three_words h (w ∷ []) d e f l k = absurd (omega (arith, l))
three_words h (w ∷ v ∷ []) d e f l k = absurd (omega (arith, l))
three_words h (w ∷ v ∷ u ∷ []) d e f l k = refl
three_words h (w ∷ v ∷ u ∷ t ∷ ws) d e f l k = absurd (omega (arith, k))

pub act_same : (own : ℕ) (h : List Cell) (f : Builtin) (vs us : Values) (x : Option Act) → vs ≡ us
    → x ≡ act_asked_by (called own f vs) → x ≡ act_asked_by (called own f us)
act_same own h f vs us x e k = subst (λ z. x ≡ act_asked_by (called own f z)) e k

pub exits_by_many : (own : ℕ) (h : List Cell) (ws : List Word) → ¬ (length ws ≡ 1)
    → None ≡ exit_by (called own builtins.Exit (word_values h ws))
exits_by_many own h [] l = refl
exits_by_many own h (w ∷ []) l = absurd (l refl)
exits_by_many own h (w ∷ v ∷ ws) l = refl
