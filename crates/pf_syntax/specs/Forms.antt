-- The built-in functions by name, and which forms of the language a guard holds.
use Rattle.std.specs.Prelude.{ℕ, Bool, true, false, ◌==◌, ◌&&◌, List, [], ◌∷◌, Option, Some, None, codes, if◌then◌else◌}
use Rattle.std.specs.Str.{bytes_eq}
use Rattle.pf_syntax.specs.declared.operator.Builtin.{Builtin}
use Rattle.pf_syntax.specs.declared.operator.Builtin.TheVariants.{SelfPid, Hd, Tl, Length, Element, TupleSize}
use Rattle.pf_syntax.specs.declared.operator.Builtin.TheVariants.{IsInteger, IsAtom, IsTuple, IsList, IsPid}
use Rattle.pf_syntax.specs.declared.operator.Builtin.TheVariants.{IsReference, Exit, Spawn, SpawnLink, Link, Unlink}
use Rattle.pf_syntax.specs.declared.operator.Builtin.TheVariants.{Monitor, Demonitor, ExitOther, ProcessFlag, Register}
use Rattle.pf_syntax.specs.declared.operator.Builtin.TheVariants.{Unregister, Whereis, MakeRef, SpawnMonitor}
use Rattle.pf_syntax.specs.declared.operator.Builtin.TheVariants.{DemonitorWith}
use Rattle.pf_syntax.specs.declared.forms.Form.{Form}
use Rattle.pf_syntax.specs.declared.forms.Form.TheVariants.{Calling}

-- ---- built-in functions

-- a built-in function, with its name and its number of arguments
pub record BuiltinRow : Type 0 where
  pub name : List ℕ
  pub arity : ℕ
  pub builtin : Builtin

abbrev pub row : List ℕ → ℕ → Builtin → BuiltinRow
row name arity builtin = record { name = name; arity = arity; builtin = builtin }

abbrev pub builtins : List BuiltinRow
builtins =
    row (codes "self") 0 SelfPid ∷ row (codes "hd") 1 Hd ∷ row (codes "tl") 1 Tl ∷ row (codes "length") 1 Length
    ∷ row (codes "element") 2 Element ∷ row (codes "tuple_size") 1 TupleSize ∷ row (codes "is_integer") 1 IsInteger
    ∷ row (codes "is_atom") 1 IsAtom ∷ row (codes "is_tuple") 1 IsTuple ∷ row (codes "is_list") 1 IsList
    ∷ row (codes "is_pid") 1 IsPid ∷ row (codes "is_reference") 1 IsReference ∷ row (codes "exit") 1 Exit
    ∷ row (codes "spawn") 3 Spawn ∷ row (codes "spawn_link") 3 SpawnLink ∷ row (codes "link") 1 Link
    ∷ row (codes "unlink") 1 Unlink ∷ row (codes "monitor") 2 Monitor ∷ row (codes "demonitor") 1 Demonitor
    ∷ row (codes "exit") 2 ExitOther ∷ row (codes "process_flag") 2 ProcessFlag ∷ row (codes "register") 2 Register
    ∷ row (codes "unregister") 1 Unregister ∷ row (codes "whereis") 1 Whereis ∷ row (codes "make_ref") 0 MakeRef
    ∷ row (codes "spawn_monitor") 3 SpawnMonitor ∷ row (codes "demonitor") 2 DemonitorWith ∷ []

-- the first row of this name and number of arguments
abbrev pub named_in : List ℕ → ℕ → List BuiltinRow → Option Builtin
named_in name arity [] = None
named_in name arity (r ∷ rows) = if bytes_eq r.name name && (r.arity == arity) then Some r.builtin
    else named_in name arity rows

-- the built-in function of this name and number of arguments
abbrev pub builtin_named : List ℕ → ℕ → Option Builtin
builtin_named name arity = named_in name arity builtins

-- the built-in functions that only look at their arguments, or give the own pid
abbrev pub is_pure : Builtin → Bool
is_pure SelfPid = true
is_pure Hd = true
is_pure Tl = true
is_pure Length = true
is_pure Element = true
is_pure TupleSize = true
is_pure IsInteger = true
is_pure IsAtom = true
is_pure IsTuple = true
is_pure IsList = true
is_pure IsPid = true
is_pure IsReference = true
is_pure _ = false

-- ---- what a guard holds

-- A body holds all of these forms. A guard, where the flag says that it is one, holds none of them but calls of the
-- built-in functions that are pure
abbrev pub may_be_there : Bool → Form → Bool
may_be_there true (Calling b) = is_pure b
may_be_there true _ = false
may_be_there false form = true
