-- What actions over the words of a heap stand for.
use Rattle.std.specs.Prelude.{List, Option, Some, None}
use Rattle.pf_terms.specs.Value.{Value, atom}
use Rattle.pf_syntax.specs.Tree.{lit}
use Rattle.pf_heap.specs.Heap.{Cell, word_value, IsWordOf}
use Rattle.pf_model.specs.Contraction as asked
use Rattle.pf_model.specs.Contraction.{Change, Becomes, Raises, Exits, Asks, Awaits}
use Rattle.pf_actions.specs.declared.act.Act.{Act}
use Rattle.pf_actions.specs.declared.act.Act.TheVariants as a
use Rattle.pf_actions.specs.declared.act.Asked.{Asked}
use Rattle.pf_actions.specs.declared.act.Asked.TheVariants as does

abbrev pub act_over : List Cell → Act → asked.Act
act_over h (a.Spawn bond home function arguments) = asked.spawn bond (word_value h home) (word_value h function)
    (word_value h arguments)
act_over h (a.Link other) = asked.link (word_value h other)
act_over h (a.Unlink other) = asked.unlink (word_value h other)
act_over h (a.Monitor kind other) = asked.monitor (word_value h kind) (word_value h other)
act_over h (a.Demonitor reference options) = asked.demonitor (word_value h reference) (word_value h options)
act_over h (a.ExitOther other reason) = asked.exit_other (word_value h other) (word_value h reason)
act_over h (a.SetFlag flag setting) = asked.set_flag (word_value h flag) (word_value h setting)
act_over h (a.Register name other) = asked.register (word_value h name) (word_value h other)
act_over h (a.Unregister name) = asked.unregister (word_value h name)
act_over h (a.Whereis name) = asked.whereis (word_value h name)
act_over h a.MakeRef = asked.make_ref

-- what the call of a built-in function contracts to
abbrev pub change_over : List Cell → Asked → Change
change_over h (does.Acts x) = Asks (act_over h x)
change_over h (does.Exits w) = Exits (word_value h w)
change_over h (does.Becomes w) = Becomes (lit (word_value h w))
change_over h (does.Raises r) = Raises (atom r.0)

-- the action that a contraction asks for
abbrev pub act_asked_by : Change → Option asked.Act
act_asked_by (Asks x) = Some x
act_asked_by (Becomes t) = None
act_asked_by (Raises e) = None
act_asked_by (Exits v) = None
act_asked_by (Awaits ks) = None

-- the reason with which a contraction ends the process
abbrev pub exit_by : Change → Option Value
exit_by (Exits v) = Some v
exit_by (Becomes t) = None
exit_by (Raises e) = None
exit_by (Asks x) = None
exit_by (Awaits ks) = None

-- the words of an action are of this heap
abbrev pub IsActOf : List Cell → Act → Type 0
IsActOf h (a.Spawn bond home function arguments) = IsWordOf h home × IsWordOf h function × IsWordOf h arguments
IsActOf h (a.Link other) = IsWordOf h other
IsActOf h (a.Unlink other) = IsWordOf h other
IsActOf h (a.Monitor kind other) = IsWordOf h kind × IsWordOf h other
IsActOf h (a.Demonitor reference options) = IsWordOf h reference × IsWordOf h options
IsActOf h (a.ExitOther other reason) = IsWordOf h other × IsWordOf h reason
IsActOf h (a.SetFlag flag setting) = IsWordOf h flag × IsWordOf h setting
IsActOf h (a.Register name other) = IsWordOf h name × IsWordOf h other
IsActOf h (a.Unregister name) = IsWordOf h name
IsActOf h (a.Whereis name) = IsWordOf h name
IsActOf h a.MakeRef = Unit {0}

abbrev pub IsAskedOf : List Cell → Asked → Type 0
IsAskedOf h (does.Acts x) = IsActOf h x
IsAskedOf h (does.Exits w) = IsWordOf h w
IsAskedOf h (does.Becomes w) = IsWordOf h w
IsAskedOf h (does.Raises r) = Unit {0}
