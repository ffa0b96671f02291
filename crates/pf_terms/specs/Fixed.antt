-- The fixed atoms as values, by their numbers in every table.
use Rattle.pf_terms.specs.Value.{Value, atom}

abbrev pub true_atom : Value
true_atom = atom 0

abbrev pub false_atom : Value
false_atom = atom 1

abbrev pub undefined : Value
undefined = atom 2

abbrev pub normal : Value
normal = atom 3

abbrev pub kill : Value
kill = atom 4

abbrev pub killed : Value
killed = atom 5

abbrev pub noproc : Value
noproc = atom 6

abbrev pub process : Value
process = atom 7

abbrev pub exit_atom : Value
exit_atom = atom 8

abbrev pub down_atom : Value
down_atom = atom 9

abbrev pub badarg : Value
badarg = atom 10

abbrev pub badarith : Value
badarith = atom 11

abbrev pub badmatch : Value
badmatch = atom 12

abbrev pub case_clause : Value
case_clause = atom 13

abbrev pub function_clause : Value
function_clause = atom 14

abbrev pub if_clause : Value
if_clause = atom 15

abbrev pub system_limit : Value
system_limit = atom 16

abbrev pub undef : Value
undef = atom 17

abbrev pub trap_exit : Value
trap_exit = atom 18

abbrev pub flush : Value
flush = atom 19
