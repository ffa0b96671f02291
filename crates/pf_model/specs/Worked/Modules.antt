-- The modules of worked runs, each under its text.
use Rattle.std.specs.Prelude.{ℕ, Bool, true, List, [], ◌∷◌, ◌++◌, codes, pos}
use Rattle.pf_terms.specs.Value.{int, atom, list, none, more}
use Rattle.pf_terms.specs.Atoms.{fixed_names}
use Rattle.pf_syntax.specs.Pattern.{Patterns, any, new, slot, known, tuple_of, no_patterns, pattern}
use Rattle.pf_syntax.specs.Tree as b
use Rattle.pf_syntax.specs.Tree.{Tree, Guard, Function, FunctionClause, lit, var, tuple, cons, op, neg, and_also, call}
use Rattle.pf_syntax.specs.Tree.{builtin, bind, case, if_expression, receive, send, no_trees, tree, no_clauses, clause}
use Rattle.pf_syntax.specs.Tree.{no_alternatives, alternative, no_guard}
use Rattle.pf_syntax.specs.declared.operator.Operator.TheVariants.{Plus, Minus, Times, Quotient, Remainder, Append}
use Rattle.pf_syntax.specs.declared.operator.Operator.TheVariants.{Equal, Greater}
use Rattle.pf_model.specs.Module.{Module}
use Rattle.pf_syntax.specs.declared.operator.Builtin.TheVariants as builtins

abbrev pub of_clause : Patterns → Guard → Tree → FunctionClause
of_clause ps g t = record { parameters = ps; guard = g; body = t }

abbrev pub of_function : (name arity : ℕ) → (exported : Bool) → List FunctionClause → Function
of_function name arity exported ks = record { name = name; arity = arity; exported = exported; clauses = ks }

--   main() -> 1 + 2 * 3.
abbrev pub sum_and_product : Module
sum_and_product =
    record {
      name = 21;
      atoms = fixed_names ++ codes "module" ∷ codes "m" ∷ codes "main" ∷ [];
      functions =
          of_function 22 0 true (
          of_clause no_patterns no_guard
          (op Plus (lit (int (pos 1))) (op Times (lit (int (pos 2))) (lit (int (pos 3))))) ∷ [])
          ∷ [];
    }

--   main() -> self() ! hi, receive hi -> ok end.
abbrev pub message_to_itself : Module
message_to_itself =
    record {
      name = 21;
      atoms = fixed_names ++ codes "module" ∷ codes "m" ∷ codes "main" ∷ codes "self" ∷ codes "hi" ∷ codes
          "ok" ∷ [];
      functions =
          of_function 22 0 true (
          of_clause no_patterns no_guard
          (bind no_patterns (send (builtin builtins.SelfPid no_trees) (lit (atom 24))) (receive (clause (known (atom
          24)) no_guard (lit (atom 25)) no_clauses))) ∷ [])
          ∷ [];
    }

--   main() -> receive x -> ok end.
abbrev pub waiting_module : Module
waiting_module =
    record {
      name = 21;
      atoms = fixed_names ++ codes "module" ∷ codes "m" ∷ codes "main" ∷ codes "x" ∷ codes "ok" ∷ [];
      functions =
          of_function 22 0 true (
          of_clause no_patterns no_guard
          (receive (clause (known (atom 23)) no_guard (lit (atom 24)) no_clauses)) ∷ [])
          ∷ [];
    }

--   main() -> C = spawn(m, kid, [self()]), C ! a, C ! b, receive done -> true end.
--   kid(P) -> receive b -> receive a -> P ! done end end.
abbrev pub out_of_order : Module
out_of_order =
    record {
      name = 21;
      atoms = fixed_names ++ codes "module" ∷ codes "m" ∷ codes "main" ∷ codes "kid" ∷ codes "spawn" ∷ codes
          "self" ∷ codes "a" ∷ codes "b" ∷ codes "done" ∷ [];
      functions =
          of_function 22 0 true (
          of_clause no_patterns no_guard
          (bind (pattern new no_patterns) (builtin builtins.Spawn (tree (lit (atom 21)) (tree (lit (atom 23))
          (tree (cons (builtin builtins.SelfPid no_trees) (lit (list none))) no_trees)))) (bind no_patterns (send
          (var 0) (lit (atom 26))) (bind no_patterns (send (var 0) (lit (atom 27))) (receive (clause
          (known (atom 28)) no_guard (lit (atom 0)) no_clauses))))) ∷ [])
          ∷ of_function 23 1 true (
          of_clause (pattern new no_patterns) no_guard
          (receive (clause (known (atom 27)) no_guard (receive (clause (known (atom 26)) no_guard (send
          (var 0) (lit (atom 28))) no_clauses)) no_clauses)) ∷ [])
          ∷ [];
    }

--   main() -> S = self(), spawn(m, s, [S, a]), spawn(m, s, [S, b]), {take(), take(), take(), take()}.
--   s(P, T) -> P ! {T, 1}, P ! {T, 2}.
--   take() -> receive M -> M end.
abbrev pub two_senders : Module
two_senders =
    record {
      name = 21;
      atoms = fixed_names ++ codes "module" ∷ codes "m" ∷ codes "main" ∷ codes "s" ∷ codes "take" ∷ codes
          "self" ∷ codes "spawn" ∷ codes "a" ∷ codes "b" ∷ [];
      functions =
          of_function 22 0 true (
          of_clause no_patterns no_guard
          (bind (pattern new no_patterns) (builtin builtins.SelfPid no_trees) (bind no_patterns (builtin builtins.Spawn
          (tree (lit (atom 21)) (tree (lit (atom 23)) (tree (cons (var 0) (cons (lit (atom 27)) (lit
          (list none)))) no_trees)))) (bind no_patterns (builtin builtins.Spawn (tree (lit (atom 21)) (tree
          (lit (atom 23)) (tree (cons (var 0) (cons (lit (atom 28)) (lit (list none)))) no_trees))))
          (tuple (tree (call 2 no_trees) (tree (call 2 no_trees) (tree (call 2 no_trees) (tree (call 2
          no_trees) no_trees)))))))) ∷ [])
          ∷ of_function 23 2 true (
          of_clause (pattern new (pattern new no_patterns)) no_guard
          (bind no_patterns (send (var 0) (tuple (tree (var 1) (tree (lit (int (pos 1))) no_trees))))
          (send (var 0) (tuple (tree (var 1) (tree (lit (int (pos 2))) no_trees))))) ∷ [])
          ∷ of_function 24 0 true (
          of_clause no_patterns no_guard
          (receive (clause new no_guard (var 0) no_clauses)) ∷ [])
          ∷ [];
    }

--   main() -> 9223372036854775807 + 1.
abbrev pub past_64_bits : Module
past_64_bits =
    record {
      name = 21;
      atoms = fixed_names ++ codes "module" ∷ codes "m" ∷ codes "main" ∷ [];
      functions =
          of_function 22 0 true (
          of_clause no_patterns no_guard
          (op Plus (lit (int (pos 9223372036854775807))) (lit (int (pos 1)))) ∷ [])
          ∷ [];
    }

--   main() -> {-7 div 2, -7 rem 2}.
abbrev pub below_zero : Module
below_zero =
    record {
      name = 21;
      atoms = fixed_names ++ codes "module" ∷ codes "m" ∷ codes "main" ∷ [];
      functions =
          of_function 22 0 true (
          of_clause no_patterns no_guard
          (tuple (tree (op Quotient (neg (lit (int (pos 7)))) (lit (int (pos 2)))) (tree (op Remainder
          (neg (lit (int (pos 7)))) (lit (int (pos 2)))) no_trees))) ∷ [])
          ∷ [];
    }

--   main() -> process_flag(trap_exit, true), C = spawn_link(m, kid, []), receive {'EXIT', C, R} -> R end.
--   kid() -> exit(kill).
abbrev pub kill_by_a_link : Module
kill_by_a_link =
    record {
      name = 21;
      atoms = fixed_names ++ codes "module" ∷ codes "m" ∷ codes "main" ∷ codes "kid" ∷ codes "process_flag"
          ∷ codes "spawn_link" ∷ codes "exit" ∷ [];
      functions =
          of_function 22 0 true (
          of_clause no_patterns no_guard
          (bind no_patterns (builtin builtins.ProcessFlag (tree (lit (atom 18)) (tree (lit (atom 0)) no_trees)))
          (bind (pattern new no_patterns) (builtin builtins.SpawnLink (tree (lit (atom 21)) (tree (lit (atom
          23)) (tree (lit (list none)) no_trees)))) (receive (clause (tuple_of (pattern (known (atom 8))
          (pattern (slot 0) (pattern new no_patterns)))) no_guard (var 1) no_clauses)))) ∷ [])
          ∷ of_function 23 0 true (
          of_clause no_patterns no_guard
          (builtin builtins.Exit (tree (lit (atom 4)) no_trees)) ∷ [])
          ∷ [];
    }

--   main() -> C = spawn(m, kid, []), monitor(process, C), exit(C, kill), receive {'DOWN', _, process, C, R} -> R end.
--   kid() -> process_flag(trap_exit, true), receive x -> x end.
abbrev pub killed_by_exit : Module
killed_by_exit =
    record {
      name = 21;
      atoms = fixed_names ++ codes "module" ∷ codes "m" ∷ codes "main" ∷ codes "kid" ∷ codes "spawn" ∷ codes
          "monitor" ∷ codes "exit" ∷ codes "process_flag" ∷ codes "x" ∷ [];
      functions =
          of_function 22 0 true (
          of_clause no_patterns no_guard
          (bind (pattern new no_patterns) (builtin builtins.Spawn (tree (lit (atom 21)) (tree (lit (atom 23))
          (tree (lit (list none)) no_trees)))) (bind no_patterns (builtin builtins.Monitor (tree (lit (atom 7))
          (tree (var 0) no_trees))) (bind no_patterns (builtin builtins.ExitOther (tree (var 0) (tree (lit
          (atom 4)) no_trees))) (receive (clause (tuple_of (pattern (known (atom 9)) (pattern any
          (pattern (known (atom 7)) (pattern (slot 0) (pattern new no_patterns)))))) no_guard (var 1)
          no_clauses))))) ∷ [])
          ∷ of_function 23 0 true (
          of_clause no_patterns no_guard
          (bind no_patterns (builtin builtins.ProcessFlag (tree (lit (atom 18)) (tree (lit (atom 0)) no_trees)))
          (receive (clause (known (atom 28)) no_guard (lit (atom 28)) no_clauses))) ∷ [])
          ∷ [];
    }

--   main() -> C = spawn(m, kid, []), down(monitor(process, C)), down(monitor(process, C)).
--   down(M) -> receive {'DOWN', M, process, _, R} -> R end.
--   kid() -> ok.
abbrev pub watched_twice : Module
watched_twice =
    record {
      name = 21;
      atoms = fixed_names ++ codes "module" ∷ codes "m" ∷ codes "main" ∷ codes "down" ∷ codes "kid" ∷ codes
          "spawn" ∷ codes "monitor" ∷ codes "ok" ∷ [];
      functions =
          of_function 22 0 true (
          of_clause no_patterns no_guard
          (bind (pattern new no_patterns) (builtin builtins.Spawn (tree (lit (atom 21)) (tree (lit (atom 24))
          (tree (lit (list none)) no_trees)))) (bind no_patterns (call 1 (tree (builtin builtins.Monitor (tree
          (lit (atom 7)) (tree (var 0) no_trees))) no_trees)) (call 1 (tree (builtin builtins.Monitor (tree
          (lit (atom 7)) (tree (var 0) no_trees))) no_trees)))) ∷ [])
          ∷ of_function 23 1 true (
          of_clause (pattern new no_patterns) no_guard
          (receive (clause (tuple_of (pattern (known (atom 9)) (pattern (slot 0) (pattern (known (atom 7))
          (pattern any (pattern new no_patterns)))))) no_guard (var 1) no_clauses)) ∷ [])
          ∷ of_function 24 0 true (
          of_clause no_patterns no_guard
          (lit (atom 27)) ∷ [])
          ∷ [];
    }

--   main() -> C = spawn(m, kid, []), M = monitor(process, C), demonitor(M), receive {'DOWN', M, _, _, _} -> bad end.
--   kid() -> ok.
abbrev pub watched_no_more : Module
watched_no_more =
    record {
      name = 21;
      atoms = fixed_names ++ codes "module" ∷ codes "m" ∷ codes "main" ∷ codes "kid" ∷ codes "spawn" ∷ codes
          "monitor" ∷ codes "demonitor" ∷ codes "bad" ∷ codes "ok" ∷ [];
      functions =
          of_function 22 0 true (
          of_clause no_patterns no_guard
          (bind (pattern new no_patterns) (builtin builtins.Spawn (tree (lit (atom 21)) (tree (lit (atom 23))
          (tree (lit (list none)) no_trees)))) (bind (pattern new no_patterns) (builtin builtins.Monitor (tree
          (lit (atom 7)) (tree (var 0) no_trees))) (bind no_patterns (builtin builtins.Demonitor (tree (var 1)
          no_trees)) (receive (clause (tuple_of (pattern (known (atom 9)) (pattern (slot 1) (pattern any
          (pattern any (pattern any no_patterns)))))) no_guard (lit (atom 27)) no_clauses))))) ∷ [])
          ∷ of_function 23 0 true (
          of_clause no_patterns no_guard
          (lit (atom 28)) ∷ [])
          ∷ [];
    }

--   main() -> x ! hi.
abbrev pub no_such_name : Module
no_such_name =
    record {
      name = 21;
      atoms = fixed_names ++ codes "module" ∷ codes "m" ∷ codes "main" ∷ codes "x" ∷ codes "hi" ∷ [];
      functions =
          of_function 22 0 true (
          of_clause no_patterns no_guard
          (send (lit (atom 23)) (lit (atom 24))) ∷ [])
          ∷ [];
    }

--   main() -> main().
abbrev pub endless : Module
endless =
    record {
      name = 21;
      atoms = fixed_names ++ codes "module" ∷ codes "m" ∷ codes "main" ∷ [];
      functions =
          of_function 22 0 true (
          of_clause no_patterns no_guard
          (call 0 no_trees) ∷ [])
          ∷ [];
    }

--   main() -> f(0).
--   f(X) -> f({X, X}).
abbrev pub doubling : Module
doubling =
    record {
      name = 21;
      atoms = fixed_names ++ codes "module" ∷ codes "m" ∷ codes "main" ∷ codes "f" ∷ [];
      functions =
          of_function 22 0 true (
          of_clause no_patterns no_guard
          (call 1 (tree (lit (int (pos 0))) no_trees)) ∷ [])
          ∷ of_function 23 1 true (
          of_clause (pattern new no_patterns) no_guard
          (call 1 (tree (tuple (tree (var 0) (tree (var 0) no_trees))) no_trees)) ∷ [])
          ∷ [];
    }

--   main() -> 1 andalso true.
abbrev pub no_truth_value : Module
no_truth_value =
    record {
      name = 21;
      atoms = fixed_names ++ codes "module" ∷ codes "m" ∷ codes "main" ∷ [];
      functions =
          of_function 22 0 true (
          of_clause no_patterns no_guard
          (and_also (lit (int (pos 1))) (lit (atom 0))) ∷ [])
          ∷ [];
    }

--   main() -> "ab" ++ "c".
abbrev pub strings : Module
strings =
    record {
      name = 21;
      atoms = fixed_names ++ codes "module" ∷ codes "m" ∷ codes "main" ∷ [];
      functions =
          of_function 22 0 true (
          of_clause no_patterns no_guard
          (op Append (lit (list (more (int (pos 97)) (more (int (pos 98)) none)))) (lit (list (more (int
          (pos 99)) none)))) ∷ [])
          ∷ [];
    }

--   main() -> case 1 of 2 -> x end.
abbrev pub no_case_fits : Module
no_case_fits =
    record {
      name = 21;
      atoms = fixed_names ++ codes "module" ∷ codes "m" ∷ codes "main" ∷ codes "x" ∷ [];
      functions =
          of_function 22 0 true (
          of_clause no_patterns no_guard
          (case (lit (int (pos 1))) (clause (known (int (pos 2))) no_guard (lit (atom 23)) no_clauses)) ∷
          [])
          ∷ [];
    }

--   main() -> f(3).
--   f(0) -> a; f(N) when hd(N); N > 2 -> f(N - 3); f(_) -> b.
abbrev pub clauses : Module
clauses =
    record {
      name = 21;
      atoms = fixed_names ++ codes "module" ∷ codes "m" ∷ codes "main" ∷ codes "f" ∷ codes "a" ∷ codes "hd"
          ∷ codes "b" ∷ [];
      functions =
          of_function 22 0 true (
          of_clause no_patterns no_guard
          (call 1 (tree (lit (int (pos 3))) no_trees)) ∷ [])
          ∷ of_function 23 1 true (
          of_clause (pattern (known (int (pos 0))) no_patterns) no_guard
          (lit (atom 24)) ∷ of_clause (pattern new no_patterns) (alternative (tree (builtin builtins.Hd (tree
          (var 0) no_trees)) no_trees) (alternative (tree (op Greater (var 0) (lit (int (pos 2))))
          no_trees) no_alternatives))
          (call 1 (tree (op Minus (var 0) (lit (int (pos 3)))) no_trees)) ∷ of_clause (pattern any
          no_patterns) no_guard
          (lit (atom 26)) ∷ [])
          ∷ [];
    }

--   main() -> C = spawn(m, kid, []), C ! hi, ok.
--   kid() -> ok.
abbrev pub to_an_ended_process : Module
to_an_ended_process =
    record {
      name = 21;
      atoms = fixed_names ++ codes "module" ∷ codes "m" ∷ codes "main" ∷ codes "kid" ∷ codes "spawn" ∷ codes
          "hi" ∷ codes "ok" ∷ [];
      functions =
          of_function 22 0 true (
          of_clause no_patterns no_guard
          (bind (pattern new no_patterns) (builtin builtins.Spawn (tree (lit (atom 21)) (tree (lit (atom 23))
          (tree (lit (list none)) no_trees)))) (bind no_patterns (send (var 0) (lit (atom 25))) (lit
          (atom 26)))) ∷ [])
          ∷ of_function 23 0 true (
          of_clause no_patterns no_guard
          (lit (atom 26)) ∷ [])
          ∷ [];
    }

--   main() -> spawn(m, nope, []), ok.
abbrev pub not_exported : Module
not_exported =
    record {
      name = 21;
      atoms = fixed_names ++ codes "module" ∷ codes "m" ∷ codes "main" ∷ codes "spawn" ∷ codes "nope" ∷
          codes "ok" ∷ [];
      functions =
          of_function 22 0 true (
          of_clause no_patterns no_guard
          (bind no_patterns (builtin builtins.Spawn (tree (lit (atom 21)) (tree (lit (atom 24)) (tree (lit (list
          none)) no_trees)))) (lit (atom 25))) ∷ [])
          ∷ [];
    }

--   main() -> process_flag(trap_exit, true), C = spawn(m, kid, []), link(C), receive {'EXIT', C, R} -> R end.
--   kid() -> ok.
abbrev pub link_too_late : Module
link_too_late =
    record {
      name = 21;
      atoms = fixed_names ++ codes "module" ∷ codes "m" ∷ codes "main" ∷ codes "kid" ∷ codes "process_flag"
          ∷ codes "spawn" ∷ codes "link" ∷ codes "ok" ∷ [];
      functions =
          of_function 22 0 true (
          of_clause no_patterns no_guard
          (bind no_patterns (builtin builtins.ProcessFlag (tree (lit (atom 18)) (tree (lit (atom 0)) no_trees)))
          (bind (pattern new no_patterns) (builtin builtins.Spawn (tree (lit (atom 21)) (tree (lit (atom 23))
          (tree (lit (list none)) no_trees)))) (bind no_patterns (builtin builtins.Link (tree (var 0)
          no_trees)) (receive (clause (tuple_of (pattern (known (atom 8)) (pattern (slot 0) (pattern new
          no_patterns)))) no_guard (var 1) no_clauses))))) ∷ [])
          ∷ of_function 23 0 true (
          of_clause no_patterns no_guard
          (lit (atom 27)) ∷ [])
          ∷ [];
    }

--   main() -> register(a, self()), a ! hi, receive hi -> whereis(a) end.
abbrev pub name : Module
name =
    record {
      name = 21;
      atoms = fixed_names ++ codes "module" ∷ codes "m" ∷ codes "main" ∷ codes "register" ∷ codes "a" ∷
          codes "self" ∷ codes "hi" ∷ codes "whereis" ∷ [];
      functions =
          of_function 22 0 true (
          of_clause no_patterns no_guard
          (bind no_patterns (builtin builtins.Register (tree (lit (atom 24)) (tree (builtin builtins.SelfPid no_trees)
          no_trees))) (bind no_patterns (send (lit (atom 24)) (lit (atom 26))) (receive (clause (known
          (atom 26)) no_guard (builtin builtins.Whereis (tree (lit (atom 24)) no_trees)) no_clauses)))) ∷ [])
          ∷ [];
    }

--   main() -> spawn(m, kid, []), receive x -> ok end.
--   kid() -> receive y -> ok end.
abbrev pub two_wait : Module
two_wait =
    record {
      name = 21;
      atoms = fixed_names ++ codes "module" ∷ codes "m" ∷ codes "main" ∷ codes "kid" ∷ codes "spawn" ∷ codes
          "x" ∷ codes "ok" ∷ codes "y" ∷ [];
      functions =
          of_function 22 0 true (
          of_clause no_patterns no_guard
          (bind no_patterns (builtin builtins.Spawn (tree (lit (atom 21)) (tree (lit (atom 23)) (tree (lit (list
          none)) no_trees)))) (receive (clause (known (atom 25)) no_guard (lit (atom 26)) no_clauses)))
          ∷ [])
          ∷ of_function 23 0 true (
          of_clause no_patterns no_guard
          (receive (clause (known (atom 27)) no_guard (lit (atom 26)) no_clauses)) ∷ [])
          ∷ [];
    }

--   main() -> P = self(), spawn(m, a, [P]), spawn(m, b, [P]), receive M -> M == 1 end.
--   a(P) -> P ! 1.
--   b(P) -> P ! 2.
abbrev pub race : Module
race =
    record {
      name = 21;
      atoms = fixed_names ++ codes "module" ∷ codes "m" ∷ codes "main" ∷ codes "a" ∷ codes "b" ∷ codes
          "self" ∷ codes "spawn" ∷ [];
      functions =
          of_function 22 0 true (
          of_clause no_patterns no_guard
          (bind (pattern new no_patterns) (builtin builtins.SelfPid no_trees) (bind no_patterns (builtin builtins.Spawn
          (tree (lit (atom 21)) (tree (lit (atom 23)) (tree (cons (var 0) (lit (list none)))
          no_trees)))) (bind no_patterns (builtin builtins.Spawn (tree (lit (atom 21)) (tree (lit (atom 24))
          (tree (cons (var 0) (lit (list none))) no_trees)))) (receive (clause new no_guard (op Equal
          (var 1) (lit (int (pos 1)))) no_clauses))))) ∷ [])
          ∷ of_function 23 1 true (
          of_clause (pattern new no_patterns) no_guard
          (send (var 0) (lit (int (pos 1)))) ∷ [])
          ∷ of_function 24 1 true (
          of_clause (pattern new no_patterns) no_guard
          (send (var 0) (lit (int (pos 2)))) ∷ [])
          ∷ [];
    }

--   main() -> process_flag(trap_exit, true), C = spawn_link(m, kid, []), monitor(process, C), C ! stop,
--             receive M -> M end.
--   kid() -> receive stop -> ok end.
abbrev pub exit_before_down : Module
exit_before_down =
    record {
      name = 21;
      atoms = fixed_names ++ codes "module" ∷ codes "m" ∷ codes "main" ∷ codes "kid" ∷ codes "f" ∷ codes
          "process_flag" ∷ codes "spawn_link" ∷ codes "monitor" ∷ codes "stop" ∷ codes "ok" ∷ [];
      functions =
          of_function 22 0 true (
          of_clause no_patterns no_guard
          (bind no_patterns (builtin builtins.ProcessFlag (tree (lit (atom 18)) (tree (lit (atom 0)) no_trees)))
          (bind (pattern new no_patterns) (builtin builtins.SpawnLink (tree (lit (atom 21)) (tree (lit (atom
          23)) (tree (lit (list none)) no_trees)))) (bind no_patterns (builtin builtins.Monitor (tree (lit
          (atom 7)) (tree (var 0) no_trees))) (bind no_patterns (send (var 0) (lit (atom 28))) (receive
          (clause new no_guard (var 1) no_clauses)))))) ∷ [])
          ∷ of_function 23 0 true (
          of_clause no_patterns no_guard
          (receive (clause (known (atom 28)) no_guard (lit (atom 29)) no_clauses)) ∷ [])
          ∷ [];
    }

--   main() -> register(kid, spawn(m, kid, [])), self() ! go, receive go -> whereis(kid) end.
--   kid() -> ok.
abbrev pub name_is_lost : Module
name_is_lost =
    record {
      name = 21;
      atoms = fixed_names ++ codes "module" ∷ codes "m" ∷ codes "main" ∷ codes "kid" ∷ codes "f" ∷ codes
          "register" ∷ codes "spawn" ∷ codes "self" ∷ codes "go" ∷ codes "whereis" ∷ codes "ok" ∷ [];
      functions =
          of_function 22 0 true (
          of_clause no_patterns no_guard
          (bind no_patterns (builtin builtins.Register (tree (lit (atom 23)) (tree (builtin builtins.Spawn (tree (lit
          (atom 21)) (tree (lit (atom 23)) (tree (lit (list none)) no_trees)))) no_trees))) (bind
          no_patterns (send (builtin builtins.SelfPid no_trees) (lit (atom 28))) (receive (clause (known (atom
          28)) no_guard (builtin builtins.Whereis (tree (lit (atom 23)) no_trees)) no_clauses)))) ∷ [])
          ∷ of_function 23 0 true (
          of_clause no_patterns no_guard
          (lit (atom 30)) ∷ [])
          ∷ [];
    }

--   main() -> exit(self(), normal), receive x -> ok end.
abbrev pub exit_to_oneself : Module
exit_to_oneself =
    record {
      name = 21;
      atoms = fixed_names ++ codes "module" ∷ codes "m" ∷ codes "main" ∷ codes "kid" ∷ codes "f" ∷ codes
          "exit" ∷ codes "self" ∷ codes "x" ∷ codes "ok" ∷ [];
      functions =
          of_function 22 0 true (
          of_clause no_patterns no_guard
          (bind no_patterns (builtin builtins.ExitOther (tree (builtin builtins.SelfPid no_trees) (tree (lit (atom 3))
          no_trees))) (receive (clause (known (atom 27)) no_guard (lit (atom 28)) no_clauses))) ∷ [])
          ∷ [];
    }

--   main() -> C = spawn(m, kid, []), exit(C, normal), receive x -> ok end.
--   kid() -> receive y -> ok end.
abbrev pub normal_from_another : Module
normal_from_another =
    record {
      name = 21;
      atoms = fixed_names ++ codes "module" ∷ codes "m" ∷ codes "main" ∷ codes "kid" ∷ codes "f" ∷ codes
          "spawn" ∷ codes "exit" ∷ codes "x" ∷ codes "ok" ∷ codes "y" ∷ [];
      functions =
          of_function 22 0 true (
          of_clause no_patterns no_guard
          (bind (pattern new no_patterns) (builtin builtins.Spawn (tree (lit (atom 21)) (tree (lit (atom 23))
          (tree (lit (list none)) no_trees)))) (bind no_patterns (builtin builtins.ExitOther (tree (var 0)
          (tree (lit (atom 3)) no_trees))) (receive (clause (known (atom 27)) no_guard (lit (atom 28))
          no_clauses)))) ∷ [])
          ∷ of_function 23 0 true (
          of_clause no_patterns no_guard
          (receive (clause (known (atom 29)) no_guard (lit (atom 28)) no_clauses)) ∷ [])
          ∷ [];
    }

--   main() -> register(a, self()), unregister(a), {whereis(a), make_ref()}.
abbrev pub names_and_references : Module
names_and_references =
    record {
      name = 21;
      atoms = fixed_names ++ codes "module" ∷ codes "m" ∷ codes "main" ∷ codes "kid" ∷ codes "f" ∷ codes
          "register" ∷ codes "a" ∷ codes "self" ∷ codes "unregister" ∷ codes "whereis" ∷ codes "make_ref" ∷
          [];
      functions =
          of_function 22 0 true (
          of_clause no_patterns no_guard
          (bind no_patterns (builtin builtins.Register (tree (lit (atom 26)) (tree (builtin builtins.SelfPid no_trees)
          no_trees))) (bind no_patterns (builtin builtins.Unregister (tree (lit (atom 26)) no_trees)) (tuple
          (tree (builtin builtins.Whereis (tree (lit (atom 26)) no_trees)) (tree (builtin builtins.MakeRef no_trees)
          no_trees))))) ∷ [])
          ∷ [];
    }

--   main() -> spawn_link(m, kid, []), receive x -> ok end.
--   kid() -> 1 + a.
abbrev pub crash_by_a_link : Module
crash_by_a_link =
    record {
      name = 21;
      atoms = fixed_names ++ codes "module" ∷ codes "m" ∷ codes "main" ∷ codes "kid" ∷ codes "f" ∷ codes
          "spawn_link" ∷ codes "x" ∷ codes "ok" ∷ codes "a" ∷ [];
      functions =
          of_function 22 0 true (
          of_clause no_patterns no_guard
          (bind no_patterns (builtin builtins.SpawnLink (tree (lit (atom 21)) (tree (lit (atom 23)) (tree (lit
          (list none)) no_trees)))) (receive (clause (known (atom 26)) no_guard (lit (atom 27))
          no_clauses))) ∷ [])
          ∷ of_function 23 0 true (
          of_clause no_patterns no_guard
          (op Plus (lit (int (pos 1))) (lit (atom 28))) ∷ [])
          ∷ [];
    }

--   main() -> C = spawn_link(m, kid, []), unlink(C), receive x -> ok end.
--   kid() -> 1 + a.
abbrev pub unlinked_kid : Module
unlinked_kid =
    record {
      name = 21;
      atoms = fixed_names ++ codes "module" ∷ codes "m" ∷ codes "main" ∷ codes "kid" ∷ codes "f" ∷ codes
          "spawn_link" ∷ codes "unlink" ∷ codes "x" ∷ codes "ok" ∷ codes "a" ∷ [];
      functions =
          of_function 22 0 true (
          of_clause no_patterns no_guard
          (bind (pattern new no_patterns) (builtin builtins.SpawnLink (tree (lit (atom 21)) (tree (lit (atom
          23)) (tree (lit (list none)) no_trees)))) (bind no_patterns (builtin builtins.Unlink (tree (var 0)
          no_trees)) (receive (clause (known (atom 27)) no_guard (lit (atom 28)) no_clauses)))) ∷ [])
          ∷ of_function 23 0 true (
          of_clause no_patterns no_guard
          (op Plus (lit (int (pos 1))) (lit (atom 29))) ∷ [])
          ∷ [];
    }

--   main() -> {f(1), f(3), f(a)}.
--   f(N) when hd(N) -> error; f(N) when is_integer(N), N > 2; N == b -> big; f(_) -> other.
abbrev pub guarded : Module
guarded =
    record {
      name = 21;
      atoms = fixed_names ++ codes "module" ∷ codes "m" ∷ codes "main" ∷ codes "kid" ∷ codes "f" ∷ codes "a"
          ∷ codes "hd" ∷ codes "error" ∷ codes "is_integer" ∷ codes "b" ∷ codes "big" ∷ codes "other" ∷ [];
      functions =
          of_function 22 0 true (
          of_clause no_patterns no_guard
          (tuple (tree (call 1 (tree (lit (int (pos 1))) no_trees)) (tree (call 1 (tree (lit (int (pos
          3))) no_trees)) (tree (call 1 (tree (lit (atom 25)) no_trees)) no_trees)))) ∷ [])
          ∷ of_function 24 1 true (
          of_clause (pattern new no_patterns) (alternative (tree (builtin builtins.Hd (tree (var 0) no_trees))
          no_trees) no_alternatives)
          (lit (atom 27)) ∷ of_clause (pattern new no_patterns) (alternative (tree (builtin builtins.IsInteger
          (tree (var 0) no_trees)) (tree (op Greater (var 0) (lit (int (pos 2)))) no_trees))
          (alternative (tree (op Equal (var 0) (lit (atom 29))) no_trees) no_alternatives))
          (lit (atom 30)) ∷ of_clause (pattern any no_patterns) no_guard
          (lit (atom 31)) ∷ [])
          ∷ [];
    }

--   main() -> if 1 > 2 -> a; true -> b end.
abbrev pub by_if : Module
by_if =
    record {
      name = 21;
      atoms = fixed_names ++ codes "module" ∷ codes "m" ∷ codes "main" ∷ codes "kid" ∷ codes "f" ∷ codes "a"
          ∷ codes "b" ∷ [];
      functions =
          of_function 22 0 true (
          of_clause no_patterns no_guard
          (if_expression (clause any (alternative (tree (op Greater (lit (int (pos 1))) (lit (int (pos
          2)))) no_trees) no_alternatives) (lit (atom 25)) (clause any (alternative (tree (lit (atom 0))
          no_trees) no_alternatives) (lit (atom 26)) no_clauses))) ∷ [])
          ∷ [];
    }

--   main() -> {element(2, {a, b}), hd([c]), tl([d]), length([e, f]), tuple_size({}), is_list([]), b > a, [1|[2]]}.
abbrev pub looking_at_values : Module
looking_at_values =
    record {
      name = 21;
      atoms = fixed_names ++ codes "module" ∷ codes "m" ∷ codes "main" ∷ codes "kid" ∷ codes "f" ∷ codes
          "element" ∷ codes "a" ∷ codes "b" ∷ codes "hd" ∷ codes "c" ∷ codes "tl" ∷ codes "d" ∷ codes "length"
          ∷ codes "e" ∷ codes "tuple_size" ∷ codes "is_list" ∷ [];
      functions =
          of_function 22 0 true (
          of_clause no_patterns no_guard
          (tuple (tree (builtin builtins.Element (tree (lit (int (pos 2))) (tree (tuple (tree (lit (atom 26))
          (tree (lit (atom 27)) no_trees))) no_trees))) (tree (builtin builtins.Hd (tree (cons (lit (atom 29))
          (lit (list none))) no_trees)) (tree (builtin builtins.Tl (tree (cons (lit (atom 31)) (lit (list
          none))) no_trees)) (tree (builtin builtins.Length (tree (cons (lit (atom 33)) (cons (lit (atom
          24)) (lit (list none)))) no_trees)) (tree (builtin builtins.TupleSize (tree (tuple no_trees)
          no_trees)) (tree (builtin builtins.IsList (tree (lit (list none)) no_trees)) (tree (op Greater (lit
          (atom 27)) (lit (atom 26))) (tree (cons (lit (int (pos 1))) (cons (lit (int (pos 2))) (lit
          (list none)))) no_trees))))))))) ∷ [])
          ∷ [];
    }

--   main() -> 1 + exit(done).
abbrev pub exit_with_a_value : Module
exit_with_a_value =
    record {
      name = 21;
      atoms = fixed_names ++ codes "module" ∷ codes "m" ∷ codes "main" ∷ codes "kid" ∷ codes "f" ∷ codes
          "exit" ∷ codes "done" ∷ [];
      functions =
          of_function 22 0 true (
          of_clause no_patterns no_guard
          (op Plus (lit (int (pos 1))) (builtin builtins.Exit (tree (lit (atom 26)) no_trees))) ∷ [])
          ∷ [];
    }

--   main() -> {C, M} = spawn_monitor(m, kid, []), receive {'DOWN', M, process, C, R} -> R end.
--   kid() -> exit(no).
abbrev pub spawned_watched : Module
spawned_watched =
    record {
      name = 21;
      atoms = fixed_names ++ codes "module" ∷ codes "m" ∷ codes "main" ∷ codes "kid" ∷ codes "no" ∷ [];
      functions =
          of_function 22 0 true (
          of_clause no_patterns no_guard
          (bind (pattern (tuple_of (pattern new (pattern new no_patterns))) no_patterns)
          (builtin builtins.SpawnMonitor (tree (lit (atom 21))
          (tree (lit (atom 23)) (tree (lit (list none)) no_trees))))
          (receive (clause (tuple_of (pattern (known (atom 9)) (pattern (slot 1)
          (pattern (known (atom 7)) (pattern (slot 0) (pattern new no_patterns)))))) no_guard (var 2) no_clauses)))
          ∷ [])
          ∷ of_function 23 0 true (
          of_clause no_patterns no_guard
          (builtin builtins.Exit (tree (lit (atom 24)) no_trees)) ∷ [])
          ∷ [];
    }

-- `demonitor(M)` and `demonitor(M, [flush])`, where M is the first variable
abbrev pub demonitors : Tree
demonitors = builtin builtins.Demonitor (tree (var 0) no_trees)

abbrev pub flushing_tree : Tree
flushing_tree = builtin builtins.DemonitorWith (tree (var 0) (tree (cons (lit (atom 19)) (lit (list none))) no_trees))

--   main() -> self() ! w, {_, M} = spawn_monitor(m, kid, []), spawn(m, two, [self()]), receive x -> ok end, ..,
--             receive w -> receive A -> A end end.
--   kid() -> ok.
--   two(P) -> P ! z, P ! x.
abbrev pub watched_until : Tree → Module
watched_until ends =
    record {
      name = 21;
      atoms = fixed_names ++ codes "module" ∷ codes "m" ∷ codes "main" ∷ codes "w" ∷ codes "kid" ∷ codes "two"
          ∷ codes "x" ∷ codes "ok"
          ∷ codes "z" ∷ [];
      functions =
          of_function 22 0 true (
          of_clause no_patterns no_guard
          (bind no_patterns (send (builtin builtins.SelfPid no_trees) (lit (atom 23)))
          (bind (pattern (tuple_of (pattern any (pattern new no_patterns)))
          no_patterns) (builtin builtins.SpawnMonitor
          (tree (lit (atom 21)) (tree (lit (atom 24)) (tree (lit (list none)) no_trees)))) (bind
          no_patterns (builtin builtins.Spawn
          (tree (lit (atom 21)) (tree (lit (atom 25))
          (tree (cons (builtin builtins.SelfPid no_trees) (lit (list none)))
          no_trees)))) (bind no_patterns (receive (clause (known (atom 26)) no_guard (lit (atom 27)) no_clauses))
          (bind no_patterns ends
          (receive (clause (known (atom 23)) no_guard (receive (clause new no_guard (var 1) no_clauses))
          no_clauses))))))) ∷ [])
          ∷ of_function 24 0 true (
          of_clause no_patterns no_guard
          (lit (atom 27)) ∷ [])
          ∷ of_function 25 1 true (
          of_clause (pattern new no_patterns) no_guard
          (bind no_patterns (send (var 0) (lit (atom 28))) (send (var 0) (lit (atom 26)))) ∷ [])
          ∷ [];
    }
