-- The end of a process.
use Rattle.std.specs.Prelude.{ℕ, ◌==◌, not, ◌++◌, [], true, List, map, filter}
use Rattle.pf_terms.specs.Value.{Value}
use Rattle.pf_terms.specs.Fixed.{normal}
use Rattle.pf_model.specs.Context.{End, returned, failed, ended}
use Rattle.pf_model.specs.Channels.{Signal, exit, down}
use Rattle.pf_model.specs.Configuration.{Core, Left, leaving, fresh, of, with_process}

abbrev pub reason_of : End → Value
reason_of (returned v) = normal
reason_of (failed r) = r

-- the names without that of a process
abbrev pub without_name : ℕ → List (ℕ × ℕ) → List (ℕ × ℕ)
without_name a names = filter (λ n. not (n.1 == a)) names

-- an exit signal to each linked process, by rising number, and then a down signal to each watcher, by rising reference
abbrev pub last_signals : Core → ℕ → Value → List (ℕ × Signal)
last_signals c a r =
    map (λ l. (l, exit true r)) (of c a).links ++ map (λ w. (w.1, down w.0 r)) (of c a).watchers

-- the process ends: its name is lost, and the last signals are sent
abbrev pub ended_by : Core → ℕ → End → Left
ended_by c a e =
    let d = with_process c a (fresh (ended e) []) in
    leaving (record d { names = without_name a c.names }) (last_signals c a (reason_of e))
