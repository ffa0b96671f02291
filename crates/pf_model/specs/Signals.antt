-- The signals that the code's own stand for.
use Rattle.pf_terms.specs.Term.{value_of}
use Rattle.pf_model.specs.Channels as channels
use Rattle.pf_model.specs.declared.signal.Signal.{Signal}
use Rattle.pf_model.specs.declared.signal.Signal.TheVariants as code

abbrev pub signal_of : Signal → channels.Signal
signal_of (code.Message t) = channels.message (value_of t)
signal_of code.Link = channels.link
signal_of code.Unlink = channels.unlink
signal_of (code.Monitor r) = channels.monitor r
signal_of (code.Demonitor r) = channels.demonitor r
signal_of (code.Down r t) = channels.down r (value_of t)
signal_of (code.Exit by_link t) = channels.exit by_link (value_of t)
