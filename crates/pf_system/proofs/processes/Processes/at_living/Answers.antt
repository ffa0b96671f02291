use Rattle.pf_terms.specs.Term.{value_of}
use Rattle.pf_system.proofs.Receiving.{message_taken}
use Rattle.pf_system.proofs.processes.Processes.at_living.Goals as goal

pub returns-in-Message : goal.returns-in-Message
returns-in-Message c k h alive =
    message_taken c.args.self.now k c.args.from c.args.to c.args.signal h c.in-Message.message
    (value_of c.in_ok-message.message) c.index.new.self
    c.in-Message.is c.in_ok-message.ensures alive c.in_ok-index.ensures

pub returns : goal.returns
returns c k h alive = let x = c.in_ok-suffix.ensures k h alive in record { done = x.done; label = x.label }
