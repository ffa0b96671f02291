-- Why no command was read.
use Rattle.pf_errors.specs.declared.fault.OrNoMemory.{OrNoMemory}
use Rattle.pf_errors.specs.declared.fault.OrNoMemory.TheVariants.{Fault}
use Rattle.pf_protocol.specs.declared.command.NoCommand.{NoCommand}

-- the line is no command
abbrev pub no_command : OrNoMemory NoCommand
no_command = Fault (record {})
