-- What the code's own lines, and what they ask for, stand for.
use Rattle.pf_request.specs.View.{view_of_call}
use Rattle.pf_world.specs.View.{view_of_step}
use Rattle.pf_protocol.specs.Clients as clients
use Rattle.pf_protocol.specs.Commands as commands
use Rattle.pf_protocol.specs.declared.client.ClientLine.{ClientLine}
use Rattle.pf_protocol.specs.declared.client.ClientLine.TheVariants.{Call, Await}
use Rattle.pf_protocol.specs.declared.line.LineContent.{LineContent}
use Rattle.pf_protocol.specs.declared.line.LineContent.TheVariants.{Made, Submission}
use Rattle.pf_protocol.specs.declared.split.SplitLine.{SplitLine}

abbrev pub view_of_line : SplitLine → commands.Line
view_of_line l = record { text = l.text.now; is_ended = l.is_ended; rest = l.rest.now }

abbrev pub view_of_content : LineContent → commands.LineContent
view_of_content (Made s) = commands.made (view_of_step s)
view_of_content (Submission project size) = commands.submission project size

abbrev pub view_of_client_line : ClientLine → clients.ClientLine
view_of_client_line (Call c) = clients.calls (view_of_call c)
view_of_client_line (Await ticket) = clients.awaits ticket
