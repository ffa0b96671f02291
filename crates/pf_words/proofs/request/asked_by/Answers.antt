use Rattle.pf_cli.specs.Args.{named_file, view_of_command}
use Rattle.pf_words.proofs.Reported.{or_refused, refused_status}
use Rattle.pf_words.proofs.request.asked_by.Goals as goal

pub returns-then-is_none : goal.returns-then-is_none
returns-then-is_none g c old new o done =
    refused_status (view_of_command c.args.asked) (named_file c.args.asked.args) old new o done

pub returns : goal.returns
returns g c old new o done = or_refused (view_of_command c.args.asked) (named_file c.args.asked.args) old new o done
