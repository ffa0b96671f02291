use Rattle.std.proofs.Common.{map}
use Rattle.pf_command.specs.Streams.{streams}
use Rattle.pf_words.specs.Words.{ObeysByFile, ObeysIn}
use Rattle.pf_words.proofs.Reported.{are_contents, asks_more, by_contents, refused_by_file}
use Rattle.pf_words.proofs.request.request_by_file.Goals as goal

pub returns-in-Ok : goal.returns-in-Ok
returns-in-Ok g c written failed =
    let words = map (λ w. w.now) c.args.words.now in
    let file = c.args.file.now in
    let old = streams (g.I.Read.remaining c.args.stdin.now.inner) written c.args.stdin.now.failures.total failed in
    let read = streams (g.I.Read.remaining c.schedule_contents.new.stdin.inner) written
    c.schedule_contents.new.stdin.failures.total failed in
    let are = are_contents file _ _ _ written _ _ failed c.in-Ok.ensures.most c.schedule_contents.ensures.unread
    c.schedule_contents.ensures.kept c.in-Ok.ensures.whole in
    asks_more (ObeysIn words _ read) (ObeysByFile words file old) read c.request_in.result
    (λ new r h. by_contents words file _ old read new r are h)
    (rw c.deref.ensures at c.request_in.ensures read)

pub returns-in-Err : goal.returns-in-Err
returns-in-Err g c written failed new o done =
    refused_by_file (map (λ w. w.now) c.args.words.now) c.args.file.now _ _ _ _ _ _ new _ o c.unread_file.ensures done
