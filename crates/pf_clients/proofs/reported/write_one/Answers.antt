use Rattle.std.proofs.Common.{[], refl, ◌∙◌, arith}
use Rattle.std.proofs.KnownBytes.{Appends-nil}
use Rattle.std.proofs.lemmas.Result.{on_err_weaker, on_ok_weaker}
use Rattle.pf_wire.proofs.Adding.{at_err}
use Rattle.pf_clients.proofs.Printed.{adds_reply, all_sent, front_at_reply, front_sent}
use Rattle.pf_clients.proofs.reported.write_one.Goals as goal

pub replies-init : goal.replies-init
replies-init g c = record { so_far = ([], Appends-nil _, c.new-gathered.ensures); same = refl }

pub replies-preserved : goal.replies-preserved
replies-preserved g c =
    let l = c.replies in
    record {
      so_far =
          adds_reply c.args.reported.now l.reply-index l.gathered.text.items c.add_reported.new.self.text.items _ _ _
          l.invariant.so_far c.reply-item.result c.replies-test.true c.reply-item.is
          c.in_ok-add_reported.ensures.added;
      same = c.in_ok-add_reported.ensures.kept ∙ l.invariant.same;
    }

pub returns-in_err-add_reported-clause-front : goal.returns-in_err-add_reported-clause-front
returns-in_err-add_reported-clause-front g c =
    let l = c.replies in
    at_err c.from_residual.result
    (front_at_reply c.args.reported.now l.reply-index l.gathered.text.items c.add_reported.new.self.text.items _ _ _
    l.invariant.so_far c.reply-item.result c.replies-test.true c.reply-item.is
    c.in_err-add_reported.ensures.front)

pub returns-clause-written : goal.returns-clause-written
returns-clause-written g c =
    let l = c.replies in
    on_ok_weaker c.send.result (λ h. all_sent c.args.reported.now l.reply-index l.gathered.text.items [] _ _ _
    l.invariant.so_far (omega (arith, c.replies-test.false)) h.0) c.send.ensures.sent

pub returns-clause-front : goal.returns-clause-front
returns-clause-front g c =
    let l = c.replies in
    on_err_weaker c.send.result (λ h. front_sent c.args.reported.now l.reply-index l.gathered.text.items [] _ _ _
    l.invariant.so_far (omega (arith, c.replies-test.false)) h) c.send.ensures.front
