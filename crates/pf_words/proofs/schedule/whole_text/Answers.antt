use Rattle.std.proofs.Common.{ap, arith}
use Rattle.pf_words.proofs.Whole.{never_cut}
use Rattle.pf_words.proofs.schedule.whole_text.Goals as goal

pub returns-in-Ok-from_utf8-clause-whole : goal.returns-in-Ok-from_utf8-clause-whole
returns-in-Ok-from_utf8-clause-whole g c =
    never_cut 67108864 (g.R.Read.remaining c.args.reader.now.inner) c.in-Ok.bytes.items _
    (ap (λ v. v.items) c.in-Ok-from_utf8.ensures.ok)
    c.in-Ok.ensures.front (omega arith)
