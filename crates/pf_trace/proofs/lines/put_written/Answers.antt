use Rattle.std.proofs.Common.{◌≡◌, ◌++◌, ℕ, List, ap, append_assoc, ◌∙◌}
use Rattle.std.proofs.lemmas.Result.{on_ok_weaker}
use Rattle.pf_trace.proofs.lines.put_written.Goals as goal

-- the lines of the events and the three after them are one text after what was there
joined : (b0 b1 b2 t w o s v : List ℕ) → b1 ≡ b0 ++ t → t ≡ w → b2 ≡ b1 ++ (o ++ s ++ v) → b2 ≡ b0 ++ (w ++ o ++ s ++ v)
joined b0 b1 b2 t w o s v h1 same h2 =
    let first : b1 ≡ b0 ++ w = h1 ∙ ap (λ (x : List ℕ). b0 ++ x) same in
    let all : b2 ≡ b0 ++ w ++ (o ++ s ++ v) = h2 ∙ ap (λ (x : List ℕ). x ++ (o ++ s ++ v)) first in
    all ∙ simp append_assoc

pub returns : goal.returns
returns c =
    on_ok_weaker c.put_end.result (λ last written. joined _ _ _ _ _ _ _ _ c.in_ok-put.ensures.ok
    (c.as_bytes.ensures ∙ written) last) c.put_end.ensures
