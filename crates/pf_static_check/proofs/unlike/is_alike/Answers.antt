use Rattle.std.proofs.Common.{◌≡◌, ℕ, length, Bool, true, sym, ap, ◌∙◌, arith}
use Rattle.std.specs.Prelude.{◌==◌, ◌&&◌}
use Rattle.pf_syntax.specs.SyntaxTree.{Head}
use Rattle.pf_syntax.specs.SyntaxTreeOver.{head_over}
use Rattle.pf_rules.specs.Static.{is_alike, parameters_of}
use Rattle.pf_rules.proofs.Counts.{parameters_length}
use Rattle.pf_static_check.proofs.unlike.is_alike.Goals as goal

-- of one name they are alike where they have as many parameters
alike_by_number : (h k : Head) (m n : ℕ) → (k.name == h.name) ≡ true → m ≡ parameters_of k.parameters
    → n ≡ parameters_of h.parameters → (m == n) ≡ is_alike h k
alike_by_number h k m n named a e =
    ap (λ (i : ℕ). i == n) a ∙ ap (λ (i : ℕ). parameters_of k.parameters == i) e
    ∙ sym (ap (λ (v : Bool). v && (parameters_of k.parameters == parameters_of h.parameters)) named)

pub returns-then-eq : goal.returns-then-eq
returns-then-eq c = λ b.
    let h = c.args.head.now in
    let k = c.args.other.now in
    let first : c.len-then-eq.result ≡ length h.parameters.items =
    omega (arith, h.parameters.ok.0, c.len-then-eq.ensures) in
    let other : c.len.result ≡ length k.parameters.items = omega (arith, k.parameters.ok.0, c.len.ensures) in
    alike_by_number (head_over b h) (head_over b k) c.len.result c.len-then-eq.result (sym c.eq.ensures ∙ c.if-eq.true)
    (other ∙ sym (parameters_length b k.parameters.items)) (first ∙ sym (parameters_length b h.parameters.items))
