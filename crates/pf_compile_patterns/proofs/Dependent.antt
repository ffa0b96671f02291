-- What depends only on registers below one of them.
use Rattle.std.proofs.Common.{◌≡◌, ◌<◌, ◌≤◌, ◌+◌, ℕ, zero, suc, List, [], ◌∷◌, ◌++◌, Option, Some, None, refl, ap}
use Rattle.std.proofs.Common.{◌∙◌, arith}
use Rattle.std.specs.Prelude.{slice_get}
use Rattle.pf_model.specs.Context.{Move}
use Rattle.pf_patterns.specs.Fit.{ValueScope, fit, fit_all}
use Rattle.pf_syntax.specs.Pattern.{Pattern, Patterns}
use Rattle.pf_code.specs.Registers.{Registers, reg, row, scope_in, SameBelow, DependsBelow}
use Rattle.pf_code.specs.Points.{Point}
use Rattle.pf_compile_patterns.specs.Tests.{chosen}
use Rattle.pf_compile_patterns.specs.Planned.{AreBelow, fit_at, fit_row}

pub same_less : (n k : ℕ) (r q : Registers) → k ≤ n → SameBelow n r q → SameBelow k r q
same_less n k r q l h i j = h i (omega arith)

pub depends_more : {X : Type 0} (n k : ℕ) (f : Registers → X) → n ≤ k → DependsBelow n f → DependsBelow k f
depends_more n k f l d r q h = d r q (same_less k n r q l h)

pub scope_same : (n : ℕ) (slots : List ℕ) (r q : Registers) → AreBelow n slots → SameBelow n r q
    → scope_in slots q ≡ scope_in slots r
scope_same n [] r q b h = refl
scope_same n (s ∷ slots) r q b h =
    let x : reg q s ≡ reg r s = h s b.0 in
    let y : scope_in slots q ≡ scope_in slots r = scope_same n slots r q b.1 h in
    cc

pub below_more : (n k : ℕ) (slots : List ℕ) → n ≤ k → AreBelow n slots → AreBelow k slots
below_more n k [] l b = tt
below_more n k (s ∷ slots) l b = ((let x = b.0 in omega arith), below_more n k slots l b.1)

pub below_last : (n s : ℕ) (slots : List ℕ) → s < n → AreBelow n slots → AreBelow n (slots ++ s ∷ [])
below_last n s [] l b = (l, tt)
below_last n s (x ∷ slots) l b = (b.0, below_last n s slots l b.1)

pub below_get : (n x s : ℕ) (slots : List ℕ) → AreBelow n slots → slice_get slots x ≡ Some s → s < n
below_get n x s [] b e = absurd (cc)
below_get n zero s (y ∷ slots) b e = let k : y ≡ s = cc in let l = b.0 in omega arith
below_get n (suc x) s (y ∷ slots) b e = below_get n x s slots b.1 e

pub scope_last : (slots : List ℕ) (s : ℕ) (r : Registers)
    → scope_in (slots ++ s ∷ []) r ≡ scope_in slots r ++ reg r s ∷ []
scope_last [] s r = refl
scope_last (x ∷ slots) s r = ap (λ l. reg r x ∷ l) (scope_last slots s r)

pub row_same : (n first k : ℕ) (r q : Registers) → first + k ≤ n → SameBelow n r q → row q first k ≡ row r first k
row_same n first zero r q l h = refl
row_same n first (suc k) r q l h =
    let x : reg q first ≡ reg r first = h first (omega arith) in
    let y : row q (first + 1) k ≡ row r (first + 1) k = row_same n (first + 1) k r q (omega arith) h in
    cc

pub fit_at_depends : (n s : ℕ) (p : Pattern) (e : ValueScope) → s < n → DependsBelow n (λ r. fit_at p s r e)
fit_at_depends n s p e l r q h = ap (λ v. fit p v e) (h s l)

pub fit_row_depends : (n first k : ℕ) (ps : Patterns) (e : ValueScope) → first + k ≤ n
    → DependsBelow n (λ r. fit_row ps first k r e)
fit_row_depends n first k ps e l r q h = ap (λ vs. fit_all ps vs e) (row_same n first k r q l h)

pub chosen_same : {X : Type 0} (x y : Option X) (f g : X → Move) (o u : Move) → x ≡ y → ((e : X) → f e ≡ g e) → o ≡ u
    → chosen x f o ≡ chosen y g u
chosen_same None None f g o u e h k = k
chosen_same None (Some y) f g o u e h k = absurd (cc)
chosen_same (Some x) None f g o u e h k = absurd (cc)
chosen_same (Some x) (Some y) f g o u e h k = let z : x ≡ y = cc in h x ∙ ap g z

pub chosen_depends : {X : Type 0} (n : ℕ) (x : Registers → Option X) (go : X → Point) (o : Point) → DependsBelow n x
    → ((e : X) → DependsBelow n (go e)) → DependsBelow n o → DependsBelow n (λ r. chosen (x r) (λ e. go e r) (o r))
chosen_depends n x go o a b c r q h =
    chosen_same (x q) (x r) (λ e. go e q) (λ e. go e r) (o q) (o r) (a r q h) (λ e. b e r q h) (c r q h)
