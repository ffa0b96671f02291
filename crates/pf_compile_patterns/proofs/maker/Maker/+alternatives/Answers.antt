use Rattle.std.proofs.Common.{◌≡◌, get_or, ap, ◌∙◌, arith, rules}
use Rattle.pf_compile_patterns.specs.Maker.{code_of}
use Rattle.pf_compile_patterns.proofs.Grown.{by_ok}
use Rattle.pf_compile_patterns.proofs.Slices.{asks_one_at}
use Rattle.pf_compile_patterns.proofs.maker.Maker.+alternatives.Goals as goal

pub returns-in_ok-otherwise-in-len1-up : goal.returns-in_ok-otherwise-in-len1-up
returns-in_ok-otherwise-in-len1-up t c =
    let item : c.alternative-item.result ≡ get_or c.args.alternatives.now 0 c.alternative-item.result =
    search (rules, c.alternative-item.is) in
    by_ok _ _ _ c.all_true.ensures
    (λ pc h. asks_one_at c.args.scope.now c.args.alternatives.now c.alternative-item.result c.as_slice.result.now
    c.args.exits
    (code_of c.args.self.now) (code_of c.alternatives.new.self) (code_of c.all_true.new.self)
    c.in_ok-otherwise-in-len1-up.otherwise pc (omega arith)
    (c.as_slice.ensures.value ∙ ap (λ a. a.tests.items) item) c.requires.slots_below
    c.in_ok-otherwise-in-len1-up.ensures h)
