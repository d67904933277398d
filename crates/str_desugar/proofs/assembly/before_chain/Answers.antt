use Rattle.std.proofs.Common.{◌∙◌, ap, map}
use Rattle.core_lang.specs.Program as core
use Rattle.core_lang.specs.Views as views
use Rattle.core_lang.proofs.ReadLaws.{reads_sequence}
use Rattle.str_desugar.proofs.assembly.before_chain.Goals as goal

pub returns-in_ok-made-in_default : goal.returns-in_ok-made-in_default
returns-in_ok-made-in_default c =
    let a = c.args.first in
    let b = c.in_ok-second-in_default.second in
    ap views.strategy_of c.in_ok-made-in_default.ensures.ok ∙ reads_sequence a b c.new-in_default-2.result ∙
    ap (λ u. core.seq (views.strategy_of a.value) u)
    (ap (λ more. views.chain (views.strategy_of b.value) (map views.strategy_of more))
    c.new-in_default-2.ensures.items ∙
    ap views.strategy_of c.in_ok-second-in_default.ensures.ok)
