use Rattle.strat_compile.proofs.ClosedLaws.{specialized_callee, called_callee}
use Rattle.strat_compile.proofs.closed.is_callee.Goals as goal

pub returns-in-Specialized : goal.returns-in-Specialized
returns-in-Specialized c = λ e. specialized_callee c.args.reached c.args.slot c.args.strats c.args.terms _ _ _ _ _ _
    c.in-Specialized.is (c.is_parameter-in-Specialized.ensures e)

pub returns-in-Called : goal.returns-in-Called
returns-in-Called c = λ e. called_callee c.args.reached c.args.slot c.args.strats c.args.terms _ _ c.in-Called.is
    (c.is_parameter-in-Called.ensures e)
