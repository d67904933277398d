use Rattle.strat_compile.proofs.LayerLaws.{calls_specialized, calls_called, calls_frameless, if_ok}
use Rattle.strat_compile.proofs.callee.+callee_in.Goals as goal

pub returns-in-Specialized : goal.returns-in-Specialized
returns-in-Specialized t c = calls_specialized _ _ _ _ _ _ _ _ _ _ c.in-Specialized.is c.argument_at.ensures

pub returns-in-Called : goal.returns-in-Called
returns-in-Called t c = calls_called _ _ _ _ _ _ c.in-Called.is c.argument_at-in-Called.ensures

pub returns-in-Frameless : goal.returns-in-Frameless
returns-in-Frameless t c = if_ok c.callee_in.result
    (λ v h. calls_frameless _ _ _ c.args.is_frameless v c.in-Frameless.is h) c.callee_in.ensures
