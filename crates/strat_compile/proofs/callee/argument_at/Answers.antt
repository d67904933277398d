use Rattle.std.proofs.Common.{subst, sym}
use Rattle.strat_compile.specs.Layers.{arguments_of, known_of}
use Rattle.strat_compile.specs.Sites.{IsArgument}
use Rattle.strat_compile.proofs.LayerLaws.{argument_given, argument_past}
use Rattle.strat_compile.proofs.callee.argument_at.Goals as goal

pub returns-in-Some : goal.returns-in-Some
returns-in-Some c C =
    let here = c.in-Some.ensures.lookup in
    subst (λ k. IsArgument (arguments_of c.args.arguments.now) c.args.slot (known_of k).strategy (known_of k).site)
    (sym here.1)
    (argument_given c.args.arguments.now c.args.slot c.in-Some.known.now here.3.0)

pub returns-in-None : goal.returns-in-None
returns-in-None c C = ((λ h. h), argument_past c.args.arguments.now c.args.slot c.in-None.ensures.lookup.3, λ s D h. h)
