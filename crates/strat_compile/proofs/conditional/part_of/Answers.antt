use Rattle.std.proofs.Common.{◌≡◌, length, subst, sym, arith}
use Rattle.std.specs.Cmp.{unsigned_Decides}
use Rattle.core_lang.specs.declared.program.CoreStrategy.TheVariants as strategies
use Rattle.strat_compile.specs.Layers.{arguments_of, known_of}
use Rattle.strat_compile.specs.Sites.{IsArgument}
use Rattle.strat_compile.proofs.OpenLaws.{parameter_part}
use Rattle.strat_compile.proofs.LayerLaws.{argument_given}
use Rattle.strat_compile.proofs.conditional.part_of.Goals as goal

pub returns-in_ok-known-in-Call : goal.returns-in_ok-known-in-Call
returns-in_ok-known-in-Call c =
    let here = c.in_ok-known-in-Call.ensures.lookup in
    let at = c.coordinate-at.result in
    let is : c.args.s.now ≡ strategies.Call at c.in-Call.strategies c.in-Call.terms =
    subst (λ y. c.args.s.now ≡ strategies.Call y c.in-Call.strategies c.in-Call.terms) (sym c.coordinate-at.ensures)
    c.in-Call.is in
    let innermost : at.layers_up ≡ 0 = omega (arith, c.if-at-gt0.false) in
    let no_strategy : length c.in-Call.strategies.items ≡ 0 =
    omega (
      arith,
      (unsigned_Decides c.in-Call.strategies.len 0).0 (sym c.if-not-is_empty.ensures),
      c.in-Call.strategies.ok,
    ) in
    let no_term : length c.in-Call.terms.items ≡ 0 =
    omega (
      arith,
      (unsigned_Decides c.in-Call.terms.len 0).0 (sym c.if-not-is_empty-2.ensures),
      c.in-Call.terms.ok,
    ) in (
      parameter_part c.args.s.now at c.in-Call.strategies c.in-Call.terms is innermost no_strategy no_term,
      subst (λ k. IsArgument (arguments_of c.args.arguments.now) at.slot (known_of k).strategy (known_of k).site)
          (sym here.1)
          (argument_given c.args.arguments.now at.slot c.in_ok-known-in-Call.known.now here.3.0),
    )
