use Rattle.std.proofs.Common.{◌≡◌, length, refl, suc, arith}
use Rattle.strat_compile.proofs.KnownLaws.{own_called}
use Rattle.strat_compile.proofs.known.own_specialization.Goals as goal

pub returns : goal.returns
returns c =
    let next : c.args.at.layers_up ≡ suc c.coordinate-layers_up.result.layers_up =
    omega (arith, c.if-at-eq0.false, c.if-at-layers_up.false) in
    let position : c.in-Specialized.slot ≡ c.args.at.slot = omega (arith, c.if-slot-at.false) in
    let many : length c.in-Specialized.arguments.now ≡ length c.args.strategies.now =
    omega (arith, c.if-arguments-strategies.false) in
    own_called _ c.coordinate-layers_up.result.layers_up c.args.at _ _ _ _ _ _ _ c.args.strategies.now _ next
    c.reach.ensures.site c.in-Specialized.is position many
    (c.is_of_program.ensures c.if-not-is_of_program.false) (c.are_parameters.ensures c.if-not-are_parameters.false)
    refl refl
