use Rattle.std.proofs.Common.{◌∙◌}
use Rattle.prim_registry.specs.StandardPrimitives.{key_of}
use Rattle.strc_command.proofs.PrimitiveLaws.{memory_alone}
use Rattle.strc_command.proofs.primitives.register.Goals as goal

pub returns-then-not-is_arithmetic-clause-fault : goal.returns-then-not-is_arithmetic-clause-fault
returns-then-not-is_arithmetic-clause-fault g c =
    memory_alone c.args.registry.now (key_of c.args.primitive).0 c.new-plain.result.name c.register.result
    (c.new-plain.ensures.name ∙ c.in_ok-name.ensures.items_if_clones_equal (λ x y h. h) ∙
    c.name.ensures) c.requires.fresh c.register.ensures.duplicate c.register.ensures.fault

pub returns-clause-fault : goal.returns-clause-fault
returns-clause-fault g c = memory_alone c.args.registry.now (key_of c.args.primitive).0 c.with_calculation.result.name
    c.register-2.result
    (c.with_calculation.ensures.name ∙ c.new-plain.ensures.name ∙
    c.in_ok-name.ensures.items_if_clones_equal (λ x y h. h) ∙ c.name.ensures)
    c.requires.fresh c.register-2.ensures.duplicate c.register-2.ensures.fault
