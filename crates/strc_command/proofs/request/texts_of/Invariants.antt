use Rattle.std.proofs.Common.{◌≡◌, ◌++◌, drop}
use Rattle.strc_command.specs.Asked.{texts_of}
use Rattle.strc_command.specs.Elements.{texts_in, values_in}
use Rattle.strc_command.proofs.request.texts_of.Given as goal

-- the values of the option in front of the place are found
abbrev pub invariant-loop-value : goal.invariant-loop-value
invariant-loop-value l = texts_of l.name (values_in l.values)
    ≡ texts_in l.texts.items ++ texts_of l.name (values_in (drop l.value-index l.values))
