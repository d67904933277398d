use Rattle.std.proofs.Common.{◌≡◌, map, take}
use Rattle.str_syntax.specs.Views.{definition_of}
use Rattle.str_desugar.specs.Heads.{read_heads}
use Rattle.str_desugar.proofs.LocalLaws.{head_of_definition}
use Rattle.str_desugar.proofs.locals.groups_of.Given as goal

abbrev pub invariant-loop-source : goal.invariant-loop-source
invariant-loop-source l = read_heads l.heads.items ≡
    map (λ d. head_of_definition (definition_of d)) (take l.source-index l.sources)
