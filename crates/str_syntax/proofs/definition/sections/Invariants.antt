use Rattle.std.proofs.Common.{◌≡◌, map, take}
use Rattle.str_syntax.specs.Views.{section_of}
use Rattle.str_syntax.proofs.definition.sections.Given as goal

abbrev pub invariant-loop-section : goal.invariant-loop-section
invariant-loop-section l = map section_of l.made.items ≡ map section_of (take l.section-index l.source)
