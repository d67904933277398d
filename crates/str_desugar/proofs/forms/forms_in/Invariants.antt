use Rattle.std.proofs.Common.{◌≡◌, ◌++◌, drop, map}
use Rattle.str_syntax.specs.Views.{section_of}
use Rattle.str_desugar.specs.Equations.{forms_among}
use Rattle.str_desugar.specs.Forms.{read_forms}
use Rattle.str_desugar.proofs.forms.forms_in.Given as goal

abbrev pub invariant-loop-section : goal.invariant-loop-section
invariant-loop-section l = read_forms l.forms.items ++
    forms_among (map section_of (drop l.section-index l.file.sections.items)) ≡
    forms_among (map section_of l.file.sections.items)
