use Rattle.std.proofs.Common.{◌≡◌, ◌++◌, drop, map}
use Rattle.str_syntax.specs.Views.{top_of}
use Rattle.str_desugar.specs.Forms.{read_forms}
use Rattle.str_desugar.proofs.forms.add_forms.Given as goal

abbrev pub invariant-loop-one : goal.invariant-loop-one
invariant-loop-one l = read_forms l.forms.items ++
    map (λ top. top.form) (map top_of (drop l.one-index l.all)) ≡ read_forms l.initial.forms.items ++
    map (λ top. top.form) (map top_of l.all)
