use Rattle.std.proofs.Common.{length}
use Rattle.str_parser.specs.Phrases.{top_forms}
use Rattle.str_parser.specs.Parsing.{EndsForms, one_top, tops_of}
use Rattle.str_parser.proofs.RunLaws.{Partly}
use Rattle.str_parser.proofs.form.definitions.Given as goal

abbrev pub invariant-loop-alloc : goal.invariant-loop-alloc
invariant-loop-alloc l = Partly one_top EndsForms top_forms (λ ds. ds) 0 (tops_of l.definitions) l.fn.input l.rest

abbrev pub decreases-loop-alloc : goal.decreases-loop-alloc
decreases-loop-alloc l = length l.rest
