use Rattle.std.proofs.Common.{length}
use Rattle.str_parser.specs.Phrases.{section, sections}
use Rattle.str_parser.specs.Parsing.{AtEnd, sections_of}
use Rattle.str_parser.proofs.RunLaws.{Partly}
use Rattle.str_parser.proofs.file.sections.Given as goal

abbrev pub invariant-loop-rest : goal.invariant-loop-rest
invariant-loop-rest l = Partly section AtEnd sections (λ ss. ss) 0 (sections_of l.sections) l.fn.input l.rest

abbrev pub decreases-loop-rest : goal.decreases-loop-rest
decreases-loop-rest l = length l.rest
