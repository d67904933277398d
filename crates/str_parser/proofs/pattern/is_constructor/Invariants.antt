use Rattle.std.proofs.Common.{◌≡◌, drop}
use Rattle.str_parser.specs.Phrases.{is_constructor as has_no_quote}
use Rattle.str_parser.proofs.pattern.is_constructor.Given as goal

abbrev pub invariant-loop-byte : goal.invariant-loop-byte
invariant-loop-byte l = has_no_quote l.name ≡ has_no_quote (drop l.byte-index l.name)
