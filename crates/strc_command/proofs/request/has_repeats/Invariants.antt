use Rattle.std.proofs.Common.{◌≡◌, drop}
use Rattle.strc_command.specs.Asked.{has_repeats}
use Rattle.strc_command.specs.Elements.{texts_in}
use Rattle.strc_command.proofs.request.has_repeats.Given as goal

-- so far no word stands again after its place
abbrev pub invariant-loop-index : goal.invariant-loop-index
invariant-loop-index l = has_repeats (texts_in l.words) ≡ has_repeats (texts_in (drop l.index l.words))
