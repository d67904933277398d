use Rattle.signature_core.specs.Signature.{arity_known}
use Rattle.str_desugar.proofs.program.core_of.Goals as goal

pub core_among-requires-clause-heads : goal.core_among-requires-clause-heads
core_among-requires-clause-heads c = c.in_ok-groups.ensures (arity_known c.args.checked.now.declarations)
