use Rattle.scope_check.proofs.PrimitiveLaws.{is_holds}
use Rattle.scope_check.proofs.known.Known.has_primitive.Goals as goal

pub returns : goal.returns
returns c = is_holds c.has.result c.args.self.now.primitives.now c.args.name.now c.args.terms c.has.ensures
