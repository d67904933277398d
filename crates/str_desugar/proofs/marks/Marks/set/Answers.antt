use Rattle.std.proofs.Common.{◌<◌, ◌/◌, length, arith, rules}
use Rattle.str_desugar.specs.Marks.{mark_of}
use Rattle.str_desugar.proofs.MarkLaws.{set_added, set_kept}
use Rattle.str_desugar.proofs.marks.Marks.set.Goals as goal

pub returns-clause-added : goal.returns-clause-added
returns-clause-added c =
    let within : c.mark_of-mark.result / 64 < length c.args.self.now.words = search rules in
    rw (← c.mark_of-mark.ensures.mark) (set_added c.args.self.now.words c.mark_of-mark.result within)

pub returns-clause-kept : goal.returns-clause-kept
returns-clause-kept c =
    let within : c.mark_of-mark.result / 64 < length c.args.self.now.words = omega arith in
    λ x. set_kept c.args.self.now.words c.mark_of-mark.result within (mark_of c.args.self.now.hashing x)
