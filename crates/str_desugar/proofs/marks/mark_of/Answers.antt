use Rattle.std.proofs.Common.{ap, ◌∙◌, ◌%◌}
use Rattle.keyed_hash.specs.Folding.{finish, write}
use Rattle.str_desugar.specs.Marks.{mark_of}
use Rattle.str_desugar.proofs.marks.mark_of.Goals as goal

pub returns-clause-mark : goal.returns-clause-mark
unfolding mark_of
returns-clause-mark c =
    ap (λ n. n % 512) (c.finish-hash.ensures ∙
    ap finish (c.write.ensures ∙
    ap (λ hasher. write hasher c.args.name.now) c.build_hasher-hasher.ensures))
