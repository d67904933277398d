use Rattle.std.proofs.Common.{◌∙◌, map, ap}
use Rattle.str_desugar.specs.Heads.{read_heads}
use Rattle.str_desugar.specs.Keys.{named_key}
use Rattle.str_desugar.proofs.JoinLaws.{keys_all}
use Rattle.str_desugar.proofs.alternatives.Groups.keys.Goals as goal

pub returns : goal.returns
returns c = λ all heads.
    let grouped = rw c.self.view_is at c.self.invariant in
    ap (λ ks. map named_key ks) c.deref.ensures ∙
    keys_all all c.args.self.now (read_heads c.self.inside.firsts.items) c.self.inside.keys.value grouped heads
