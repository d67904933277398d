use Rattle.std.proofs.Common.{◌∙◌, Some, None, ap₂}
use Rattle.std.specs.List.{position}
use Rattle.str_syntax.specs.Key.{same_key}
use Rattle.str_desugar.specs.Heads.{read_head}
use Rattle.str_desugar.proofs.ReadHeadLaws.{group_number}
use Rattle.str_desugar.proofs.alternatives.Groups.number_of.Goals as goal

pub returns-in-Some : goal.returns-in-Some
returns-in-Some c =
    let grouped = rw c.self.view_is at c.self.invariant in
    group_number c.args.self.now c.self.inside.firsts.items c.self.inside.keys.value grouped (read_head c.args.head.now)
    (Some c.in-Some.number) (c.in-Some.ensures.first ∙
    ap₂ (λ k ks. position (same_key k) ks) c.key.ensures c.deref.ensures)

pub returns-in-None : goal.returns-in-None
returns-in-None c =
    let grouped = rw c.self.view_is at c.self.invariant in
    c.len.ensures ∙ c.self.inside.firsts.ok.0 ∙
    group_number c.args.self.now c.self.inside.firsts.items c.self.inside.keys.value grouped (read_head c.args.head.now)
    None (c.in-None.ensures.first ∙ ap₂ (λ k ks. position (same_key k) ks) c.key.ensures c.deref.ensures)
