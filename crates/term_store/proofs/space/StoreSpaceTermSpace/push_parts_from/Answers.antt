use Rattle.std.proofs.Common.{◌≡◌, ◌-◌, length, drop, ap, subst, ◌∙◌, arith}
use Rattle.std.proofs.lemmas.List.{length-drop}
use Rattle.std.proofs.lemmas.Result.{on_ok_weaker}
use Rattle.term_model.specs.Blocks.{list_in}
use Rattle.term_model.specs.TermParts.{parts_of}
use Rattle.term_store.specs.Chains.{IsBlockIn}
use Rattle.term_store.specs.Space.{term_of}
use Rattle.term_store.proofs.LawsOfSpace.{count_at, some_pushed}
use Rattle.term_store.proofs.space.StoreSpaceTermSpace.push_parts_from.Goals as goal

pub after-parts-requires-clause-count : goal.after-parts-requires-clause-count
after-parts-requires-clause-count c =
    let s = c.args.self.now in
    let long : length (list_in s.chains c.parts.result) ≡ length (parts_of (term_of s c.args.at.now)) =
    ap (λ b. length (list_in s.chains b)) c.parts.ensures ∙
    count_at s c.args.at.now c.shape_at-shape.result c.shape_at-shape.ensures in
    let within = c.requires.within in
    omega (arith, long, within)

pub push_first-requires-clause-count : goal.push_first-requires-clause-count
push_first-requires-clause-count c =
    let s = c.args.self.now in
    let long : length (list_in s.chains c.parts.result) ≡ length (parts_of (term_of s c.args.at.now)) =
    ap (λ b. length (list_in s.chains b)) c.parts.ensures ∙
    count_at s c.args.at.now c.shape_at-shape.result c.shape_at-shape.ensures in
    let rest : length (list_in s.chains c.after-parts.result) ≡
    length (list_in s.chains c.parts.result) - c.args.from =
    ap length c.after-parts.ensures.list ∙ length-drop c.args.from (list_in s.chains c.parts.result) in
    let within = c.requires.within in
    omega (arith, long, rest, within)

pub returns-clause-pushed : goal.returns-clause-pushed
returns-clause-pushed c =
    let s = c.args.self.now in
    on_ok_weaker c.push_first.result
    (some_pushed s c.args.at.now c.args.from c.args.count c.shape_at-shape.result c.after-parts.result
    c.args.stack.now.items c.push_first.new.stack.items c.shape_at-shape.ensures
    (subst (λ b. IsBlockIn s.chains c.after-parts.result (drop c.args.from (list_in s.chains b))) c.parts.ensures
    c.after-parts.ensures)) c.push_first.ensures.pushed
