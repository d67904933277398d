use Rattle.std.proofs.Common.{◌≡◌, ◌∙◌, ◌<◌, ◌+◌, [], ◌∷◌, map, length, ap, sym, subst, arith}
use Rattle.std.proofs.lemmas.List.{map-append, length-map}
use Rattle.std.proofs.lemmas.Iterator.Adapters.{YieldsList-from_vec}
use Rattle.std.proofs.lemmas.Iterator.Consumers.{YieldsList-turn}
use Rattle.core_lang.specs.Views as views
use Rattle.str_desugar.specs.GroupViews.{gathered_in}
use Rattle.str_desugar.specs.Groups.{with_body}
use Rattle.str_desugar.specs.Heads.{read_head}
use Rattle.str_desugar.proofs.JoinLaws.{Gathers, gathers_more, group_within}
use Rattle.str_desugar.proofs.ReadHeadLaws.{read_at}
use Rattle.str_desugar.proofs.alternatives.Groups.gather.Goals as goal

pub put_at-requires : goal.put_at-requires
put_at-requires c =
    let heads = c.args.self.now in
    let index = c.loop-body.index in
    let given = c.into_iter-body-iterator.ensures.into_iter_gives in
    let road = YieldsList-from_vec {s = c.into_iter-body-iterator.result} c.args.bodies.items given.0 (given.1 ∙
    c.args.bodies.ok.0) in
    let turn = YieldsList-turn road c.loop-body.yielded c.loop-body.body-iterator c.loop-body.yielded_by c.next.result
    c.next.new.self c.in-Some.body c.in-Some.is c.next.ensures.steps in
    let counted : length c.loop-body.yielded ≡ index =
    sym (length-map c.loop-body.yielded views.strategy_of) ∙ c.loop-body.invariant.counted in
    let within : index < length heads = omega (arith, turn.0, counted, c.requires) in
    let is = read_at c.self.inside.heads.items heads index c.index.result.now c.self.view_is within c.index.ensures in
    let placed = group_within heads index _ _ (read_head c.index.result.now.now) c.loop-body.invariant within is in
    subst (λ n. n < length c.loop-body.groups.items) (sym c.number_of-number.ensures)
    (omega (arith, placed, length-map c.loop-body.groups.items gathered_in))

pub loop-body-preserved : goal.loop-body-preserved
loop-body-preserved c =
    let heads = c.args.self.now in
    let index = c.loop-body.index in
    let given = c.into_iter-body-iterator.ensures.into_iter_gives in
    let road = YieldsList-from_vec {s = c.into_iter-body-iterator.result} c.args.bodies.items given.0 (given.1 ∙
    c.args.bodies.ok.0) in
    let turn = YieldsList-turn road c.loop-body.yielded c.loop-body.body-iterator c.loop-body.yielded_by c.next.result
    c.next.new.self c.in-Some.body c.in-Some.is c.next.ensures.steps in
    let counted : length c.loop-body.yielded ≡ index =
    sym (length-map c.loop-body.yielded views.strategy_of) ∙ c.loop-body.invariant.counted in
    let within : index < length heads = omega (arith, turn.0, counted, c.requires) in
    let is = read_at c.self.inside.heads.items heads index c.index.result.now c.self.view_is within c.index.ensures in
    let s = views.strategy_of c.in-Some.body in
    let made = c.in_ok-put_at.ensures ∙
    ap (λ n. with_body n s (map gathered_in c.loop-body.groups.items)) c.number_of-number.ensures in
    let after = map gathered_in c.put_at.new.groups.items in
    let P : _ → Type 0 = λ ss. Gathers heads (index + 1) ss after in
    subst P (sym (map-append views.strategy_of c.loop-body.yielded (c.in-Some.body ∷ [])))
    (gathers_more heads index _ _ after (read_head c.index.result.now.now) s c.loop-body.invariant within is made)
