use Rattle.std.proofs.Common.{◌≡◌, ◌++◌, ◌∷◌, [], map, length, reverse, ap, ◌∙◌, arith}
use Rattle.strat_code.specs.CodeOf.{case_of}
use Rattle.strat_compile.specs.ChainOf.{bodies_of, body_of}
use Rattle.strat_compile.proofs.ChainLaws.{body_pushed, skipped_pushed, cases_counted, bodies_popped, bodies_long}
use Rattle.strat_compile.proofs.chain.Chain.cases.Goals as goal

pub loop-body-preserved : goal.loop-body-preserved
loop-body-preserved c =
    let xs = c.loop-body.cases.items in
    let ys = c.push_cases.new.cases.items in
    let b = body_of c.in-Some.body in
    let first : bodies_of c.loop-body.self ≡ b ∷ reverse (map body_of c.pop.new.self.items) =
    ap (λ ds. reverse (map body_of ds)) c.in-Some.ensures.items ∙
    bodies_popped c.pop.new.self.items c.in-Some.body in
    let left : c.len-in-Some.result ≡ length (reverse (map body_of c.pop.new.self.items)) =
    omega (arith, bodies_long c.pop.new.self.items) in
    let here : c.len.result ≡ length xs = omega arith in
    record {
      cases = body_pushed (map case_of xs) (map case_of ys) _ (bodies_of c.loop-body.self)
          _ b c.len-in-Some.result c.args.base c.loop-body.self.last first left c.loop-body.invariant.cases
          c.in_ok-push_cases.ensures;
      skipped = skipped_pushed c.loop-body.skipped.items c.push.new.self.items _ (bodies_of c.loop-body.self)
          _ b (length xs) (length ys) first c.loop-body.invariant.skipped
          (c.in_ok-push.ensures.items ∙
          ap (λ k. c.loop-body.skipped.items ++ k ∷ []) here)
          (cases_counted xs ys b.roots _ _ _ c.in_ok-push_cases.ensures);
      last = c.loop-body.invariant.last;
    }
