use Rattle.std.proofs.Common.{rules, ◌≡◌, ◌+◌, ◌-◌, length, ◌∷◌, ◌++◌, [], take, drop, arith, sym, ap, ◌∙◌}
use Rattle.std.proofs.lemmas.List.{take_more}
use Rattle.term_store.specs.Entering.{IsPlaced}
use Rattle.term_store.proofs.EnteringLemmas.{puts_more, placed, keeps_on, not_oversize, made_is}
use Rattle.term_store.proofs.store.StoreSpace.+enter.Goals as goal

pub enter_all-loop-term-preserved : goal.enter_all-loop-term-preserved
enter_all-loop-term-preserved t c =
    let stack_is : c.push.new.self.items ≡ c.loop-term.stack.items ++ c.in_ok-place.place ∷ [] =
    c.in_ok-push.ensures.items ∙ ap (λ xs. xs ++ c.in_ok-place.place ∷ []) c.in_ok-place.ensures.stack in
    let terms_are : take (c.loop-term.term-index + 1) c.args.terms.now ≡ take c.loop-term.term-index c.args.terms.now ++
    c.term-item.result ∷ [] = take_more c.args.terms.now c.loop-term.term-index c.term-item.result (omega arith) ∙
    ap (λ x. take c.loop-term.term-index c.args.terms.now ++ x ∷ []) (sym c.term-item.is) in
    record {
      puts = puts_more c.loop-term.self c.enter_term.new.self _ _ _ _ _ _ c.in_ok-place.place c.loop-term.invariant.puts
          c.enter_term.ensures.keeps c.in_ok-place.ensures.stands c.in_ok-place.ensures.term stack_is terms_are;
      keeps = keeps_on c.loop-term.invariant.keeps c.enter_term.ensures.keeps;
    }

pub enter_term-unreachable-requires : goal.enter_term-unreachable-requires
enter_term-unreachable-requires t c =
    let s = c.stored_head.new.self in
    let from = c.args.from.now in
    let is : IsPlaced s from c.in_ok-head.head
    (take (c.len-middle.result - c.len-bottom.result) (drop c.len-bottom.result c.deref.result.now))
    (take (length c.deref-2.result.now - c.len-middle.result) (drop c.len-middle.result c.deref-2.result.now)) =
    placed c.enter_all.new.self c.enter_all-2.new.self s from c.in_ok-head.head c.children.result.now c.annos.result.now
    c.args.stack.now.items c.enter_all.new.stack.items c.enter_all-2.new.stack.items _ _ _ _
    c.in_ok-enter_all.ensures.puts c.in_ok-enter_all-2.ensures.puts
    c.enter_all-2.ensures.keeps c.stored_head.ensures.keeps (c.in_ok-head.ensures.head ∙
    c.head.ensures) c.fits.ensures.is_term c.children.ensures c.annos.ensures (search rules) (search rules)
    c.deref.ensures.value c.deref-2.ensures.value in
    not_oversize c.make_over.new.self _ from c.in_ok-made.made c.in_ok-made.ensures.made is.is c.fits.ensures.fits
    c.in-Oversize.is

pub enter_term-returns-clause-term : goal.enter_term-returns-clause-term
enter_term-returns-clause-term t c =
    let s = c.stored_head.new.self in
    let from = c.args.from.now in
    let is : IsPlaced s from c.in_ok-head.head
    (take (c.len-middle.result - c.len-bottom.result) (drop c.len-bottom.result c.deref.result.now))
    (take (length c.deref-2.result.now - c.len-middle.result) (drop c.len-middle.result c.deref-2.result.now)) =
    placed c.enter_all.new.self c.enter_all-2.new.self s from c.in_ok-head.head c.children.result.now c.annos.result.now
    c.args.stack.now.items c.enter_all.new.stack.items c.enter_all-2.new.stack.items _ _ _ _
    c.in_ok-enter_all.ensures.puts c.in_ok-enter_all-2.ensures.puts
    c.enter_all-2.ensures.keeps c.stored_head.ensures.keeps (c.in_ok-head.ensures.head ∙
    c.head.ensures) c.fits.ensures.is_term c.children.ensures c.annos.ensures (search rules) (search rules)
    c.deref.ensures.value c.deref-2.ensures.value in
    made_is c.make_over.new.self _ from c.in_ok-made.made c.in-Fits.place c.in_ok-made.ensures.made is.is c.in-Fits.is
