use Rattle.std.proofs.Common.{◌∙◌}
use Rattle.term_model.proofs.SpaceLaws.{keeps_then, none_then}
use Rattle.strat_patterns.proofs.LoadedLaws.{applied_is_loaded, list_is_loaded, annotated_is_loaded, is_loaded_later, are_loaded_later, one_more_loaded}
use Rattle.strat_patterns.proofs.loaded.+load.Goals as goal

pub load_pattern-returns-in_ok-parts-in-Applied-clause-loaded :
    goal.load_pattern-returns-in_ok-parts-in-Applied-clause-loaded
load_pattern-returns-in_ok-parts-in-Applied-clause-loaded g t c =
    let keeps = c.in_ok-parts-in-Applied.ensures.keeps in
    let is_known = c.in_ok-name-in-Applied.ensures.known in
    applied_is_loaded c.in_ok-name-in-Applied.name c.in_ok-parts-in-Applied.parts c.in-Applied.symbol c.in-Applied.parts
    c.deref-in-Applied.result.now c.args.pattern.now
    (keeps.known c.in_ok-name-in-Applied.name is_known) (keeps.symbols c.in_ok-name-in-Applied.name is_known ∙
    c.in_ok-name-in-Applied.ensures.symbol)
    c.in_ok-parts-in-Applied.ensures.loaded c.deref-in-Applied.ensures.value c.in-Applied.is

pub load_pattern-returns-in_ok-rest-in-List-clause-loaded : goal.load_pattern-returns-in_ok-rest-in-List-clause-loaded
load_pattern-returns-in_ok-rest-in-List-clause-loaded g t c =
    let keeps = c.in_ok-rest-in-List.ensures.keeps in
    list_is_loaded c.in_ok-elements-in-List.elements c.in_ok-rest-in-List.rest c.in-List.elements c.in-List.rest
    c.deref-in-List.result.now c.args.pattern.now
    (are_loaded_later keeps.known keeps.symbols c.in_ok-elements-in-List.ensures.loaded)
    c.in_ok-rest-in-List.ensures.loaded c.deref-in-List.ensures.value c.in-List.is

pub load_pattern-returns-in_ok-annotations-in-Annotated-clause-loaded :
    goal.load_pattern-returns-in_ok-annotations-in-Annotated-clause-loaded
load_pattern-returns-in_ok-annotations-in-Annotated-clause-loaded g t c =
    let keeps = c.in_ok-annotations-in-Annotated.ensures.keeps in
    annotated_is_loaded c.in_ok-part-in-Annotated.part c.in_ok-annotations-in-Annotated.annotations c.in-Annotated.part
    c.in-Annotated.annotations c.deref-in-Annotated.result.now c.deref-in-Annotated-2.result.now c.args.pattern.now
    (is_loaded_later keeps.known keeps.symbols c.in_ok-part-in-Annotated.ensures.loaded)
    c.in_ok-annotations-in-Annotated.ensures.loaded c.deref-in-Annotated.ensures
    c.deref-in-Annotated-2.ensures.value c.in-Annotated.is

pub load_patterns-loop-p-preserved : goal.load_patterns-loop-p-preserved
load_patterns-loop-p-preserved g t c =
    let keeps = c.in_ok-load_pattern.ensures.keeps in
    let so_far = c.loop-p.invariant in (
      keeps_then so_far.0 keeps,
      none_then so_far.1 c.in_ok-load_pattern.ensures.none,
      one_more_loaded c.loop-p.loaded.items c.push.new.self.items c.in_ok-load_pattern.field-0 c.args.patterns.now
          c.loop-p.p-index c.p-item.result (are_loaded_later keeps.known keeps.symbols so_far.2)
          c.in_ok-load_pattern.ensures.loaded c.loop-p-test.true c.p-item.is c.in_ok-push.ensures.items,
    )
