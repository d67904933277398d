use Rattle.std.proofs.Common.{map, sym, ◌∙◌, ap, ap₂}
use Rattle.std.proofs.lemmas.List.{take_all}
use Rattle.core_lang.specs.Program.{list}
use Rattle.core_lang.specs.Views.{elements_in, pattern_of, patterns_in}
use Rattle.core_lang.proofs.ReadLaws.{reads_list}
use Rattle.strat_code.specs.Context.{by_frames}
use Rattle.strat_code.specs.Renamed.{renamed}
use Rattle.strat_compile.specs.Layers.{context_of}
use Rattle.strat_compile.proofs.RenamedLaws.{renamed_in, renamed_elements}
use Rattle.strat_compile.proofs.patterns.+patterns.Goals as goal

pub by_frames_pattern-returns-in_ok-optional-in-List : goal.by_frames_pattern-returns-in_ok-optional-in-List
by_frames_pattern-returns-in_ok-optional-in-List t c =
    let C = context_of c.args.layers.now in
    let parts = c.in_ok-elements-in-List.ensures.each ∙
    ap (λ xs. map (renamed (by_frames C)) (map pattern_of xs)) c.deref-in-List.ensures.value in
    reads_list _ _ ∙ ap list (ap₂ (λ ps rest. elements_in ps rest) parts c.in_ok-optional-in-List.ensures ∙
    renamed_elements C _ _) ∙
    sym (ap (λ s. renamed (by_frames C) s) (ap pattern_of c.in-List.is ∙ reads_list c.in-List.elements c.in-List.rest))

pub by_frames_patterns-returns-clause-patterns : goal.by_frames_patterns-returns-clause-patterns
by_frames_patterns-returns-clause-patterns t c =
    let C = context_of c.args.layers.now in
    ap patterns_in (c.loop-p.invariant ∙
    ap (λ xs. map (renamed (by_frames C)) (map pattern_of xs))
    (take_all c.loop-p.p-index c.args.source.now c.loop-p-test.false)) ∙
    renamed_in C (map pattern_of c.args.source.now)
