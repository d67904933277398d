use Rattle.std.proofs.Common.{◌∷◌, [], List, map, drop, ◌+◌, ap, subst, ◌∙◌, sym, drop_of_length-le}
use Rattle.std.proofs.lemmas.List.{map-append}
use Rattle.core_lang.specs.Program.{list}
use Rattle.core_lang.specs.Views as views
use Rattle.core_lang.proofs.ReadLaws as core_reads
use Rattle.str_syntax.proofs.ReadLaws as reads
use Rattle.str_syntax.specs.Trees.{PatternTrees}
use Rattle.str_syntax.specs.Views.{pattern_of, patterns_of, optional_pattern_of}
use Rattle.str_desugar.specs.Equations.{matched, matched_parts, matched_rest}
use Rattle.str_desugar.specs.Frames.{pattern_at}
use Rattle.str_desugar.specs.Layers.{layers_of}
use Rattle.str_desugar.proofs.PatternLaws.{Matches, one_more_match, no_more_match, next_pattern, elements_made, rest_matched}
use Rattle.str_desugar.proofs.match_patterns.+match_patterns.Goals as goal

pub core_of_match-returns-in_ok-rest-in-List : goal.core_of_match-returns-in_ok-rest-in-List
core_of_match-returns-in_ok-rest-in-List t c =
    let F = layers_of c.args.scopes.now in
    let ps = patterns_of c.in-List.elements.items in
    let o = optional_pattern_of c.in-List.rest in
    let elements = rw c.deref-in-List.ensures.value at c.in_ok-elements-in-List.ensures in
    let rest = ap (λ r. views.elements_in [] r) c.in_ok-rest-in-List.ensures ∙ rest_matched F o in
    core_reads.reads_list c.in_ok-elements-in-List.elements c.in_ok-rest-in-List.rest ∙
    ap (λ es. list es) (elements_made F _ _ (matched_parts ps) (matched_rest o) elements rest) ∙
    sym (ap (λ p. pattern_at F (matched p)) (ap pattern_of c.in-List.is ∙
    reads.reads_list c.in-List.elements c.in-List.rest))

pub matched_parts-loop-source-preserved : goal.matched_parts-loop-source-preserved
matched_parts-loop-source-preserved t c =
    let sources = c.args.sources.now in
    let F = layers_of c.args.scopes.now in
    let next = next_pattern sources c.loop-source.source-index c.source-item.result c.loop-source-test.true
    c.source-item.is in
    let P : PatternTrees → Type 0 =
    λ rest. Matches F (patterns_of sources) (map views.pattern_of c.loop-source.made.items) rest in
    let made = ap (λ ps. map views.pattern_of ps) c.in_ok-push.ensures.items ∙
    map-append views.pattern_of c.loop-source.made.items (c.in_ok-part.part ∷ []) in
    let Q : List _ → Type 0 = λ ps. Matches F (patterns_of sources)
    ps (patterns_of (drop (c.loop-source.source-index + 1) sources)) in
    subst Q (sym made) (one_more_match _ _ _ _ _ _ (subst P next c.loop-source.invariant) c.in_ok-part.ensures)

pub matched_parts-returns : goal.matched_parts-returns
matched_parts-returns t c =
    let sources = c.args.sources.now in
    let none = drop_of_length-le sources c.loop-source-test.false in
    let P : List _ → Type 0 = λ rest. Matches (layers_of c.args.scopes.now) (patterns_of sources)
    (map views.pattern_of c.loop-source.made.items) (patterns_of rest) in
    no_more_match _ _ _ (subst P none c.loop-source.invariant)
