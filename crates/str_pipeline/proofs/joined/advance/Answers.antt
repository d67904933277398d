use Rattle.std.proofs.Common.{◌≢◌, ◌<◌, ℕ, length, drop, get_or, arith}
use Rattle.std.proofs.lemmas.List.{take_rest}
use Rattle.str_pipeline.specs.Search.{IsSearched, IsKind}
use Rattle.str_pipeline.specs.declared.joined.LineKind.TheVariants.{Term, Other}
use Rattle.str_pipeline.specs.declared.joined.Search.TheVariants.{AtLine, InLine}
use Rattle.str_pipeline.proofs.CutLemmas.{found_line, clear_other, clear_to_end, next_line, searched_at}
use Rattle.str_pipeline.proofs.joined.advance.Goals as goal

pub loop-search-init : goal.loop-search-init
loop-search-init c = searched_at c.args.is_end c.args.known.now c.args.search c.requires

pub returns-in-Term : goal.returns-in-Term
returns-in-Term c =
    let so_far : IsSearched c.args.is_end c.args.known.now (AtLine c.in-AtLine.start) =
    rw c.in-AtLine.is at c.loop-search.invariant in
    let kind : IsKind c.args.is_end (drop c.in-AtLine.start c.args.known.now) (Term c.in-Term.length) =
    rw take_rest at c.in-Term.ensures in
    (omega arith, found_line c.args.is_end c.args.known.now c.in-AtLine.start c.in-Term.length so_far kind)

pub loop-search-preserved-in-Other : goal.loop-search-preserved-in-Other
loop-search-preserved-in-Other c =
    let so_far : IsSearched c.args.is_end c.args.known.now (AtLine c.in-AtLine.start) =
    rw c.in-AtLine.is at c.loop-search.invariant in
    let kind : IsKind c.args.is_end (drop c.in-AtLine.start c.args.known.now) Other =
    rw take_rest at c.in-Other.ensures in
    (so_far.0, clear_other c.args.is_end c.args.known.now c.in-AtLine.start so_far.0 so_far.2 kind)

pub loop-search-preserved : goal.loop-search-preserved
loop-search-preserved c =
    let so_far : IsSearched c.args.is_end c.args.known.now (InLine c.in-InLine.place) =
    rw c.in-InLine.is at c.loop-search.invariant in
    let found = rw take_rest at c.in-Some.ensures in
    next_line c.args.is_end c.args.known.now c.in-InLine.place c.in-Some.count so_far found.0 found.1 found.2

pub without_line-requires : goal.without_line-requires
without_line-requires c =
    let so_far : IsSearched c.args.is_end c.args.known.now (InLine c.in-InLine.place) =
    rw c.in-InLine.is at c.loop-search.invariant in
    let none : (k : ℕ) → k < length (drop c.in-InLine.place c.args.known.now) →
    get_or (drop c.in-InLine.place c.args.known.now) k 0 ≢ 10 =
    rw take_rest at c.in_default.ensures in
    clear_to_end c.args.is_end c.args.known.now c.in-InLine.place so_far none
