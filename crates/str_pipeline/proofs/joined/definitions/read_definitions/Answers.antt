use Rattle.std.specs.Prelude.{IfSome, IsSomeAnd}
use Rattle.std.proofs.Common.{◌≡◌, ◌+◌, ◌<◌, ◌≤◌, ◌++◌, List, ℕ, length, arith}
use Rattle.str_pipeline.specs.Joined.{IsSplit, OfJoined}
use Rattle.str_pipeline.specs.Limits.{max_definitions}
use Rattle.str_pipeline.specs.Search.{term_of}
use Rattle.str_pipeline.proofs.AfterLaws.{for_each_after, long_libraries, found_after}
use Rattle.str_pipeline.proofs.WrittenLaws.{of_definitions}
use Rattle.str_pipeline.proofs.joined.definitions.read_definitions.Goals as goal

pub returns-in_default-clause-split : goal.returns-in_default-clause-split
returns-in_default-clause-split g c =
    long_libraries (g.L.Source.reader.coming c.args.libraries.now)
    (g.S.Source.reader.coming c.args.input.now) max_definitions
    (rw c.in_default.is at c.in_ok-text.ensures.whole)

pub returns-in_err-text-clause-early : goal.returns-in_err-text-clause-early
returns-in_err-text-clause-early g c =
    for_each_after (g.L.Source.reader.coming c.args.libraries.now)
    (g.S.Source.reader.coming c.args.input.now)
    (λ d t. g.S.Source.reader.reads c.args.input.now ≤ g.S.Source.reader.reads c.args.input.now + length d + 8)
    (λ d t. omega arith)

pub returns-in_default-clause-early : goal.returns-in_default-clause-early
returns-in_default-clause-early g c =
    for_each_after (g.L.Source.reader.coming c.args.libraries.now)
    (g.S.Source.reader.coming c.args.input.now)
    (λ d t. g.S.Source.reader.reads c.args.input.now ≤ g.S.Source.reader.reads c.args.input.now + length d + 8)
    (λ d t. omega arith)

pub returns-clause-split : goal.returns-clause-split
returns-clause-split g c =
    found_after c.add_definitions.result (g.L.Source.reader.coming c.args.libraries.now) c.in-Some.text.items
    (λ l. OfJoined (g.S.Source.reader.coming c.args.input.now) (λ d t. max_definitions < length (l ++ d)))
    (λ f l. IfSome (g.S.Source.reader.coming c.args.input.now) (λ told.
    IsSomeAnd (g.S.Source.reader.coming c.add_definitions.new.input) (λ more.
    (d : List ℕ) × (f.text.items ≡ l ++ d) × IsSplit told d (term_of f.front more))))
    (rw c.in-Some.is at c.in_ok-text.ensures.whole) c.add_definitions.ensures.split

pub returns-clause-early : goal.returns-clause-early
returns-clause-early g c =
    of_definitions (g.L.Source.reader.coming c.args.libraries.now) c.in-Some.text.items
    (λ l. OfJoined (g.S.Source.reader.coming c.args.input.now)
    (λ d t. g.S.Source.reader.reads c.add_definitions.new.input ≤
    g.S.Source.reader.reads c.args.input.now + length (l ++ d) + 8))
    (rw c.in-Some.is at c.in_ok-text.ensures.whole) c.add_definitions.ensures.early
