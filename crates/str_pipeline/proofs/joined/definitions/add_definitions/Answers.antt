use Rattle.std.proofs.Common.{refl, arith}
use Rattle.std.proofs.lemmas.Grind.{common_steps}
use Rattle.str_pipeline.specs.Limits.{max_definitions}
use Rattle.str_pipeline.specs.Search.{definitions_of, term_of}
use Rattle.str_pipeline.proofs.AfterLaws.{early_after, long_after, split_after}
use Rattle.str_pipeline.proofs.joined.definitions.add_definitions.Goals as goal

pub returns-clause-split : goal.returns-clause-split
returns-clause-split g c =
    split_after c.args.libraries.items (definitions_of c.in-Some.front) c.extend_from_slice.new.self.items
    (g.S.Source.reader.coming c.args.input.now)
    (g.S.Source.reader.coming c.read_front.new.input)
    (term_of c.in-Some.front) (rw (c.in_ok-extend_from_slice.ensures.items, c.definitions.ensures) refl)
    (rw c.in-Some.is at c.in_ok-front.ensures.split)

pub returns-in_default-clause-split : goal.returns-in_default-clause-split
returns-in_default-clause-split g c =
    long_after c.args.libraries.items
    (g.S.Source.reader.coming c.args.input.now)
    (g.S.Source.reader.coming c.read_front.new.input) _ max_definitions (grind (arith, common_steps))
    (rw c.in_default.is at c.in_ok-front.ensures.split)

pub returns-clause-early : goal.returns-clause-early
returns-clause-early g c =
    early_after c.args.libraries.items
    (g.S.Source.reader.coming c.args.input.now)
    _ _ c.read_front.ensures.early

pub returns-in_default-clause-early : goal.returns-in_default-clause-early
returns-in_default-clause-early g c =
    early_after c.args.libraries.items
    (g.S.Source.reader.coming c.args.input.now)
    _ _ c.read_front.ensures.early

pub returns-in_err-front-clause-early : goal.returns-in_err-front-clause-early
returns-in_err-front-clause-early g c =
    early_after c.args.libraries.items
    (g.S.Source.reader.coming c.args.input.now)
    _ _ c.read_front.ensures.early

pub returns-in_err-extend_from_slice-clause-early : goal.returns-in_err-extend_from_slice-clause-early
returns-in_err-extend_from_slice-clause-early g c =
    early_after c.args.libraries.items
    (g.S.Source.reader.coming c.args.input.now)
    _ _ c.read_front.ensures.early
