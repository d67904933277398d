use Rattle.std.proofs.Common.{◌≡◌, ◌+◌, ◌<◌, ◌≤◌, inl, length, Err}
use Rattle.term_model.specs.declared.fault.Fault.{Fault}
use Rattle.term_model.specs.declared.fault.Fault.TheVariants.{DefsTooLong}
use Rattle.str_pipeline.specs.Search.{term_of}
use Rattle.str_pipeline.specs.Judged.{AreRefused}
use Rattle.str_pipeline.specs.Limits.{max_definitions}
use Rattle.str_pipeline.specs.Setting.{Setting, setting_of}
use Rattle.str_pipeline.specs.Steps.{IsTextResult}
use Rattle.str_pipeline.proofs.AfterLaws.{both_after, for_each_after, of_split_after, then_after}
use Rattle.str_pipeline.proofs.WrittenLaws.{for_each_told, passed, reading_result}
use Rattle.str_pipeline.proofs.pipeline.outcome_joined.Goals as goal

pub returns-clause-result : goal.returns-clause-result
returns-clause-result g c =
    let S : Setting = setting_of g.M.PrimMeaning.answer c.args.registry.now c.args.options.now in
    of_split_after (g.L.Source.reader.coming c.args.libraries.now)
    (g.S.Source.reader.coming c.args.input.now)
    (g.S.Source.reader.coming c.read_definitions.new.input)
    c.in-Some.found.text.items (term_of c.in-Some.found.front) (λ d t. IsTextResult d t S c.outcome_after.result)
    (rw c.in-Some.is at c.in_ok-found.ensures.split) c.outcome_after.ensures.result

pub returns-in_default-clause-result : goal.returns-in_default-clause-result
returns-in_default-clause-result g c =
    let S : Setting = setting_of g.M.PrimMeaning.answer c.args.registry.now c.args.options.now in
    then_after (g.L.Source.reader.coming c.args.libraries.now)
    (g.S.Source.reader.coming c.args.input.now)
    (λ d t. max_definitions < length d) (λ d t. IsTextResult d t S (Err DefsTooLong))
    (rw c.in_default.is at c.in_ok-found.ensures.split) (λ d t long. inl long)

pub returns-in_err-found-clause-result : goal.returns-in_err-found-clause-result
returns-in_err-found-clause-result g c =
    let S : Setting = setting_of g.M.PrimMeaning.answer c.args.registry.now c.args.options.now in
    rw (passed c.from_residual.result c.in_err-found.field-0.0
    c.from_residual.ensures.1)
    (for_each_after (g.L.Source.reader.coming c.args.libraries.now)
    (g.S.Source.reader.coming c.args.input.now) (λ d t. IsTextResult d t S (Err c.in_err-found.field-0.0))
    (λ d t. reading_result d t S c.in_err-found.field-0.0 c.in_err-found.ensures.kinds))

pub returns-in_err-found-clause-unread_told : goal.returns-in_err-found-clause-unread_told
returns-in_err-found-clause-unread_told g c =
    let S : Setting = setting_of g.M.PrimMeaning.answer c.args.registry.now c.args.options.now in
    for_each_after (g.L.Source.reader.coming c.args.libraries.now)
    (g.S.Source.reader.coming c.args.input.now)
    (λ d t. (fault : Fault) → AreRefused S d fault → g.S.Source.reader.reads c.read_definitions.new.input ≤
    g.S.Source.reader.reads c.args.input.now + max_definitions + 7)
    (λ d t fault refused. c.read_definitions.ensures.bounded)

pub returns-in_err-found-clause-judged_first : goal.returns-in_err-found-clause-judged_first
returns-in_err-found-clause-judged_first g c =
    let S : Setting = setting_of g.M.PrimMeaning.answer c.args.registry.now c.args.options.now in
    then_after (g.L.Source.reader.coming c.args.libraries.now)
    (g.S.Source.reader.coming c.args.input.now)
    (λ d t. g.S.Source.reader.reads c.read_definitions.new.input ≤
    g.S.Source.reader.reads c.args.input.now + length d + 8)
    (λ d t. (fault : Fault) → AreRefused S d fault → g.S.Source.reader.reads c.read_definitions.new.input ≤
    g.S.Source.reader.reads c.args.input.now + length d + 8)
    c.read_definitions.ensures.early (λ d t early fault refused. early)

pub returns-in_default-clause-unread_told : goal.returns-in_default-clause-unread_told
returns-in_default-clause-unread_told g c =
    let S : Setting = setting_of g.M.PrimMeaning.answer c.args.registry.now c.args.options.now in
    for_each_after (g.L.Source.reader.coming c.args.libraries.now)
    (g.S.Source.reader.coming c.args.input.now)
    (λ d t. (fault : Fault) → AreRefused S d fault → g.S.Source.reader.reads c.read_definitions.new.input ≤
    g.S.Source.reader.reads c.args.input.now + max_definitions + 7)
    (λ d t fault refused. c.read_definitions.ensures.bounded)

pub returns-in_default-clause-judged_first : goal.returns-in_default-clause-judged_first
returns-in_default-clause-judged_first g c =
    let S : Setting = setting_of g.M.PrimMeaning.answer c.args.registry.now c.args.options.now in
    then_after (g.L.Source.reader.coming c.args.libraries.now)
    (g.S.Source.reader.coming c.args.input.now)
    (λ d t. g.S.Source.reader.reads c.read_definitions.new.input ≤
    g.S.Source.reader.reads c.args.input.now + length d + 8)
    (λ d t. (fault : Fault) → AreRefused S d fault → g.S.Source.reader.reads c.read_definitions.new.input ≤
    g.S.Source.reader.reads c.args.input.now + length d + 8)
    c.read_definitions.ensures.early (λ d t early fault refused. early)

pub returns-clause-unread_told : goal.returns-clause-unread_told
returns-clause-unread_told g c =
    let S : Setting = setting_of g.M.PrimMeaning.answer c.args.registry.now c.args.options.now in
    of_split_after (g.L.Source.reader.coming c.args.libraries.now)
    (g.S.Source.reader.coming c.args.input.now)
    (g.S.Source.reader.coming c.read_definitions.new.input)
    c.in-Some.found.text.items (term_of c.in-Some.found.front)
    (λ d t. (fault : Fault) → AreRefused S d fault → g.S.Source.reader.reads c.outcome_after.new.input ≤
    g.S.Source.reader.reads c.args.input.now + max_definitions + 7)
    (rw c.in-Some.is at c.in_ok-found.ensures.split)
    (for_each_told (g.S.Source.reader.coming c.read_definitions.new.input) (λ left. (fault : Fault) →
    AreRefused S c.in-Some.found.text.items fault →
    g.S.Source.reader.reads c.outcome_after.new.input ≤
    g.S.Source.reader.reads c.args.input.now + max_definitions + 7)
    (λ left fault refused. rw (c.outcome_after.ensures.unread_told fault refused) c.read_definitions.ensures.bounded))

pub returns-clause-judged_first : goal.returns-clause-judged_first
returns-clause-judged_first g c =
    let S : Setting = setting_of g.M.PrimMeaning.answer c.args.registry.now c.args.options.now in
    both_after (g.L.Source.reader.coming c.args.libraries.now)
    (g.S.Source.reader.coming c.args.input.now)
    (λ d t. g.S.Source.reader.reads c.read_definitions.new.input ≤
    g.S.Source.reader.reads c.args.input.now + length d + 8)
    (λ d t. (fault : Fault) → AreRefused S d fault → c.outcome_after.new.input ≡ c.read_definitions.new.input)
    (λ d t. (fault : Fault) → AreRefused S d fault → g.S.Source.reader.reads c.outcome_after.new.input ≤
    g.S.Source.reader.reads c.args.input.now + length d + 8)
    c.read_definitions.ensures.early
    (of_split_after (g.L.Source.reader.coming c.args.libraries.now)
    (g.S.Source.reader.coming c.args.input.now)
    (g.S.Source.reader.coming c.read_definitions.new.input) c.in-Some.found.text.items (term_of c.in-Some.found.front)
    (λ d t. (fault : Fault) → AreRefused S d fault → c.outcome_after.new.input ≡ c.read_definitions.new.input)
    (rw c.in-Some.is at c.in_ok-found.ensures.split)
    (for_each_told (g.S.Source.reader.coming c.read_definitions.new.input) (λ left. (fault : Fault) →
    AreRefused S c.in-Some.found.text.items fault →
    c.outcome_after.new.input ≡ c.read_definitions.new.input) (λ left. c.outcome_after.ensures.unread_told)))
    (λ d t early unread fault refused. rw (unread fault refused) early)
