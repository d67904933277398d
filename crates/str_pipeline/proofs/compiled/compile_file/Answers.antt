-- What the steps return says what the bytes are; the names of the registry make its setting.
use Rattle.std.proofs.Common.{Ok, Err}
use Rattle.std.proofs.lemmas.Result.{err_from_is_err_and}
use Rattle.core_lang.specs.Core.{program_of}
use Rattle.prim_registry.specs.Entries.{entries_of}
use Rattle.str_syntax.specs.Views.{file_of}
use Rattle.str_pipeline.specs.Setting.{setting_with}
use Rattle.str_pipeline.proofs.KnownLaws.{covered, known, compiled_alike}
use Rattle.str_pipeline.proofs.ProgramLaws.{no_tokens, no_file, not_passed, passed_file, same_program}
use Rattle.str_pipeline.proofs.compiled.compile_file.Goals as goal

pub returns-in_err-tokens-clause-program : goal.returns-in_err-tokens-clause-program
returns-in_err-tokens-clause-program g c =
    let p = err_from_is_err_and c.from_residual-in_err-tokens.result c.from_residual-in_err-tokens.ensures.1 in
    rw (p.1, p.2) (no_tokens _ _ _ c.in_err-tokens.ensures.exact)

pub returns-in_err-file-clause-program : goal.returns-in_err-file-clause-program
returns-in_err-file-clause-program g c =
    let p = err_from_is_err_and c.from_residual-in_err-file.result c.from_residual-in_err-file.ensures.1 in
    rw (p.1, p.2)
    (no_file _ _ c.in_ok-tokens.tokens _ c.in_ok-tokens.ensures.exact
    (rw c.deref.ensures.value at c.in_err-file.ensures))

pub returns-in_err-checked-clause-program : goal.returns-in_err-checked-clause-program
returns-in_err-checked-clause-program g c =
    let M = g.M.PrimMeaning.answer in
    let p = err_from_is_err_and c.from_residual-in_err-checked.result c.from_residual-in_err-checked.ensures.1 in
    rw (p.1, p.2)
    (compiled_alike c.in_ok-primitives.primitives (entries_of c.args.registry.now) c.in_ok-primitives.ensures
    M c.args.options.now c.args.definitions.now (Err c.in_err-checked.field-0.0)
    (not_passed (setting_with M c.in_ok-primitives.primitives c.args.options.now)
    c.args.definitions.now c.in_ok-tokens.tokens c.in_ok-file.file c.in_ok-file-2.file
    c.in_err-checked.field-0.0 c.in_ok-tokens.ensures.exact (rw c.deref.ensures.value at c.in_ok-file.ensures)
    c.in_ok-file-2.ensures (rw c.deref-2.ensures.value at c.in_err-checked.ensures.fault)))

pub returns-clause-program : goal.returns-clause-program
returns-clause-program g c =
    let M = g.M.PrimMeaning.answer in
    let S = setting_with M c.in_ok-primitives.primitives c.args.options.now in
    let good = passed_file S c.args.definitions.now c.in_ok-tokens.tokens c.in_ok-file.file c.in_ok-file-2.file
    c.in_ok-tokens.ensures.exact
    (rw c.deref.ensures.value at c.in_ok-file.ensures)
    c.in_ok-file-2.ensures (rw c.deref-2.ensures.value at c.in_ok-checked.ensures.faultless) in
    let resolved = same_program c.in_ok-checked.checked.file c.in_ok-file-2.file c.in_ok-checked.checked.main
    c.args.options.now.main.items c.in_ok-core.core
    c.in_ok-checked.ensures.file (rw c.deref-2.ensures.value at c.in_ok-checked.ensures.main) c.in_ok-core.ensures in
    compiled_alike c.in_ok-primitives.primitives (entries_of c.args.registry.now) c.in_ok-primitives.ensures
    M c.args.options.now c.args.definitions.now
    (Ok (record { checked = c.in_ok-checked.checked; code = c.in_ok-code.code })) (
      file_of c.in_ok-file-2.file,
      good,
      record {
        declared = c.in_ok-checked.ensures.checked.declared;
        code = record {
          core = program_of c.in_ok-core.core;
          main = c.in_ok-core.core.main;
          stands = c.in_ok-code.ensures.stands;
          occurring = rw c.in_ok-code.ensures.prims c.prims.ensures.occurring;
          resolved = resolved;
        };
      },
    )

pub returns-clause-covers : goal.returns-clause-covers
returns-clause-covers g c =
    let names = c.in_ok-primitives.primitives in
    let resolved = same_program c.in_ok-checked.checked.file c.in_ok-file-2.file c.in_ok-checked.checked.main
    c.args.options.now.main.items c.in_ok-core.core
    c.in_ok-checked.ensures.file (rw c.deref-2.ensures.value at c.in_ok-checked.ensures.main) c.in_ok-core.ensures in
    covered c.in_ok-code.code.prims names (entries_of c.args.registry.now) c.in_ok-primitives.ensures
    (rw c.in_ok-code.ensures.prims
    (known names (file_of c.in_ok-file-2.file) c.args.options.now.main.items c.in_ok-core.core
    (rw c.deref-2.ensures.value at c.in_ok-checked.ensures.faultless) resolved c.prims.ensures.occurring))
