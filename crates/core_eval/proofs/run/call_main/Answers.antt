use Rattle.std.proofs.Common.{◌∙◌, ap}
use Rattle.core_lang.specs.Core.{program_of}
use Rattle.core_lang.specs.Environment.{definitions}
use Rattle.core_lang.specs.Program.{call, no_strategies, no_patterns}
use Rattle.core_lang.specs.Resolved.{here}
use Rattle.core_lang.specs.Views.{definitions_of, strategies_of, patterns_of}
use Rattle.core_lang.proofs.ReadLaws.{reads_call}
use Rattle.prim_registry.specs.Entries.{entries_of}
use Rattle.core_eval.proofs.RegisteredLaws.{run_covered}
use Rattle.core_eval.proofs.EvalLaws.{moved_to}
use Rattle.core_eval.proofs.FrameLaws.{reads_definitions, reads_outermost}
use Rattle.core_eval.proofs.run.call_main.Goals as goal

pub returns-clause-outcome : goal.returns-clause-outcome
returns-clause-outcome g c =
    let core = c.args.core.now in
    let program = program_of core in
    let x = here c.main.result in
    run_covered (entries_of c.args.registry.now)
    core.prims g.M.PrimMeaning.answer program core.main c.in_ok-outcome.outcome c.defs.ensures.occurring
    c.requires.covers (
      _,
      moved_to
          (reads_definitions _ _ ∙
          (ap (λ ds. definitions (definitions_of ds) _) c.defs.ensures.same ∙
          ap (λ V. definitions program V) reads_outermost))
          (reads_call _ _ _ ∙ (ap (λ y. call y (strategies_of c.new.result.items) (patterns_of c.new-2.result.items))
          c.new-target.ensures ∙
          (ap (λ ss. call x (strategies_of ss) (patterns_of c.new-2.result.items)) c.new.ensures.items ∙
          (ap (λ ps. call x no_strategies (patterns_of ps)) c.new-2.ensures.items ∙
          ap (λ i. call (here i) no_strategies no_patterns) c.main.ensures))))
          c.requires.places c.in_ok-outcome.ensures,
    )
