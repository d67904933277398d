use Rattle.std.proofs.Common.{◌∙◌, map, subst}
use Rattle.core_lang.specs.Views.{pattern_of}
use Rattle.prim_registry.specs.Entries.{entries_of}
use Rattle.strat_patterns.specs.Loaded.{AreLoaded}
use Rattle.strat_machine.proofs.ActionLaws.{primitive_loaded}
use Rattle.strat_machine.proofs.program.load_action.Goals as goal

pub returns-in_ok-terms-in-CallDefinition-clause-loaded : goal.returns-in_ok-terms-in-CallDefinition-clause-loaded
returns-in_ok-terms-in-CallDefinition-clause-loaded g c =
    let s = g.S.TermSpace.space in
    let w = c.load_patterns.new.space in
    let ps = c.in_ok-terms-in-CallDefinition.terms.items in (
      c.in-CallDefinition.nodes,
      c.in-CallDefinition.arguments,
      c.in-CallDefinition.terms,
      c.in-CallDefinition.is,
      c.in_ok-arguments-in-CallDefinition.ensures.items ∙ c.deref.ensures.value,
      subst (λ xs. AreLoaded (s.knows w) (s.symbol_of w) ps (map pattern_of xs))
          c.deref-in-CallDefinition.ensures.value c.in_ok-terms-in-CallDefinition.ensures.loaded,
    )

pub returns-in_ok-terms-in-ApplyPrimitive-clause-loaded : goal.returns-in_ok-terms-in-ApplyPrimitive-clause-loaded
returns-in_ok-terms-in-ApplyPrimitive-clause-loaded g c =
    let position = c.position-index.ensures in
    primitive_loaded (entries_of c.args.registry.now)
    c.in-ApplyPrimitive.name c.in-ApplyPrimitive.nodes c.in-ApplyPrimitive.terms c.position-index.result
    c.deref-in-ApplyPrimitive.result.now c.len.result c.in_ok-terms-in-ApplyPrimitive.terms
    c.deref-in-ApplyPrimitive-2.result.now c.args.instr.now c.in-ApplyPrimitive.is
    c.deref-in-ApplyPrimitive.ensures.value (c.len.ensures ∙
    c.in-ApplyPrimitive.terms.ok.0)
    c.deref-in-ApplyPrimitive-2.ensures.value position.present position.within position.entry
    c.in_ok-terms-in-ApplyPrimitive.ensures.loaded
