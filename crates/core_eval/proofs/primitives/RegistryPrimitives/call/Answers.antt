use Rattle.std.proofs.Common.{rules, sym, length, Contains}
use Rattle.std.proofs.lemmas.List.{length-map}
use Rattle.prim_registry.specs.Entries.{entries_of}
use Rattle.prim_registry.specs.RegistryNames.{entry_at}
use Rattle.prim_registry.specs.Values.{value_of, values_of}
use Rattle.prim_registry.proofs.RegisteredLaws.{registered_call, registered_none}
use Rattle.core_eval.proofs.primitives.RegistryPrimitives.call.Goals as goal

pub returns-in-Ok : goal.returns-in-Ok
returns-in-Ok g c =
    let keys = entries_of c.args.self.now in
    let there : Contains keys (c.args.name.now, length c.args.args.now) = search rules in
    registered_call keys g.M.PrimMeaning.answer c.args.name.now (values_of c.args.args.now)
    (entry_at c.args.self.now c.in-Some.index) (length c.args.args.now) _
    c.in-Some.ensures.entry (sym (length-map c.args.args.now value_of)) there c.in-Ok.ensures.answer

pub returns-in-None : goal.returns-in-None
returns-in-None g c =
    registered_none (entries_of c.args.self.now) g.M.PrimMeaning.answer c.args.name.now (values_of c.args.args.now)
    (length c.args.args.now)
    (sym (length-map c.args.args.now value_of)) (λ h. let some = c.in-None.ensures.present.1 h in absurd (cc))
