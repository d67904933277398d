use Rattle.std.proofs.Common.{◌≡◌, subst, arith}
use Rattle.term_model.specs.NameSet.{IsInserted}
use Rattle.prim_registry.specs.Entries.{entry_of}
use Rattle.prim_registry.proofs.NameLaws.{one_more_name, all_names}
use Rattle.prim_registry.proofs.registry.Registry.names.Goals as goal

pub loop-primitive-preserved : goal.loop-primitive-preserved
loop-primitive-preserved g c =
    let key : (c.name.result.now, c.arity.result) ≡ entry_of c.primitive-item.result =
    λ i. (c.name.ensures i, c.arity.ensures i) in
    one_more_name entry_of c.deref-primitive-items.result.now c.loop-primitive.primitive-index c.primitive-item.result
    c.loop-primitive.names c.insert.new.self (omega arith) c.primitive-item.is c.loop-primitive.invariant
    (subst (λ k. IsInserted c.loop-primitive.names k c.insert.new.self) key c.in_ok-insert.ensures.inserted)

pub returns : goal.returns
returns g c = all_names entry_of c.deref-primitive-items.result.now c.args.self.now.primitives.items
    c.loop-primitive.primitive-index c.loop-primitive.names (omega arith)
    c.deref-primitive-items.ensures.value c.loop-primitive.invariant
