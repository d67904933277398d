use Rattle.std.proofs.Common.{◌∙◌, ◌||◌, sym, ap}
use Rattle.scope_check.specs.Seen.{among, same_key}
use Rattle.scope_check.proofs.KeyLaws.{there_first, inserted_last}
use Rattle.scope_check.proofs.keys.Keys.add.Goals as goal

pub returns-then-stands_among-clause-added : goal.returns-then-stands_among-clause-added
returns-then-stands_among-clause-added c = λ k.
    let held = sym (ap (λ ks. among ks c.args.key) c.deref.ensures.value) ∙ sym c.stands_among.ensures ∙
    c.if-stands_among.true in
    ap (λ ks. among ks k) (sym c.self.view_is) ∙
    there_first c.self.inside.few.items c.self.inside.table.keys c.args.key k held ∙
    ap (λ ks. among ks k || same_key k c.args.key) c.self.view_is

pub returns-clause-added : goal.returns-clause-added
returns-clause-added c = λ k.
    inserted_last c.self.inside.few.items c.self.inside.table.keys c.insert.new.self.keys c.args.key k
    c.in_ok-insert.ensures.keys ∙
    ap (λ ks. among ks k || same_key k c.args.key) c.self.view_is
