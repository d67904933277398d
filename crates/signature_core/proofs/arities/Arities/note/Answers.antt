use Rattle.std.proofs.Common.{◌∙◌, sym}
use Rattle.std.proofs.lemmas.Result.{on_ok_weaker, on_err_weaker}
use Rattle.signature_core.proofs.ArityLaws.{noted_there, noted_new, set_value-unchanged}
use Rattle.signature_core.proofs.arities.Arities.note.Goals as goal

-- src/arities.rt:97:13
pub returns-in-Some-clause-noted : goal.returns-in-Some-clause-noted
returns-in-Some-clause-noted c =
    on_ok_weaker c.add.result
    (noted_there c.args.self.now.by_name (c.get_mut.follows.lender c.add.new.self)
    c.args.name.now c.args.number c.in-Some.numbers.now c.add.new.self (sym c.in-Some.ensures.value)
    (c.get_mut.follows.holds c.add.new.self).0)
    c.add.ensures.added

-- src/arities.rt:97:13
pub returns-in-Some-clause-unchanged : goal.returns-in-Some-clause-unchanged
returns-in-Some-clause-unchanged c =
    on_err_weaker c.add.result
    (λ same. (c.get_mut.follows.holds c.add.new.self).0 ∙
    set_value-unchanged _ _ c.add.new.self c.in-Some.numbers.now (sym c.in-Some.ensures.value) same)
    c.add.ensures.unchanged

-- src/arities.rt:91:5
pub returns-clause-noted : goal.returns-clause-noted
returns-clause-noted c =
    noted_new c.args.self.now.by_name c.get_mut.follows.lender-at-none c.insert.new.self c.args.name.now c.in_ok-key.key
    c.args.number c.new-numbers.result c.in_ok-key.ensures.items c.new-numbers.ensures
    (sym c.in_default.ensures.value) c.get_mut.follows.holds-at-none c.in_ok-insert.ensures.entries
