use Rattle.std.proofs.Common.{◌≡◌, ◌∙◌, false, map, ap, sym}
use Rattle.core_lang.specs.Named.{position_of, written}
use Rattle.str_desugar.specs.HeldNames.{held_names}
use Rattle.str_desugar.specs.Marks.{is_marked}
use Rattle.str_desugar.proofs.MarkLaws.{unmarked_name}
use Rattle.str_desugar.proofs.names.Table.position.Goals as goal

pub returns-then-not-has : goal.returns-then-not-has
returns-then-not-has c =
    let x = c.args.wanted.now in
    let unmarked : is_marked c.self.inside.marks x ≡ false = c.has.ensures c.if-not-has.true in
    sym (unmarked_name c.self.inside.marks x (held_names c.self.inside.held) c.self.invariant unmarked) ∙
    ap (λ l. position_of (written x) (map written l)) c.self.view_is
