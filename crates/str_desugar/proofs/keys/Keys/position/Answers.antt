use Rattle.std.proofs.Common.{◌≡◌, ◌∙◌, false, map, ap, sym}
use Rattle.core_lang.specs.Named.{written}
use Rattle.str_desugar.specs.Frames.{key_position}
use Rattle.str_desugar.specs.Keys.{named_key}
use Rattle.str_desugar.specs.Marks.{is_marked}
use Rattle.str_desugar.proofs.MarkLaws.{unmarked_key}
use Rattle.str_desugar.proofs.keys.Keys.position.Goals as goal

pub returns-then-not-has : goal.returns-then-not-has
returns-then-not-has c =
    let x = c.args.wanted.now in
    let unmarked : is_marked c.self.inside.marks x ≡ false = c.has.ensures c.if-not-has.true in
    sym (unmarked_key c.self.inside.marks x c.args.strategies c.args.terms c.self.inside.table.keys
    c.self.invariant unmarked) ∙
    ap (λ l. key_position (map named_key l) (written x) c.args.strategies c.args.terms) c.self.view_is
