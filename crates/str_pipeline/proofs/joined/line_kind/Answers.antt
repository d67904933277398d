use Rattle.std.proofs.Common.{sym, ◌∙◌}
use Rattle.str_pipeline.proofs.CutLemmas.{other_kind}
use Rattle.str_pipeline.proofs.joined.line_kind.Goals as goal

pub returns : goal.returns
returns c = other_kind c.args.text.now c.args.is_end c.if-is_end.false
    (sym c.starts_with.ensures.value ∙ c.if-starts_with.false)
    (sym c.starts_with-2.ensures.value ∙ c.if-starts_with-2.false)
    (sym c.starts_with-3.ensures.value ∙ c.if-starts_with-3.false)
    (sym c.starts_with-else-starts_with-3.ensures.value ∙ c.if-starts_with-4.false)
