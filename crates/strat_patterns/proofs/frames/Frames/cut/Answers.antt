use Rattle.std.proofs.Common.{◌<◌, length, ◌∙◌, ap, take, arith}
use Rattle.strat_patterns.proofs.FrameLaws.{cut_laid, cut_frames}
use Rattle.strat_patterns.proofs.frames.Frames.cut.Goals as goal

pub invariant_of-self : goal.invariant_of-self
invariant_of-self c =
    let k = c.len.ensures in let l = c.if-count-len.false in
    let h : c.args.count < length c.self.inside.frames.items = omega arith in
    cut_laid _ _ _ _ c.args.count _ c.self.invariant h c.index-frame.ensures c.truncate.ensures.items
    c.truncate-2.ensures.items

pub returns : goal.returns
returns c =
    let k = c.len.ensures in let l = c.if-count-len.false in
    let h : c.args.count < length c.self.inside.frames.items = omega arith in
    cut_frames _ _ _ _ c.args.count _ c.self.invariant h c.index-frame.ensures c.truncate.ensures.items
    c.truncate-2.ensures.items
    ∙ ap (take c.args.count) c.self.view_is
