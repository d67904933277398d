use Rattle.std.proofs.Common.{◌∙◌, sym, ap, arith, Some}
use Rattle.std.specs.Prelude.{slice_set}
use Rattle.core_eval.proofs.MatchingLaws.{bound_before}
use Rattle.core_lang.proofs.PutLaws.{put_past, put_free}
use Rattle.core_eval.proofs.matching.bind.Goals as goal

pub returns-then-at-len : goal.returns-then-at-len
returns-then-at-len c = put_past c.args.at c.args.t.now c.args.places.now.items (omega (arith, c.args.places.now.ok.0))

pub returns-in-Some : goal.returns-in-Some
returns-in-Some c =
    bound_before c.args.at c.args.t.now c.in-Some.held c.args.places.now.items c.index.result.now c.eq.result
    (omega (arith, c.args.places.now.ok.0)) c.index.ensures c.in-Some.is c.eq.ensures

pub returns : goal.returns
returns c =
    put_free c.args.at c.args.t.now c.args.places.now.items c.index.result.now (omega (arith, c.args.places.now.ok.0))
    c.index.ensures c.in_default.is ∙
    ap (λ u. Some (slice_set c.args.places.now.items c.args.at (Some u))) (sym c.in_ok-clone.ensures.cases)
