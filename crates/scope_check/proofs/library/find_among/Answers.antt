use Rattle.std.proofs.Common.{refl}
use Rattle.std.specs.Borrow.{Bor}
use Rattle.std.specs.List.{list_any}
use Rattle.str_syntax.specs.declared.strategy.DefinitionHead.{DefinitionHead}
use Rattle.str_syntax.specs.Views.{head_of}
use Rattle.scope_check.specs.Complaint.{clash}
use Rattle.scope_check.specs.Found.{found_if}
use Rattle.scope_check.specs.Seen.{among, key_of}
use Rattle.scope_check.specs.Tables.{heads_of}
use Rattle.scope_check.proofs.WalkLaws.{one_more_found, all_found}
use Rattle.scope_check.proofs.library.find_among.Goals as goal

pub loop-head-preserved : goal.loop-head-preserved
loop-head-preserved c =
    one_more_found (λ (h : Bor DefinitionHead). found_if clash (among c.args.keys.now (key_of (head_of h.now))))
    (λ hs. found_if clash (list_any (λ h. among c.args.keys.now (key_of h)) (heads_of hs)))
    (λ h hs. refl) c.args.heads.now c.loop-head.head-index c.head-item.result c.loop-head.findings _ _
    c.loop-head-test.true c.head-item.is c.find_redefinition.ensures c.loop-head.invariant

pub returns : goal.returns
returns c =
    all_found (λ (h : Bor DefinitionHead). found_if clash (among c.args.keys.now (key_of (head_of h.now))))
    (λ hs. found_if clash (list_any (λ h. among c.args.keys.now (key_of h)) (heads_of hs)))
    refl c.args.heads.now c.loop-head.head-index c.loop-head.findings _ c.loop-head-test.false c.loop-head.invariant
