use Rattle.std.proofs.Common.{sym, ◌∙◌, ap, ap₂}
use Rattle.core_lang.specs.Views.{def_of}
use Rattle.core_lang.proofs.ReadLaws.{reads_def}
use Rattle.strat_code.specs.Code as code
use Rattle.strat_compile.specs.Sites.{room_for}
use Rattle.strat_compile.proofs.LayerLaws.{entry_within, entry_past}
use Rattle.strat_compile.proofs.callee.entry_at.Goals as goal

pub returns-in_ok-label-in-Some : goal.returns-in_ok-label-in-Some
returns-in_ok-label-in-Some c =
    let here = c.in-Some.ensures.lookup in
    ap₂ (λ a b. code.entry_at a b) c.in_ok-label-in-Some.ensures (c.room_of-room.ensures ∙
    ap room_for (sym (ap (λ d. d.body) (reads_def c.in-Some.def.now))) ∙
    ap (λ d. room_for (def_of d).body) here.1) ∙
    sym (entry_within c.args.defs.now c.args.first_label c.args.position c.in-Some.def.now here.3.0)

pub returns-in-None : goal.returns-in-None
returns-in-None c = sym (entry_past c.args.defs.now c.args.first_label c.args.position c.in-None.ensures.lookup.3)
