use Rattle.std.proofs.Common.{◌≡◌, ◌∙◌, None, Some, ap, length, refl, sym}
use Rattle.std.specs.List.{slice_get}
use Rattle.std.proofs.lemmas.Option.{slice_get_past, slice_get_read}
use Rattle.str_desugar.specs.Heads.{read_head}
use Rattle.str_desugar.proofs.ReadHeadLaws.{group_first}
use Rattle.str_desugar.proofs.alternatives.Groups.first_of.Goals as goal

pub returns-in-Some : goal.returns-in-Some
returns-in-Some c =
    let grouped = rw c.self.view_is at c.self.invariant in
    let firsts = c.self.inside.firsts.items in
    let n = c.number_of.result in
    let found : Some c.in-Some.first.now ≡ slice_get firsts n =
    sym (slice_get_read c.deref.result.now (length c.deref.result.now) n c.in-Some.first.now refl
    c.in-Some.ensures.lookup.3.0 c.in-Some.ensures.lookup.1) ∙ ap (λ l. slice_get l n) c.deref.ensures.value in
    group_first c.args.self.now firsts c.self.inside.keys.value grouped (read_head c.args.head.now)
    n (Some c.in-Some.first.now) c.number_of.ensures found

pub returns-in-None : goal.returns-in-None
returns-in-None c =
    let grouped = rw c.self.view_is at c.self.invariant in
    let firsts = c.self.inside.firsts.items in
    let n = c.number_of.result in
    let found : None ≡ slice_get firsts n =
    sym (slice_get_past c.deref.result.now n c.in-None.ensures.lookup.3) ∙
    ap (λ l. slice_get l n) c.deref.ensures.value in
    group_first c.args.self.now firsts c.self.inside.keys.value grouped (read_head c.args.head.now)
    n None c.number_of.ensures found
