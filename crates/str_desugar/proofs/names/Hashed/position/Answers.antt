use Rattle.std.proofs.Common.{◌∙◌, ◌+◌, Some, None, position, ap, arith}
use Rattle.std.specs.Str.{bytes_eq}
use Rattle.str_desugar.proofs.SlotLaws.{position_in, position_past, position_within}
use Rattle.str_desugar.proofs.names.Hashed.position.Goals as goal

pub returns-in-Some : goal.returns-in-Some
returns-in-Some c =
    let test = bytes_eq c.args.name.now in
    position_in test c.self.inside.distinct.keys c.self.inside.others.items c.in-Some.slot c.in-Some.ensures.index ∙
    ap (position test) c.self.view_is

pub returns-in_err-slot : goal.returns-in_err-slot
returns-in_err-slot c =
    let test = bytes_eq c.args.name.now in
    c.from_residual.ensures ∙
    position_past test c.self.inside.distinct.keys c.self.inside.others.items None c.in_default.ensures.index
    (rw c.deref.ensures.value at c.in_err-slot.ensures) ∙
    ap (position test) c.self.view_is

pub overflow_add-result : goal.overflow_add-result
overflow_add-result c =
    let within = position_within (bytes_eq c.args.name.now) c.deref.result.now c.in_ok-slot.slot c.in_ok-slot.ensures in
    let small = c.self.inside.others.small in
    let o = c.self.inside.others.ok in
    let len = c.deref.ensures.len in
    omega (arith, within, small, o, len, c.len.ensures.small)

pub returns : goal.returns
returns c =
    let test = bytes_eq c.args.name.now in
    ap (λ n. Some (n + c.in_ok-slot.slot)) c.len.ensures.len ∙
    position_past test c.self.inside.distinct.keys c.self.inside.others.items (Some c.in_ok-slot.slot)
    c.in_default.ensures.index (rw c.deref.ensures.value at c.in_ok-slot.ensures) ∙
    ap (position test) c.self.view_is
