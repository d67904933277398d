use Rattle.std.proofs.Common.{◌∙◌, List, ap, subst, sym}
use Rattle.str_desugar.specs.HeldNames.{held_names}
use Rattle.str_desugar.specs.Marks.{AreMarked, is_marked}
use Rattle.str_desugar.proofs.MarkLaws.{marked_more, marked_on}
use Rattle.str_desugar.proofs.names.Table.push.Goals as goal

pub invariant_of-self : goal.invariant_of-self
invariant_of-self c =
    let marks = c.set.new.self in
    let P : List _ → Type 0 = λ l. AreMarked marks l in
    subst P (sym c.in_err-push.ensures.unchanged)
    (marked_on c.self.inside.marks marks c.set.ensures.kept (held_names c.self.inside.held) c.self.invariant)

pub invariant_of-self-2 : goal.invariant_of-self-2
invariant_of-self-2 c =
    let marks = c.set.new.self in
    let P : List _ → Type 0 = λ l. AreMarked marks l in
    let named = c.in_ok-copy.ensures ∙ sym c.bytes.ensures in
    let marked = ap (λ n. is_marked marks n) named ∙ c.set.ensures.added in
    let before = marked_on c.self.inside.marks marks c.set.ensures.kept (held_names c.self.inside.held)
    c.self.invariant in
    subst P (sym c.in_ok-push.ensures.pushed)
    (marked_more marks (held_names c.self.inside.held) c.in_ok-copy.copy before marked)
