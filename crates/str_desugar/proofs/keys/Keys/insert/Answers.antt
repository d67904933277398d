use Rattle.std.proofs.Common.{◌≡◌, ◌∙◌, List, true, ap, subst, sym}
use Rattle.str_syntax.specs.Key.{Key}
use Rattle.str_desugar.specs.Keys.{AreKeysMarked}
use Rattle.str_desugar.specs.Marks.{is_marked}
use Rattle.str_desugar.proofs.MarkLaws.{keys_marked_inserted, keys_marked_on}
use Rattle.str_desugar.proofs.keys.Keys.insert.Goals as goal

pub invariant_of-self : goal.invariant_of-self
invariant_of-self c =
    let marks = c.set.new.self in
    let P : List Key → Type 0 = λ ks. AreKeysMarked marks ks in
    subst P (sym c.in_err-insert.ensures.err)
    (keys_marked_on c.self.inside.marks marks c.set.ensures.kept c.self.inside.table.keys c.self.invariant)

pub invariant_of-self-2 : goal.invariant_of-self-2
invariant_of-self-2 c =
    let marks = c.set.new.self in
    let ks = c.self.inside.table.keys in
    let P : List Key → Type 0 = λ ks. AreKeysMarked marks ks in
    let marked : is_marked marks c.args.key.name ≡ true =
    ap (λ n. is_marked marks n) (sym c.name.ensures) ∙ c.set.ensures.added in
    let before = keys_marked_on c.self.inside.marks marks c.set.ensures.kept ks c.self.invariant in
    subst P (sym c.in_ok-insert.ensures.keys) (keys_marked_inserted marks ks c.args.key before marked)
