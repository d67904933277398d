use Rattle.std.proofs.Common.{rules}
use Rattle.term_store.proofs.LawsOfSpace.{made_then, makes}
use Rattle.term_store.proofs.space.StoreSpaceTermSpace.make.Goals as goal

pub returns-clause-made : goal.returns-clause-made
returns-clause-made c =
    let s = c.args.self.now in
    let mid = c.stored_head.new.self in
    let made = rw (c.deref.ensures.value, c.deref-2.ensures.value) at c.make_over.ensures.made in
    makes c.make_over.new.self _ _ c.make_over.result made
    (made_then s mid _ c.args.head c.args.parts.items c.args.annos.items c.in_ok-head.ensures.keeps
    c.in_ok-head.ensures.head (search rules) (search rules))
