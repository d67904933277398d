use Rattle.std.proofs.Common.{◌≡◌, ◌+◌, arith, nat_lt, nat_le, sym, subst}
use Rattle.std.specs.Prelude.{IsTrue, ◌↔◌}
use Rattle.std.proofs.lemmas.Bool.{le-leb}
use Rattle.term_store.specs.Places.{small_count}
use Rattle.term_store.specs.Space.{count, held_count}
use Rattle.term_store.proofs.space.StoreSpaceTermSpace.mark.Goals as goal

pub returns : goal.returns
returns c =
    let s = c.args.self.now in
    let held = c.held.ensures.held in
    let some = c.held.ensures.small in
    let small = s.small in
    let all : c.held.result + small_count ≡ count s = omega (arith, held, some, small) in
    record {
      valid = subst (λ n. IsTrue (nat_le n (held_count s))) (sym held)
          (le-leb (held_count s) (held_count s) (omega arith));
      exactly = λ r. subst (λ n. IsTrue (nat_lt r (c.held.result + small_count)) ↔ IsTrue (nat_lt r n))
          all (λ h. h, λ h. h);
      marks = λ m h. subst (λ n. IsTrue (nat_le m n)) (sym held) h;
    }
