use Rattle.std.proofs.Common.{◌<◌, ◌∷◌, ◌++◌, [], length, get_or, All, arith, subst}
use Rattle.term_model.specs.Blocks.{front_list}
use Rattle.term_store.proofs.store.StoreSpace.size_in.Goals as goal

pub extent-b-requires : goal.extent-b-requires
extent-b-requires c =
    let s = c.args.self.now in
    let rest = get_or s.chains c.args.block.rest [] in
    let all : All (λ i. i < length s.shapes.keys) (c.in-Two.a ∷ c.in-Two.b ∷ rest) =
    subst (λ f. All (λ i. i < length s.shapes.keys) (front_list f ++ rest)) c.in-Two.is c.requires.stand in
    all 1 0 (omega arith)

pub extent-b-requires-in-Three : goal.extent-b-requires-in-Three
extent-b-requires-in-Three c =
    let s = c.args.self.now in
    let rest = get_or s.chains c.args.block.rest [] in
    let all : All (λ i. i < length s.shapes.keys) (c.in-Three.a ∷ c.in-Three.b ∷ c.in-Three.c ∷ rest) =
    subst (λ f. All (λ i. i < length s.shapes.keys) (front_list f ++ rest)) c.in-Three.is c.requires.stand in
    all 1 0 (omega arith)

pub extent-c-requires : goal.extent-c-requires
extent-c-requires c =
    let s = c.args.self.now in
    let rest = get_or s.chains c.args.block.rest [] in
    let all : All (λ i. i < length s.shapes.keys) (c.in-Three.a ∷ c.in-Three.b ∷ c.in-Three.c ∷ rest) =
    subst (λ f. All (λ i. i < length s.shapes.keys) (front_list f ++ rest)) c.in-Three.is c.requires.stand in
    all 2 0 (omega arith)
