use Rattle.std.proofs.Common.{rules, ◌≡◌, ◌∷◌, ◌++◌, [], ℕ, List, length, map, arith, sym, ap, ◌∙◌, refl, length-append}
use Rattle.std.proofs.lemmas.List.{get_or_append_left}
use Rattle.term_model.specs.Blocks.{list_in}
use Rattle.term_store.specs.Space.{term_of}
use Rattle.term_store.specs.Store.{IsSum}
use Rattle.term_store.specs.declared.stored.Span.{Span}
use Rattle.term_store.proofs.StoreChanges.{store_more, held_more}
use Rattle.term_store.proofs.MakingLemmas.{few_places, length-places}
use Rattle.term_store.proofs.store.StoreSpace.link.Goals as goal

pub overflow_cast-length : goal.overflow_cast-length
overflow_cast-length c =
    let s = c.args.self.now in
    let few = few_places (term_of s) (list_in s.chains c.args.block) in
    let is = c.size_in-size.ensures.weight in
    let light = c.if-size-gt-MAX_WEIGHT.false in
    let long = c.len_in-length.ensures in
    omega (arith, few, is, light, long)

pub invariant_of-self-2 : goal.invariant_of-self-2
invariant_of-self-2 c =
    let s = c.args.self.now in
    let xs : List ℕ = list_in s.chains c.args.block in
    let sp : Span = record {
      weight = c.size_in-size.result.weight;
      depth = c.size_in-size.result.depth;
      length =
          c.len_in-length.result;
    } in
    let chains : c.link.new.self ≡ s.chains ++ xs ∷ [] = search rules in
    let spans : c.push_reserved.new.self.items ≡ s.spans.items ++ sp ∷ [] =
    c.push_reserved.ensures.items ∙ ap (λ zs. zs ++ sp ∷ []) c.in_ok-reserve.ensures.items in
    let is = c.size_in-size.ensures in
    let long : c.len_in-length.result ≡ length (map (term_of s) xs) =
    c.len_in-length.ensures ∙ sym (length-places (term_of s) xs) in
    let sum : IsSum (map (term_of s) xs) sp =
    record {
      weight = is.weight;
      depth = is.depth;
      long = long;
      light = c.if-size-gt-MAX_WEIGHT.false;
      flat =
          is.flat;
    } in
    record {
      store = rw (chains, spans)
          (store_more s.symbols.keys s.chains s.shapes.keys s.extents.items s.spans.items s.store xs sp
          c.requires.block.stand sum);
      small = s.small;
      sized = s.sized;
      within = s.within;
    }

pub returns-clause-keeps : goal.returns-clause-keeps
returns-clause-keeps c =
    let s = c.args.self.now in
    let xs : List ℕ = list_in s.chains c.args.block in
    let sp : Span = record {
      weight = c.size_in-size.result.weight;
      depth = c.size_in-size.result.depth;
      length =
          c.len_in-length.result;
    } in
    let chains : c.link.new.self ≡ s.chains ++ xs ∷ [] = search rules in
    let is = c.size_in-size.ensures in
    let long : c.len_in-length.result ≡ length (map (term_of s) xs) =
    c.len_in-length.ensures ∙ sym (length-places (term_of s) xs) in
    let sum : IsSum (map (term_of s) xs) sp =
    record {
      weight = is.weight;
      depth = is.depth;
      long = long;
      light = c.if-size-gt-MAX_WEIGHT.false;
      flat =
          is.flat;
    } in
    record {
      symbols = refl;
      named = refl;
      shapes = refl;
      more = rw chains (simp length-append (omega arith));
      chains = λ j h. rw chains (get_or_append_left s.chains (xs ∷ []) [] j h);
      terms = λ k. rw chains (held_more s.symbols.keys s.chains s.shapes.keys s.extents.items s.spans.items s.store xs
          sp c.requires.block.stand sum k);
    }
