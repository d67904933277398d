-- Shapes that are made of a head, a block and a chain.
use Rattle.std.proofs.Common.{◌≡◌, ◌<◌, ℕ, List, [], ◌∷◌, length, map, get_or, refl, sym, ◌∙◌, ap, subst, arith, All}
use Rattle.term_model.specs.Blocks.{list_in}
use Rattle.term_model.specs.Term.{term}
use Rattle.term_model.specs.declared.term.Head.{Head}
use Rattle.term_model.specs.declared.parts.Block.{Block}
use Rattle.term_store.specs.Shapes.{shape_of, shape_head, shape_parts, shape_annos}
use Rattle.term_store.specs.Chains.{IsWhole, IsBlockIn}
use Rattle.term_store.specs.Store.{head_in, IsAmong, MayHave}
use Rattle.term_store.specs.Space.{term_of, chain_at, shape_term, Stand, MayStand, KeepsChains}
use Rattle.term_store.specs.declared.store.StoreSpace.{StoreSpace}
use Rattle.term_store.specs.declared.stored.StoredHead.{StoredHead}
use Rattle.term_store.specs.declared.stored.StoredHead.TheVariants as stored
use Rattle.term_store.proofs.LawsOfSpace.{shape_then}

head_made : (h : StoredHead) (b : Block ℕ) (a : ℕ) → shape_head (shape_of h b a) ≡ h
head_made (stored.Int z) b a = refl
head_made (stored.Symbol n) b a = refl
head_made stored.List b a = refl

annos_made : (h : StoredHead) (b : Block ℕ) (a : ℕ) → shape_annos (shape_of h b a) ≡ a
annos_made (stored.Int z) b a = refl
annos_made (stored.Symbol n) b a = refl
annos_made stored.List b a = refl

no_places : (ps : List ℕ) → length ps ≡ 0 → ps ≡ []
no_places [] e = refl
no_places (p ∷ ps) e = absurd (omega (arith, e))

-- the parts are those of the block, since an integer has none
parts_made : (chains : List (List ℕ)) (h : StoredHead) (b : Block ℕ) (a : ℕ) (ps : List ℕ) → get_or chains 0 [] ≡ [] →
    MayHave h ps → list_in chains b ≡ ps → list_in chains (shape_parts (shape_of h b a)) ≡ ps
parts_made chains (stored.Int z) b a ps empty bare is = empty ∙ sym (no_places ps (bare refl))
parts_made chains (stored.Symbol n) b a ps empty bare is = is
parts_made chains stored.List b a ps empty bare is = is

-- the term of a shape that is made after chains came
pub term_made : (old mid : StoreSpace) (h : StoredHead) (b : Block ℕ) (a : ℕ) (g : Head) (ps qs : List ℕ) →
    KeepsChains old mid → head_in mid.symbols.keys h ≡ g → MayHave h ps → list_in mid.chains b ≡ ps →
    chain_at mid a ≡ qs
    → shape_term mid (shape_of h b a) ≡ term g (map (term_of old) ps) (map (term_of old) qs)
term_made old mid h b a g ps qs keeps eh bare ep eq =
    shape_then old mid (shape_of h b a) g ps qs keeps (ap (head_in mid.symbols.keys) (head_made h b a) ∙
    eh) (parts_made mid.chains h b a ps mid.store.empty bare ep) (ap (chain_at mid) (annos_made h b a) ∙ eq)

-- a shape whose parts and annotations stand after chains came
made_parts : (old mid : StoreSpace) (b : Block ℕ) (ps : List ℕ) → KeepsChains old mid → IsBlockIn mid.chains b ps →
    Stand old ps → Stand mid (list_in mid.chains b)
made_parts old mid b ps keeps block stand =
    subst (Stand mid) (sym block.list) (subst (λ keys. All (λ i. i < length keys) ps) (sym keeps.shapes) stand)

pub made_stands : (old mid : StoreSpace) (h : StoredHead) (b : Block ℕ) (a : ℕ) (ps : List ℕ) → KeepsChains old mid →
    IsAmong (length old.symbols.keys) h → IsBlockIn mid.chains b ps → Stand old ps → a < length old.chains →
    MayStand mid (shape_of h b a)
made_stands old mid (stored.Int z) b a ps keeps among block stand within =
    let spanned = mid.store.spanned in
    let more = keeps.more in
    record {
      head = refl;
      block = record {
        list = refl;
        rest = omega (arith, spanned);
        whole = subst IsWhole (sym mid.store.empty) (record { long = refl });
        none = λ e. refl;
      };
      parts = subst (Stand mid) (sym mid.store.empty) (λ k d h. absurd (omega (arith, h)));
      annos = omega (arith, more, within);
      bare = λ is. ap length mid.store.empty;
    }
made_stands old mid (stored.Symbol n) b a ps keeps among block stand within =
    let more = keeps.more in
    record {
      head = subst (λ symbols. IsAmong (length symbols) (stored.Symbol n)) (sym keeps.symbols) among;
      block = record { list = refl; rest = block.rest; whole = block.whole; none = block.none };
      parts = made_parts old mid b ps keeps block stand;
      annos = omega (arith, more, within);
      bare = λ is. absurd (cc);
    }
made_stands old mid stored.List b a ps keeps among block stand within =
    let more = keeps.more in
    record {
      head = refl;
      block = record { list = refl; rest = block.rest; whole = block.whole; none = block.none };
      parts = made_parts old mid b ps keeps block stand;
      annos = omega (arith, more, within);
      bare = λ is. absurd (cc);
    }
