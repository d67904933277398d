-- Heads in the code: one head more, and where the first head of a definition is.
use Rattle.std.proofs.Common.{Bool, true, false, not, ◌||◌, ◌≡◌, ◌∙◌, ℕ, ◌+◌, ◌<◌, Option, List, [], ◌∷◌, ◌++◌, map, take, get_or, add-one, sym, ap, ap₂, refl, length, position}
use Rattle.std.specs.Borrow.{Bor}
use Rattle.std.specs.List.{list_any, position_or_len, slice_get}
use Rattle.std.specs.Option.{option_map}
use Rattle.std.specs.Prelude.{if◌then◌else◌}
use Rattle.std.proofs.Math.Bool.{not-not}
use Rattle.std.proofs.Math.ListN.{get_or-map}
use Rattle.std.proofs.Math.Seq.{take-suc}
use Rattle.std.proofs.lemmas.List.{length-map, map-append}
use Rattle.std.proofs.lemmas.List.Folds.{find_at}
use Rattle.std.proofs.lemmas.Option.{slice_get-map}
use Rattle.indexmap.specs.IndexSet.{insert_key}
use Rattle.str_syntax.specs.declared.strategy.DefinitionHead.{DefinitionHead}
use Rattle.str_syntax.specs.Key.{Key, same_key}
use Rattle.str_desugar.specs.Groups.{AreGrouped, Head, head_key, first_for, first_heads, same_definition}
use Rattle.str_desugar.specs.Heads.{read_head, read_heads}
use Rattle.str_desugar.proofs.FirstLaws.{first_heads_more, first_in_table, or_itself}
use Rattle.str_desugar.proofs.SlotLaws.{or_else, position_or_else}

pub read_more : (hs : List (Bor DefinitionHead)) (i : ℕ) (h : Bor DefinitionHead) → i < length hs → h ≡ get_or hs i h →
    read_heads (take (i + 1) hs) ≡ read_heads (take i hs) ++ read_head h.now ∷ []
read_more hs i h in_range is =
    let taken : take (i + 1) hs ≡ take i hs ++ h ∷ [] =
    rw add-one (take-suc hs i h in_range ∙ ap (λ k. take i hs ++ k ∷ []) (sym is)) in
    ap read_heads taken ∙ map-append (λ k. read_head k.now) (take i hs) (h ∷ [])

pub read_at : (hs : List (Bor DefinitionHead)) (all : List Head) (i : ℕ) (h : Bor DefinitionHead) →
    read_heads hs ≡ all → i < length all → h ≡ get_or hs i h →
    read_head h.now ≡ get_or all i (read_head h.now)
read_at hs all i h seen in_range is =
    ap (λ k. read_head k.now) is ∙ sym (get_or-map (λ k. read_head k.now) hs i h) ∙
    ap (λ l. get_or l i (read_head h.now)) seen

-- ---- the first heads, and the table of their keys

any_key : (p : Key → Bool) (ks : List Head) → list_any p (map head_key ks) ≡ list_any (λ k. p (head_key k)) ks
any_key p [] = refl
any_key p (k ∷ ks) = ap (λ b. p (head_key k) || b) (any_key p ks)

position_key : (p : Key → Bool) (ks : List Head) →
    position_or_len p (map head_key ks) ≡ position_or_len (λ k. p (head_key k)) ks
position_key p [] = refl
position_key p (k ∷ ks) = ap (λ n. if not (p (head_key k)) then 1 + n else 0) (position_key p ks)

-- one head more, which is the first of a definition or not
module _ (heads firsts : List Head) (keys new : List Key) (h : Head) (grouped : AreGrouped heads firsts keys)
    (inserted : new ≡ insert_key same_key keys (head_key h)) where
  abbrev is_new : Bool
  is_new = not (list_any (same_key (head_key h)) keys)

  there : (b : Bool) → is_new ≡ b → list_any (same_key (head_key h)) keys ≡ not b
  there b e = sym (not-not (list_any (same_key (head_key h)) keys)) ∙ ap not e

  first_more : (b : Bool) → list_any (same_key (head_key h)) keys ≡ b →
      (if b then firsts else firsts ++ h ∷ []) ≡ first_heads (heads ++ h ∷ [])
  first_more b e =
      ap (λ c. if c then firsts else firsts ++ h ∷ []) (sym e ∙ ap (list_any (same_key (head_key h))) grouped.keyed ∙
      any_key (same_key (head_key h)) firsts) ∙
      ap (λ fs. insert_key same_definition fs h) grouped.first ∙ sym (first_heads_more heads h)

  pub grouped_old : is_new ≡ false → AreGrouped (heads ++ h ∷ []) firsts new
  grouped_old e = record {
    first = first_more true (there false e);
    keyed = inserted ∙ ap (λ b. if b then keys else keys ++ head_key h ∷ []) (there false e) ∙ grouped.keyed;
  }

  pub grouped_new : is_new ≡ true → AreGrouped (heads ++ h ∷ []) (firsts ++ h ∷ []) new
  grouped_new e = record {
    first = first_more false (there true e);
    keyed =
        inserted ∙ ap (λ b. if b then keys else keys ++ head_key h ∷ []) (there true e) ∙
        ap (λ ks. ks ++ head_key h ∷ []) grouped.keyed ∙ sym (map-append head_key firsts (h ∷ []));
  }

module _ (heads : List Head) (firsts : List (Bor DefinitionHead)) (keys : List Key)
    (grouped : AreGrouped heads (read_heads firsts) keys) where
  -- the group of a head is at the position of its key
  pub group_number : (h : Head) (o : Option ℕ) → o ≡ position (same_key (head_key h)) keys →
      or_else (length firsts) o ≡ position_or_len (same_definition h) (first_heads heads)
  group_number h o is =
      ap (or_else (length firsts)) (is ∙
      ap (position (same_key (head_key h))) grouped.keyed) ∙
      ap (λ n. or_else n (position (same_key (head_key h)) (map head_key (read_heads firsts))))
      (sym (length-map firsts (λ f. read_head f.now)) ∙ sym (length-map (read_heads firsts) head_key)) ∙
      position_or_else (same_key (head_key h)) (map head_key (read_heads firsts)) ∙
      position_key (same_key (head_key h)) (read_heads firsts) ∙
      ap (position_or_len (same_definition h)) grouped.first

  -- and has its first head there
  pub group_first : (h : Head) (n : ℕ) (o : Option (Bor DefinitionHead)) →
      n ≡ position_or_len (same_definition h) (first_heads heads) → o ≡ slice_get firsts n →
      or_itself h (option_map (λ f. read_head f.now) o) ≡ first_for heads h
  group_first h n o number is =
      ap (or_itself h) (ap (option_map (λ f. read_head f.now)) is ∙
      sym (slice_get-map (λ f. read_head f.now) firsts n) ∙ ap₂ slice_get grouped.first number ∙
      sym (find_at (same_definition h) (first_heads heads))) ∙ first_in_table heads h
