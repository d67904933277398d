-- Bytes that quoted text has as they are.
use Rattle.std.proofs.Common.{◌≡◌, ℕ, ◌+◌, ◌<◌, ◌≤◌, List, [], ◌∷◌, ◌++◌, length, drop, refl, sym, ap, ◌∙◌, append_assoc}
use Rattle.std.specs.Prelude.{slice_index, slice_range}
use Rattle.std.proofs.lemmas.List.{drop_all}
use Rattle.aterm_text.specs.Text.{item_text, items_text}
use Rattle.term_model.proofs.Joins.{append_nil}
use Rattle.aterm_text.proofs.ReadLemmas.{drop_more}
use Rattle.aterm_text.proofs.Slices.{slice_more, slice_none}
use Rattle.aterm_text.proofs.WriteLemmas.{extends_same, extends_by, extends_on}

-- the items from an index on, and those after a run of raw bytes
pub raw_none : (bs : List ℕ) (from : ℕ) →
    items_text (drop from bs) ≡ slice_range bs from from ++ items_text (drop from bs)
raw_none bs from = rw (slice_none bs from) refl

pub raw_more : (bs : List ℕ) (from at : ℕ) → from ≤ at → at < length bs →
    item_text (slice_index bs at) ≡ slice_index bs at ∷ []
    → items_text (drop from bs) ≡ slice_range bs from at ++ items_text (drop at bs)
    → items_text (drop from bs) ≡ slice_range bs from (at + 1) ++ items_text (drop (at + 1) bs)
raw_more bs from at low high raw e =
    e ∙ rw (
      drop_more bs at high,
      raw,
      slice_more bs from at low high,
      append_assoc (slice_range bs from at) (slice_index bs at ∷ []) (items_text (drop (at + 1) bs)),
    ) refl

pub ruleset raw_run = (raw_none, raw_more)

pub run_all : (old new bs : List ℕ) (from at : ℕ) →
    items_text (drop from bs) ≡ slice_range bs from at ++ items_text (drop at bs)
    → new ≡ old ++ slice_range bs from at → new ++ items_text (drop at bs) ≡ old ++ items_text (drop from bs)
run_all old new bs from at e f =
    ap (λ xs. xs ++ items_text (drop at bs)) f ∙ append_assoc old (slice_range bs from at) (items_text (drop at bs)) ∙
    ap (λ xs. old ++ xs) (sym e)

pub run_and_item : (old mid new bs : List ℕ) (from at : ℕ) →
    items_text (drop from bs) ≡ slice_range bs from at ++ items_text (drop at bs) → at < length bs
    → mid ≡ old ++ slice_range bs from at → new ≡ mid ++ item_text (slice_index bs at) →
    new ++ items_text (drop (at + 1) bs) ≡ old ++ items_text (drop from bs)
run_and_item old mid new bs from at e h f g =
    let following : items_text (drop at bs) ≡ item_text (slice_index bs at) ++ items_text (drop (at + 1) bs) =
    ap items_text (drop_more bs at h) in
    ap (λ xs. xs ++ items_text (drop (at + 1) bs)) g ∙
    append_assoc mid (item_text (slice_index bs at)) (items_text (drop (at + 1) bs)) ∙
    ap (λ xs. mid ++ xs) (sym following)
    ∙ run_all old mid bs from at e f

-- no items are left at the end
pub run_ends : (old new bs : List ℕ) (at : ℕ) → length bs ≤ at → new ++ items_text (drop at bs) ≡ old ++ items_text bs →
    new ≡ old ++ items_text bs
run_ends old new bs at h e = sym (append_nil new) ∙ ap (λ xs. new ++ items_text xs) (sym (drop_all at bs h)) ∙ e

pub ruleset runs = (run_all, run_and_item, run_ends, extends_same, extends_by, extends_on)
