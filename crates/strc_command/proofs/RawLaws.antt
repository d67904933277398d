-- Lines that are a quoted text.
use Rattle.std.proofs.Common.{◌≡◌, Bool, true, false, not, List, ℕ, [], ◌∷◌, ◌++◌, refl, sym, ◌∙◌, ap, append_assoc}
use Rattle.std.specs.Prelude.{bytes_eq}
use Rattle.std.proofs.lemmas.Slice.Eq.{bytes_eq-Decides}
use Rattle.str_lexer.specs.Readings.{NoItem}
use Rattle.str_lexer.proofs.ByteLaws.{tails}
use Rattle.str_lexer.proofs.QuotedLaws.{ReadItems, items_once, no_item_quote}
use Rattle.strc_command.specs.Raw.{IsQuotedLine, IsNoQuotedLine}

-- the bytes of a line of quoted text, with its last quote and its line feed as the rest
inner_bytes : (bytes line : List ℕ) (q : IsQuotedLine bytes line) → line ≡ 34 ∷ (q.first.second.front ++ (34 ∷ 10 ∷ []))
inner_bytes bytes line q =
    let inner = q.first.second in
    let quoted : q.front ≡ 34 ∷ (inner.front ++ (34 ∷ [])) =
    q.first.bytes ∙ ap (λ x. x ++ q.first.back) q.first.first ∙
    ap (λ x. 34 ∷ x) (inner.bytes ∙ ap (λ x. inner.front ++ x) inner.second) in
    q.bytes ∙ ap (λ x. x ++ q.back) quoted ∙ ap (λ x. (34 ∷ (inner.front ++ (34 ∷ []))) ++ x) q.second
    ∙ ap (λ x. 34 ∷ x) (append_assoc inner.front (34 ∷ []) (10 ∷ []))

pub found_line : (line quoted done rest : List ℕ) → line ≡ 34 ∷ quoted → ReadItems quoted done rest →
    rest ≡ 34 ∷ 10 ∷ [] → IsQuotedLine done line
found_line line quoted done rest e r f = record {
  front = 34 ∷ (r.written ++ (34 ∷ []));
  back = 10 ∷ [];
  bytes = e ∙ ap (λ x. 34 ∷ x) (r.bytes ∙ ap (λ x. r.written ++ x) f ∙
      sym (append_assoc r.written (34 ∷ []) (10 ∷ [])));
  first = record {
    front = 34 ∷ [];
    back = r.written ++ (34 ∷ []);
    bytes = refl;
    first = refl;
    second = record { front = r.written; back = 34 ∷ []; bytes = refl; first = r.items; second = refl };
  };
  second = refl;
}

pub missing_line : (line quoted done rest : List ℕ) → line ≡ 34 ∷ quoted → ReadItems quoted done rest → NoItem rest →
    (rest ≡ 34 ∷ 10 ∷ [] → ⊥) → IsNoQuotedLine line
missing_line line quoted done rest e r n other bytes q =
    let inner = q.first.second in
    let same : quoted ≡ inner.front ++ (34 ∷ 10 ∷ []) = tails 34 34 _ _ (sym e ∙ inner_bytes bytes line q) in
    let once = items_once done bytes r.written inner.front rest (34 ∷ 10 ∷ [])
    r.items inner.first n (no_item_quote (10 ∷ [])) (sym r.bytes ∙ same) in
    other (sym once.1)

-- a test whether the rest is another end
pub same_end : (rest end : List ℕ) (differs : Bool) → differs ≡ not (bytes_eq rest end) → differs ≡ false → rest ≡ end
same_end rest end differs is agree = (bytes_eq-Decides rest end).0 (both (bytes_eq rest end) (sym is ∙ agree))
  where
    both : (b : Bool) → not b ≡ false → b ≡ true
    both true e = refl
    both false e = cc

pub other_end : (rest end : List ℕ) (differs : Bool) → differs ≡ not (bytes_eq rest end) → differs ≡ true → rest ≡ end →
    ⊥
other_end rest end differs is differ same =
    let equal : bytes_eq rest end ≡ true = (bytes_eq-Decides rest end).1 same in
    let not_one : not true ≡ true = ap not (sym equal) ∙ sym is ∙ differ in
    cc
