-- Bytes of one kind after bytes of another.
use Rattle.std.proofs.Common.{◌≡◌, ℕ, List, [], ◌∷◌, ◌++◌, refl, ap, sym, ◌∙◌, append_assoc, subst}
use Rattle.term_model.specs.QuotedText.{Joined, Are}

pub append_nil : (xs : List ℕ) → xs ++ [] ≡ xs
append_nil [] = refl
append_nil (x ∷ xs) = ap (λ ys. x ∷ ys) (append_nil xs)

pub joined : {P Q : List ℕ → Type 0} (xs ys : List ℕ) → P xs → Q ys → Joined P Q (xs ++ ys)
joined xs ys p q = record { front = xs; back = ys; bytes = refl; first = p; second = q }

-- more bytes after the second
pub longer : {P Q R : List ℕ → Type 0} (bs cs : List ℕ) → Joined P Q bs → ((ys : List ℕ) → Q ys → R (ys ++ cs)) →
    Joined P R (bs ++ cs)
longer bs cs j f = record {
  front = j.front;
  back = j.back ++ cs;
  bytes =
      ap (λ xs. xs ++ cs) j.bytes ∙ append_assoc j.front j.back cs;
  first = j.first;
  second = f j.back j.second;
}

-- what comes after moves into the second
pub nested : {P Q R : List ℕ → Type 0} (bs : List ℕ) → Joined (Joined P Q) R bs → Joined P (Joined Q R) bs
nested bs j = record {
  front = j.first.front;
  back = j.first.back ++ j.back;
  bytes = j.bytes ∙ ap (λ xs. xs ++ j.back) j.first.bytes ∙ append_assoc j.first.front j.first.back j.back;
  first = j.first.first;
  second = record { front = j.first.back; back = j.back; bytes = refl; first = j.first.second; second = j.second };
}

pub unnested : {P Q R : List ℕ → Type 0} (bs : List ℕ) → Joined P (Joined Q R) bs → Joined (Joined P Q) R bs
unnested bs j = record {
  front = j.front ++ j.second.front;
  back = j.second.back;
  bytes = j.bytes ∙ ap (λ xs. j.front ++ xs) j.second.bytes ∙ sym (append_assoc j.front j.second.front j.second.back);
  first = record { front = j.front; back = j.second.front; bytes = refl; first = j.first; second = j.second.first };
  second = j.second.second;
}

pub over : {P Q R S : List ℕ → Type 0} (bs : List ℕ) → Joined P Q bs → ((xs : List ℕ) → P xs → R xs) →
    ((ys : List ℕ) → Q ys → S ys) → Joined R S bs
over bs j f g = record {
  front = j.front;
  back = j.back;
  bytes = j.bytes;
  first = f j.front j.first;
  second =
      g j.back j.second;
}

pub ended : {P : List ℕ → Type 0} (bs : List ℕ) → P bs → Joined P (Are []) bs
ended bs p = record { front = bs; back = []; bytes = sym (append_nil bs); first = p; second = refl }

pub begun : {P : List ℕ → Type 0} (bs : List ℕ) → Joined P (Are []) bs → P bs
begun {P} bs j = subst P (sym (j.bytes ∙ ap (λ ys. j.front ++ ys) j.second ∙ append_nil j.front)) j.first
