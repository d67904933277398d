-- Laws of spaces that keep what stands.
use Rattle.std.proofs.Common.{◌≡◌, refl, ◌∙◌, subst}
use Rattle.term_model.specs.Space.{Space, Keeps, KeepsNames, MakesNone}

module _ {W R M N : Type 0} (S : Space W R M N) where
  pub keeps_same : (w : W) → Keeps S w w
  keeps_same w = record {
    standing = λ r h. h;
    terms = λ r h. refl;
    valid = λ m h. h;
    known = λ n h. h;
    symbols =
        λ n h. refl;
  }

  pub none_same : (w : W) → MakesNone S w w
  none_same w = record { standing = λ r. refl; valid = λ m. refl }

  -- the same of equal spaces
  pub keeps_from : {w w0 w1 : W} → w ≡ w0 → Keeps S w w1 → Keeps S w0 w1
  keeps_from {w1 = w1} is keeps = subst (λ v. Keeps S v w1) is keeps

  pub none_from : {w w0 w1 : W} → w ≡ w0 → MakesNone S w w1 → MakesNone S w0 w1
  none_from {w1 = w1} is none = subst (λ v. MakesNone S v w1) is none

module _ {W R M N : Type 0} {S : Space W R M N} {w w1 w2 : W} where
  pub keeps_then : Keeps S w w1 → Keeps S w1 w2 → Keeps S w w2
  keeps_then k l = record {
    standing = λ r h. l.standing r (k.standing r h);
    terms = λ r h. l.terms r (k.standing r h) ∙ k.terms r h;
    valid = λ m h. l.valid m (k.valid m h);
    known = λ n h. l.known n (k.known n h);
    symbols = λ n h. l.symbols n (k.known n h) ∙ k.symbols n h;
  }

  pub none_then : MakesNone S w w1 → MakesNone S w1 w2 → MakesNone S w w2
  none_then k l = record { standing = λ r. l.standing r ∙ k.standing r; valid = λ m. l.valid m ∙ k.valid m }

  pub names_then : KeepsNames S w w1 → KeepsNames S w1 w2 → KeepsNames S w w2
  names_then k l = record {
    known = λ n h. l.known n (k.known n h);
    symbols =
        λ n h. l.symbols n (k.known n h) ∙ k.symbols n h;
  }
