-- A term that fits is read back from its canonical text.
use Rattle.std.specs.Prelude.{Ok, Err}
use Rattle.std.proofs.Common.{◌≡◌, ℕ, ◌<◌, List, [], ◌⊎◌, inl, inr, refl, ap, sym, arith, subst}
use Rattle.term_model.specs.Limits.{max_depth}
use Rattle.term_model.specs.declared.fault.Fault.TheVariants as faults
use Rattle.term_model.specs.Term.{Tree, IsTerm, Fits, depth}
use Rattle.aterm_text.specs.Grammar.{IsText}
use Rattle.aterm_text.specs.Depth.{Open, TooDeep}
use Rattle.aterm_text.specs.Text.{text}
use Rattle.aterm_text.specs.Canonical.{ReadsBack}
use Rattle.aterm_text.specs.Reading.{State, Expect, Deep, after, Read, TooDeepText, outcome_of}
use Rattle.aterm_text.proofs.Endings.{OrDeep, Ends, at_name, at_digits, at_named, at_whole, at_done}
use Rattle.aterm_text.proofs.Complete.{text_read}
use Rattle.aterm_text.proofs.CompleteDepth.{too_deep}
use Rattle.aterm_text.proofs.Meaning.{spelled, deep_is}
use Rattle.aterm_text.proofs.Canonical.{text_spells}

ends_not_deep : {a : State} {t : Tree} {s : List Open} → Ends a t s → a ≡ Deep → ⊥
ends_not_deep at_name e = cc
ends_not_deep at_digits e = cc
ends_not_deep at_named e = cc
ends_not_deep at_whole e = cc
ends_not_deep at_done e = cc

pub not_deep : (t : Tree) (bs : List ℕ) → IsText t bs → Fits t → ¬ (TooDeep bs)
not_deep t bs h f d = go (text_read t bs h)
  where
    go : OrDeep (max_depth < depth t) (λ a. Ends a t []) (after (Expect []) bs) → ⊥
    go (inl e) = ends_not_deep e (too_deep bs d)
    go (inr e) = omega (arith, e.1, f.depth)

-- a text that spells a term that fits spells no other
alone : (t u : Tree) (bs : List ℕ) → Fits t → IsText t bs → IsText u bs → u ≡ t
alone t u bs f h g = go (spelled bs t h) (spelled bs u g)
  where
    go : (outcome_of bs ≡ Read t) ⊎ (outcome_of bs ≡ TooDeepText) →
        (outcome_of bs ≡ Read u) ⊎ (outcome_of bs ≡ TooDeepText) → u ≡ t
    go (inr d) e = absurd (not_deep t bs h f (deep_is bs d))
    go (inl d) (inr e) = absurd (not_deep t bs h f (deep_is bs e))
    go (inl d) (inl e) = cc

pub reads_back : (t : Tree) → IsTerm t → Fits t → ReadsBack t
reads_back t i f (Ok u) h = inl (ap Ok (sym (h.only t (text_spells t i))))
reads_back t i f (Err faults.Memory) h = inr refl
reads_back t i f (Err (faults.TermOversize _)) (inl d) = absurd (not_deep t (text t) (text_spells t i) f d)
reads_back t i f (Err (faults.TermOversize _)) (inr (u, h, large)) =
    absurd (large (subst Fits (sym (alone t u (text t) f (text_spells t i) h)) f))
reads_back t i f (Err (faults.TermSyntax _)) h = absurd (h.1 t (text_spells t i))
reads_back t i f (Err _) h = absurd h
