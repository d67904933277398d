-- The outcome of a text is what the grammar says.
use Rattle.std.proofs.Common.{◌≡◌, ℕ, ◌<◌, List, [], ◌∷◌, ◌⊎◌, inl, inr, refl, ap, sym, ◌∙◌, Option, Some, None, Result, Ok, Err}
use Rattle.term_model.specs.declared.fault.Fault.{Fault}
use Rattle.term_model.specs.declared.fault.Fault.TheVariants as faults
use Rattle.term_model.specs.Limits.{max_depth}
use Rattle.term_model.specs.Term.{Tree, depth}
use Rattle.aterm_text.specs.Grammar.{IsText}
use Rattle.aterm_text.specs.Depth.{Open, TooDeep}
use Rattle.aterm_text.specs.Reading.{State, Expect, Fresh, InName, InSign, InDigits, InText, InEscape, InOctal, InOctals, Named, Whole, Done, Deep, Wrong, after, finished, ended, out, Read, TooDeepText, outcome_from, outcome_of, Answers}
use Rattle.aterm_text.specs.ReadTerm.{IsReading}
use Rattle.aterm_text.specs.ReadIn.{map_ok}
use Rattle.aterm_text.proofs.Sound.{read_sound, deep_sound}
use Rattle.aterm_text.proofs.Endings.{Ends, at_name, at_digits, at_named, at_whole, at_done, OrDeep}
use Rattle.aterm_text.proofs.Complete.{text_read}
use Rattle.aterm_text.proofs.CompleteDepth.{too_deep}

outcome_is : (text : List ℕ) → outcome_of text ≡ out (after (Expect []) text)
unfolding outcome_from
outcome_is text = refl

ends_out : {a : State} {t : Tree} → Ends a t [] → out a ≡ Read t
ends_out at_name = refl
ends_out at_digits = refl
ends_out at_named = refl
ends_out at_whole = refl
ends_out at_done = refl

pub spelled : (bs : List ℕ) (t : Tree) → IsText t bs → (outcome_of bs ≡ Read t) ⊎ (outcome_of bs ≡ TooDeepText)
spelled bs t h = go (text_read t bs h)
  where
    go : OrDeep (max_depth < depth t) (λ a. Ends a t []) (after (Expect []) bs) →
        (outcome_of bs ≡ Read t) ⊎ (outcome_of bs ≡ TooDeepText)
    go (inl e) = inl (outcome_is bs ∙ ends_out e)
    go (inr e) = inr (outcome_is bs ∙ ap out e.0)

deep : (bs : List ℕ) → TooDeep bs → outcome_of bs ≡ TooDeepText
deep bs h = outcome_is bs ∙ ap out (too_deep bs h)

ended_read : (o : Option (Tree × List Open)) (t : Tree) → ended o ≡ Read t → o ≡ Some (t, [])
ended_read None t e = absurd (cc)
ended_read (Some (u, [])) t e = let same : u ≡ t = cc in ap (λ v. Some (v, [])) same
ended_read (Some (u, _ ∷ _)) t e = absurd (cc)

ended_no_deep : (o : Option (Tree × List Open)) → ended o ≡ TooDeepText → ⊥
ended_no_deep None e = cc
ended_no_deep (Some (u, [])) e = cc
ended_no_deep (Some (u, _ ∷ _)) e = cc

-- `Deep`, or a state whose outcome is that of the term that is whole there
deep_or_not : (a : State) → (a ≡ Deep) ⊎ (out a ≡ ended (finished a))
deep_or_not Deep = inl refl
deep_or_not (Expect _) = inr refl
deep_or_not (Fresh _ _) = inr refl
deep_or_not (InName _ _) = inr refl
deep_or_not (InSign _) = inr refl
deep_or_not (InDigits _ _ _) = inr refl
deep_or_not (InText _ _) = inr refl
deep_or_not (InEscape _ _) = inr refl
deep_or_not (InOctal _ _ _) = inr refl
deep_or_not (InOctals _ _ _) = inr refl
deep_or_not (Named _ _) = inr refl
deep_or_not (Whole _ _ _) = inr refl
deep_or_not (Done _ _) = inr refl
deep_or_not Wrong = inr refl

out_read : (a : State) (t : Tree) → out a ≡ Read t → finished a ≡ Some (t, [])
out_read a t e = go (deep_or_not a)
  where
    go : (a ≡ Deep) ⊎ (out a ≡ ended (finished a)) → finished a ≡ Some (t, [])
    go (inl d) = let f : TooDeepText ≡ Read t = sym (ap out d) ∙ e in absurd (cc)
    go (inr f) = ended_read (finished a) t (sym f ∙ e)

out_deep : (a : State) → out a ≡ TooDeepText → a ≡ Deep
out_deep a e = go (deep_or_not a)
  where
    go : (a ≡ Deep) ⊎ (out a ≡ ended (finished a)) → a ≡ Deep
    go (inl d) = d
    go (inr f) = absurd (ended_no_deep (finished a) (sym f ∙ e))

read_is : (bs : List ℕ) (t : Tree) → outcome_of bs ≡ Read t → IsText t bs
read_is bs t e = read_sound bs t (out_read (after (Expect []) bs) t (sym (outcome_is bs) ∙ e))

pub deep_is : (bs : List ℕ) → outcome_of bs ≡ TooDeepText → TooDeep bs
deep_is bs e = deep_sound bs (out_deep (after (Expect []) bs) (sym (outcome_is bs) ∙ e))

-- what is returned for the outcome is the reading of the text
pub reading : (bs : List ℕ) (r : Result Tree Fault) → Answers r (outcome_of bs) → IsReading bs r
reading bs (Ok t) (e, fit) = record {
  spells = read_is bs t e;
  fits = fit;
  not_deep = λ d. let f : outcome_of bs ≡ TooDeepText = deep bs d in absurd (cc);
  only = λ v g. alone v (spelled bs v g);
}
  where
    alone : (v : Tree) → (outcome_of bs ≡ Read v) ⊎ (outcome_of bs ≡ TooDeepText) → v ≡ t
    alone v (inl f) = cc
    alone v (inr f) = absurd (cc)
reading bs (Err faults.Memory) e = tt
reading bs (Err (faults.TermOversize _)) (inl (t, e, large)) = inr (t, read_is bs t e, large)
reading bs (Err (faults.TermOversize _)) (inr e) = inl (deep_is bs e)
reading bs (Err (faults.TermSyntax _)) e =
    (λ d. let f : outcome_of bs ≡ TooDeepText = deep bs d in absurd (cc), λ t h. none t (spelled bs t h))
  where
    none : (t : Tree) → (outcome_of bs ≡ Read t) ⊎ (outcome_of bs ≡ TooDeepText) → ⊥
    none t (inl f) = absurd (cc)
    none t (inr f) = absurd (cc)
reading bs (Err _) e = absurd e

-- where a reference is its term
pub same_reading : (bs : List ℕ) (r : Result Tree Fault) → IsReading bs (map_ok (λ t. t) r) → IsReading bs r
same_reading bs (Ok t) h = h
same_reading bs (Err e) h = h
