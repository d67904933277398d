-- Reading sections and files from tokens: one law for each way that it can go.
use Rattle.std.proofs.Common.{◌≡◌, ◌↔◌, IsTrue, ℕ, Bool, true, false, List, [], ◌∷◌, length, refl, ap, subst, arith, Err, inr}
use Rattle.str_parser.specs.declared.refusal.ParseRefusal.{ParseRefusal}
use Rattle.str_parser.specs.declared.refusal.ParseRefusal.TheVariants as refusals
use Rattle.str_lexer.specs.declared.token.Token.{Token}
use Rattle.str_lexer.specs.Lexing.{AreSlices}
use Rattle.str_lexer.specs.declared.token.Keyword.TheVariants as K
use Rattle.str_syntax.specs.Trees.{FormTree, rule_form, strategy_form, definition, TopTree, SectionTree, signature, rules, strategies, FileTree, head}
use Rattle.str_parser.specs.Lexemes.{Lexeme, keyword}
use Rattle.str_parser.specs.Items.{Item, token, part, no_build, only, whole, too_deep, either, Runs}
use Rattle.str_parser.specs.Phrases.{form, top_forms, signature_parts, section, sections, Spelled, IsPhrase, OnlyPhrase, TooNested}
use Rattle.str_parser.specs.Readings.{Missing, IsFault}
use Rattle.str_parser.specs.Refusals.{fault_of}
use Rattle.str_parser.specs.Runs.{NoneOf, FoundAny}
use Rattle.str_parser.specs.Sorts.{signature_goes_on}
use Rattle.str_parser.specs.Parsing.{is_where, is_name, begins_name, EndsRule, EndsForms, EndsSection, AtEnd, one_top, is_inside, IsParsing}
use Rattle.str_parser.specs.Within.{AreWithin}
use Rattle.str_parser.proofs.WayLaws.{deep_either, not_both}
use Rattle.str_parser.proofs.PhraseLaws.{Made, Makes}
use Rattle.str_parser.proofs.RunLaws.{several, Row, Lists}

-- ---- rules and definitions

begins_by_name : (f : FormTree) (is : List Item) (ts : List Lexeme) → Runs either (form f is) ts → begins_name ts ≡ true
begins_by_name (rule_form (head x ps) r) is [] w = absurd w
begins_by_name (rule_form (head x ps) r) is (t ∷ ts) w = ap is_name w.0
begins_by_name (strategy_form (definition (head x ps) s)) is [] w = absurd w
begins_by_name (strategy_form (definition (head x ps) s)) is (t ∷ ts) w = ap is_name w.0

-- after a rule another form may come
form_ends : (f : FormTree) (is : List Item) → EndsRule (form f is)
form_ends (rule_form (head x ps) r) is = (omega arith, λ t rest w. ap is_where w.0)
form_ends (strategy_form (definition (head x ps) s)) is = (omega arith, λ t rest w. ap is_where w.0)

tops_follow : (us : List TopTree) (is : List Item) → EndsForms is → EndsRule (several one_top us is)
tops_follow [] is h = h.0
tops_follow (d ∷ ds) is h = let e = form_ends d.form (several one_top ds is) in (e.0, λ t rest w. e.1 t rest w.1)

name_goes_on : (rest : List Lexeme) → begins_name rest ≡ true → (is : List Item) → EndsForms is →
    Runs either is rest → ⊥
name_goes_on [] e is h w = cc
name_goes_on (t ∷ ts) e is h w = let f = h.1 t ts w in cc

-- with a name, and no other token, another one comes
pub tops_row : Row one_top EndsRule EndsForms (λ ts. begins_name ts ≡ true) (λ ts. begins_name ts ≡ false)
tops_row = record {
  follows = tops_follow;
  goes_on = name_goes_on;
  past = λ rest e u is w. let f = begins_by_name u.form is rest w.1 in cc;
}

tops_written : (ds : List TopTree) (is : List Item) → several one_top ds is ≡ top_forms ds is
tops_written [] is = refl
tops_written (d ∷ ds) is = ap (one_top d) (tops_written ds is)

pub top_lists : Lists (several one_top) top_forms (λ ds. ds)
top_lists = record { from = λ ds. ds; back = λ ds. refl; written = tops_written }

-- ---- sections

-- a test that no section's keyword passes, nothing after a section passes
inside_only : (test : Lexeme → Bool) → test (keyword K.Signature) ≡ false → test (keyword K.Rules) ≡ false →
    test (keyword K.Strategies) ≡ false → (t : Lexeme) → is_inside t ≡ false → test t ≡ false
inside_only test a b c (keyword K.Signature) e = a
inside_only test a b c (keyword K.Rules) e = b
inside_only test a b c (keyword K.Strategies) e = c
inside_only test a b c _ e = cc

section_stops : (test : Lexeme → Bool) → test (keyword K.Signature) ≡ false → test (keyword K.Rules) ≡ false →
    test (keyword K.Strategies) ≡ false → (is : List Item) → EndsSection is → NoneOf test is
section_stops test a b c is h t rest w = inside_only test a b c t (h.1 t rest w)

forms_end : (is : List Item) → EndsSection is → EndsForms is
forms_end is h = ((h.0, section_stops is_where refl refl refl is h), section_stops is_name refl refl refl is h)

module _ {ts : List Lexeme} where
  signature_only : (u : SectionTree) (is : List Item) → EndsSection is →
      Runs either (section u is) (keyword K.Signature ∷ ts) →
      Made signature_parts (NoneOf signature_goes_on) ts signature u is
  signature_only (signature qs) is h w =
      record { from = qs; are = refl; ends = section_stops signature_goes_on refl refl refl is h; runs = w.1 }
  signature_only _ is h w = let e = w.0 in cc

  pub signature_section : Makes signature_parts (NoneOf signature_goes_on) ts section EndsSection
      (keyword K.Signature ∷ ts) signature
  signature_section = record { sound = λ way ps is w. (refl, w); only = signature_only; no_longer = omega arith }

  rules_only : (u : SectionTree) (is : List Item) → EndsSection is →
      Runs either (section u is) (keyword K.Rules ∷ ts) → Made top_forms EndsForms ts rules u is
  rules_only (rules ds) is h w = record { from = ds; are = refl; ends = forms_end is h; runs = w.1 }
  rules_only _ is h w = let e = w.0 in cc

  pub rules_section : Makes top_forms EndsForms ts section EndsSection (keyword K.Rules ∷ ts) rules
  rules_section = record { sound = λ way ds is w. (refl, w); only = rules_only; no_longer = omega arith }

  strategies_only : (u : SectionTree) (is : List Item) → EndsSection is →
      Runs either (section u is) (keyword K.Strategies ∷ ts) → Made top_forms EndsForms ts strategies u is
  strategies_only (strategies ds) is h w = record { from = ds; are = refl; ends = forms_end is h; runs = w.1 }
  strategies_only _ is h w = let e = w.0 in cc

  pub strategies_section : Makes top_forms EndsForms ts section EndsSection (keyword K.Strategies ∷ ts) strategies
  strategies_section = record { sound = λ way ds is w. (refl, w); only = strategies_only; no_longer = omega arith }

-- ---- sections up to the end

nothing_after : EndsSection []
nothing_after = (omega arith, λ t rest w. let e : t ∷ rest ≡ [] = w in cc)

section_after : (s : SectionTree) (is : List Item) → EndsSection (section s is)
section_after (signature ps) is = (omega arith, λ t rest w. ap is_inside w.0)
section_after (rules ds) is = (omega arith, λ t rest w. ap is_inside w.0)
section_after (strategies ds) is = (omega arith, λ t rest w. ap is_inside w.0)

sections_follow : (us : List SectionTree) (is : List Item) → AtEnd is → EndsSection (several section us is)
sections_follow [] is h = rw h nothing_after
sections_follow (s ∷ ss) is h = section_after s (several section ss is)

no_more : (u : SectionTree) (is : List Item) → Runs either (section u is) [] → ⊥
no_more (signature ps) is w = w
no_more (rules ds) is w = w
no_more (strategies ds) is w = w

-- with a token another one comes
pub sections_row : Row section EndsSection AtEnd (λ ts. ts ≡ [] → ⊥) (λ ts. ts ≡ [])
sections_row = record {
  follows = sections_follow;
  goes_on = λ rest n is h w. n (rw h at w);
  past = λ rest e u is w. no_more u is (rw e at w);
}

sections_written : (ss : List SectionTree) (is : List Item) → several section ss is ≡ sections ss is
sections_written [] is = refl
sections_written (s ∷ ss) is = ap (section s) (sections_written ss is)

pub section_lists : Lists (several section) sections (λ ss. ss)
section_lists = record { from = λ ss. ss; back = λ ss. refl; written = sections_written }

pub not_empty : (b : Bool) (rest : List Lexeme) → IsTrue b ↔ (rest ≡ []) → b ≡ false → rest ≡ [] → ⊥
not_empty true rest i f e = cc
not_empty false rest i f e = let h : false ≡ true = i.1 e in cc

pub is_empty : (b : Bool) (rest : List Lexeme) → IsTrue b ↔ (rest ≡ []) → b ≡ true → rest ≡ []
is_empty true rest i f = i.0 refl
is_empty false rest i f = cc

-- ---- files

abbrev pub file_with : List SectionTree → FileTree
file_with ss = record { sections = ss }

whole_spelled : (is : List Item) (ts : List Lexeme) → Runs whole is ts → Spelled is ts
whole_spelled [] ts r = r
whole_spelled (token u ∷ is) [] r = absurd r
whole_spelled (token u ∷ is) (t ∷ ts) r = (r.0, whole_spelled is ts r.1)
whole_spelled (part p k ∷ is) ts r = whole_spelled is ts r.1
whole_spelled (no_build ∷ is) ts r = (r.0, whole_spelled is ts r.1)
whole_spelled (only b ∷ is) ts r = (r.0, whole_spelled is ts r.1)

spelled_either : (is : List Item) (ts : List Lexeme) → Spelled is ts → Runs either is ts
spelled_either [] ts r = r
spelled_either (token u ∷ is) [] r = absurd r
spelled_either (token u ∷ is) (t ∷ ts) r = (r.0, spelled_either is ts r.1)
spelled_either (part p k ∷ is) ts r = inr (spelled_either is ts r)
spelled_either (no_build ∷ is) ts r = (r.0, spelled_either is ts r.1)
spelled_either (only b ∷ is) ts r = (r.0, spelled_either is ts r.1)

pub file_found : (ss : List SectionTree) (ts : List Lexeme) → FoundAny sections AtEnd ts ss [] →
    OnlyPhrase ts (file_with ss) × (TooNested ts → ⊥)
file_found ss ts f =
    let p : Runs whole (sections ss []) ts = f.sound whole [] refl in (
      record {
        phrase = whole_spelled (sections ss []) ts p;
        only_one = λ g r. let o = f.only_one g.sections [] refl (spelled_either (sections g.sections []) ts r) in
            ap file_with o.0;
      },
      λ d.
          let o = f.only_one d.f.sections [] refl (deep_either (sections d.f.sections []) ts d.runs) in
          not_both (sections ss []) ts p (subst (λ v. Runs too_deep (sections v []) ts) o.0 d.runs),
    )

file_missing : (ts : List Lexeme) → Missing sections AtEnd ts → ((f : FileTree) → IsPhrase ts f → ⊥) ×
    (TooNested ts → ⊥)
file_missing ts m = (
  λ f r. m.none f.sections [] refl (spelled_either (sections f.sections []) ts r),
  λ d. m.none d.f.sections [] refl (deep_either (sections d.f.sections []) ts d.runs),
)

pub file_fault : (ts : List Lexeme) (e : ParseRefusal) → IsFault sections AtEnd ts e → IsParsing ts (Err (fault_of e))
file_fault ts refusals.Memory h = tt
file_fault ts (refusals.Syntax _ _) h = file_missing ts h
file_fault ts (refusals.Nesting _) h = record { f = file_with h.tree; runs = h.runs [] }

-- slices of a text lie in it
pub slices_within : (text : List ℕ) (at : ℕ) (ts : List Token) → AreSlices text at ts → AreWithin (length text) ts
slices_within text at [] h = tt
slices_within text at (t ∷ ts) h =
    let o = h.1.ordered in
    (omega arith, h.1.within, slices_within text t.to ts h.2)
