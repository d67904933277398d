-- Declarations one after the other, and the parts of signatures.
use Rattle.std.proofs.Common.{◌≡◌, true, false, List, [], ◌∷◌, refl, ap, arith}
use Rattle.str_lexer.specs.declared.token.Mark.TheVariants as M
use Rattle.str_lexer.specs.declared.token.Keyword.TheVariants as K
use Rattle.str_syntax.specs.Trees.{DeclarationTree, SignatureTree, sorts, constructors}
use Rattle.str_parser.specs.Lexemes.{Lexeme, name, mark, keyword}
use Rattle.str_parser.specs.Items.{Item, either, Runs}
use Rattle.str_parser.specs.Phrases.{sort_run, declaration, declarations, signature_part, signature_parts}
use Rattle.str_parser.specs.Runs.{NoneOf}
use Rattle.str_parser.specs.Sorts.{first_is, begins_declaration, begins_signature_part, sort_run_goes_on, declaration_goes_on, signature_part_goes_on, signature_goes_on}
use Rattle.str_parser.proofs.PhraseLaws.{Made, Makes}
use Rattle.str_parser.proofs.RunLaws.{several, Row, Lists, Partly, begun_row}
use Rattle.str_parser.proofs.DeclarationLaws.{declaration_begins}

-- ---- declarations

at_declaration : (t : Lexeme) → begins_declaration t ≡ true →
    (declaration_goes_on t ≡ false) × (signature_part_goes_on t ≡ true)
at_declaration (name x) e = (refl, refl)
at_declaration (mark M.Colon) e = (refl, refl)
at_declaration _ e = cc

fewer_in_part : (t : Lexeme) → signature_part_goes_on t ≡ false → declaration_goes_on t ≡ false
fewer_in_part (mark M.OpenParenthesis) e = e
fewer_in_part (mark M.Star) e = e
fewer_in_part (mark M.Arrow) e = e
fewer_in_part _ e = refl

pub declarations_row : Row declaration (NoneOf declaration_goes_on) (NoneOf signature_part_goes_on)
    (λ ts. first_is begins_declaration ts ≡ true) (λ ts. first_is begins_declaration ts ≡ false)
declarations_row = begun_row (record { starts = declaration_begins; here = at_declaration; fewer = fewer_in_part })

declarations_are : (ds : List DeclarationTree) (is : List Item) → several declaration ds is ≡ declarations ds is
declarations_are [] is = refl
declarations_are (d ∷ ds) is = ap (declaration d) (declarations_are ds is)

pub declaration_lists : Lists (several declaration) declarations (λ ds. ds)
declaration_lists = record { from = λ ds. ds; back = λ ds. refl; written = declarations_are }

abbrev pub PartlyDeclarations : List DeclarationTree → List Lexeme → List Lexeme → Type 0
PartlyDeclarations = Partly declaration (NoneOf signature_part_goes_on) declarations (λ ds. ds) 0

-- ---- a part of a signature

fewer_in_sorts : (t : Lexeme) → signature_part_goes_on t ≡ false → sort_run_goes_on t ≡ false
fewer_in_sorts (mark M.OpenParenthesis) e = e
fewer_in_sorts (name x) e = e
fewer_in_sorts _ e = refl

module _ {ahead : List Lexeme} where
  sorts_only : (u : SignatureTree) (is : List Item) → NoneOf signature_part_goes_on is →
      Runs either (signature_part u is) (keyword K.Sorts ∷ ahead) →
      Made sort_run (NoneOf sort_run_goes_on) ahead sorts u is
  sorts_only (sorts ss) is h r =
      record { from = ss; are = refl; ends = λ t rest s. fewer_in_sorts t (h t rest s); runs = r.1 }
  sorts_only (constructors ds) is h r = let e = r.0 in cc

  pub sorts_part : Makes sort_run (NoneOf sort_run_goes_on) ahead signature_part (NoneOf signature_part_goes_on)
      (keyword K.Sorts ∷ ahead) sorts
  sorts_part = record { sound = λ way ss is r. (refl, r); only = sorts_only; no_longer = omega arith }

  constructors_only : (u : SignatureTree) (is : List Item) → NoneOf signature_part_goes_on is →
      Runs either (signature_part u is) (keyword K.Constructors ∷ ahead) →
      Made declarations (NoneOf signature_part_goes_on) ahead constructors u is
  constructors_only (sorts ss) is h r = let e = r.0 in cc
  constructors_only (constructors ds) is h r = record { from = ds; are = refl; ends = h; runs = r.1 }

  pub constructors_part : Makes declarations (NoneOf signature_part_goes_on) ahead signature_part
      (NoneOf signature_part_goes_on) (keyword K.Constructors ∷ ahead) constructors
  constructors_part = record { sound = λ way ds is r. (refl, r); only = constructors_only; no_longer = omega arith }

-- ---- the parts of a signature

part_begins : (u : SignatureTree) (is : List Item) (ts : List Lexeme) → Runs either (signature_part u is) ts →
    first_is begins_signature_part ts ≡ true
part_begins (sorts ss) is [] r = absurd r
part_begins (sorts ss) is (t ∷ ts) r = ap begins_signature_part r.0
part_begins (constructors ds) is [] r = absurd r
part_begins (constructors ds) is (t ∷ ts) r = ap begins_signature_part r.0

at_part : (t : Lexeme) → begins_signature_part t ≡ true →
    (signature_part_goes_on t ≡ false) × (signature_goes_on t ≡ true)
at_part (keyword K.Sorts) e = (refl, refl)
at_part (keyword K.Constructors) e = (refl, refl)
at_part _ e = cc

fewer_in_signature : (t : Lexeme) → signature_goes_on t ≡ false → signature_part_goes_on t ≡ false
fewer_in_signature (mark M.OpenParenthesis) e = e
fewer_in_signature (mark M.Star) e = e
fewer_in_signature (mark M.Arrow) e = e
fewer_in_signature (mark M.Colon) e = e
fewer_in_signature (name x) e = e
fewer_in_signature _ e = refl

pub parts_row : Row signature_part (NoneOf signature_part_goes_on) (NoneOf signature_goes_on)
    (λ ts. first_is begins_signature_part ts ≡ true) (λ ts. first_is begins_signature_part ts ≡ false)
parts_row = begun_row (record { starts = part_begins; here = at_part; fewer = fewer_in_signature })

parts_are : (ss : List SignatureTree) (is : List Item) → several signature_part ss is ≡ signature_parts ss is
parts_are [] is = refl
parts_are (s ∷ ss) is = ap (signature_part s) (parts_are ss is)

pub part_lists : Lists (several signature_part) signature_parts (λ ss. ss)
part_lists = record { from = λ ss. ss; back = λ ss. refl; written = parts_are }

abbrev pub PartlySignature : List SignatureTree → List Lexeme → List Lexeme → Type 0
PartlySignature = Partly signature_part (NoneOf signature_goes_on) signature_parts (λ ss. ss) 0
