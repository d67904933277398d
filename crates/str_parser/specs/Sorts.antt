-- The headline does not rest on this file.
-- Sorts, declarations and signatures: their parts, what they begin with, and what goes on with them.
use Rattle.std.specs.Prelude.{◌≡◌, ℕ, Bool, true, false, List, [], ◌∷◌, map, Option, Some, None}
use Rattle.std.specs.Borrow.{Bor}
use Rattle.std.specs.declared.vec.Vec.{Vec}
use Rattle.std.specs.declared.alloc.Global.{Global}
use Rattle.str_lexer.specs.declared.token.Mark.TheVariants as M
use Rattle.str_lexer.specs.declared.token.Keyword.TheVariants as K
use Rattle.str_syntax.specs.declared.sort.Sort.{Sort}
use Rattle.str_syntax.specs.declared.sort.Declaration.{Declaration}
use Rattle.str_syntax.specs.declared.sort.SignaturePart.{SignaturePart}
use Rattle.str_syntax.specs.Trees.{SortTree, SortTrees, no_sorts, more_sorts, DeclarationTree, SignatureTree}
use Rattle.str_syntax.specs.Views.{sort_tree_of, sorts_of, declaration_of, signature_of}
use Rattle.str_parser.specs.Lexemes.{Lexeme, name, mark, keyword, sort_part, begins_sort}
use Rattle.str_parser.specs.Items.{Item, part, only}
use Rattle.str_parser.specs.Phrases.{sign, sorted, other_sorts}
use Rattle.str_parser.specs.declared.sorts.SortType.{SortType}
use Rattle.str_parser.specs.declared.sorts.SortType.TheVariants as types

-- ---- the parts of sorts and declarations

abbrev pub inner_sort : ℕ → SortTree → List Item → List Item
inner_sort k s is = part sort_part k ∷ sorted k s is

-- sorts with commas between, one at least
abbrev pub some_sorts : ℕ → SortTrees → List Item → List Item
some_sorts k no_sorts is = only false ∷ is
some_sorts k (more_sorts s ss) is = part sort_part k ∷ sorted k s (other_sorts k ss is)

-- sorts with a * before each
abbrev pub other_factors : SortTrees → List Item → List Item
other_factors no_sorts is = is
other_factors (more_sorts s ss) is = sign M.Star ∷ part sort_part 1 ∷ sorted 1 s (other_factors ss is)

-- sorts with * between, one at least
abbrev pub some_factors : SortTrees → List Item → List Item
some_factors no_sorts is = only false ∷ is
some_factors (more_sorts s ss) is = part sort_part 1 ∷ sorted 1 s (other_factors ss is)

-- what comes after the colon of a declaration
pub data TypeTree : Type 0 where
  plain : SortTree → TypeTree
  mapping : SortTrees → SortTree → TypeTree

abbrev pub typed : TypeTree → List Item → List Item
typed (plain s) is = part sort_part 1 ∷ sorted 1 s is
typed (mapping ss s) is = some_factors ss (sign M.Arrow ∷ part sort_part 1 ∷ sorted 1 s is)

abbrev pub type_of : SortType → TypeTree
type_of (types.Plain s) = plain (sort_tree_of s)
type_of (types.Mapping ss s) = mapping (sorts_of ss.items) (sort_tree_of s)

abbrev pub sorts_from : Vec Sort Global → SortTrees
sorts_from ss = sorts_of ss.items

abbrev pub declarations_from : Vec Declaration Global → List DeclarationTree
declarations_from ds = map declaration_of ds.items

abbrev pub signatures_from : Vec SignaturePart Global → List SignatureTree
signatures_from ss = map signature_of ss.items

-- the one sort, where there is one only
abbrev pub IsSole : SortTrees → Option Sort → Type 0
IsSole ss (Some s) = ss ≡ more_sorts (sort_tree_of s) no_sorts
IsSole ss None = (s : SortTree) → ss ≡ more_sorts s no_sorts → ⊥

-- ---- first tokens

-- whether the first of the tokens is one of these
abbrev pub first_is : (Lexeme → Bool) → List Lexeme → Bool
first_is these [] = false
first_is these (t ∷ ts) = these t

-- the name that the tokens begin with, and the rest
abbrev pub IsFirstName : List Lexeme → Option (Bor (List ℕ) × List Lexeme) → Type 0
IsFirstName ts (Some (x, rest)) = ts ≡ name x.now ∷ rest
IsFirstName ts None = first_is begins_sort ts ≡ false

abbrev pub begins_declaration : Lexeme → Bool
begins_declaration (name _) = true
begins_declaration (mark M.Colon) = true
begins_declaration _ = false

abbrev pub begins_signature_part : Lexeme → Bool
begins_signature_part (keyword K.Sorts) = true
begins_signature_part (keyword K.Constructors) = true
begins_signature_part _ = false

-- ---- tokens that go on

abbrev pub sort_goes_on : Lexeme → Bool
sort_goes_on (mark M.OpenParenthesis) = true
sort_goes_on _ = false

abbrev pub sort_list_goes_on : Lexeme → Bool
sort_list_goes_on (mark M.OpenParenthesis) = true
sort_list_goes_on (mark M.Comma) = true
sort_list_goes_on _ = false

abbrev pub sort_run_goes_on : Lexeme → Bool
sort_run_goes_on (mark M.OpenParenthesis) = true
sort_run_goes_on (name _) = true
sort_run_goes_on _ = false

abbrev pub factors_go_on : Lexeme → Bool
factors_go_on (mark M.OpenParenthesis) = true
factors_go_on (mark M.Star) = true
factors_go_on _ = false

abbrev pub declaration_goes_on : Lexeme → Bool
declaration_goes_on (mark M.OpenParenthesis) = true
declaration_goes_on (mark M.Star) = true
declaration_goes_on (mark M.Arrow) = true
declaration_goes_on _ = false

-- sorts or declarations of a signature go on
abbrev pub signature_part_goes_on : Lexeme → Bool
signature_part_goes_on (mark M.OpenParenthesis) = true
signature_part_goes_on (mark M.Star) = true
signature_part_goes_on (mark M.Arrow) = true
signature_part_goes_on (mark M.Colon) = true
signature_part_goes_on (name _) = true
signature_part_goes_on _ = false

abbrev pub signature_goes_on : Lexeme → Bool
signature_goes_on (keyword K.Sorts) = true
signature_goes_on (keyword K.Constructors) = true
signature_goes_on (mark M.OpenParenthesis) = true
signature_goes_on (mark M.Star) = true
signature_goes_on (mark M.Arrow) = true
signature_goes_on (mark M.Colon) = true
signature_goes_on (name _) = true
signature_goes_on _ = false
