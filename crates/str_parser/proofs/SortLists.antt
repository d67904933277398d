-- Rows of sorts: with commas, with *, and one right after the other.
use Rattle.std.proofs.Common.{◌≡◌, ℕ, true, false, List, [], ◌∷◌, refl, ap}
use Rattle.str_lexer.specs.declared.token.Mark.TheVariants as M
use Rattle.str_syntax.specs.Trees.{SortTree, SortTrees, no_sorts, more_sorts}
use Rattle.str_syntax.specs.Views.{sorts_in}
use Rattle.str_parser.specs.Lexemes.{Lexeme, name, mark, begins_sort}
use Rattle.str_parser.specs.Items.{Item}
use Rattle.str_parser.specs.Phrases.{sign, other_sorts, sort_run}
use Rattle.str_parser.specs.Readings.{NotAt}
use Rattle.str_parser.specs.Runs.{NoneOf}
use Rattle.str_parser.specs.Sorts.{inner_sort, some_sorts, other_factors, some_factors, first_is, sort_goes_on, sort_list_goes_on, sort_run_goes_on, factors_go_on}
use Rattle.str_parser.proofs.PhraseLaws.{behind}
use Rattle.str_parser.proofs.RunLaws.{several, some, Row, Lists, Partly, At, token_row, begun_row}
use Rattle.str_parser.proofs.SortLaws.{inner_begins}

-- ---- sorts as a list

listed : SortTrees → List SortTree
listed no_sorts = []
listed (more_sorts s ss) = s ∷ listed ss

in_listed : (ss : SortTrees) → ss ≡ sorts_in (listed ss)
unfolding listed
in_listed no_sorts = refl
in_listed (more_sorts s ss) = ap (more_sorts s) (in_listed ss)

-- ---- with commas between

fewer_in_list : (t : Lexeme) → sort_list_goes_on t ≡ false → sort_goes_on t ≡ false
fewer_in_list (mark M.OpenParenthesis) e = e
fewer_in_list _ e = refl

comma_follows : (k : ℕ) (us : List SortTree) (is : List Item) → NoneOf sort_list_goes_on is →
    NoneOf sort_goes_on (several (behind (mark M.Comma) (inner_sort k)) us is)
comma_follows k [] is h = λ t rest r. fewer_in_list t (h t rest r)
comma_follows k (u ∷ us) is h = λ t rest r. ap sort_goes_on r.0

pub sorts_row : (k : ℕ) → Row (behind (mark M.Comma) (inner_sort k)) (NoneOf sort_goes_on) (NoneOf sort_list_goes_on)
    (At (mark M.Comma)) (NotAt (mark M.Comma))
sorts_row k = token_row (mark M.Comma) refl (comma_follows k)

other_sorts_are : (k : ℕ) (ss : List SortTree) (is : List Item) →
    several (behind (mark M.Comma) (inner_sort k)) ss is ≡ other_sorts k (sorts_in ss) is
other_sorts_are k [] is = refl
other_sorts_are k (s ∷ ss) is = ap (λ l. sign M.Comma ∷ inner_sort k s l) (other_sorts_are k ss is)

some_sorts_are : (k : ℕ) (ss : List SortTree) (is : List Item) →
    some (inner_sort k) (behind (mark M.Comma) (inner_sort k)) ss is ≡ some_sorts k (sorts_in ss) is
some_sorts_are k [] is = refl
some_sorts_are k (s ∷ ss) is = ap (inner_sort k s) (other_sorts_are k ss is)

pub sort_lists : (k : ℕ) → Lists (some (inner_sort k) (behind (mark M.Comma) (inner_sort k))) (some_sorts k) sorts_in
sort_lists k = record { from = listed; back = in_listed; written = some_sorts_are k }

abbrev pub PartlySorts : ℕ → List SortTree → List Lexeme → List Lexeme → Type 0
PartlySorts k = Partly (behind (mark M.Comma) (inner_sort k)) (NoneOf sort_list_goes_on) (some_sorts k) sorts_in 1

-- ---- with * between

fewer_in_factors : (t : Lexeme) → factors_go_on t ≡ false → sort_goes_on t ≡ false
fewer_in_factors (mark M.OpenParenthesis) e = e
fewer_in_factors _ e = refl

star_follows : (us : List SortTree) (is : List Item) → NoneOf factors_go_on is →
    NoneOf sort_goes_on (several (behind (mark M.Star) (inner_sort 1)) us is)
star_follows [] is h = λ t rest r. fewer_in_factors t (h t rest r)
star_follows (u ∷ us) is h = λ t rest r. ap sort_goes_on r.0

pub factors_row : Row (behind (mark M.Star) (inner_sort 1)) (NoneOf sort_goes_on) (NoneOf factors_go_on)
    (At (mark M.Star)) (NotAt (mark M.Star))
factors_row = token_row (mark M.Star) refl star_follows

other_factors_are : (ss : List SortTree) (is : List Item) →
    several (behind (mark M.Star) (inner_sort 1)) ss is ≡ other_factors (sorts_in ss) is
other_factors_are [] is = refl
other_factors_are (s ∷ ss) is = ap (λ l. sign M.Star ∷ inner_sort 1 s l) (other_factors_are ss is)

some_factors_are : (ss : List SortTree) (is : List Item) →
    some (inner_sort 1) (behind (mark M.Star) (inner_sort 1)) ss is ≡ some_factors (sorts_in ss) is
some_factors_are [] is = refl
some_factors_are (s ∷ ss) is = ap (inner_sort 1 s) (other_factors_are ss is)

pub factor_lists : Lists (some (inner_sort 1) (behind (mark M.Star) (inner_sort 1))) some_factors sorts_in
factor_lists = record { from = listed; back = in_listed; written = some_factors_are }

abbrev pub PartlyFactors : List SortTree → List Lexeme → List Lexeme → Type 0
PartlyFactors = Partly (behind (mark M.Star) (inner_sort 1)) (NoneOf factors_go_on) some_factors sorts_in 1

-- ---- one right after the other

-- a name does not go on with a sort, and goes on with a run
at_name : (t : Lexeme) → begins_sort t ≡ true → (sort_goes_on t ≡ false) × (sort_run_goes_on t ≡ true)
at_name (name x) e = (refl, refl)
at_name _ e = cc

fewer_in_run : (t : Lexeme) → sort_run_goes_on t ≡ false → sort_goes_on t ≡ false
fewer_in_run (mark M.OpenParenthesis) e = e
fewer_in_run _ e = refl

pub runs_row : Row (inner_sort 1) (NoneOf sort_goes_on) (NoneOf sort_run_goes_on)
    (λ ts. first_is begins_sort ts ≡ true) (λ ts. first_is begins_sort ts ≡ false)
runs_row = begun_row (record { starts = inner_begins 1; here = at_name; fewer = fewer_in_run })

sort_run_is : (ss : List SortTree) (is : List Item) → several (inner_sort 1) ss is ≡ sort_run (sorts_in ss) is
sort_run_is [] is = refl
sort_run_is (s ∷ ss) is = ap (inner_sort 1 s) (sort_run_is ss is)

pub run_lists : Lists (several (inner_sort 1)) sort_run sorts_in
run_lists = record { from = listed; back = in_listed; written = sort_run_is }

abbrev pub PartlyRun : List SortTree → List Lexeme → List Lexeme → Type 0
PartlyRun = Partly (inner_sort 1) (NoneOf sort_run_goes_on) sort_run sorts_in 0
