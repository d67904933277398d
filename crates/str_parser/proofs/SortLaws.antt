-- Sorts: how they are made of their parts, and what they begin with.
use Rattle.std.proofs.Common.{◌≡◌, ℕ, ◌+◌, ◌≤◌, inl, inr, true, false, List, [], ◌∷◌, Option, Some, None, refl, ap, arith}
use Rattle.str_lexer.specs.declared.token.Mark.TheVariants as M
use Rattle.str_syntax.specs.Trees.{SortTree, sort, sort_of, SortTrees, no_sorts, more_sorts}
use Rattle.str_parser.specs.Lexemes.{Lexeme, name, mark, sort_part, begins_sort, first_begins}
use Rattle.str_parser.specs.Items.{Item, Way, either, Passes, Runs}
use Rattle.str_parser.specs.Phrases.{sign, sorted}
use Rattle.str_parser.specs.Readings.{AtMost, Missing, Nested, one_name}
use Rattle.str_parser.specs.Runs.{NoneOf}
use Rattle.str_parser.specs.Sorts.{inner_sort, some_sorts, first_is, sort_goes_on, sort_list_goes_on}
use Rattle.str_parser.proofs.PhraseLaws.{Makes, makes_on, Parts, Pairs, after_first, optional, is_option, closed, is_inside}
use Rattle.str_parser.proofs.NameLaws.{at_most_five, name_at}

-- ---- first tokens

sorted_begins : (k : ℕ) (u : SortTree) (is : List Item) (ts : List Lexeme) → Runs either (sorted k u is) ts →
    first_is begins_sort ts ≡ true
sorted_begins k (sort x) is [] r = absurd r
sorted_begins k (sort x) is (t ∷ ts) r = ap begins_sort r.0
sorted_begins k (sort_of x ss) is [] r = absurd r.1
sorted_begins k (sort_of x ss) is (t ∷ ts) r = ap begins_sort r.1.0

beyond_begins : (ts : List Lexeme) → first_begins sort_part ts ≡ true → first_is begins_sort ts ≡ true
beyond_begins [] e = e
beyond_begins (t ∷ ts) e = e

begins_by : (k : ℕ) (u : SortTree) (is : List Item) (ts : List Lexeme) →
    Passes either sort_part k ts (Runs either (sorted k u is) ts) → first_is begins_sort ts ≡ true
begins_by k u is ts (inl b) = beyond_begins ts b.1
begins_by k u is ts (inr r) = sorted_begins k u is ts r

pub inner_begins : (k : ℕ) (u : SortTree) (is : List Item) (ts : List Lexeme) → Runs either (inner_sort k u is) ts →
    first_is begins_sort ts ≡ true
inner_begins k u is ts r = begins_by k u is ts r

pub missing_sort : (k : ℕ) (ts : List Lexeme) → first_is begins_sort ts ≡ false →
    Missing (inner_sort k) (NoneOf sort_goes_on) ts
missing_sort k ts e = record { none = λ u is h r. let b = inner_begins k u is ts r in cc }

pub deep_sort : (k : ℕ) (x : List ℕ) (ts : List Lexeme) → k ≡ 201 → Nested (inner_sort k) (name x ∷ ts)
deep_sort k x ts h = record { tree = sort x; runs = λ is. inl (h, refl) }

-- ---- a name and, in parentheses, sorts

abbrev pub sort_with : List ℕ → Option SortTrees → SortTree
sort_with x None = sort x
sort_with x (Some ss) = sort_of x ss

-- sorts and a parenthesis
abbrev pub sorts_closed : ℕ → SortTrees → List Item → List Item
sorts_closed k = closed (mark M.CloseParenthesis) (some_sorts (k + 1))

-- with no sorts nothing runs along them
none_run : (way : Way) (x : List ℕ) (is : List Item) (ts : List Lexeme) →
    Runs way (one_name x (optional (mark M.OpenParenthesis) (sorts_closed 0) (Some no_sorts) is)) ts → ⊥
none_run way x is [] r = r
none_run way x is (t ∷ []) r = r.1
none_run way x is (t ∷ u ∷ ts) r = let e = r.1.1.0 in cc

sort_sound : (k : ℕ) (way : Way) (x : List ℕ) (o : Option SortTrees) (is : List Item) (ts : List Lexeme) →
    Runs way (one_name x (optional (mark M.OpenParenthesis) (sorts_closed k) o is)) ts →
    Runs way (sorted k (sort_with x o) is) ts
sort_sound k way x None is ts r = r
sort_sound k way x (Some no_sorts) is ts r = absurd (none_run way x is ts r)
sort_sound k way x (Some (more_sorts s ss)) is ts r = (refl, r)

sort_only : (k : ℕ) (u : SortTree) (is : List Item) (ts : List Lexeme) → Runs either (sorted k u is) ts →
    Parts one_name (AtMost 5) (optional (mark M.OpenParenthesis) (sorts_closed k)) sort_with u is ts
sort_only k (sort x) is ts r =
    record { one = x; other = None; are = refl; ends = at_most_five is; runs = r }
sort_only k (sort_of x no_sorts) is ts r = let e = r.0 in cc
sort_only k (sort_of x (more_sorts s ss)) is ts r =
    record { one = x; other = Some (more_sorts s ss); are = refl; ends = omega arith; runs = r.1 }

pub sort_pairs : (k : ℕ) → Pairs one_name (AtMost 5) (optional (mark M.OpenParenthesis) (sorts_closed k)) (sorted k)
    (NoneOf sort_goes_on) sort_with
sort_pairs k = record { sound = sort_sound k; only = λ u is ts h r. sort_only k u is ts r }

pub sorts_end : (is : List Item) → NoneOf sort_list_goes_on (sign M.CloseParenthesis ∷ is)
sorts_end is = λ t rest r. ap sort_list_goes_on r.0

not_opened : (ts : List Lexeme) (is : List Item) → NoneOf sort_goes_on is →
    Runs either is (mark M.OpenParenthesis ∷ ts) → ⊥
not_opened ts is h r = let e = h (mark M.OpenParenthesis) ts r in cc

-- sorts after a name and a parenthesis
pub sort_opened : (k : ℕ) {x : List ℕ} {ts : List Lexeme} → k ≤ 200 →
    Makes (sorts_closed k) (NoneOf sort_goes_on) ts (inner_sort k) (NoneOf sort_goes_on)
    (name x ∷ mark M.OpenParenthesis ∷ ts) (sort_of x)
sort_opened k {ts = ts} h =
    makes_on (makes_on (is_option (λ is e. e) (not_opened ts)) (after_first (sort_pairs k) name_at))
    (is_inside sort_part k (sorted k) h)
