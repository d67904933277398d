-- What comes after the colon of a declaration: how it is made of sorts.
use Rattle.std.proofs.Common.{◌≡◌, false, List, [], ◌∷◌, length, refl, sym, ap, arith}
use Rattle.str_lexer.specs.declared.token.Mark.TheVariants as M
use Rattle.str_syntax.specs.declared.sort.Sort.{Sort}
use Rattle.str_syntax.specs.Trees.{SortTree, sort, SortTrees, no_sorts, more_sorts}
use Rattle.str_syntax.specs.Views.{sorts_of}
use Rattle.str_parser.specs.Lexemes.{Lexeme, mark}
use Rattle.str_parser.specs.Items.{Item, either, Runs}
use Rattle.str_parser.specs.Phrases.{sign}
use Rattle.str_parser.specs.Readings.{NotAt, Found, Missing}
use Rattle.str_parser.specs.Runs.{NoneOf}
use Rattle.str_parser.specs.Sorts.{inner_sort, some_factors, TypeTree, plain, mapping, typed, sort_goes_on, factors_go_on, declaration_goes_on}
use Rattle.str_parser.proofs.WayLaws.{not_along}
use Rattle.str_parser.proofs.PhraseLaws.{Carries, Made, Makes}

-- ---- what stops

fewer : (t : Lexeme) → declaration_goes_on t ≡ false → (factors_go_on t ≡ false) × (sort_goes_on t ≡ false)
fewer (mark M.OpenParenthesis) e = (e, e)
fewer (mark M.Star) e = (e, refl)
fewer _ e = (refl, refl)

factors_stop : (is : List Item) → NoneOf declaration_goes_on is → NoneOf factors_go_on is
factors_stop is h = λ t rest r. (fewer t (h t rest r)).0

sort_stops : (is : List Item) → NoneOf declaration_goes_on is → NoneOf sort_goes_on is
sort_stops is h = λ t rest r. (fewer t (h t rest r)).1

at_arrow : (is : List Item) → NoneOf factors_go_on (sign M.Arrow ∷ is)
at_arrow is = λ t rest r. ap factors_go_on r.0

-- ---- sorts, an arrow and a sort

module _ (ts : List Lexeme) where
  no_factors : Missing some_factors (NoneOf factors_go_on) ts → (u : TypeTree) (is : List Item) →
      NoneOf declaration_goes_on is → Runs either (typed u is) ts → ⊥
  no_factors m (plain v) is h r = m.none (more_sorts v no_sorts) is (factors_stop is h) r
  no_factors m (mapping us v) is h r = m.none us (sign M.Arrow ∷ inner_sort 1 v is) (at_arrow (inner_sort 1 v is)) r

  pub at_factors : Carries some_factors (NoneOf factors_go_on) ts typed (NoneOf declaration_goes_on) ts
  at_factors = record {
    missing = λ m. record { none = no_factors m };
    nested = λ d. record {
      tree = mapping d.tree (sort []);
      runs = λ is. d.runs (sign M.Arrow ∷ inner_sort 1 (sort []) is);
    };
  }

module _ {ts ahead : List Lexeme} {ss : SortTrees}
    (f : Found some_factors (NoneOf factors_go_on) ts ss (mark M.Arrow ∷ ahead)) where
  arrow_only : (u : TypeTree) (is : List Item) → NoneOf declaration_goes_on is → Runs either (typed u is) ts →
      Made (inner_sort 1) (NoneOf sort_goes_on) ahead (mapping ss) u is
  arrow_only (plain v) is h r =
      let o = f.only_one (more_sorts v no_sorts) is (factors_stop is h) r in
      let e = h (mark M.Arrow) ahead o.1 in cc
  arrow_only (mapping us v) is h r =
      let o = f.only_one us (sign M.Arrow ∷ inner_sort 1 v is) (at_arrow (inner_sort 1 v is)) r in
      record { from = v; are = ap (λ x. mapping x v) o.0; ends = sort_stops is h; runs = o.1.1 }

  -- the sort after the arrow
  pub after_arrow : Makes (inner_sort 1) (NoneOf sort_goes_on) ahead typed (NoneOf declaration_goes_on) ts (mapping ss)
  after_arrow = record {
    sound = λ way v is r. f.sound way (sign M.Arrow ∷ inner_sort 1 v is) (refl, r);
    only = arrow_only;
    no_longer = omega (arith, f.shorter);
  }

-- ---- sorts and no arrow

module _ {ts rest : List Lexeme} {ss : SortTrees} (f : Found some_factors (NoneOf factors_go_on) ts ss rest)
    (n : NotAt (mark M.Arrow) rest) where
  -- a tree that runs along the tokens is one sort
  no_arrow : (u : TypeTree) (is : List Item) → NoneOf declaration_goes_on is → Runs either (typed u is) ts →
      (v : SortTree) × (u ≡ plain v) × (ss ≡ more_sorts v no_sorts) × Runs either is rest
  no_arrow (plain v) is h r =
      let o = f.only_one (more_sorts v no_sorts) is (factors_stop is h) r in
      (v, refl, sym o.0, o.1)
  no_arrow (mapping us v) is h r =
      let o = f.only_one us (sign M.Arrow ∷ inner_sort 1 v is) (at_arrow (inner_sort 1 v is)) r in
      absurd (not_along (mark M.Arrow) (inner_sort 1 v is) rest n o.1)

  pub missing_arrow : ((s : SortTree) → ss ≡ more_sorts s no_sorts → ⊥) → Missing typed (NoneOf declaration_goes_on) ts
  missing_arrow k = record { none = λ u is h r. let o = no_arrow u is h r in k o.0 o.2 }

  pub found_plain : (s : SortTree) → ss ≡ more_sorts s no_sorts →
      Found typed (NoneOf declaration_goes_on) ts (plain s) rest
  found_plain s e = record {
    sound = λ way is r. let g = rw e at f in g.sound way is r;
    only_one = λ u is h r. let o = no_arrow u is h r in let a = o.1 in let b = o.2 in (cc, o.3);
    shorter = f.shorter;
  }

-- one tree is that of a list of one sort
pub sole_length : (ss : List Sort) (s : SortTree) → sorts_of ss ≡ more_sorts s no_sorts → length ss ≡ 1
sole_length [] s e = cc
sole_length (x ∷ []) s e = refl
sole_length (x ∷ y ∷ ss) s e = cc
