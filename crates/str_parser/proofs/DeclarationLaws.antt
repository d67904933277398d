-- Declarations: how they are made of their parts, and what they begin with.
use Rattle.std.proofs.Common.{◌≡◌, ℕ, true, List, [], ◌∷◌, refl, sym, ap, subst, arith}
use Rattle.str_lexer.specs.declared.token.Mark.TheVariants as M
use Rattle.str_syntax.specs.Trees.{SortTree, sort, SortTrees, no_sorts, more_sorts, DeclarationTree, constant, constructor, injection}
use Rattle.str_parser.specs.Lexemes.{Lexeme, name, mark}
use Rattle.str_parser.specs.Items.{Item, Way, too_deep, either, Runs}
use Rattle.str_parser.specs.Phrases.{sign, named, factors, declared_type, declaration, is_constructor}
use Rattle.str_parser.specs.Readings.{Found, Missing, Nested}
use Rattle.str_parser.specs.Runs.{NoneOf}
use Rattle.str_parser.specs.Sorts.{inner_sort, other_factors, TypeTree, plain, mapping, typed, first_is, begins_declaration, declaration_goes_on}
use Rattle.str_parser.proofs.PhraseLaws.{Carries, Made, Makes}

-- ---- the colon and what comes after it

factors_are : (ss : SortTrees) (to : SortTree) (is : List Item) →
    factors ss to is ≡ other_factors ss (sign M.Arrow ∷ inner_sort 1 to is)
factors_are no_sorts to is = refl
factors_are (more_sorts s ss) to is = ap (λ l. sign M.Star ∷ inner_sort 1 s l) (factors_are ss to is)

after_colon : (way : Way) (ss : SortTrees) (to : SortTree) (is : List Item) (ts : List Lexeme) →
    Runs way (declared_type ss to is) (mark M.Colon ∷ ts) → Runs way (typed (mapping ss to) is) ts
after_colon way no_sorts to is ts r = let e = r.0 in cc
after_colon way (more_sorts s ss) to is ts r = subst (λ l. Runs way (inner_sort 1 s l) ts) (factors_are ss to is) r.1

with_colon : (way : Way) (ss : SortTrees) (to : SortTree) (is : List Item) (ts : List Lexeme) →
    Runs way (typed (mapping ss to) is) ts → Runs way (declared_type ss to is) (mark M.Colon ∷ ts)
with_colon way no_sorts to is ts r = let e = r.0 in cc
with_colon way (more_sorts s ss) to is ts r =
    (refl, subst (λ l. Runs way (inner_sort 1 s l) ts) (sym (factors_are ss to is)) r)

-- ---- first tokens

name_begins : (x : List ℕ) (is : List Item) (ts : List Lexeme) → Runs either (named x ∷ is) ts →
    first_is begins_declaration ts ≡ true
name_begins x is [] r = absurd r
name_begins x is (t ∷ ts) r = ap begins_declaration r.0

colon_begins : (ss : SortTrees) (to : SortTree) (is : List Item) (ts : List Lexeme) →
    Runs either (declared_type ss to is) ts → first_is begins_declaration ts ≡ true
colon_begins no_sorts to is ts r = let e = r.0 in cc
colon_begins (more_sorts s ss) to is [] r = absurd r
colon_begins (more_sorts s ss) to is (t ∷ ts) r = ap begins_declaration r.0

pub declaration_begins : (u : DeclarationTree) (is : List Item) (ts : List Lexeme) → Runs either (declaration u is) ts →
    first_is begins_declaration ts ≡ true
declaration_begins (constant c s) is ts r = name_begins c (sign M.Colon ∷ inner_sort 1 s is) ts r.1
declaration_begins (constructor c ss s) is ts r = name_begins c (declared_type ss s is) ts r.1
declaration_begins (injection ss s) is ts r = colon_begins ss s is ts r

-- ---- injections

abbrev Typed : List Lexeme → TypeTree → List Lexeme → Type 0
Typed ts v rest = Found typed (NoneOf declaration_goes_on) ts v rest

module _ {ahead : List Lexeme} where
  -- what begins with a colon is an injection, with a mapping after the colon
  injected : (u : DeclarationTree) (is : List Item) → Runs either (declaration u is) (mark M.Colon ∷ ahead) →
      (ss : SortTrees) × (s : SortTree) × (u ≡ injection ss s) × Runs either (typed (mapping ss s) is) ahead
  injected (constant c v) is r = let e = r.1.0 in cc
  injected (constructor c us v) is r = let e = r.1.0 in cc
  injected (injection us v) is r = (us, v, refl, after_colon either us v is ahead r)

  pub found_injection : {rest : List Lexeme} (ss : SortTrees) (s : SortTree) → Typed ahead (mapping ss s) rest →
      Found declaration (NoneOf declaration_goes_on) (mark M.Colon ∷ ahead) (injection ss s) rest
  found_injection ss s f = record {
    sound = λ way is r. with_colon way ss s is ahead (f.sound way is r);
    only_one = λ u is h r.
        let i = injected u is r in
        let o = f.only_one (mapping i.0 i.1) is h i.3 in
        let e = i.2 in let g = o.0 in (cc, o.1);
    shorter = omega (arith, f.shorter);
  }

  -- one sort is not enough
  pub missing_plain : {rest : List Lexeme} {s : SortTree} → Typed ahead (plain s) rest →
      Missing declaration (NoneOf declaration_goes_on) (mark M.Colon ∷ ahead)
  missing_plain f = record {
    none = λ u is h r.
        let i = injected u is r in
        let e = (f.only_one (mapping i.0 i.1) is h i.3).0 in cc;
  }

  deep_injection : (v : TypeTree) → ((is : List Item) → Runs too_deep (typed v is) ahead) →
      Nested declaration (mark M.Colon ∷ ahead)
  deep_injection (plain s) d =
      record {
        tree = injection (more_sorts s no_sorts) (sort []);
        runs = λ is. (refl, d (factors no_sorts (sort []) is));
      }
  deep_injection (mapping ss s) d =
      record { tree = injection ss s; runs = λ is. with_colon too_deep ss s is ahead (d is) }

  pub at_injection : Carries typed (NoneOf declaration_goes_on) ahead declaration (NoneOf declaration_goes_on)
      (mark M.Colon ∷ ahead)
  at_injection = record {
    missing = λ m. record { none = λ u is h r. let i = injected u is r in m.none (mapping i.0 i.1) is h i.3 };
    nested = λ d. deep_injection d.tree d.runs;
  }

-- ---- constructors

abbrev pub declared_as : List ℕ → TypeTree → DeclarationTree
declared_as c (plain s) = constant c s
declared_as c (mapping ss s) = constructor c ss s

module _ (c : List ℕ) (ahead : List Lexeme) where
  declared_sound : is_constructor c ≡ true → (way : Way) (v : TypeTree) (is : List Item) →
      Runs way (typed v is) ahead → Runs way (declaration (declared_as c v) is) (name c ∷ mark M.Colon ∷ ahead)
  declared_sound k way (plain s) is r = (k, (refl, (refl, r)))
  declared_sound k way (mapping ss s) is r = (k, (refl, with_colon way ss s is ahead r))

  declared_only : (u : DeclarationTree) (is : List Item) → NoneOf declaration_goes_on is →
      Runs either (declaration u is) (name c ∷ mark M.Colon ∷ ahead) →
      Made typed (NoneOf declaration_goes_on) ahead (declared_as c) u is
  declared_only (constant d s) is h r =
      let e = r.1.0 in record { from = plain s; are = cc; ends = h; runs = r.1.1.1 }
  declared_only (constructor d ss s) is h r =
      let e = r.1.0 in
      record { from = mapping ss s; are = cc; ends = h; runs = after_colon either ss s is ahead r.1.1 }
  declared_only (injection no_sorts s) is h r = let e = r.0 in cc
  declared_only (injection (more_sorts a ss) s) is h r = let e = r.0 in cc

  -- what comes after a constructor's name and a colon
  pub declares : is_constructor c ≡ true → Makes typed (NoneOf declaration_goes_on) ahead declaration
      (NoneOf declaration_goes_on) (name c ∷ mark M.Colon ∷ ahead) (declared_as c)
  declares k = record { sound = declared_sound k; only = declared_only; no_longer = omega arith }
