-- Names and parameters: how they are made of their parts.
use Rattle.std.proofs.Common.{◌≡◌, ℕ, false, List, [], ◌∷◌, Option, Some, None, refl, ap, arith, Result, Ok, Err, Vec, Global}
use Rattle.str_parser.specs.declared.refusal.ParseRefusal.{ParseRefusal}
use Rattle.str_lexer.specs.declared.token.Mark.TheVariants as M
use Rattle.str_syntax.specs.Trees.{ParameterTree, absent, strategies_only, with_terms}
use Rattle.str_parser.specs.Lexemes.{Lexeme, name, mark}
use Rattle.str_parser.specs.Items.{Item, token, part, no_build, only, Way, either, Runs}
use Rattle.str_parser.specs.Phrases.{named, sign, other_names, names, some_names, parameters}
use Rattle.str_parser.specs.Readings.{NotAt, AtMost, one_name, names_of, Found, Missing, IsReading}
use Rattle.str_parser.specs.Runs.{NoneOf, FoundAny, IsReadingAny, is_comma, is_comma_or_name}
use Rattle.str_parser.proofs.PartLaws.{lexeme_at_most, binds_less}
use Rattle.str_parser.proofs.WayLaws.{not_along}
use Rattle.str_parser.proofs.PhraseLaws.{Made, Makes, made_any, at_made, carried, Pairs, behind, closed, found_any, both, both_pairs}
use Rattle.str_parser.proofs.RunLaws.{several, some, Row, Lists, Partly, At, token_row}

-- nothing binds stronger than this
pub at_most_five : (is : List Item) → AtMost 5 is
at_most_five [] = omega arith
at_most_five (token t ∷ is) = lexeme_at_most t
at_most_five (part p k ∷ is) = omega arith
at_most_five (no_build ∷ is) = omega arith
at_most_five (only b ∷ is) = at_most_five is

-- ---- names

pub name_at : {x : List ℕ} {ts : List Lexeme} → Found one_name (AtMost 5) (name x ∷ ts) x ts
name_at = record {
  sound = λ way is r. (refl, r);
  only_one = λ y is h r. let e = r.0 in (cc, r.1);
  shorter = omega arith;
}

pub names_row : Row (behind (mark M.Comma) one_name) (AtMost 5) (NoneOf is_comma) (At (mark M.Comma))
    (NotAt (mark M.Comma))
names_row = token_row (mark M.Comma) refl (λ us is h. at_most_five (several (behind (mark M.Comma) one_name) us is))

other_names_are : (xs : List (List ℕ)) (is : List Item) →
    several (behind (mark M.Comma) one_name) xs is ≡ other_names xs is
other_names_are [] is = refl
other_names_are (x ∷ xs) is = ap (λ l. sign M.Comma ∷ named x ∷ l) (other_names_are xs is)

some_names_are : (xs : List (List ℕ)) (is : List Item) →
    some one_name (behind (mark M.Comma) one_name) xs is ≡ some_names xs is
some_names_are [] is = refl
some_names_are (x ∷ xs) is = ap (λ l. named x ∷ l) (other_names_are xs is)

pub name_lists : Lists (some one_name (behind (mark M.Comma) one_name)) some_names (λ xs. xs)
name_lists = record { from = λ xs. xs; back = λ xs. refl; written = some_names_are }

abbrev pub PartlyNames : List (List ℕ) → List Lexeme → List Lexeme → Type 0
PartlyNames = Partly (behind (mark M.Comma) one_name) (NoneOf is_comma) some_names (λ xs. xs) 1

-- ---- names, or none

-- what stops names or none stops some
fewer_go_on : (t : Lexeme) → is_comma_or_name t ≡ false → is_comma t ≡ false
fewer_go_on (mark M.Comma) e = e
fewer_go_on _ e = refl

module _ (x : List ℕ) (ahead : List Lexeme) where
  names_sound : (way : Way) (xs : List (List ℕ)) (is : List Item) → Runs way (some_names xs is) (name x ∷ ahead) →
      Runs way (names xs is) (name x ∷ ahead)
  names_sound way [] is r = let e = r.0 in cc
  names_sound way (y ∷ xs) is r = r

  names_only : (us : List (List ℕ)) (is : List Item) → NoneOf is_comma_or_name is →
      Runs either (names us is) (name x ∷ ahead) →
      Made some_names (NoneOf is_comma) (name x ∷ ahead) (λ xs. xs) us is
  names_only [] is h r = let g = h (name x) ahead r in cc
  names_only (u ∷ us) is h r =
      record { from = u ∷ us; are = refl; ends = λ t rest s. fewer_go_on t (h t rest s); runs = r }

  -- at a name, names or none are some
  names_at_name : Makes some_names (NoneOf is_comma) (name x ∷ ahead) names (NoneOf is_comma_or_name)
      (name x ∷ ahead) (λ xs. xs)
  names_at_name = record { sound = names_sound; only = names_only; no_longer = omega arith }

  at_name : (r : Result (Vec (List ℕ) Global × List Lexeme) ParseRefusal) →
      IsReading some_names (NoneOf is_comma) names_of (name x ∷ ahead) r →
      IsReadingAny names (NoneOf is_comma_or_name) names_of (name x ∷ ahead) r
  at_name (Ok (xs, rest)) f = made_any names_at_name (found_any f)
  at_name (Err e) f = carried (at_made names_at_name) e f

-- what reads some names reads names or none there
pub any_at_name : (x : List ℕ) (ts ahead : List Lexeme) (r : Result (Vec (List ℕ) Global × List Lexeme) ParseRefusal) →
    ts ≡ name x ∷ ahead →
    IsReading some_names (NoneOf is_comma) names_of ts r → IsReadingAny names (NoneOf is_comma_or_name) names_of ts r
any_at_name x ts ahead r e f = rw e (at_name x ahead r (rw e at f))

-- ---- parameters

-- what comes after strategy parameters: a parenthesis, or | and term parameters
abbrev pub end_parameters : Option (List (List ℕ)) → List Item → List Item
end_parameters None is = sign M.CloseParenthesis ∷ is
end_parameters (Some xs) is = sign M.Bar ∷ names xs (sign M.CloseParenthesis ∷ is)

-- what comes after the opening parenthesis
abbrev pub in_parentheses : List (List ℕ) × Option (List (List ℕ)) → List Item → List Item
in_parentheses = both names end_parameters

abbrev pub parameters_in : List (List ℕ) × Option (List (List ℕ)) → ParameterTree
parameters_in (fs, None) = strategies_only fs
parameters_in (fs, Some xs) = with_terms fs xs

pub names_closed : (is : List Item) → NoneOf is_comma_or_name (sign M.CloseParenthesis ∷ is)
names_closed is = λ t rest r. ap is_comma_or_name r.0

end_stops : (o : Option (List (List ℕ))) (is : List Item) → NoneOf is_comma_or_name (end_parameters o is)
end_stops None is = names_closed is
end_stops (Some xs) is = λ t rest r. ap is_comma_or_name r.0

pub parameter_pairs : Pairs names (NoneOf is_comma_or_name) end_parameters in_parentheses (AtMost 3) (λ fs o. (fs, o))
parameter_pairs = both_pairs (λ o is h. end_stops o is)

opened_sound : (way : Way) (ps : List (List ℕ) × Option (List (List ℕ))) (is : List Item) (ts : List Lexeme) →
    Runs way (in_parentheses ps is) ts → Runs way (parameters (parameters_in ps) is) (mark M.OpenParenthesis ∷ ts)
opened_sound way (fs, None) is ts r = (refl, r)
opened_sound way (fs, Some xs) is ts r = (refl, r)

opened_only : (ts : List Lexeme) (u : ParameterTree) (is : List Item) → AtMost 3 is →
    Runs either (parameters u is) (mark M.OpenParenthesis ∷ ts) → Made in_parentheses (AtMost 3) ts parameters_in u is
opened_only ts absent is h r = absurd (omega (arith, binds_less is (mark M.OpenParenthesis) ts r, h))
opened_only ts (strategies_only fs) is h r = record { from = (fs, None); are = refl; ends = h; runs = r.1 }
opened_only ts (with_terms fs xs) is h r = record { from = (fs, Some xs); are = refl; ends = h; runs = r.1 }

pub opened : {ts : List Lexeme} → Makes in_parentheses (AtMost 3) ts parameters (AtMost 3) (mark M.OpenParenthesis ∷ ts)
    parameters_in
opened {ts} = record {
  sound = λ way ps is r. opened_sound way ps is ts r;
  only = opened_only ts;
  no_longer = omega arith;
}

closed_only : (ts : List Lexeme) (o : Option (List (List ℕ))) (is : List Item) →
    Runs either (end_parameters o is) (mark M.CloseParenthesis ∷ ts) → (o ≡ None) × Runs either is ts
closed_only ts None is r = (refl, r.1)
closed_only ts (Some xs) is r = let e = r.0 in cc

-- ) after the strategy parameters
pub no_terms : {ts : List Lexeme} → FoundAny end_parameters (AtMost 3) (mark M.CloseParenthesis ∷ ts) None ts
no_terms {ts} = record {
  sound = λ way is r. (refl, r);
  only_one = λ o is h r. closed_only ts o is r;
  no_longer = omega arith;
}

bar_only : (ts : List Lexeme) (o : Option (List (List ℕ))) (is : List Item) → AtMost 3 is →
    Runs either (end_parameters o is) (mark M.Bar ∷ ts) →
    Made (closed (mark M.CloseParenthesis) names) (AtMost 3) ts Some o is
bar_only ts None is h r = let e = r.0 in cc
bar_only ts (Some xs) is h r = record { from = xs; are = refl; ends = h; runs = r.1 }

-- | after them
pub barred : {ts : List Lexeme} → Makes (closed (mark M.CloseParenthesis) names) (AtMost 3) ts end_parameters (AtMost 3)
    (mark M.Bar ∷ ts) Some
barred {ts} = record { sound = λ way xs is r. (refl, r); only = bar_only ts; no_longer = omega arith }

no_end : (ts : List Lexeme) → NotAt (mark M.CloseParenthesis) ts → NotAt (mark M.Bar) ts →
    (o : Option (List (List ℕ))) (is : List Item) → Runs either (end_parameters o is) ts → ⊥
no_end ts n m None is r = not_along (mark M.CloseParenthesis) is ts n r
no_end ts n m (Some xs) is r = not_along (mark M.Bar) (names xs (sign M.CloseParenthesis ∷ is)) ts m r

-- neither of them
pub end_missing : {ts : List Lexeme} → NotAt (mark M.CloseParenthesis) ts → NotAt (mark M.Bar) ts →
    Missing end_parameters (AtMost 3) ts
end_missing {ts} n m = record { none = λ o is h r. no_end ts n m o is r }
