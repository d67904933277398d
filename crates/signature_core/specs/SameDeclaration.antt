-- The headline does not rest on this file.
-- Laws of the test whether two declarations are the same, and what a declaration feeds a hasher.
use Rattle.std.specs.Prelude.{◌≡◌, ◌++◌, [], true, ◌&&◌}
use Rattle.std.specs.Bool.{Decides}
use Rattle.std.specs.Cmp.{IsEquivalence, IsPartialEquivalence, decided, partial_equiv_from_equiv, first_so, second_so}
use Rattle.std.specs.Hash as fed
use Rattle.std.proofs.Common.{refl, ap, subst}
use Rattle.str_syntax.specs.SameName.{same_name}
use Rattle.str_syntax.specs.NameEquality.{same_name-Decides}
use Rattle.str_syntax.specs.SameSort.{same_sort, same_sorts}
use Rattle.str_syntax.specs.SortEquality.{same_sort-Decides, same_sorts-Decides}
use Rattle.str_syntax.specs.SortHashing.{sort_writes}
use Rattle.str_syntax.specs.Trees.{SortTrees, no_sorts, more_sorts}
use Rattle.signature_core.specs.Signature.{Declared, number_of_sorts, same_declaration}

pub same_declaration-refl : (d : Declared) → same_declaration d d ≡ true
same_declaration-refl d =
    let names : same_name d.name d.name ≡ true = (same_name-Decides d.name d.name).1 refl in
    let arguments : same_sorts d.arguments d.arguments ≡ true = (same_sorts-Decides d.arguments d.arguments).1 refl in
    let results : same_sort d.result d.result ≡ true = (same_sort-Decides d.result d.result).1 refl in
    rw (names, arguments, results) refl

pub same_declaration-true : (d e : Declared) → same_declaration d e ≡ true → d ≡ e
same_declaration-true d e same =
    let both : (same_name d.name e.name && same_sorts d.arguments e.arguments) ≡ true =
    first_so _ (same_sort d.result e.result) same in
    let names : d.name ≡ e.name =
    (same_name-Decides d.name e.name).0 (first_so _ (same_sorts d.arguments e.arguments) both) in
    let arguments : d.arguments ≡ e.arguments =
    (same_sorts-Decides d.arguments e.arguments).0 (second_so (same_name d.name e.name) _ both) in
    let results : d.result ≡ e.result =
    (same_sort-Decides d.result e.result).0
    (second_so (same_name d.name e.name && same_sorts d.arguments e.arguments) _ same) in
    λ i. record { name = names i; arguments = arguments i; result = results i }

-- the test decides whether two declarations are equal
pub same_declaration-Decides : (d e : Declared) → Decides (same_declaration d e) (d ≡ e)
same_declaration-Decides d e = (
  same_declaration-true d e,
  λ equal. let P : Declared → Type 0 =
      λ c. same_declaration d c ≡ true in subst P equal (same_declaration-refl d),
)

pub same_declaration_equiv : IsEquivalence same_declaration
same_declaration_equiv = decided same_declaration same_declaration-Decides

pub same_declaration_partial_equiv : IsPartialEquivalence same_declaration
same_declaration_partial_equiv = partial_equiv_from_equiv same_declaration_equiv

-- what sorts feed a hasher, one after another
abbrev pub each_sort_writes : SortTrees → fed.HashWrites
each_sort_writes no_sorts = []
each_sort_writes (more_sorts a others) = sort_writes a ++ each_sort_writes others

-- the name, how many sorts there are, and the sorts
abbrev pub declaration_writes : Declared → fed.HashWrites
declaration_writes d = fed.slice fed.u8 d.name ++
    ((fed.usize (number_of_sorts d.arguments) ++ each_sort_writes d.arguments) ++ sort_writes d.result)

-- equal declarations are fed alike
pub declaration_writes-same : (d e : Declared) → same_declaration d e ≡ true →
    declaration_writes d ≡ declaration_writes e
declaration_writes-same d e same = ap declaration_writes (same_declaration-true d e same)
