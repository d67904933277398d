-- The headline does not rest on this file.
-- Declarations are data: the code by which a proof distinguishes them.
use Rattle.std.specs.Prelude.{◌≡◌, ℕ, List}
use Rattle.std.specs.Coded.{Coded, code_by, coded×, coded_ℕ, coded_list}
use Rattle.std.proofs.Common.{refl}
use base.Stored.{Gv, gnil, gcons}
use Rattle.str_syntax.specs.Trees.{SortTree, sort, sort_of, SortTrees, no_sorts, more_sorts}
use Rattle.signature_core.specs.Signature.{Declared}

abbrev pub name_code : Coded (List ℕ)
name_code = coded_list coded_ℕ

mutual
  pub code_of : SortTree → Gv
  code_of (sort a) = gcons (name_code.code a) gnil
  code_of (sort_of a parts) = gcons (name_code.code a) (gcons gnil (codes_of parts))

  pub codes_of : SortTrees → Gv
  codes_of no_sorts = gnil
  codes_of (more_sorts a parts) = gcons (code_of a) (codes_of parts)

mutual
  unfolding code_of

  pub equal_sort : (a b : SortTree) → code_of a ≡ code_of b → a ≡ b
  equal_sort (sort a) (sort b) e =
      let names : a ≡ b = name_code.inj a b (cc) in
      cc
  equal_sort (sort a) (sort_of b others) e = cc
  equal_sort (sort_of a parts) (sort b) e = cc
  equal_sort (sort_of a parts) (sort_of b others) e =
      let names : a ≡ b = name_code.inj a b (cc) in
      let rest : parts ≡ others = equal_sorts parts others (cc) in
      cc

  pub equal_sorts : (parts others : SortTrees) → codes_of parts ≡ codes_of others → parts ≡ others
  equal_sorts no_sorts no_sorts e = refl
  equal_sorts no_sorts (more_sorts b others) e = cc
  equal_sorts (more_sorts a parts) no_sorts e = cc
  equal_sorts (more_sorts a parts) (more_sorts b others) e =
      let first : a ≡ b = equal_sort a b (cc) in
      let rest : parts ≡ others = equal_sorts parts others (cc) in
      cc

abbrev pub sort_code : Coded SortTree
sort_code = record { code = code_of; inj = equal_sort }

abbrev pub sorts_code : Coded SortTrees
sorts_code = record { code = codes_of; inj = equal_sorts }

-- a declaration is stored as its three fields
abbrev pub declared_code : Coded Declared
declared_code =
    code_by (List ℕ × (SortTrees × SortTree)) (coded× name_code (coded× sorts_code sort_code))
    (λ d. (d.name, (d.arguments, d.result))) (λ p. record { name = p.0; arguments = p.1.0; result = p.1.1 })
    (λ _. refl)
