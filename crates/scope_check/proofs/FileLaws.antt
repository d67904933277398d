-- What is found in a whole file, and which fault is reported.
use Rattle.std.proofs.Common.{◌≡◌, ◌∙◌, ℕ, Bool, true, false, not, List, map, refl, ap, None}
use Rattle.std.proofs.Math.Bool.{or-false}
use Rattle.signature_core.specs.Signature.{Declared, declarations_of}
use Rattle.str_syntax.specs.Trees.{Bytes, FileTree}
use Rattle.scope_check.specs.Complaint.{Known, complaints, duplicate_declaration, first_fault, first_of, is_bad, no_main, clash, redefines_library, repeats_declaration}
use Rattle.scope_check.specs.Found.{Found, about_nodes, found_beside_declarations, found_group, found_if, found_in_file, found_in_tops, has_found, joined}
use Rattle.scope_check.specs.Seen.{among, at_top, inner, key_of, nothing, plain_key, top_heads, tops_in}
use Rattle.scope_check.specs.Somewhere.{in_file}
use Rattle.scope_check.proofs.FoundLaws.{joined-assoc}
use Rattle.scope_check.proofs.NameLaws.{extensional}

-- in its heads together, and in its sections
pub nodes_found : (known : Known) (file : FileTree) →
    joined (found_group (top_heads file))
    (found_in_tops known (inner (among (map key_of (top_heads file))) nothing) (tops_in file.sections)) ≡
    about_nodes (λ k. in_file (is_bad known k) file)
nodes_found known file =
    ap (λ L. joined (found_group (top_heads file)) (found_in_tops known L (tops_in file.sections)))
    (extensional (inner (at_top file) nothing) (at_top file) (λ k. or-false (at_top file k)))

-- what a file is judged by, with the declarations that were made
abbrev pub judged_by : (Bytes → ℕ → Bool) → List Declared → Known
judged_by has made = record { declarations = made; has_primitive = has }

-- the declarations that were made are those of the file, if none of these stands again
abbrev pub AreOf : FileTree → List Declared → Type 0
AreOf file made = repeats_declaration (declarations_of file) ≡ false → made ≡ declarations_of file

-- of what was found, the first is the fault of the file
pub first_found : (has : Bytes → ℕ → Bool) (file : FileTree) (main : Bytes) (made : List Declared) → AreOf file made →
    first_of (has_found (found_in_file (judged_by has made) file main)) complaints ≡ first_fault has file main
first_found has file main made declared = at (repeats_declaration (declarations_of file)) refl
  where
    at : (b : Bool) → repeats_declaration (declarations_of file) ≡ b →
        first_of (has_found (found_in_file (judged_by has made) file main)) complaints ≡ first_fault has file main
    at true e = rw e refl
    at false e = ap (λ ds. first_of (has_found (found_in_file (judged_by has ds) file main)) complaints) (declared e)

-- the declarations that were made are those of a file without a fault
pub is_sound : (has : Bytes → ℕ → Bool) (file : FileTree) (main : Bytes) (made : List Declared) → AreOf file made →
    first_fault has file main ≡ None → made ≡ declarations_of file
is_sound has file main made declared faultless = declared (at (repeats_declaration (declarations_of file)) refl)
  where
    at : (b : Bool) → repeats_declaration (declarations_of file) ≡ b →
        repeats_declaration (declarations_of file) ≡ false
    at true e = let is = rw e at faultless in absurd (cc)
    at false e = e

-- after the declarations the rest of the file
pub file_found : (known : Known) (file : FileTree) (main : Bytes) (old mid new : Found) (again : Bool) →
    again ≡ repeats_declaration (declarations_of file) → mid ≡ joined old (found_if duplicate_declaration again) →
    new ≡ joined mid (found_beside_declarations known file main) → new ≡ joined old (found_in_file known file main)
file_found known file main old mid new again is_again is_mid is_new =
    is_new ∙ ap (λ f. joined f (found_beside_declarations known file main)) is_mid ∙
    joined-assoc old (found_if duplicate_declaration again) (found_beside_declarations known file main) ∙
    ap (joined old) (λ i. record (found_in_file known file main) {
      duplicate_declaration = (or-false again ∙ is_again) i;
    })

-- main, the keys of the library and the nodes
pub beside_found : (known : Known) (file : FileTree) (main : Bytes) (old f g h : Found) →
    f ≡ joined old (found_if no_main (not (at_top file (plain_key main)))) →
    g ≡ joined f (found_if clash (redefines_library file)) →
    h ≡ joined g (about_nodes (λ k. in_file (is_bad known k) file)) →
    h ≡ joined old (found_beside_declarations known file main)
beside_found known file main old f g h is_f is_g is_h =
    let no : Found = found_if no_main (not (at_top file (plain_key main))) in
    let again : Found = found_if clash (redefines_library file) in
    let nodes : Found = about_nodes (λ k. in_file (is_bad known k) file) in
    is_h ∙ ap (λ e. joined e nodes) is_g ∙ joined-assoc f again nodes ∙
    ap (λ e. joined e (joined again nodes)) is_f ∙ joined-assoc old no (joined again nodes) ∙
    ap (joined old) (λ i. record (found_beside_declarations known file main) {
      no_main = or-false (not (at_top file (plain_key main))) i;
    })
