use Rattle.std.proofs.Common.{◌≡◌, ◌∙◌, List, ap, map}
use Rattle.std.specs.List.{list_any}
use Rattle.str_syntax.specs.declared.definition.Origin.TheVariants as origins
use Rattle.str_syntax.specs.Trees.{HeadTree}
use Rattle.str_syntax.specs.Views.{file_of, section_of}
use Rattle.scope_check.specs.Complaint.{clash}
use Rattle.scope_check.specs.Found.{found_if, joined}
use Rattle.scope_check.specs.Seen.{Seen, among, heads_from, key_of, library_keys, own_heads, tops_in}
use Rattle.scope_check.specs.Tables.{heads_of}
use Rattle.scope_check.proofs.library.find_redefinitions.Goals as goal

pub returns : goal.returns
returns c =
    let file = file_of c.args.file.now in
    let keys : among c.in_ok-keys.keys ≡ among (library_keys file) =
    c.in_ok-keys.ensures ∙ ap (λ hs. among (map key_of (heads_of hs))) c.deref-2.ensures.value ∙
    ap (λ (hs : List HeadTree). among (map key_of hs)) (c.in_ok-library.ensures ∙
    ap (λ ss. heads_from origins.Library (tops_in (map section_of ss))) c.deref.ensures.value) in
    let own : heads_of c.deref-4.result.now ≡ own_heads file =
    ap heads_of c.deref-4.ensures.value ∙ c.in_ok-own.ensures ∙
    ap (λ ss. heads_from origins.File (tops_in (map section_of ss))) c.deref-3.ensures.value in
    c.find_among.ensures ∙ ap (λ b. joined c.args.findings.now (found_if clash b))
    (ap (λ (A : Seen). list_any (λ h. A (key_of h)) (heads_of c.deref-4.result.now)) keys ∙
    ap (list_any (λ h. among (library_keys file) (key_of h))) own)
