use Rattle.std.proofs.Common.{◌≡◌, ◌∙◌, List, ap, map, not}
use Rattle.str_syntax.specs.Trees.{HeadTree}
use Rattle.str_syntax.specs.Views.{file_of, section_of}
use Rattle.scope_check.specs.Complaint.{is_bad, no_main}
use Rattle.scope_check.specs.Found.{about_nodes, found_group, found_if, found_in_tops, joined}
use Rattle.scope_check.specs.Seen.{among, head_of_top, inner, key_of, nothing, plain_key, top_heads, tops_in}
use Rattle.scope_check.specs.Somewhere.{in_file}
use Rattle.scope_check.specs.Tables.{heads_of, known_of}
use Rattle.scope_check.proofs.FileLaws.{beside_found, nodes_found}
use Rattle.scope_check.proofs.file.find_beside_declarations.Goals as goal

pub returns : goal.returns
returns c =
    let file = file_of c.args.file.now in
    let K = known_of c.args.known.now in
    let heads = c.in_ok-heads.ensures ∙
    ap (λ ss. map head_of_top (tops_in (map section_of ss))) c.deref.ensures.value in
    let main = c.find_main.ensures ∙
    ap (λ hs. joined c.args.findings.now (found_if no_main
    (not (among (map key_of (heads_of hs)) (plain_key c.args.main.now))))) c.deref-2.ensures.value ∙
    ap (λ (hs : List HeadTree). joined c.args.findings.now (found_if no_main
    (not (among (map key_of hs) (plain_key c.args.main.now))))) heads in
    let g = c.find_redefinitions.new.findings in
    let nodes : c.find_with_heads.new.findings ≡ joined g (about_nodes (λ k. in_file (is_bad K k) file)) =
    c.in_ok-find_with_heads.ensures ∙
    ap (λ hs. joined g (joined (found_group (heads_of hs))
    (found_in_tops K (inner (among (map key_of (heads_of hs))) nothing)
    (tops_in (map section_of c.deref-4.result.now))))) c.deref-3.ensures.value ∙
    ap (λ (hs : List HeadTree). joined g (joined (found_group hs)
    (found_in_tops K (inner (among (map key_of hs)) nothing)
    (tops_in (map section_of c.deref-4.result.now))))) heads ∙
    ap (λ ss. joined g (joined (found_group (top_heads file))
    (found_in_tops K (inner (among (map key_of (top_heads file))) nothing)
    (tops_in (map section_of ss))))) c.deref-4.ensures.value ∙
    ap (joined g) (nodes_found K file) in
    c.in_ok-place_clashes.ensures ∙
    beside_found K file c.args.main.now _ _ _ _ main c.in_ok-find_redefinitions.ensures nodes
