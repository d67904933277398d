use Rattle.std.proofs.Common.{◌≡◌, ◌∙◌, map, length, ap, ap₂, arith}
use Rattle.std.proofs.lemmas.List.{length-map}
use Rattle.core_lang.proofs.ReadLaws as core_reads
use Rattle.core_lang.specs.Named.{written}
use Rattle.core_lang.specs.Views as views
use Rattle.str_desugar.specs.Frames.{callee_at}
use Rattle.str_desugar.specs.Layers.{layers_of}
use Rattle.str_desugar.proofs.WalkLaws.{called_made}
use Rattle.str_desugar.proofs.call.call_of.Goals as goal

pub returns : goal.returns
returns c =
    λ ss ps e h.
    let F = layers_of c.args.scopes.now in
    let f = written c.args.name.now in
    let xs = map views.strategy_of c.args.strategies.items in
    let qs = map views.pattern_of c.args.terms.items in
    let strategies : c.len.result ≡ length xs =
    omega (arith, c.len.ensures, c.args.strategies.ok.0, length-map c.args.strategies.items views.strategy_of) in
    let terms : c.len-2.result ≡ length qs =
    omega (arith, c.len-2.ensures, c.args.terms.ok.0, length-map c.args.terms.items views.pattern_of) in
    ap views.strategy_of c.in_ok-made.ensures.ok ∙
    core_reads.reads_call c.new-target.result c.args.strategies c.args.terms ∙
    called_made F f c.new-target.result xs qs ss ps (c.new-target.ensures ∙ c.in_ok-at.ensures ∙
    ap₂ (λ m k. callee_at F f m k) strategies terms) e h
