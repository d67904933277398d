use Rattle.std.proofs.Common.{rules, ◌≡◌, ◌-◌, length, get_or, arith}
use Rattle.term_store.specs.declared.extents.Epoch.{Epoch}
use Rattle.term_store.specs.Extents.{no_epoch, HasCounts}
use Rattle.term_store.proofs.ExtentLaws.{counts_of_last}
use Rattle.term_store.proofs.extents.has_counts.Goals as goal

pub returns-then-last-extent : goal.returns-then-last-extent
returns-then-last-extent c equal =
    let es = c.args.epochs.now in
    let last : Epoch = get_or es (length es - 1) no_epoch in
    let symbols : last.symbols ≡ c.args.extent.symbols = search rules in
    let has : HasCounts last c.args.extent = record { chains = c.if-last-extent.true; symbols = symbols } in
    counts_of_last es c.args.number no_epoch c.args.extent (omega (arith, c.in-len1-up.len_at_least))
    c.if-last-number.false has
