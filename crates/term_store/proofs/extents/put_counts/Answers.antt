use Rattle.std.proofs.Common.{refl}
use Rattle.term_store.specs.declared.extents.Epoch.{Epoch}
use Rattle.term_store.proofs.ExtentLaws.{same_pushed, counts_pushed}
use Rattle.term_store.proofs.extents.put_counts.Goals as goal

pub returns-clause-same : goal.returns-clause-same
returns-clause-same c =
    let f : Epoch = record { first = c.args.number; chains = c.args.extent.chains; symbols = c.args.extent.symbols } in
    same_pushed c.args.epochs.now.items c.push_reserved.new.self.items f c.push_reserved.ensures.items

pub returns-clause-counts : goal.returns-clause-counts
returns-clause-counts c =
    let f : Epoch = record { first = c.args.number; chains = c.args.extent.chains; symbols = c.args.extent.symbols } in
    counts_pushed c.args.epochs.now.items c.push_reserved.new.self.items f c.args.extent c.push_reserved.ensures.items
    (record { chains = refl; symbols = refl })
