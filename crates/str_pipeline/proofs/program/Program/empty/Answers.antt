use Rattle.strat_machine.proofs.LoadedLaws.{loaded_known}
use Rattle.str_pipeline.proofs.program.Program.empty.Goals as goal

pub returns-clause-ready : goal.returns-clause-ready
returns-clause-ready c = λ keys ready. record {
  loaded = loaded_known c.args.self.now.loaded c.args.self.now.code c.forget.ensures ready.loaded;
}
