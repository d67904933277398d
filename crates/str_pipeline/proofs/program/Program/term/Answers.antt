use Rattle.strat_machine.proofs.LoadedLaws.{loaded_kept}
use Rattle.str_pipeline.proofs.program.Program.term.Goals as goal

pub returns-clause-ready : goal.returns-clause-ready
returns-clause-ready c = λ keys ready. let program = c.args.self.now in record {
  loaded = loaded_kept program.loaded program.code c.noted_term.ensures.keeps ready.loaded;
}
