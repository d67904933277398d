use Rattle.std.proofs.Common.{◌≡◌, ◌∙◌, ◌++◌, ◌∷◌, [], codes}
use Rattle.term_model.specs.Fault.{word_of}
use Rattle.strc_command.specs.Report.{place_of, place_text}
use Rattle.strc_command.proofs.PrefixLaws.{begins_first, begins_second}
use Rattle.strc_command.proofs.report.report.Goals as goal

pub returns-in_err-write_all-clause-prefix : goal.returns-in_err-write_all-clause-prefix
returns-in_err-write_all-clause-prefix g c =
    begins_first (g.E.Sink.writer.written c.args.diagnostics.now) (g.E.Sink.writer.written c.write_all.new.sink)
    (codes "strc: ")
    (word_of c.args.fault.now ++ (place_text (place_of c.args.fault.now) ++ 10 ∷ [])) c.write_all.ensures.prefix

pub returns-in_err-write_all-2-clause-prefix : goal.returns-in_err-write_all-2-clause-prefix
returns-in_err-write_all-2-clause-prefix g c =
    let word : c.as_bytes.result.now ≡ word_of c.args.fault.now = c.as_bytes.ensures.value ∙ c.word.ensures in
    begins_second (g.E.Sink.writer.written c.args.diagnostics.now) (g.E.Sink.writer.written c.write_all.new.sink)
    (g.E.Sink.writer.written c.write_all-2.new.sink) (codes "strc: ")
    (word_of c.args.fault.now ++ (place_text (place_of c.args.fault.now) ++ 10 ∷ [])) c.in_ok-write_all.ensures.whole
    (begins_first (g.E.Sink.writer.written c.write_all.new.sink) (g.E.Sink.writer.written c.write_all-2.new.sink)
    (word_of c.args.fault.now)
    (place_text (place_of c.args.fault.now) ++ 10 ∷ []) (rw word at c.write_all-2.ensures.prefix))

pub returns-in_err-write_place-clause-prefix : goal.returns-in_err-write_place-clause-prefix
returns-in_err-write_place-clause-prefix g c =
    let word : c.as_bytes.result.now ≡ word_of c.args.fault.now = c.as_bytes.ensures.value ∙ c.word.ensures in
    begins_second (g.E.Sink.writer.written c.args.diagnostics.now) (g.E.Sink.writer.written c.write_all.new.sink)
    (g.E.Sink.writer.written c.write_place.new.diagnostics) (codes "strc: ")
    (word_of c.args.fault.now ++ (place_text (place_of c.args.fault.now) ++ 10 ∷ [])) c.in_ok-write_all.ensures.whole
    (begins_second (g.E.Sink.writer.written c.write_all.new.sink) (g.E.Sink.writer.written c.write_all-2.new.sink)
    (g.E.Sink.writer.written c.write_place.new.diagnostics) (word_of c.args.fault.now)
    (place_text (place_of c.args.fault.now) ++ 10 ∷ []) (rw word at c.in_ok-write_all-2.ensures.whole)
    (begins_first (g.E.Sink.writer.written c.write_all-2.new.sink)
    (g.E.Sink.writer.written c.write_place.new.diagnostics)
    (place_text (place_of c.args.fault.now)) (10 ∷ [])
    (rw c.place_of.ensures at c.write_place.ensures.prefix)))

pub returns-clause-prefix : goal.returns-clause-prefix
returns-clause-prefix g c =
    let word : c.as_bytes.result.now ≡ word_of c.args.fault.now = c.as_bytes.ensures.value ∙ c.word.ensures in
    begins_second (g.E.Sink.writer.written c.args.diagnostics.now) (g.E.Sink.writer.written c.write_all.new.sink)
    (g.E.Sink.writer.written c.write_all-3.new.sink) (codes "strc: ")
    (word_of c.args.fault.now ++ (place_text (place_of c.args.fault.now) ++ 10 ∷ [])) c.in_ok-write_all.ensures.whole
    (begins_second (g.E.Sink.writer.written c.write_all.new.sink) (g.E.Sink.writer.written c.write_all-2.new.sink)
    (g.E.Sink.writer.written c.write_all-3.new.sink) (word_of c.args.fault.now)
    (place_text (place_of c.args.fault.now) ++ 10 ∷ []) (rw word at c.in_ok-write_all-2.ensures.whole)
    (begins_second (g.E.Sink.writer.written c.write_all-2.new.sink)
    (g.E.Sink.writer.written c.write_place.new.diagnostics)
    (g.E.Sink.writer.written c.write_all-3.new.sink)
    (place_text (place_of c.args.fault.now)) (10 ∷ []) (rw c.place_of.ensures at c.in_ok-write_place.ensures.whole)
    c.write_all-3.ensures.prefix))
