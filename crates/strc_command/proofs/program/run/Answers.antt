use Rattle.std.proofs.Common.{◌≡◌, Global, [], ap, drop, false, map, string_bytes}
use Rattle.str_pipeline.specs.Setting.{setting_of}
use Rattle.strc_command.specs.Asked.{Asked, asked_in, asked_of}
use Rattle.strc_command.specs.Runs.{RunsJoined, change, reads_of}
use Rattle.strc_command.proofs.CauseLaws.{memory_joined, memory_stops, memory_stops_plain}
use Rattle.strc_command.proofs.RequestLaws.{few_words, is_plain, joined_texts, plain_run, whatever}
use Rattle.strc_command.proofs.program.run.Goals as goal

pub returns-in-Err-Memory-clause-stops : goal.returns-in-Err-Memory-clause-stops
returns-in-Err-Memory-clause-stops g c =
    memory_stops g.W.Sink.writer g.E.Sink.writer c.args.out.now c.args.diagnostics.now c.stop.new.diagnostics _
    (λ four. c.stop.ensures.told)

pub returns-in-Err-Memory-clause-joined : goal.returns-in-Err-Memory-clause-joined
returns-in-Err-Memory-clause-joined g c =
    let all : (asked : Asked) → asked.checks ≡ false → asked.paths ≡ [] → asked.libraries ≡ [] →
    RunsJoined asked (g.I.Source.reader.coming c.args.input.now)
    (reads_of g.I.Source.reader c.args.input.now c.args.input.now)
    (setting_of g.M.PrimMeaning.answer c.args.registry.now) (change g.W.Sink.writer c.args.out.now c.args.out.now)
    (change g.E.Sink.writer c.args.diagnostics.now c.stop.new.diagnostics) c.stop.result =
    λ asked rewrites none alone. memory_joined asked (g.I.Source.reader.coming c.args.input.now) g.I.Source.reader
    (setting_of g.M.PrimMeaning.answer c.args.registry.now) g.W.Sink.writer g.E.Sink.writer c.args.input.now
    c.args.out.now c.args.diagnostics.now c.stop.new.diagnostics _ c.stop.ensures.status c.stop.ensures.told in
    whatever (asked_of (map (string_bytes {Z = Global}) (drop 1 c.args.words.now))) _ all

pub returns-in-Err-Memory-clause-plain : goal.returns-in-Err-Memory-clause-plain
returns-in-Err-Memory-clause-plain g c = λ few.
    memory_stops_plain (g.I.Source.reader.coming c.args.input.now) g.I.Source.reader
    (setting_of g.M.PrimMeaning.answer c.args.registry.now) g.W.Sink.writer g.E.Sink.writer c.args.input.now
    c.args.out.now c.args.diagnostics.now c.stop.new.diagnostics _ c.stop.ensures.status c.stop.ensures.told

pub returns-clause-plain : goal.returns-clause-plain
returns-clause-plain g c = λ few.
    let plain = is_plain (map (string_bytes {Z = Global}) (drop 1 c.args.words.now)) (asked_in c.in-Ok.request)
    c.in-Ok.ensures.asked (few_words (string_bytes {Z = Global}) c.args.words.now few) in
    plain_run (asked_in c.in-Ok.request) (g.I.Source.reader.coming c.args.input.now)
    (reads_of g.I.Source.reader c.args.input.now c.run_request.new.input)
    (setting_of g.M.PrimMeaning.answer c.args.registry.now)
    (change g.W.Sink.writer c.args.out.now c.run_request.new.out)
    (change g.E.Sink.writer c.args.diagnostics.now c.run_request.new.diagnostics) c.run_request.result plain
    c.run_request.ensures.done.status
    (c.run_request.ensures.joined (ap (λ (a : Asked). a.checks) plain)
    (joined_texts c.in-Ok.request.texts (ap (λ (a : Asked). a.paths) plain))
    (ap (λ (a : Asked). a.libraries) plain))
