use Rattle.std.proofs.Common.{◌≡◌, ◌≤◌, Global, IfSome, IsOkAnd, List, [], arith, drop, false, length, map, string_bytes, subst, sym}
use Rattle.term_model.specs.PrimNames.{NameKey}
use Rattle.prim_registry.specs.Entries.{entries_of}
use Rattle.prim_registry.specs.Standard.{standard}
use Rattle.prim_registry.specs.StandardPrimitives.{standard_entries}
use Rattle.str_pipeline.specs.Setting.{setting_with}
use Rattle.strc_command.specs.Asked.{asked_of}
use Rattle.strc_command.specs.Primitives.{standard_setting}
use Rattle.strc_command.specs.Runs.{IsDone, RunsJoined, RunsPlain, Stops, change, reads_of}
use Rattle.strc_command.proofs.CauseLaws.{memory_stops, memory_stops_plain}
use Rattle.strc_command.proofs.PrimitiveLaws.{fresh, one_more, whole}
use Rattle.strc_command.proofs.RequestLaws.{memory_joined_words}
use Rattle.strc_command.proofs.primitives.run_standard.Goals as goal

pub register-requires-clause-fresh : goal.register-requires-clause-fresh
register-requires-clause-fresh g c =
    fresh c.loop-primitive.primitive-index _ (entries_of c.loop-primitive.registry)
    c.loop-primitive-test.true c.loop-primitive.invariant.registered

pub loop-primitive-preserved : goal.loop-primitive-preserved
loop-primitive-preserved g c = record {
  silent = c.loop-primitive.invariant.silent;
  honest = c.in_default-register.ensures.honest;
  registered = one_more c.loop-primitive.primitive-index _ (entries_of c.loop-primitive.registry)
      (entries_of c.register.new.registry)
      c.loop-primitive-test.true c.loop-primitive.invariant.registered c.in_default-register.ensures.registered;
}

pub returns-in-Ok-words-clause-plain : goal.returns-in-Ok-words-clause-plain
returns-in-Ok-words-clause-plain g c = λ alone.
    let few : length c.deref.result.now ≤ 1 =
    rw c.deref.ensures.value (subst (λ r. IsOkAnd r (λ ws. length ws.items ≤ 1)) c.in-Ok-words.is alone) in
    let keys : entries_of c.loop-primitive.registry ≡ standard_entries =
    whole c.loop-primitive.primitive-index (entries_of c.loop-primitive.registry) (omega arith)
    c.loop-primitive.invariant.registered in
    subst (λ (names : List NameKey). RunsPlain (g.I.Source.reader.coming c.args.input.now)
    (reads_of g.I.Source.reader c.args.input.now c.run.new.input) (setting_with standard names)
    (change g.W.Sink.writer c.args.out.now c.run.new.out)
    (change g.E.Sink.writer c.args.diagnostics.now c.run.new.diagnostics) c.run.result) keys
    (rw c.loop-primitive.invariant.silent at c.run.ensures.plain few)

pub returns-in-Ok-words-clause-stops : goal.returns-in-Ok-words-clause-stops
returns-in-Ok-words-clause-stops g c =
    subst (λ before. Stops (change g.W.Sink.writer c.args.out.now c.run.new.out)
    (change g.E.Sink.writer before c.run.new.diagnostics) c.run.result) c.loop-primitive.invariant.silent
    c.run.ensures.stops

pub returns-in-Ok-words-clause-asked : goal.returns-in-Ok-words-clause-asked
returns-in-Ok-words-clause-asked g c =
    let keys : entries_of c.loop-primitive.registry ≡ standard_entries =
    whole c.loop-primitive.primitive-index (entries_of c.loop-primitive.registry) (omega arith)
    c.loop-primitive.invariant.registered in
    rw (c.in-Ok-words.is, sym c.deref.ensures.value)
    (subst (λ (names : List NameKey). IfSome (asked_of (map (string_bytes {Z = Global})
    (drop 1 c.deref.result.now))) (λ asked. IsDone asked
    (g.P.Paths.text_at c.args.paths.now) (g.I.Source.reader.coming c.args.input.now) (setting_with standard names)
    (change g.W.Sink.writer c.args.out.now c.run.new.out)
    (change g.E.Sink.writer c.args.diagnostics.now c.run.new.diagnostics) c.run.result))
    keys (rw c.loop-primitive.invariant.silent at c.run.ensures.asked))

pub returns-in-Ok-words-clause-joined : goal.returns-in-Ok-words-clause-joined
returns-in-Ok-words-clause-joined g c =
    let keys : entries_of c.loop-primitive.registry ≡ standard_entries =
    whole c.loop-primitive.primitive-index (entries_of c.loop-primitive.registry) (omega arith)
    c.loop-primitive.invariant.registered in
    rw (c.in-Ok-words.is, sym c.deref.ensures.value)
    (subst (λ (names : List NameKey). IfSome (asked_of (map (string_bytes {Z = Global})
    (drop 1 c.deref.result.now))) (λ asked. asked.checks ≡ false → asked.paths ≡ [] → asked.libraries ≡ [] →
    RunsJoined asked (g.I.Source.reader.coming c.args.input.now)
    (reads_of g.I.Source.reader c.args.input.now c.run.new.input) (setting_with standard names)
    (change g.W.Sink.writer c.args.out.now c.run.new.out)
    (change g.E.Sink.writer c.args.diagnostics.now c.run.new.diagnostics) c.run.result))
    keys (rw c.loop-primitive.invariant.silent at c.run.ensures.joined))

pub returns-in-Ok-words-clause-unasked : goal.returns-in-Ok-words-clause-unasked
returns-in-Ok-words-clause-unasked g c = rw (c.in-Ok-words.is, sym c.deref.ensures.value) c.run.ensures.unasked

pub returns-in_default-clause-stops : goal.returns-in_default-clause-stops
returns-in_default-clause-stops g c =
    subst (λ before. Stops (change g.W.Sink.writer c.args.out.now c.args.out.now)
    (change g.E.Sink.writer before c.stop.new.diagnostics) c.stop.result)
    c.loop-primitive.invariant.silent
    (memory_stops g.W.Sink.writer g.E.Sink.writer c.args.out.now c.loop-primitive.diagnostics
    c.stop.new.diagnostics _ (λ four. c.stop.ensures.told))

pub returns-in_default-clause-joined : goal.returns-in_default-clause-joined
returns-in_default-clause-joined g c =
    memory_joined_words c.args.words.now (λ said. asked_of (map (string_bytes {Z = Global}) (drop 1 said.items)))
    (g.I.Source.reader.coming c.args.input.now) g.I.Source.reader standard_setting g.W.Sink.writer g.E.Sink.writer
    c.args.input.now c.args.out.now c.args.diagnostics.now c.stop.new.diagnostics _ c.stop.ensures.status
    (rw c.loop-primitive.invariant.silent at c.stop.ensures.told)

pub returns-in_default-clause-plain : goal.returns-in_default-clause-plain
returns-in_default-clause-plain g c = λ alone.
    memory_stops_plain (g.I.Source.reader.coming c.args.input.now) g.I.Source.reader standard_setting g.W.Sink.writer
    g.E.Sink.writer c.args.input.now c.args.out.now c.args.diagnostics.now c.stop.new.diagnostics _
    c.stop.ensures.status (rw c.loop-primitive.invariant.silent at c.stop.ensures.told)

pub returns-in_default-boxed-clause-stops : goal.returns-in_default-boxed-clause-stops
returns-in_default-boxed-clause-stops g c =
    subst (λ before. Stops (change g.W.Sink.writer c.args.out.now c.args.out.now)
    (change g.E.Sink.writer before c.stop-in_default-boxed.new.diagnostics) c.stop-in_default-boxed.result)
    c.loop-primitive.invariant.silent
    (memory_stops g.W.Sink.writer g.E.Sink.writer c.args.out.now c.loop-primitive.diagnostics
    c.stop-in_default-boxed.new.diagnostics _ (λ four. c.stop-in_default-boxed.ensures.told))

pub returns-in_default-boxed-clause-joined : goal.returns-in_default-boxed-clause-joined
returns-in_default-boxed-clause-joined g c =
    memory_joined_words c.args.words.now (λ said. asked_of (map (string_bytes {Z = Global}) (drop 1 said.items)))
    (g.I.Source.reader.coming c.args.input.now) g.I.Source.reader standard_setting g.W.Sink.writer g.E.Sink.writer
    c.args.input.now c.args.out.now c.args.diagnostics.now c.stop-in_default-boxed.new.diagnostics _
    c.stop-in_default-boxed.ensures.status
    (rw c.loop-primitive.invariant.silent at c.stop-in_default-boxed.ensures.told)

pub returns-in_default-boxed-clause-plain : goal.returns-in_default-boxed-clause-plain
returns-in_default-boxed-clause-plain g c = λ alone.
    memory_stops_plain (g.I.Source.reader.coming c.args.input.now) g.I.Source.reader standard_setting g.W.Sink.writer
    g.E.Sink.writer c.args.input.now c.args.out.now c.args.diagnostics.now c.stop-in_default-boxed.new.diagnostics _
    c.stop-in_default-boxed.ensures.status
    (rw c.loop-primitive.invariant.silent at c.stop-in_default-boxed.ensures.told)

pub returns-in-Err-clause-stops : goal.returns-in-Err-clause-stops
returns-in-Err-clause-stops g c =
    memory_stops g.W.Sink.writer g.E.Sink.writer c.args.out.now c.args.diagnostics.now
    c.stop-in-Err.new.diagnostics _
    (λ four. rw (c.in-Err.ensures.fault, c.loop-primitive.invariant.silent) at c.stop-in-Err.ensures.told)

pub returns-in-Err-clause-joined : goal.returns-in-Err-clause-joined
returns-in-Err-clause-joined g c =
    memory_joined_words c.args.words.now (λ said. asked_of (map (string_bytes {Z = Global}) (drop 1 said.items)))
    (g.I.Source.reader.coming c.args.input.now) g.I.Source.reader standard_setting g.W.Sink.writer g.E.Sink.writer
    c.args.input.now c.args.out.now c.args.diagnostics.now c.stop-in-Err.new.diagnostics _
    c.stop-in-Err.ensures.status
    (rw (c.in-Err.ensures.fault, c.loop-primitive.invariant.silent) at c.stop-in-Err.ensures.told)

pub returns-in-Err-clause-plain : goal.returns-in-Err-clause-plain
returns-in-Err-clause-plain g c = λ alone.
    memory_stops_plain (g.I.Source.reader.coming c.args.input.now) g.I.Source.reader standard_setting g.W.Sink.writer
    g.E.Sink.writer c.args.input.now c.args.out.now c.args.diagnostics.now c.stop-in-Err.new.diagnostics _
    c.stop-in-Err.ensures.status
    (rw (c.in-Err.ensures.fault, c.loop-primitive.invariant.silent) at c.stop-in-Err.ensures.told)

pub returns-clause-stops : goal.returns-clause-stops
returns-clause-stops g c =
    subst (λ before. Stops (change g.W.Sink.writer c.args.out.now c.args.out.now)
    (change g.E.Sink.writer before c.refuse.new.diagnostics) c.refuse.result) c.loop-primitive.invariant.silent
    (memory_stops g.W.Sink.writer g.E.Sink.writer c.args.out.now c.loop-primitive.diagnostics
    c.refuse.new.diagnostics _ c.refuse.ensures.told)
