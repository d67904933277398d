use Rattle.std.proofs.Common.{◌≡◌, ◌∙◌, ◌<◌, ◌+◌, ◌++◌, ◌∷◌, [], sym, ap, arith}
use Rattle.std.proofs.lemmas.Result.{err_from_is_err_and}
use Rattle.std.specs.Prelude.{slice_index, slice_range, length}
use Rattle.term_model.specs.Symbol.{Quoted}
use Rattle.aterm_text.specs.Reading.{InText, Named, outcome_from}
use Rattle.aterm_text.proofs.Outcomes.{quote_read, unclosed, backslash_read, backslash_is}
use Rattle.aterm_text.proofs.quoted.read_escaped.Goals as goal

pub returns-then-end-text-clause-err : goal.returns-then-end-text-clause-err
returns-then-end-text-clause-err c s =
    let e = c.raw_end-end.ensures in
    c.loop-bytes.invariant.read s ∙
    unclosed c.args.text.now c.loop-bytes.bytes.items s c.loop-bytes.from c.raw_end-end.result e.low e.high e.within
    (λ h. absurd (omega (arith, h, c.if-end-text.true)))

pub returns-then-byte-eq10-clause-err : goal.returns-then-byte-eq10-clause-err
returns-then-byte-eq10-clause-err c s =
    let e = c.raw_end-end.ensures in
    c.loop-bytes.invariant.read s ∙
    unclosed c.args.text.now c.loop-bytes.bytes.items s c.loop-bytes.from c.raw_end-end.result e.low e.high e.within
    (λ h. c.if-byte-eq10.true)

pub returns-then-byte-eq34-clause-read : goal.returns-then-byte-eq34-clause-read
returns-then-byte-eq34-clause-read c s =
    let e = c.raw_end-end.ensures in
    let x : c.extend_from_slice.new.self.items ≡ c.loop-bytes.bytes.items ++
    slice_range c.args.text.now c.loop-bytes.from c.raw_end-end.result = c.in_ok-extend_from_slice.ensures.items in
    c.loop-bytes.invariant.read s ∙
    quote_read c.args.text.now c.loop-bytes.bytes.items s c.loop-bytes.from c.raw_end-end.result e.low
    (omega (arith, e.high, c.if-end-text.false)) e.within c.if-byte-eq34.true
    ∙ ap (λ b. outcome_from c.args.text.now (Named (Quoted b) s) (c.raw_end-end.result + 1)) (sym x)

pub returns-in_err-byte-clause-err : goal.returns-in_err-byte-clause-err
returns-in_err-byte-clause-err c s =
    let e = c.raw_end-end.ensures in
    let p = err_from_is_err_and c.from_residual-in_err-byte.result c.from_residual-in_err-byte.ensures.1 in
    let within : c.raw_end-end.result < length c.args.text.now = omega (arith, e.high, c.if-end-text.false) in
    let is : slice_index c.args.text.now c.raw_end-end.result ≡ 92 =
    backslash_is _ (e.stop within) (λ q. omega (arith, q, c.if-byte-eq34.false))
    (λ q. omega (arith, q, c.if-byte-eq10.false)) in
    rw (
      p.1,
      p.2,
      c.loop-bytes.invariant.read s ∙
          backslash_read c.args.text.now c.loop-bytes.bytes.items s c.loop-bytes.from c.raw_end-end.result e.low within
          e.within is,
    ) (c.in_err-byte.ensures.err _ s)

pub loop-bytes-preserved : goal.loop-bytes-preserved
loop-bytes-preserved c =
    let e = c.raw_end-end.ensures in
    let within : c.raw_end-end.result < length c.args.text.now = omega (arith, e.high, c.if-end-text.false) in
    let is : slice_index c.args.text.now c.raw_end-end.result ≡ 92 =
    backslash_is _ (e.stop within) (λ q. omega (arith, q, c.if-byte-eq34.false))
    (λ q. omega (arith, q, c.if-byte-eq10.false)) in
    let x : c.extend_from_slice.new.self.items ≡ c.loop-bytes.bytes.items ++
    slice_range c.args.text.now c.loop-bytes.from c.raw_end-end.result = c.in_ok-extend_from_slice.ensures.items in
    let y : c.push.new.self.items ≡
    (c.loop-bytes.bytes.items ++ slice_range c.args.text.now c.loop-bytes.from c.raw_end-end.result) ++
    c.in_ok-byte.byte ∷ [] = c.in_ok-push.ensures.items ∙ ap (λ b. b ++ c.in_ok-byte.byte ∷ []) x in
    record {
      low = omega (arith, c.loop-bytes.invariant.low, e.low, c.in_ok-byte.ensures.low);
      within = c.in_ok-byte.ensures.within;
      read = λ s. c.loop-bytes.invariant.read s ∙
          backslash_read c.args.text.now c.loop-bytes.bytes.items s c.loop-bytes.from c.raw_end-end.result e.low within
          e.within is
          ∙ c.in_ok-byte.ensures.read _ s ∙
          ap (λ b. outcome_from c.args.text.now (InText b s) c.in_ok-byte.after) (sym y);
    }
