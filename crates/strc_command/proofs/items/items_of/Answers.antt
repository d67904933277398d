use Rattle.std.proofs.Common.{◌∙◌, ap, drop, map, option_map, string_bytes, Global, slice_index_or, ◌+◌}
use Rattle.strc_command.specs.Elements.{element_of, elements_in, elements_of, position_of, reading_at}
use Rattle.strc_command.proofs.WordLaws.{next_word, one_more_word}
use Rattle.strc_command.proofs.items.items_of.Goals as goal

pub loop-word-preserved : goal.loop-word-preserved
loop-word-preserved c =
    one_more_word (elements_of (map (string_bytes {Z = Global}) c.args.words.now))
    (map (string_bytes {Z = Global}) (drop (c.loop-word.word-index + 1) c.args.words.now))
    (string_bytes {Z = Global} (slice_index_or c.args.words.now c.loop-word.word-index c.word-item.result))
    (position_of c.loop-word.place) (position_of c.in-Some.field-0.next) (option_map element_of c.in-Some.field-0.item)
    (elements_in c.loop-word.items) (elements_in c.add.new.self)
    (rw (next_word (string_bytes {Z = Global}) c.args.words.now c.loop-word.word-index c.word-item.result
    c.loop-word-test.true) at c.loop-word.invariant)
    (c.in-Some.ensures ∙ ap (reading_at (position_of c.loop-word.place))
    (c.as_str.ensures.value ∙ ap (string_bytes {Z = Global}) c.word-item.is))
    c.in_ok-add.ensures
