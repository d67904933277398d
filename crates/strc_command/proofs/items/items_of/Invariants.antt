use Rattle.std.proofs.Common.{◌≡◌, drop, map, option_map, string_bytes}
use Rattle.strc_command.specs.Elements.{elements_from, elements_in, elements_of, followed_by, position_of}
use Rattle.strc_command.proofs.items.items_of.Given as goal

-- what the words in front of the place say is found, and the next one stands there
abbrev pub invariant-loop-word : goal.invariant-loop-word
invariant-loop-word l = elements_of (map string_bytes l.words)
    ≡ option_map (followed_by (elements_in l.items))
    (elements_from (map string_bytes (drop l.word-index l.words)) (position_of l.place))
