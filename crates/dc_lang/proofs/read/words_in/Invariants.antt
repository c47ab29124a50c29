use Rattle.std.proofs.Common.{◌≡◌, ◌++◌, option_map, map, drop}
use Rattle.dc_lang.specs.Reading.{words_in}
use Rattle.dc_lang.proofs.read.words_in.Given as goal

-- the words so far, before those of the texts that are left, are those of all texts
abbrev pub invariant-loop-text : goal.invariant-loop-text
invariant-loop-text l =
    option_map (λ more. map (λ word. word.items) l.words.items ++ more) (words_in (map (λ text. text.now) (drop l.text-index l.texts)))
    ≡ words_in (map (λ text. text.now) l.texts)
