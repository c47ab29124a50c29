use Rattle.std.proofs.Common.{refl, arith, rules}
use Rattle.dc_names.specs.Words.{bytes_in}
use Rattle.dc_row.proofs.Roomed.{ends_all, never_past, one_more_end, word_ends}
use Rattle.dc_row.proofs.entry.ends_at.Goals as goal

pub returns-then-not-has_bytes : goal.returns-then-not-has_bytes
unfolding bytes_in
returns-then-not-has_bytes c = let bytes = c.to_le_bytes-bytes in (
  λ no. absurd (cc),
  λ ends.
      let has = word_ends c.args.words.now bytes.result c.args.len c.text.i c.min.result bytes.ensures (omega arith) (omega arith) (λ k low. (λ lt. omega arith, λ lt. omega arith)) ends in
      let yes = c.has_bytes.ensures.1 has in absurd (cc),
)

pub returns-then-len-words : goal.returns-then-len-words
returns-then-len-words c = (λ no. absurd (cc), λ ends. absurd (never_past c.args.words.now c.requires.size.0 c.requires.fits (omega arith) ends))

pub returns : goal.returns
returns c = (λ yes. let done = c.text-test.false in ends_all c.args.words.now c.requires.size.0 (omega arith) (omega arith) c.text.invariant, λ ends. refl)

pub text-preserved : goal.text-preserved
unfolding bytes_in
text-preserved c = let yes = c.has_bytes.ensures.0 (search rules) in let bytes = c.to_le_bytes-bytes in
    one_more_end c.args.words.now bytes.result c.args.len c.text.i c.min.result bytes.ensures (omega arith) (λ k low. (λ lt. omega arith, λ lt. omega arith)) yes c.text.invariant
