use mathlib.Core.Path.{sym, ap, ◌∙◌}
use lib.ListN.{take}
use lib.Seq.{length-take-le}
use Rattle.rules.specs.Text.{plain_word}
use Rattle.reading.specs.Words.{front}
use Rattle.reading.proofs.TextLaws.{stop_within}
use borrow.Author.Rules.{rules}
use native.Mathlib.Omega.{arith}
use Rattle.reading.proofs.text.other_word.Statement.{statement}
use Rattle.reading.proofs.text.other_word.Tie as tie

slice-aggregate-plain-word : tie.Need-slice_bounds-plain_word-end
slice-aggregate-plain-word c = sym (length-take-le _ _ (omega (arith, c.stop-end.ensures, stop_within c.args.s.now)))

returns : tie.Need-returns
unfolding front
returns c = let s = c.args.s.now in
    record {
      word = c.plain_word-tag.ensures ∙ ap (λ n. plain_word (take n s)) c.stop-end.ensures ∙ c.requires;
      end = c.stop-end.ensures;
    }

pub other_word_spec : {M : Type 1} → statement M
other_word_spec =
    tie.close
    (tie.spec (λ c κs. search rules) slice-aggregate-plain-word (λ c κs. search rules) returns)
