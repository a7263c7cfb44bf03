use borrow.Author.Rules.{rules}
use native.Mathlib.Omega.{arith}
use mathlib.Core.Path.{◌≡◌}
use lib.ListN.{take, length-take}
use Rattle.report.specs.Pieces.{label_text}
use Rattle.report.proofs.pieces.put_key.Statement.{statement}
use Rattle.report.proofs.pieces.put_key.Tie as tie

-- the bytes that are lent are the key
key_is : (c : tie.After-label_len-len) → take c.label_len-len.result c.letters-text.result ≡ label_text c.args.key
key_is c = rw (← c.label_len-len.ensures.0) at c.letters-text.ensures

put-entry-requires : tie.Need-put_entry-requires
put-entry-requires c κs = rw (key_is c.before.before) c.requires

returns : tie.Need-returns
returns c = rw (key_is c.before.before.before.before.before) at c.put_entry.ensures

pub put_key_spec : {M : Type 1} → statement M
put_key_spec = tie.close (tie.spec
    (λ c κs. search rules) (λ c κs. search rules) (λ c. search rules)
    (λ c. rw length-take (omega arith))
    put-entry-requires
    (λ c. search rules)
    returns)
