use native.Mathlib.Omega.{arith}
use borrow.Author.Rules.{rules}
use lib.ListN.{length-take}
use Rattle.report.proofs.PiecesLaws.{wrote_copy}
use Rattle.report.proofs.pieces.put_label.Statement.{statement}
use Rattle.report.proofs.pieces.put_label.Tie as tie

slice-aggregate-copy : tie.Need-slice_bounds-copy-end
slice-aggregate-copy c = rw length-take (omega arith)

copy-requires : tie.Need-copy-requires
copy-requires c κs = rw length-take (omega arith)

returns : tie.Need-returns
returns c =
    let call = c.before.before in
    let len = call.before.before.before in
    wrote_copy _ _ _ _ _ (rw (← len.label_len-len.ensures.0) at len.letters-text.ensures) call.copy.ensures.0 call.copy.ensures.1

pub put_label_spec : {M : Type 1} → statement M
put_label_spec = tie.close (tie.spec
    (λ c κs. search rules) (λ c κs. search rules) (λ c. search rules)
    slice-aggregate-copy
    copy-requires
    (λ c. search rules)
    returns)
