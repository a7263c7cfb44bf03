-- `season_sheet::cues::put_cues` meets its contract.
use mathlib.Core.Path.{◌≡◌, refl}
use mathlib.Core.List.{List}
use Prim.Native.Nat.{ℕ}
use native.Mathlib.Omega.{arith}
use lib.ListN.{length}
use lib.Seq.{take_all}
use borrow.Author.Rules.{rules}
use Rattle.rules_season.specs.Season.{cues_of}
use Rattle.rules.proofs.Laws.{kinds_first, kind_of_lem}
use Rattle.table.specs.Code.{rows_of}
use Rattle.table.specs.Paired.{script_rows}
use Rattle.table.proofs.Laws.{rows_length}
use Rattle.report.proofs.PiecesLaws.{wrote_nothing}
use Rattle.season_sheet.proofs.CuesLaws.{cues_next}
use Rattle.season_sheet.proofs.cues.put_cues.Goals as goal

pub loop-j-init : goal.loop-j-init
unfolding cues_of
loop-j-init c = (omega arith, refl, λ text. wrote_nothing _)

pub kind_at-requires : goal.kind_at-requires
kind_at-requires c = omega (arith, c.requires.0, c.requires.2, c.loop-j-test.true)

pub put_cue-at-requires : goal.put_cue-at-requires
put_cue-at-requires c = omega (arith, c.loop-j.invariant.0, c.loop-j.invariant.1, c.loop-j-test.true, c.requires.1)

pub loop-j-preserved : goal.loop-j-preserved
loop-j-preserved c =
    let t = c.args.rows.now in
    let l = c.loop-j in
    let i = c.loop-j-test.true in
    let p = c.put_cue-at in
    let size : (text : List ℕ) → length (script_rows text (rows_of t) c.args.count) ≡ c.args.count = λ text. kinds_first text c.args.count (rows_of t) (omega (arith, c.requires.0, c.requires.2, rows_length t)) in (
      omega (arith, p.ensures.1, l.invariant.0),
      search rules,
      λ text. rw (cues_next (script_rows text (rows_of t) c.args.count) l.j (omega (arith, size text)), kind_of_lem text c.args.count (rows_of t) l.j i, ← c.kind_at.ensures)
          (p.ensures.0 text _ _ (l.invariant.2 text) (omega (arith, (l.invariant.2 text).count, l.invariant.0, c.requires.1))),
    )

pub returns : goal.returns
returns c =
    let t = c.args.rows.now in
    let l = c.loop-j in
    let size : (text : List ℕ) → length (script_rows text (rows_of t) c.args.count) ≡ c.args.count = λ text. kinds_first text c.args.count (rows_of t) (omega (arith, c.requires.0, c.requires.2, rows_length t)) in
    (λ text. rw (take_all l.j (script_rows text (rows_of t) c.args.count) (omega (arith, size text, c.loop-j-test.false))) at (l.invariant.2 text), omega (arith, l.invariant.0))
