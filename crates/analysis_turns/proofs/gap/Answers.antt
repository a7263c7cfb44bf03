-- The differences of numbers of 32 bits fit 64 bits.
use borrow.Author.Rules.{rules}
use mathlib.Core.Path.{refl}
use mir.Syntax.{w32}
use mir.Val.{SFits}
use mir.Facts.{to_z-of_z}
use Rattle.analysis_intervals.proofs.Small.{word, words}
use Rattle.analysis_turns.proofs.gap.Goals as goal

pub returns : goal.returns
returns c =
    let a : SFits w32 c.args.s.lo = search rules in
    let b : SFits w32 c.args.n.hi = search rules in
    let d : SFits w32 c.args.s.hi = search rules in
    let e : SFits w32 c.args.n.lo = search rules in
    let lo = words _ _ a b in
    let hi = words _ _ d e in
    simp (c.from.ensures, c.from-2.ensures, c.from-3.ensures, c.from-4.ensures, to_z-of_z a, to_z-of_z b, to_z-of_z d, to_z-of_z e, to_z-of_z (word _ a).a64, to_z-of_z (word _ b).a64, to_z-of_z (word _ d).a64, to_z-of_z (word _ e).a64, to_z-of_z lo.a64, to_z-of_z hi.a64) (refl, record { low = lo.short; high = hi.short })
