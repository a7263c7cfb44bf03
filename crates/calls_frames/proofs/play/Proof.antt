-- `calls_frames::play` meets its contract. The invariant: the first k scripts have had the frame, the others not. Assumes nothing.
use mathlib.Core.Path.{◌≡◌, refl, sym, ◌∙◌, ap}
use mathlib.Core.List.{List}
use Prim.Native.Nat.{ℕ, ◌+◌, ◌-◌, ◌*◌, ◌<◌}
use native.Mathlib.Omega.{arith}
use borrow.Author.Tests.{not-true, not-false}
use Rattle.rules_frames.specs.Frames
use Rattle.run_actions.specs.declared.Machine.{Machine}
use Rattle.calls.proofs.Tables.{four}
use Rattle.calls_lists.specs.Parts.{lent_of}
use Rattle.calls_turns.specs.declared.AfterTurn.{AfterTurn}
use Rattle.calls_frames.specs.Playing.{FramesReady, MayPlay}
use Rattle.calls_frames.proofs.Playing.{Playing, playing_late, countable, playing_start, playing_still, playing_on, playing_frame, playing_out, few_left, ready_to_turn}
use borrow.Author.Rules.{rules}
use Rattle.calls_frames.proofs.play.Statement.{statement}
use Rattle.calls_frames.proofs.play.Tie as tie
use Rattle.calls_frames.proofs.play.Lts.{then-waiting, else-waiting}

abbrev invariant-loop-k : tie.invariant-loop-k
invariant-loop-k files tables stores₀ picks all prices q counts₀ by_kind each progress₀ most₀ frame₀ k₀ stores counts progress most frame k =
    MayPlay prices files tables stores₀ picks q all
    × ((fs ss ps : List ℕ) (roles : List Frames.Progress) (on : FramesReady prices (lent_of files fs stores₀ ss picks ps) q roles tables all)
    → Playing prices (lent_of files fs stores₀ ss picks ps) q roles tables all on stores counts progress most frame k)

abbrev decreases-loop-k : tie.decreases-loop-k
decreases-loop-k files tables stores₀ picks all prices q counts₀ by_kind each progress₀ most₀ frame₀ k₀ stores counts progress most frame k =
    (1_000_000_000_001 - frame.earlier) * 16 + (8 - k)

prices-of-requires : tie.Need-prices_of-by_kind-requires invariant-loop-k decreases-loop-k
prices-of-requires c κs = four _ c.requires.0.4.priced

loop_holds : tie.Need-loop-k-init invariant-loop-k decreases-loop-k
loop_holds c = let s = c in (s.requires.0, λ fs ss ps roles on. rw c.new_frame-frame.ensures (playing_start _ _ _ _ _ _ on _ s.requires.1))

-- script k is one of 8
one_of_8 : (c : tie.Then-k-all invariant-loop-k decreases-loop-k) → c.loop-k.k < 8
one_of_8 c = let on = c.loop-k.invariant.0.4 in omega (arith, c.if-k-all.true, on.number, on.fits.few)

with-ticks-requires : tie.Need-with_ticks-requires invariant-loop-k decreases-loop-k
with-ticks-requires c κs =
    let l = c.loop-k in
    let on = l.invariant.0.4 in
    omega (arith, few_left _ _ _ _ _ _ on _ _ _ _ _ _ (l.invariant.1 _ _ _ _ on) (omega (arith, c.if-k-all.true, on.number)), on.fits.small)

turn-requires : tie.Need-turn-to-requires invariant-loop-k decreases-loop-k
turn-requires c κs =
    let l = c.loop-k in
    let on = l.invariant.0.4 in
    rw (c.prices_of-by_kind.ensures, c.with_ticks.ensures)
    (ready_to_turn _ _ _ _ _ _ on _ _ _ _ _ _ (l.invariant.1 _ _ _ _ on) (omega (arith, c.if-k-all.true, on.number)) (sym c.waiting.ensures ∙ c.if-waiting.true))

turn-to-requires : tie.Need-turn_to-t-requires invariant-loop-k decreases-loop-k
turn-to-requires c κs =
    let l = c.loop-k in
    let on = l.invariant.0.4 in
    let h = l.invariant.1 _ _ _ _ on in
    let e = ap (λ (z : Machine). z.left) c.with_ticks.ensures in
    (countable _ _ _ _ _ _ on _ _ _ _ _ _ h, omega (arith, few_left _ _ _ _ _ _ on _ _ _ _ _ _ h (omega (arith, c.if-k-all.true, on.number)), on.fits.small), omega (arith, c.turn-to.ensures.went.left, e))

-- script k has had the frame
abbrev Went : tie.Joined-waiting invariant-loop-k decreases-loop-k → Type 0
Went c =
    let l = c.loop-k in
    let a = c.args in
    (c.if-waiting.frame.earlier ≡ l.frame.earlier)
    × ((fs ss ps : List ℕ) (roles : List Frames.Progress) (on : FramesReady a.prices.now (lent_of a.files.now fs a.stores.now ss a.picks.now ps) a.q roles a.tables.now a.all)
    → Playing a.prices.now (lent_of a.files.now fs a.stores.now ss a.picks.now ps) a.q roles a.tables.now a.all on c.if-waiting.stores c.if-waiting.counts c.if-waiting.progress l.most c.if-waiting.frame (l.k + 1))

went : (c : tie.Joined-waiting invariant-loop-k decreases-loop-k) → Went c
went c =
    let l = c.loop-k in
    let i = c.if-k-all.true in
    let e = c.waiting.ensures in
    elim c.if-waiting.branch [
      | then-waiting w ↦
          rw (w.frame-is, w.stores-is, w.counts-is, w.progress-is) (
            ap (λ (z : AfterTurn). z.frame.earlier) w.turn_to-t.ensures,
            λ fs ss ps roles on.
                playing_on _ _ _ _ _ _ on _ _ _ _ _ _ (l.invariant.1 _ _ _ _ on) (omega (arith, i, on.number)) (sym e ∙ w.if-waiting.true) w.turn-to.result _ _ (rw (c.prices_of-by_kind.ensures, w.with_ticks.ensures) at w.turn-to.ensures) w.turn_to-t.result w.turn_to-t.ensures,
          )
      | else-waiting w ↦ rw (w.frame-is, w.stores-is, w.counts-is, w.progress-is) (refl, λ fs ss ps roles on. playing_still _ _ _ _ _ _ on _ _ _ _ _ _ (l.invariant.1 _ _ _ _ on) (omega (arith, i, on.number)) (sym e ∙ w.if-waiting.false))
    ]

returns : tie.Need-returns-then-not-frame invariant-loop-k decreases-loop-k
returns c fs ss ps roles on =
    let l = c.loop-k in
    playing_out _ _ _ _ _ _ on _ _ _ _ _ _ (l.invariant.1 _ _ _ _ on) (omega (arith, c.if-k-all.false, on.number)) (not-true _ c.if-not-frame.true) _ c.max-most.ensures

add-new-frame : tie.Need-overflow_add-frame invariant-loop-k decreases-loop-k
add-new-frame c = let l = c.loop-k in let on = l.invariant.0.4 in let h = playing_late _ _ _ _ _ _ on (l.invariant.1 _ _ _ _ on) in search rules

loop_less_2 : tie.Need-loop-k-smaller invariant-loop-k decreases-loop-k
loop_less_2 c =
    let l = c.loop-k in
    let on = l.invariant.0.4 in
    let p = l.invariant.1 _ _ _ _ on in
    let h = playing_late _ _ _ _ _ _ on p in
    rw c.new_frame-frame-else-k-all.ensures (omega (arith, p.upto, on.fits.few))

loop_again_2 : tie.Need-loop-k-preserved invariant-loop-k decreases-loop-k
loop_again_2 c =
    let l = c.loop-k in (
      l.invariant.0,
      λ fs ss ps roles on.
          rw c.new_frame-frame-else-k-all.ensures (playing_frame _ _ _ _ _ _ on _ _ _ _ _ _ (l.invariant.1 _ _ _ _ on) (omega (arith, c.if-k-all.false, on.number)) (not-false _ c.if-not-frame.false) _ c.max-most.ensures),
    )

pub play_spec : {M : Type 1} → statement M
play_spec =
    tie.close
    (tie.spec
    invariant-loop-k
    decreases-loop-k
    prices-of-requires
    (λ c κs. search rules)
    loop_holds
    (λ c. let h = one_of_8 c in search rules)
    one_of_8
    (λ c κs. search rules)
    (λ c. let h = one_of_8 c.before.before.before.before.before in search rules)
    (λ c. one_of_8 c.before.before.before.before.before)
    with-ticks-requires
    (λ c. let h = one_of_8 c.before.before.before.before.before.before.before in search rules)
    (λ c. one_of_8 c.before.before.before.before.before.before.before)
    turn-requires
    turn-to-requires
    (λ c. let h = one_of_8 c.before.before.before.before.before.before.before.before.before.before.before.before in search rules)
    (λ c. one_of_8 c.before.before.before.before.before.before.before.before.before.before.before.before)
    (λ c. let h = one_of_8 c.before.before.before in search rules)
    (λ c. let h = one_of_8 c.before.before.before in omega (arith, (went c).0))
    (λ c. (c.loop-k.invariant.0, (went c).1))
    (λ c κs. search rules)
    (λ c. let l = c.loop-k in let on = l.invariant.0.4 in (l.invariant.1 _ _ _ _ on).sizes.2)
    returns
    add-new-frame
    (λ c κs. search rules)
    loop_less_2
    loop_again_2)
