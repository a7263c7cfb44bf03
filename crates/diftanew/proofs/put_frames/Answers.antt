-- `diftanew::put_frames` meets its contract. Assumes nothing.
use mathlib.Core.Path.{◌≡◌, sym, ◌∙◌}
use mathlib.Core.List.{List, map}
use Prim.Native.Nat.{ℕ}
use native.Mathlib.Omega.{arith}
use lib.ListN.{length, length-map}
use borrow.Author.Rules.{rules}
use Rattle.diftanew.specs.Numbers.{all_numbers, frames_numbers}
use Rattle.diftanew.proofs.Laid.{laid_none, laid_length, laid_more, laid_all, kept_second}
use Rattle.diftanew.proofs.put_frames.Goals as goal
use Rattle.diftanew.proofs.put_frames.Goals.{Start}

-- the scripts are a whole array
unmapped : {X Y : Type 0} (f : X → Y) (l : List X) (n : ℕ) → length (map f l) ≡ n → length l ≡ n
unmapped f l n e = sym (length-map l f) ∙ e

eight : (c : Start) → length c.args.scripts.now ≡ 8
eight c = search (unmapped, rules)

pub loop-k-init : goal.loop-k-init
loop-k-init c = laid_none c.args.most c.args.scripts.now (eight (goal.at.loop-k-init c).Start)

pub put_script-requires : goal.put_script-requires
put_script-requires c =
    let l = c.loop-k in
    let i = c.loop-k-test.true in
    (omega (arith, i), laid_length c.args.most c.args.scripts.now (eight (goal.at.put_script-requires c).Start) l.k l.answer (omega (arith, i)) l.invariant)

pub loop-k-preserved : goal.loop-k-preserved
loop-k-preserved c =
    let l = c.loop-k in
    c.put_script.ensures ∙ laid_more c.args.most c.args.scripts.now (eight (goal.at.loop-k-preserved c).Start) l.k l.answer _ c.loop-k-test.true l.invariant

pub returns : goal.returns
unfolding frames_numbers
returns c =
    let l = c.loop-k in
    let e = eight (goal.at.returns c).Start in
    laid_all c.args.most c.args.scripts.now e l.k l.answer (omega (arith, c.loop-k-test.false, l.auto.k-end)) l.invariant ∙ sym (kept_second c.args.most (all_numbers c.args.scripts.now))
