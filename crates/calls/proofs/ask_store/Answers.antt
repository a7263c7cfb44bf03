-- `calls::ask_store` meets its contract. Assumes nothing.
use mathlib.Core.Path.{◌≡◌, sym, ◌∙◌}
use mathlib.Core.Bool.{◌&&◌}
use mathlib.Core.List.{[]}
use Prim.Native.Nat.{◌≤◌}
use native.Mathlib.Omega.{arith}
use lib.IntN.{pos}
use lib.ListN.{length, get_or}
use lib.Signed.{le_z}
use mir.Syntax.{w32}
use mir.Val.{SFits}
use mir.Facts.{to_z-of_z}
use borrow.Author.Rules.{rules}
use Rattle.rules.specs.Scripts.{pair_range}
use Rattle.calls.proofs.Stores.{from_start, from_next, from_wrong, from_missing, from_extra, from_end}
use Rattle.calls.proofs.ask_store.Goals as goal
use Rattle.calls.proofs.ask_store.Goals.{Start, After-between}

enough : (s : Start) → s.args.vars ≤ length s.args.ranges.now
enough s = omega (arith, s.requires.0, s.requires.1)

pub loop-i-init : goal.loop-i-init
loop-i-init c = from_start _ _ _

pub returns-then-i-store : goal.returns-then-i-store
returns-then-i-store c = c.wrong_at.ensures ∙ sym (c.loop-i.invariant ∙ from_missing _ _ _ (enough (goal.at.returns-then-i-store c).Start) _ (search rules) (search rules))

-- what the test of index i says
said : (b : After-between) →
    b.between.result ≡ (le_z (pair_range (get_or b.args.ranges.now b.loop-i.i [])).lo (get_or b.args.store.now b.loop-i.i (pos 0))
    && le_z (get_or b.args.store.now b.loop-i.i (pos 0)) (pair_range (get_or b.args.ranges.now b.loop-i.i [])).hi)
said b =
    let a = b.args in
    let i = b.loop-i.i in
    let f : SFits w32 (get_or (get_or a.ranges.now i []) 0 (pos 0)) = search rules in
    let g : SFits w32 (get_or a.store.now i (pos 0)) = search rules in
    let h : SFits w32 (get_or (get_or a.ranges.now i []) 1 (pos 0)) = search rules in
    simp (to_z-of_z f, to_z-of_z g, to_z-of_z h) at b.between.ensures

pub returns-then-not-between : goal.returns-then-not-between
returns-then-not-between c =
    let p = goal.at.returns-then-not-between c in
    let l = c.loop-i in
    let a = c.args in
    c.wrong_at-then-not-between.ensures ∙ sym (l.invariant ∙ from_wrong a.ranges.now a.vars a.store.now (enough p.Start) l.i (search rules) (search rules) c.between.result (said p.After-between) c.if-not-between.true-raw)

pub loop-i-preserved : goal.loop-i-preserved
loop-i-preserved c =
    let p = goal.at.loop-i-preserved c in
    let l = c.loop-i in
    let a = c.args in
    l.invariant ∙ from_next a.ranges.now a.vars a.store.now (enough p.Start) l.i (search rules) (search rules) c.between.result (said p.After-between) c.if-not-between.false-raw

pub returns-then-vars-store : goal.returns-then-vars-store
returns-then-vars-store c =
    let a = c.args in
    let l = c.loop-i in
    let e : l.i ≡ a.vars = omega (arith, l.auto.i-end, c.loop-i-test.false) in
    c.wrong_at-then-vars-store.ensures ∙ sym (l.invariant ∙ rw e (from_extra a.ranges.now a.vars a.store.now (enough (goal.at.returns-then-vars-store c).Start) a.vars (omega arith) (search rules)))

pub returns : goal.returns
returns c = sym (c.loop-i.invariant ∙ from_end _ _ _ (enough (goal.at.returns c).Start) _ (search rules) (search rules))
